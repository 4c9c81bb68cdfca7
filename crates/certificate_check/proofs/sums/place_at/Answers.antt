use Rattle.std.proofs.Common.{rules, ℕ, List, get_or}
use Rattle.std.proofs.lemmas.List.{length-map}
use Rattle.dcop_base.specs.Table.{values_at}
use Rattle.certificate_check.proofs.CellLaws.{sizes_at, scope_within}
use Rattle.certificate_check.proofs.sums.place_at.Goals as goal

pub place_of-requires-clause-few : goal.place_of-requires-clause-few
place_of-requires-clause-few c =
    let sizes : List ℕ = c.args.sizes.now in
    let scope : List ℕ = c.args.scope.now in
    let values : List ℕ = c.args.values.now in (
      sizes_at sizes scope,
      values_at scope values,
      record {
        counted = length-map scope (λ v. get_or sizes v 0);
        within = scope_within sizes values scope c.requires.within c.requires.named;
        each = λ k digit lt told. search rules;
      },
      c.requires.few,
    )

pub returns : goal.returns
returns c =
    let sizes : List ℕ = c.args.sizes.now in
    let scope : List ℕ = c.args.scope.now in
    let values : List ℕ = c.args.values.now in
    c.place_of.ensures (sizes_at sizes scope) (values_at scope values) (record {
      counted = length-map scope (λ v. get_or sizes v 0);
      within = scope_within sizes values scope c.requires.within c.requires.named;
      each = λ k digit lt told. search rules;
    })
