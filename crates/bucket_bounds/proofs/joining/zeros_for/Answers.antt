use Rattle.std.proofs.Common.{ℕ, ◌<◌, ◌≤◌, List, length, map, slice_index, sym, ap, subst, ◌∙◌}
use Rattle.std.specs.List.{All}
use Rattle.std.proofs.lemmas.List.Elements.{All-map}
use Rattle.bucket_bounds.specs.Union.{IsTurned}
use Rattle.bucket_bounds.proofs.GroupLaws.{scope_within, scope_sizes}
use Rattle.bucket_bounds.proofs.JoinLaws.{turned_all}
use Rattle.bucket_bounds.proofs.joining.zeros_for.Goals as goal

pub sizes_of-requires : goal.sizes_of-requires
sizes_of-requires c =
    let sizes = c.args.sizes.now in
    let vars = c.args.group.now.vars in
    let over = c.in_ok-over.over in
    let turned = subst (λ (vs : List ℕ). IsTurned vs over) c.as_slice.ensures c.in_ok-over.ensures in
    subst (λ (vs : List ℕ). All (λ v. v < length sizes) vs) (sym c.as_slice-2.ensures) (turned_all (λ v. v < length sizes) vars over turned (scope_within sizes c.args.group.now.tables.items vars c.requires.group.tables c.requires.group.vars))

pub new-requires-clause-positive : goal.new-requires-clause-positive
new-requires-clause-positive c =
    let sizes = c.args.sizes.now in
    let vars = c.args.group.now.vars in
    let over = c.in_ok-over.over in
    let turned = subst (λ (vs : List ℕ). IsTurned vs over) c.as_slice.ensures c.in_ok-over.ensures in
    let own = c.in_ok-own.ensures ∙ ap (λ (vs : List ℕ). map (λ v. slice_index sizes v) vs) c.as_slice-2.ensures in
    subst (λ (ss : List ℕ). All (λ s. 1 ≤ s) ss) (sym own)
    (All-map (λ s. 1 ≤ s) (λ v. slice_index sizes v) over (turned_all (λ v. 1 ≤ slice_index sizes v) vars over turned (scope_sizes c.args.sizes.now c.args.group.now.tables.items vars c.requires.group.tables c.requires.group.vars)))
