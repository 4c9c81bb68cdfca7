use Rattle.std.proofs.Common.{ℕ, ◌==◌, nat_lt, List, get_or, is_some, sym, ap, ◌∙◌}
use Rattle.std.specs.List.{position, zip}
use Rattle.dcop_base.specs.Table.{has}
use Rattle.adopt_context.specs.Context.{value_in}
use Rattle.protocol_steps.specs.AdoptRange.{is_within}
use Rattle.adopt_agent.proofs.NearLaws.{not_near, near_below, near_above}
use Rattle.adopt_agent.proofs.range.is_near_above.Goals as goal

pub returns-in_default : goal.returns-in_default
returns-in_default c =
    let own = c.args.own.now in
    let place = c.args.place.now in
    let var = c.args.var in
    not_near own.neighbours var (is_within (value_in (zip place.path place.path_sizes) var) c.args.value) (sym (ap is_some c.in_default.is) ∙ c.place_in.ensures.found ∙ ap (λ (vs : List ℕ). has vs var) c.as_slice.ensures)

pub returns-then-is_among : goal.returns-then-is_among
returns-then-is_among c =
    let at = sym c.in-Some.is ∙ c.place_in.ensures.place ∙ ap (λ (vs : List ℕ). position (λ v. v == c.args.var) vs) c.as_slice.ensures in
    near_below c.args.own.now c.args.place.now c.requires.placed c.args.var c.args.value c.in-Some.near at
    (ap (λ (vs : List ℕ). has vs c.args.var) (sym c.as_slice-2.ensures) ∙ sym c.is_among.ensures ∙ c.if-is_among.true)

pub returns : goal.returns
returns c =
    let at = sym c.in-Some.is ∙ c.place_in.ensures.place ∙ ap (λ (vs : List ℕ). position (λ v. v == c.args.var) vs) c.as_slice.ensures in
    let size : ℕ = get_or c.as_slice-3.result.now c.in-Some.near 0 in
    ap (λ (d : ℕ). nat_lt d size) c.value.view_is
    ∙ near_above c.args.own.now c.args.place.now c.requires.placed c.args.var c.args.value c.in-Some.near at size c.requires.knowledge.sized
    (ap (λ (vs : List ℕ). has vs c.args.var) (sym c.as_slice-2.ensures) ∙ sym c.is_among.ensures ∙ c.if-is_among.false)
    (ap (λ (ss : List ℕ). get_or ss c.in-Some.near 0) c.as_slice-3.ensures)
