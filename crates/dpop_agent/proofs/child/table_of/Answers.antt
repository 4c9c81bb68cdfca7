use Rattle.std.proofs.Common.{◌≡◌, ℕ, List, None, sym, ap, ◌∙◌}
use Rattle.dcop_base.specs.Table.{table_fault}
use Rattle.dpop_agent.proofs.TakeLaws.{taken_faultless}
use Rattle.dpop_agent.proofs.child.table_of.Goals as goal

faultless_by : (vs vs_now ss ss_now cs cs_now : List ℕ) → vs ≡ vs_now → ss ≡ ss_now → cs ≡ cs_now → table_fault vs_now ss_now cs_now ≡ None → table_fault vs ss cs ≡ None
faultless_by vs vs_now ss ss_now cs cs_now scope sizes cells faultless =
    ap (λ (xs : List ℕ). table_fault xs ss cs) scope ∙ ap (λ (xs : List ℕ). table_fault vs_now xs cs) sizes ∙ ap (λ (xs : List ℕ). table_fault vs_now ss_now xs) cells ∙ faultless

pub invariant_of-result : goal.invariant_of-result
invariant_of-result c =
    let found = sym c.takes.ensures ∙ c.if-not-takes.false in
    let taken = rw c.as_slice-2.ensures at found in
    faultless_by
    _
    _
    _
    _
    _
    _
    c.in_ok-from_slice.ensures
    (c.sizes.view_is ∙ c.in_ok-sizes.ensures)
    c.in_ok-clone.ensures.cases
    (taken_faultless c.args.own.now c.args.place.now c.args.kept.now c.requires.keeper c.args.child c.args.scope.now c.args.cells.now taken c.requires.range)
