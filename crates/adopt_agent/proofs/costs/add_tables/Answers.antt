use Rattle.std.proofs.Common.{◌≡◌, ℕ, ◌<◌, ◌≤◌, Bool, ◌&&◌, ◌||◌, eqb, List, length, get_or, is_some, sym, ap, subst, ◌∙◌, arith}
use Rattle.std.specs.List.{All, list_all}
use Rattle.std.proofs.lemmas.Bool.{and_parts}
use Rattle.dcop_base.specs.Table.{CostTable, has}
use Rattle.dcop_base.specs.Values.{with_own}
use Rattle.dcop_base.specs.Limits.{amount_limit}
use Rattle.adopt_context.specs.Context.{value_in}
use Rattle.protocol_steps.specs.Values.{valued}
use Rattle.protocol_steps.specs.AdoptBounds.{counts}
use Rattle.adopt_agent.specs.Stage.{knowing}
use Rattle.adopt_agent.proofs.CountLaws.{counted_within, counts_known, cost_none, cost_more, cost_same}
use Rattle.adopt_agent.proofs.costs.add_tables.Goals as goal
use Rattle.adopt_agent.proofs.costs.add_tables.Goals.{then-counts_with, else-counts_with}

pub add_table-requires-clause-within : goal.add_table-requires-clause-within
add_table-requires-clause-within c =
    let own = c.args.own.now in
    let place = c.args.place.now in
    let known = c.args.known.now in
    let t : CostTable = c.table-item.result in
    let var = c.args.var in
    let test : c.counts_with.result ≡ (has t.scope var && counts (knowing own place known) t) =
    c.counts_with.ensures ∙ ap (λ (scope : List ℕ). has scope var && list_all (λ u. eqb u own.me || is_some (value_in known u)) scope) (c.as_slice.ensures ∙ ap (λ (u : CostTable). u.scope) c.table.view_is)
    ∙ ap (λ (b : Bool). has t.scope var && b) (counts_known own place known c.requires.ground t.scope) in
    let both = and_parts (has t.scope var) (counts (knowing own place known) t) (sym test ∙ c.if-counts_with.true) in
    let counted = c.loop-table.invariant.counted in
    let tables = ap (λ (ts : List CostTable). get_or ts c.loop-table.table-index t) c.as_slice-table-items.ensures in
    let inside = c.loop-table-test.true in
    let long = ap (λ (ts : List CostTable). length ts) c.as_slice-table-items.ensures in
    λ d lt. counted_within own place known c.requires.ground c.loop-table.table-index t (omega (arith, inside, long)) (c.table-item.is ∙ tables) both.1 d (omega (arith, lt, counted))

pub loop-table-init : goal.loop-table-init
loop-table-init c =
    let own = c.args.own.now in
    let known = c.args.known.now in
    let q : CostTable → Bool = λ u. has u.scope c.args.var && counts (knowing own c.args.place.now known) u in
    let counted = c.requires.counted in
    record {
      within = c.requires.within;
      counted = counted;
      each = λ d below. cost_none (get_or c.args.costs.now d 0) q own.tables (with_own own.me d (valued known)) (c.requires.within d 0 (omega (arith, below, counted)));
    }

pub loop-table-preserved : goal.loop-table-preserved
loop-table-preserved c =
    let own = c.args.own.now in
    let place = c.args.place.now in
    let known = c.args.known.now in
    let t : CostTable = c.table-item.result in
    let var = c.args.var in
    let q : CostTable → Bool = λ u. has u.scope var && counts (knowing own place known) u in
    let test : c.counts_with.result ≡ q t =
    c.counts_with.ensures ∙ ap (λ (scope : List ℕ). has scope var && list_all (λ u. eqb u own.me || is_some (value_in known u)) scope) (c.as_slice.ensures ∙ ap (λ (u : CostTable). u.scope) c.table.view_is)
    ∙ ap (λ (b : Bool). has t.scope var && b) (counts_known own place known c.requires.ground t.scope) in
    let counted = c.loop-table.invariant.counted in
    let k = c.loop-table.table-index in
    let is = c.table-item.is ∙ ap (λ (ts : List CostTable). get_or ts k t) c.as_slice-table-items.ensures in
    let long = ap (λ (ts : List CostTable). length ts) c.as_slice-table-items.ensures in
    let inside = c.loop-table-test.true in
    let lt : k < length own.tables = omega (arith, inside, long) in
    elim c.if-counts_with.branch [
      | then-counts_with w ↦ record {
        within = subst (λ (xs : List ℕ). All (λ x. x ≤ amount_limit) xs) (sym w.costs-is) w.add_table.ensures.costs;
        counted = ap (λ (xs : List ℕ). length xs) w.costs-is ∙ w.add_table.auto.costs ∙ counted;
        each = λ d below.
            ap (λ (xs : List ℕ). get_or xs d 0) w.costs-is
            ∙ cost_more (get_or c.args.costs.now d 0) q own.tables k t (with_own own.me d (valued known)) (get_or c.loop-table.costs d 0) (get_or w.add_table.new.costs d 0) lt is (sym test ∙ w.if-counts_with.true) (c.loop-table.invariant.each d below) (w.add_table.ensures.added d (omega (arith, below, counted)));
      }
      | else-counts_with w ↦ record {
        within = subst (λ (xs : List ℕ). All (λ x. x ≤ amount_limit) xs) (sym w.costs-is) c.loop-table.invariant.within;
        counted = ap (λ (xs : List ℕ). length xs) w.costs-is ∙ counted;
        each = λ d below.
            ap (λ (xs : List ℕ). get_or xs d 0) w.costs-is
            ∙ cost_same (get_or c.args.costs.now d 0) q own.tables k t (with_own own.me d (valued known)) (get_or c.loop-table.costs d 0) lt is (sym test ∙ w.if-counts_with.false) (c.loop-table.invariant.each d below);
      }
    ]
