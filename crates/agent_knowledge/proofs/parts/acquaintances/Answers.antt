use Rattle.std.proofs.Common.{◌≡◌, ℕ, [], ◌∷◌, ◌++◌, List, length, map, sym, ap, ◌∙◌, arith}
use Rattle.std.specs.List.{range_with_len}
use Rattle.std.proofs.lemmas.List.FromFn.{map-range_with_len_more}
use Rattle.dcop_base.specs.Problem.{Dcop}
use Rattle.dcop_base.specs.Knowledge.{acquaintance_of}
use Rattle.dcop_base.specs.declared.knowledge.Private.{Private}
use Rattle.agent_knowledge.proofs.PartLaws.{neighbours_row, rows_size}
use Rattle.agent_knowledge.proofs.parts.acquaintances.Goals as goal

pub take_row-neighbours-requires : goal.take_row-neighbours-requires
take_row-neighbours-requires c =
    let p = c.args.problem.now in
    let all : length c.as_slice-me-end.result.now ≡ length p.sizes = ap (λ (xs : List ℕ). length xs) (c.as_slice-me-end.ensures ∙ ap (λ (q : Dcop). q.sizes) c.problem.view_is) in
    let many = rows_size p c.in_ok-rows.rows.items c.in_ok-rows.ensures in
    let still = c.loop-me.invariant.size in
    omega (arith, all, many, still, c.loop-me-test.true, c.loop-me.auto.me-end)

pub acquaintance_with-requires-clause-neighbours : goal.acquaintance_with-requires-clause-neighbours
acquaintance_with-requires-clause-neighbours c =
    let p = c.args.problem.now in
    let all : length c.as_slice-me-end.result.now ≡ length p.sizes = ap (λ (xs : List ℕ). length xs) (c.as_slice-me-end.ensures ∙ ap (λ (q : Dcop). q.sizes) c.problem.view_is) in
    neighbours_row p c.in_ok-rows.rows.items c.loop-me.rows.items c.loop-me.me c.take_row-neighbours.result c.in_ok-rows.ensures (omega (arith, all, c.loop-me-test.true, c.loop-me.auto.me-end))
    c.take_row-neighbours.ensures.row (λ d. c.loop-me.invariant.rest c.loop-me.me d (omega arith))

pub loop-me-preserved : goal.loop-me-preserved
loop-me-preserved c =
    let f = acquaintance_of c.args.problem.now in
    record {
      known =
          c.in_ok-push.ensures.items ∙ ap (λ (xs : List Private). xs ++ c.in_ok-acquaintance_with.field-0 ∷ []) c.loop-me.invariant.known
          ∙ ap (λ (x : Private). map f (range_with_len 0 c.loop-me.me) ++ x ∷ []) c.in_ok-acquaintance_with.ensures
          ∙ sym (map-range_with_len_more f 0 c.loop-me.me c.loop-me.me (omega arith));
      size = c.take_row-neighbours.ensures.size ∙ c.loop-me.invariant.size;
      rest = λ k d le. c.take_row-neighbours.ensures.rest k d (omega (arith, le)) ∙ c.loop-me.invariant.rest k d (omega (arith, le));
    }
