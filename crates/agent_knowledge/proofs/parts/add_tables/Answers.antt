use Rattle.std.proofs.Common.{◌<◌, length, refl, ◌∙◌, arith}
use Rattle.agent_knowledge.proofs.PartLaws.{row_is, tables_start, tables_more, tables_end}
use Rattle.agent_knowledge.proofs.parts.add_tables.Goals as goal

pub loop-me-init : goal.loop-me-init
loop-me-init c = record {
  have = tables_start c.args.problem.now c.args.known.now c.requires;
  size = refl;
  rest = λ k d le. refl;
}

pub loop-me-preserved : goal.loop-me-preserved
loop-me-preserved c =
    let p = c.args.problem.now in
    let size = (tables_start p c.args.known.now c.requires).size in
    let many = c.in_ok-rows.ensures.size in
    let lt : c.loop-me.me < length p.sizes = omega (arith, size, c.loop-me-test.true, c.loop-me.auto.me-end) in
    record {
      have = tables_more p c.loop-me.me c.loop-me.known c.index-known-me.result c.from_vec.result lt c.loop-me.invariant.have
          (c.from_vec.ensures
          ∙ row_is c.in_ok-rows.rows.items c.loop-me.rows.items c.loop-me.me c.take_row.result (omega (arith, lt, many)) c.take_row.ensures.row (λ d. c.loop-me.invariant.rest c.loop-me.me d (omega arith))
          ∙ c.in_ok-rows.ensures.rows c.loop-me.me lt);
      size = c.take_row.ensures.size ∙ c.loop-me.invariant.size;
      rest = λ k d le. c.take_row.ensures.rest k d (omega (arith, le)) ∙ c.loop-me.invariant.rest k d (omega (arith, le));
    }

pub returns : goal.returns
returns c =
    let p = c.args.problem.now in
    let size = (tables_start p c.args.known.now c.requires).size in
    let same = c.loop-me.invariant.have.size in
    tables_end p c.loop-me.me c.loop-me.known c.loop-me.invariant.have (omega (arith, size, same, c.loop-me-test.false, c.loop-me.auto.me-end))
