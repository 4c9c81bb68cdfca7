use Rattle.std.proofs.Common.{arith, ◌∙◌, ◌<◌, ◌^◌}
use Rattle.std.proofs.lemmas.List.FromFn.{length-map-range_with_len}
use Rattle.problem_text.specs.Numbered.{numbered_name}
use Rattle.problem_text.proofs.NumberedLaws.{numbered-next}
use Rattle.problem_text.proofs.numbered.number_names.Goals as goal

pub push-requires : goal.push-requires
push-requires c = rw (c.loop-var.invariant, length-map-range_with_len numbered_name 0 c.loop-var.var-counter) (omega arith)

pub loop-var-preserved : goal.loop-var-preserved
loop-var-preserved c =
    let small : c.loop-var.var-counter < 2 ^ 64 = omega arith in
    c.in_ok-push.ensures.names
    ∙ rw (c.loop-var.invariant, c.as_str.ensures.value, c.in_ok-name.ensures.ok) (numbered-next c.loop-var.var-counter small)
