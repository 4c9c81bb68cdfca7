use Rattle.std.proofs.Common.{List, ℕ, ◌++◌, sym, ap, ◌∙◌, arith}
use Rattle.std.specs.String.{string_bytes}
use Rattle.trace_text.proofs.LineLaws.{pair_text, pairs-of, one-more, all-done}
use Rattle.trace_text.proofs.lines.write_pairs.Goals as goal

pub loop-pair-preserved : goal.loop-pair-preserved
loop-pair-preserved c =
    one-more (pair_text c.args.names.now) c.args.pairs.now c.loop-pair.pair-index c.pair-item.result _ _ _ (omega (arith, c.loop-pair-test.true)) c.pair-item.is c.in_ok-write_pair.ensures c.loop-pair.invariant

pub returns : goal.returns
returns c =
    all-done (pair_text c.args.names.now) c.args.pairs.now c.loop-pair.pair-index _ _ (omega arith) c.loop-pair.invariant
    ∙ ap (λ (text : List ℕ). string_bytes c.args.text.now ++ text) (sym (pairs-of c.args.names.now c.args.pairs.now))
