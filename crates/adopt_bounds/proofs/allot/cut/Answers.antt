use Rattle.std.proofs.Common.{◌≡◌, ◌+◌, ◌-◌, ◌<◌, ◌≤◌, max, length, set, get_or, refl, sym, ◌∙◌, arith}
use Rattle.std.proofs.lemmas.List.{length-set}
use Rattle.std.proofs.lemmas.List.Elements.{All-set}
use Rattle.dcop_base.specs.Limits.{amount_limit}
use Rattle.adopt_bounds.specs.Rows.{entries_of}
use Rattle.adopt_bounds.proofs.EntryLaws.{entries_length}
use Rattle.adopt_bounds.proofs.ShareLaws.{cut_next, cut_end}
use Rattle.adopt_bounds.proofs.allot.cut.Goals as goal

pub loop-k-preserved : goal.loop-k-preserved
loop-k-preserved c =
    let ss = c.loop-k.share in
    let k = c.loop-k.k in
    let share = c.max-lowered.result in
    let count = c.loop-k.invariant.count in
    let here : k < length ss = rw count c.loop-k-test.true in
    let is : share ≡ max (get_or ss k 0 - c.loop-k.excess) (get_or c.args.lower.now k 0) = omega (arith, c.max-lowered.ensures, c.saturating_sub-least.ensures, c.from.ensures) in
    let had : get_or ss k 0 ≤ amount_limit = c.loop-k.invariant.within k 0 here in
    let most : get_or c.args.lower.now k 0 ≤ amount_limit = c.requires.lower_within k 0 (rw c.requires.lower c.loop-k-test.true) in
    let low : share ≤ amount_limit = omega (arith, is, had, most) in
    let long : length (set ss k share) ≡ length ss = length-set ss k share in
    let left : c.loop-k.excess + c.from-in-loop-k.result - c.from-in-loop-k-2.result ≡ c.loop-k.excess + share - get_or ss k 0 = omega (arith, c.from-in-loop-k.ensures, c.from-in-loop-k-2.ensures) in
    record {
      count = long ∙ count;
      fits = rw long (omega (arith, left, low, c.loop-k.invariant.fits));
      within = All-set (λ s. s ≤ amount_limit) ss k share low c.loop-k.invariant.within;
      entries = λ upper contexts a b.
          cut_next c.args.lower.now upper ss contexts k c.loop-k.excess share (c.loop-k.excess + c.from-in-loop-k.result - c.from-in-loop-k-2.result)
          (c.requires.lower ∙ sym count) (a ∙ sym count) (b ∙ sym count) here is left
          ∙ c.loop-k.invariant.entries upper contexts a b;
    }

pub returns-clause-entries : goal.returns-clause-entries
returns-clause-entries c = λ upper contexts a b.
    let ss = c.loop-k.share in
    let count = c.loop-k.invariant.count in
    let es = entries_of c.args.lower.now upper ss contexts in
    let all : length es ≡ length ss = entries_length (length ss) c.args.lower.now upper ss contexts (c.requires.lower ∙ sym count) (a ∙ sym count) refl (b ∙ sym count) in
    let over : length es ≤ c.loop-k.k = omega (arith, all, count, c.loop-k-test.false) in
    sym (cut_end es c.loop-k.k c.loop-k.excess over) ∙ c.loop-k.invariant.entries upper contexts a b
