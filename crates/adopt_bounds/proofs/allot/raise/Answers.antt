use Rattle.std.proofs.Common.{◌≡◌, ◌+◌, ◌-◌, ◌<◌, ◌≤◌, None, length, set, drop, get_or, refl, sym, ◌∙◌, arith}
use Rattle.std.specs.List.{sum_by}
use Rattle.std.proofs.lemmas.List.{length-set, drop-set-lt}
use Rattle.std.proofs.lemmas.List.Elements.{All-set}
use Rattle.std.proofs.lemmas.List.Sums.{sum_by-drop_more}
use Rattle.dcop_base.specs.Limits.{amount_limit}
use Rattle.adopt_context.specs.Allot.{lower_to}
use Rattle.adopt_bounds.specs.Rows.{entries_of}
use Rattle.adopt_bounds.proofs.EntryLaws.{entries_length}
use Rattle.adopt_bounds.proofs.ShareLaws.{raise_next, raise_end, raised_below}
use Rattle.adopt_bounds.proofs.allot.raise.Goals as goal

pub loop-k-preserved : goal.loop-k-preserved
loop-k-preserved c =
    let ss = c.loop-k.share in
    let k = c.loop-k.k in
    let share = c.lower_to-raised.result in
    let here : k < length ss = rw c.loop-k.invariant.count c.loop-k-test.true in
    let is : share ≡ lower_to (get_or ss k 0 + c.loop-k.lack) (get_or c.args.upper.now k None) = c.lower_to-raised.ensures in
    let low : share ≤ get_or ss k 0 + c.loop-k.lack = rw is (raised_below (get_or ss k 0 + c.loop-k.lack) (get_or c.args.upper.now k None)) in
    let sum : sum_by (λ s. s) (drop k ss) ≡ get_or ss k 0 + sum_by (λ s. s) (drop (k + 1) ss) = sum_by-drop_more (λ s. s) ss k 0 here in
    let same : drop (k + 1) (set ss k share) ≡ drop (k + 1) ss = drop-set-lt (k + 1) ss k share (omega arith) in
    record {
      count = length-set ss k share ∙ c.loop-k.invariant.count;
      fits = rw same (omega (arith, low, sum, c.loop-k.invariant.fits));
      within = All-set (λ s. s ≤ amount_limit) ss k share (omega (arith, low, sum, c.loop-k.invariant.fits)) c.loop-k.invariant.within;
      entries = λ lower contexts a b.
          raise_next lower c.args.upper.now ss contexts k c.loop-k.lack share (get_or ss k 0 + c.loop-k.lack - share)
          (a ∙ sym c.loop-k.invariant.count) (c.requires.upper ∙ sym c.loop-k.invariant.count) (b ∙ sym c.loop-k.invariant.count) here is refl
          ∙ c.loop-k.invariant.entries lower contexts a b;
    }

pub returns-clause-entries : goal.returns-clause-entries
returns-clause-entries c = λ lower contexts a b.
    let ss = c.loop-k.share in
    let count = c.loop-k.invariant.count in
    let es = entries_of lower c.args.upper.now ss contexts in
    let all : length es ≡ length ss = entries_length (length ss) lower c.args.upper.now ss contexts (a ∙ sym count) (c.requires.upper ∙ sym count) refl (b ∙ sym count) in
    let over : length es ≤ c.loop-k.k = omega (arith, all, count, c.loop-k-test.false) in
    sym (raise_end es c.loop-k.k c.loop-k.lack over) ∙ c.loop-k.invariant.entries lower contexts a b
