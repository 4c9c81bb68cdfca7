use Rattle.std.proofs.Common.{◌∙◌, sym, Bool, true, false, not, ◌≡◌, refl, arith}
use Rattle.std.proofs.lemmas.Grind.{common_steps}
use Rattle.std.specs.List.{list_any}
use Rattle.std.specs.Str.{bytes_eq}
use Rattle.std.proofs.lemmas.Bool.{false≢true}
use Rattle.problem_text.proofs.NameLaws.{has_twice-pushed, has_twice-push}
use Rattle.problem_text.proofs.name_word.labels_of.Goals as goal

not-no : (a b : Bool) → a ≡ not b → a ≡ false → b ≡ true
not-no a true e h = refl
not-no a false e h = absurd (false≢true (sym h ∙ e))

pub returns-then-not-branch : goal.returns-then-not-branch
returns-then-not-branch c =
    let there = not-no c.in_ok-push.field-0 (list_any (bytes_eq c.in-Some-name_of.name.now) c.loop-word.labels) c.in_ok-push.ensures.added c.if-not-branch.true in
    has_twice-pushed c.loop-word.labels _ _ _ c.in-Some.word.now c.in-Some-name_of.name.now c.loop-word.invariant.1 c.in-Some.ensures c.in-Some-name_of.ensures.1 there

not-yes : (a b : Bool) → a ≡ not b → a ≡ true → b ≡ false
not-yes a false e h = refl
not-yes a true e h = absurd (false≢true (sym e ∙ h))

pub loop-word-preserved : goal.loop-word-preserved
loop-word-preserved c =
    let new = not-yes c.in_ok-push.field-0 (list_any (bytes_eq c.in-Some-name_of.name.now) c.loop-word.labels) c.in_ok-push.ensures.added c.if-not-branch.false in
    let once = has_twice-push c.loop-word.labels c.in-Some-name_of.name.now c.loop-word.invariant.2 new in
    grind (arith, common_steps, once, new)

pub returns : goal.returns
returns c = grind (arith, common_steps, c.loop-word.invariant)
