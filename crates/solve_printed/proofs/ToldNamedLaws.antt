-- Where something is told, that it speaks of variables among so many.
use Rattle.std.proofs.Common.{ℕ, Bool, true, false, cond, Option, Some, None}
use Rattle.std.specs.Prelude.{IfSome}
use Rattle.std.specs.Option.{option_or}
use Rattle.certificate_text.specs.declared.verdict.Differs.{Differs}
use Rattle.solve_report.specs.Verdict.{IsNamedDifference}

-- what is told, where something is, speaks of variables among so many
abbrev pub AreNamed : ℕ → Option Differs → Type 0
AreNamed n o = IfSome o (IsNamedDifference n)

pub or-named : (n : ℕ) (a b : Option Differs) → AreNamed n a → AreNamed n b → AreNamed n (option_or a b)
or-named n None b of_a of_b = of_b
or-named n (Some x) b of_a of_b = of_a

pub if-named : (n : ℕ) (t : Bool) (x : Differs) → IsNamedDifference n x → AreNamed n (cond t None (Some x))
if-named n true x h = tt
if-named n false x h = h

pub then-named : (n : ℕ) (t : Bool) (x : Differs) → IsNamedDifference n x → AreNamed n (cond t (Some x) None)
then-named n true x h = h
then-named n false x h = tt
