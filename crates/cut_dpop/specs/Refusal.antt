-- Why a cut is refused.
use Rattle.std.specs.Prelude.{◌≡◌, ℕ, ◌*◌, Bool, List, Option, Some, None, nat_lt, if◌then◌else◌}
use Rattle.dcop_base.specs.Problem.{Dcop}
use Rattle.dcop_base.specs.Limits.{sent_limit, turn_limit}
use Rattle.pseudotree.specs.Width.{told, sent_total}
use Rattle.run_laws.specs.Turns.{turn_count}
use Rattle.run_laws.specs.CutSet.{counted}
use Rattle.cut_dpop.specs.declared.fault.CutFault.{CutFault}
use Rattle.cut_dpop.specs.declared.fault.CutFault.TheVariants.{TooMany, Total, NoMemory}

-- how many cells are sent in one turn, or in all turns if the tables are kept
abbrev pub cells_sent : Dcop → List (List ℕ) → List ℕ → Bool → ℕ
cells_sent p paths cut keep = (if keep then turn_count p cut else 1) * sent_total (counted p cut) paths

-- why a cut is refused, if it is: too many turns, or otherwise too many cells that are sent
abbrev pub refusal : Dcop → List (List ℕ) → List ℕ → Bool → Option CutFault
refusal p paths cut keep =
    if nat_lt turn_limit (turn_count p cut) then Some (TooMany (told (turn_count p cut)))
    else (if nat_lt sent_limit (cells_sent p paths cut keep) then Some (Total (told (cells_sent p paths cut keep)))
    else None)

-- a cut is refused for this fault; memory may run out at any cut
abbrev pub IsCutRefusal : Dcop → List (List ℕ) → List ℕ → Bool → CutFault → Type 0
IsCutRefusal p paths cut keep NoMemory = Unit {0}
IsCutRefusal p paths cut keep fault = refusal p paths cut keep ≡ Some fault

-- this many turns are run, since nothing refuses the cut
abbrev pub AreAllowed : Dcop → List (List ℕ) → List ℕ → Bool → ℕ → Type 0
AreAllowed p paths cut keep turns = (refusal p paths cut keep ≡ None) × (turns ≡ turn_count p cut)
