-- How a cut ends.
use Rattle.std.specs.Prelude.{◌≡◌, ℕ, ◌*◌, Bool, List, None}
use Rattle.dcop_base.specs.Problem.{Dcop}
use Rattle.run_laws.specs.Turns.{turn_count}
use Rattle.run_laws.specs.CutSet.{IsCutSet}
use Rattle.run_laws.specs.Kept.{IsCutAnswer}
use Rattle.cut_dpop.specs.Start.{turn_deliveries}
use Rattle.cut_dpop.specs.Kept.{AreTurnsKept}
use Rattle.cut_dpop.specs.Refusal.{refusal, IsCutRefusal}
use Rattle.cut_dpop.specs.declared.run.CutEnd.{CutEnd}
use Rattle.cut_dpop.specs.declared.fault.CutFault.{CutFault}

-- the end of a cut: the cut set at this limit is not refused, it was run in turns, and this is the
-- answer, with the tables of all turns if they are kept
pub record IsCutEnd (p : Dcop) (paths : List (List ℕ)) (limit : ℕ) (keep : Bool) (end : CutEnd) : Type 0 where
  pub cut : IsCutSet p paths limit end.cut
  pub allowed : refusal p paths end.cut keep ≡ None
  pub turns : end.turns ≡ turn_count p end.cut
  pub deliveries : end.deliveries ≡ turn_count p end.cut * turn_deliveries p
  pub answer : IsCutAnswer p paths end.cut end.cost end.values
  pub tables : AreTurnsKept keep p paths end.cut (turn_count p end.cut) end.tables

-- the cut set at a limit is refused for this fault; memory may run out at any cut
pub record IsCutRefused (p : Dcop) (paths : List (List ℕ)) (limit : ℕ) (keep : Bool) (fault : CutFault) : Type 0 where
  pub refused : (cut : List ℕ) → IsCutSet p paths limit cut → IsCutRefusal p paths cut keep fault
