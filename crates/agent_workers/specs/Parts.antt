-- Parts of a list, each given to a call of a closure.
use Rattle.std.specs.Prelude.{◌≡◌, ℕ, zero, suc, ◌+◌, ◌*◌, ◌<◌, ◌≤◌, List, ◌++◌, length, Result, Ok, Err, IfOk}
use denote.Ref.{MutBor}
use denote.Param.Members.{Shared}
use Rattle.agent_cells.specs.declared.fault.VisitFault.{VisitFault}
use Rattle.agent_cells.specs.declared.fault.VisitFault.TheVariants.{NoMemory, StampEnd}
use Rattle.agent_workers.specs.Turns.{sprint_limit}

-- the joint result of two parts: how many messages they took together, or a fault; out of memory
-- comes before the end of the stamps
abbrev pub both_of : Result ℕ VisitFault → Result ℕ VisitFault → Result ℕ VisitFault
both_of (Ok m) (Ok n) = Ok (m + n)
both_of (Ok m) (Err f) = Err f
both_of (Err f) (Ok n) = Err f
both_of (Err NoMemory) (Err f) = Err NoMemory
both_of (Err StampEnd) (Err f) = Err f

module _ {T : Type 0} where
  -- the list is split into parts, one more than `count`; each has `size` elements, but the last may
  -- have fewer; P holds of each part with its result, and the joint result is `outcome`
  abbrev pub ByParts : (List T → Result ℕ VisitFault → List T → Type 0) → ℕ → ℕ → List T → Result ℕ VisitFault → List T → Type 0
  ByParts P size zero before outcome after = (length before ≤ size) × P before outcome after
  ByParts P size (suc count) before outcome after =
      (part others part_after others_after : List T) × (first : Result ℕ VisitFault) × (rest : Result ℕ VisitFault)
      × (before ≡ part ++ others) × (after ≡ part_after ++ others_after) × (outcome ≡ both_of first rest) × P part first part_after
      × (length part ≡ size) × (0 < length others) × ByParts P size count others rest others_after

module _ {F T : Type 0} (g : Shared F (MutBor (List T) × Unit {0}) (Result ℕ VisitFault × (MutBor (List T) × Unit {0}))) (f : F) where
  -- f may be called with a `&mut` to each part of the list
  pub record AcceptsParts (all : List T) : Type 0 where
    pub each : (before part after : List T) (p : MutBor (List T)) → all ≡ before ++ (part ++ after) → p.now ≡ part → g.pre f (p, tt)

  -- a call of f with a `&mut` to this list may return `outcome` and leave the second list there
  pub record IsCall (before : List T) (outcome : Result ℕ VisitFault) (after : List T) : Type 0 where
    pub argument : MutBor (List T)
    pub argument_is : argument.now ≡ before
    pub after_call : MutBor (List T)
    pub call : g.post f (argument, tt) (outcome, (after_call, tt))
    pub left : after_call.now ≡ after

  -- a call takes at most as many messages as a round may take for each element
  pub record TakesRoundShare : Type 0 where
    pub each : (before : List T) (outcome : Result ℕ VisitFault) (after : List T) → IsCall before outcome after → IfOk outcome (λ n. n ≤ length before * sprint_limit)

  -- the joint result of calls of f, one with each part of the list
  pub record IsPlayedByParts (size : ℕ) (before : List T) (outcome : Result ℕ VisitFault) (after : List T) : Type 0 where
    pub count : ℕ
    pub parts : ByParts IsCall size count before outcome after
