-- Rounds in nodes whose links have held are rounds as in one node.
use Rattle.std.proofs.Common.{ℕ, ◌<◌, ◌≤◌, List, [], ◌∷◌, ◌++◌, length, min, refl, sym, ap, subst, ◌∙◌, inl, inr, arith}
use Rattle.std.proofs.lemmas.Bool.{cases_eq}
use Rattle.std.proofs.lemmas.Option.{slice_get_within}
use Rattle.protocol_steps.specs.Rounds.{link_share}
use Rattle.worker_laws.specs.Cells.{CellState, Lane, lane, EachAre}
use Rattle.worker_laws.specs.Visits.{IsQuiet}
use Rattle.worker_laws.specs.CellRounds.{AreSettled, total, IsCellRound, AreCellRounds}
use Rattle.worker_laws.specs.OneNode.{IsSettling}
use Rattle.worker_laws.proofs.EachLaws.{each_long, each_back}
use Rattle.worker_laws.specs.Wires.{Wire, HaveHeld}
use Rattle.worker_laws.specs.Exchanges.{IsExchange}
use Rattle.worker_laws.specs.NodeRounds.{IsNodeRound, AreNodeRounds}
use Rattle.worker_laws.proofs.WireLaws.{held_before, all_arrived}

-- relations at each place of lists, one after the other
pub each_then : {X Y Z : Type 0} (R : X → Y → Type 0) (S : Y → Z → Type 0) (T : X → Z → Type 0) → ((x : X) (y : Y) (z : Z) → R x y → S y z → T x z)
    → (xs : List X) (ys : List Y) (zs : List Z) → EachAre R xs ys → EachAre S ys zs → EachAre T xs zs
each_then R S T on [] [] [] r s = tt
each_then R S T on [] [] (z ∷ zs) r s = absurd s
each_then R S T on [] (y ∷ ys) zs r s = absurd r
each_then R S T on (x ∷ xs) [] zs r s = absurd r
each_then R S T on (x ∷ xs) (y ∷ ys) [] r s = absurd s
each_then R S T on (x ∷ xs) (y ∷ ys) (z ∷ zs) r s = (on x y z r.0 s.0, each_then R S T on xs ys zs r.1 s.1)

pub quiet_then : (a b c : CellState) → IsQuiet a b → IsQuiet b c → IsQuiet a c
quiet_then a b c q r = record {
  me = r.me ∙ q.me;
  viewed = r.viewed ∙ q.viewed;
  stamped = r.stamped ∙ q.stamped;
  noted = r.noted ∙ q.noted;
  sent = r.sent ∙ q.sent;
  taken = r.taken ∙ q.taken;
}

-- an exchange whose links have held, and settling inside the nodes behind it, settle every link
module _ (node : ℕ → ℕ) (wires more : List Wire) (before ready last : List CellState) (x : IsExchange node wires more before ready) (s : IsSettling node ready last) (held : HaveHeld more) where
  pub all_quiet : EachAre IsQuiet before last
  all_quiet = each_then IsQuiet IsQuiet IsQuiet quiet_then before ready last x.quiet s.quiet

  pub all_settled : AreSettled last
  all_settled i j to from e f = elim (cases_eq (node i) (node j)) [
    | inl same ↦ s.settled i j to from e f same
    | inr apart ↦
        let a = each_back IsQuiet ready last s.quiet i to e in
        let b = each_back IsQuiet ready last s.quiet j from f in
        let on = x.exchanged i j a.0 b.0 a.1 b.1 apart in
        let long = each_long IsQuiet ready last s.quiet in
        let inside = slice_get_within last j from f in
        let kept = s.kept i j a.0 to a.1 e (omega (arith, long, inside)) apart in
        record {
          waiting = on.waiting;
          whole = ap (λ (ls : List Lane). lane j ls ++ on.waiting) a.2.taken ∙ on.arrived ∙ all_arrived i j more held ∙ on.drained ∙ ap (lane i) (sym b.2.sent);
          known = subst (λ (n : ℕ). min link_share (length on.waiting) ≤ n) (sym kept) on.known;
        }
  ]

-- a round whose links have held
pub round_is : (node : ℕ → ℕ) (wires more : List Wire) (before after : List CellState) → IsNodeRound node wires more before after → HaveHeld more → IsCellRound before after
round_is node wires more before after r held = record {
  middle = r.round.middle;
  quiet = all_quiet node wires more before r.ready r.round.middle r.exchange r.round.settling held;
  settled = all_settled node wires more before r.ready r.round.middle r.exchange r.round.settling held;
  sprints = r.round.sprints;
}

-- links that have held behind rounds had held before them
pub held_back : (node : ℕ → ℕ) (budget : ℕ) (wires : List Wire) (cells : List CellState) (rounds : List (List CellState)) (more : List Wire) (after : List CellState)
    → AreNodeRounds node budget wires cells rounds more after → HaveHeld more → HaveHeld wires
held_back node budget wires cells [] more after r held = subst HaveHeld (sym r.0) held
held_back node budget wires cells (next ∷ rounds) more after r held =
    held_before wires r.1.0 r.1.1.exchange.passed (held_back node budget r.1.0 next rounds more after r.1.2 held)

pub rounds_are : (node : ℕ → ℕ) (budget : ℕ) (wires : List Wire) (cells : List CellState) (rounds : List (List CellState)) (more : List Wire) (after : List CellState)
    → AreNodeRounds node budget wires cells rounds more after → HaveHeld more → AreCellRounds budget cells rounds after
rounds_are node budget wires cells [] more after r held = r.1
rounds_are node budget wires cells (next ∷ rounds) more after r held = (
  r.0,
  round_is node wires r.1.0 cells next r.1.1 (held_back node budget r.1.0 next rounds more after r.1.2 held),
  rounds_are node budget r.1.0 next rounds more after r.1.2 held,
)

-- one more round
pub node_rounds_push : (node : ℕ → ℕ) (budget : ℕ) (begun : List Wire) (a : List CellState) (rounds : List (List CellState)) (wires : List Wire) (b : List CellState) (between : List Wire) (c : List CellState)
    → AreNodeRounds node budget begun a rounds wires b → total b < budget → IsNodeRound node wires between b c → AreNodeRounds node budget begun a (rounds ++ c ∷ []) between c
node_rounds_push node budget begun a [] wires b between c same less round =
    subst (λ (ws : List Wire). AreNodeRounds node budget ws a (c ∷ []) between c) (sym same.0)
    (subst (λ (cells : List CellState). AreNodeRounds node budget wires cells (c ∷ []) between c) (sym same.1) (less, (between, round, (refl, refl))))
node_rounds_push node budget begun a (next ∷ rounds) wires b between c are less round =
    (are.0, (are.1.0, are.1.1, node_rounds_push node budget are.1.0 next rounds wires b between c are.1.2 less round))
