-- Nodes make a run.
use Rattle.std.proofs.Common.{◌≡◌, ℕ, ◌<◌, false, List, [], ◌∷◌, ◌++◌, refl, sym, ap, subst, ◌∙◌}
use Rattle.std.specs.List.{All}
use Rattle.std.proofs.lemmas.List.Elements.{All-nil, All-cons}
use Rattle.protocol_steps.specs.declared.run_end.RunEnd.{RunEnd}
use Rattle.protocol_steps.specs.declared.run_end.RunEnd.TheVariants.{Still}
use Rattle.protocol_steps.specs.View.{View}
use Rattle.worker_laws.specs.Cells.{CellState, Lane, lane, EachAre}
use Rattle.worker_laws.specs.Visits.{IsQuiet}
use Rattle.worker_laws.specs.CellRounds.{IsSettled, AreSettled, AreStarted, AreCellRounds, total}
use Rattle.worker_laws.specs.CellRuns.{all_ended, IsCellEnd, MakesARun}
use Rattle.worker_laws.specs.Played.{ArePlayed}
use Rattle.worker_laws.specs.StampCounts.{ArePrefixes}
use Rattle.worker_laws.proofs.EachLaws.{each_on}
use Rattle.worker_laws.proofs.CellRunLaws.{workers_make_a_run}
use Rattle.worker_laws.proofs.PlayedLaws.{played_cells_make_runs}
use Rattle.worker_laws.specs.Wires.{Wire, HaveHeld}
use Rattle.worker_laws.specs.NodeRounds.{IsNodeRound, IsNodeEnd, ArePlayedOver}
use Rattle.worker_laws.specs.NodeRuns.{NodesMakeARun, NodesAreOne, PlayedNodesMakeRuns}
use Rattle.worker_laws.proofs.WireLaws.{held_before}
use Rattle.worker_laws.proofs.RoundLaws.{all_quiet, all_settled, round_is, rounds_are, node_rounds_push}

-- before every link is settled, what was taken is a first part of what was sent
quiet_prefixes : (before after : List CellState) → EachAre IsQuiet before after → AreSettled after → ArePrefixes before
quiet_prefixes before after quiet settled i j to from e f =
    let u = each_on IsQuiet before after quiet i to e in
    let w = each_on IsQuiet before after quiet j from f in
    let s : IsSettled i j u.0 w.0 = settled i j u.0 w.0 u.1 w.1 in
    (s.waiting, ap (λ (ls : List Lane). lane j ls ++ s.waiting) (sym u.2.taken) ∙ s.whole ∙ ap (lane i) w.2.sent)

rounds_in_order : (budget : ℕ) (cells after last : List CellState) (rounds : List (List CellState)) → AreCellRounds budget cells rounds after → EachAre IsQuiet after last → AreSettled last
    → All ArePrefixes (cells ∷ rounds)
rounds_in_order budget cells after last [] same quiet settled =
    All-cons ArePrefixes cells [] (quiet_prefixes cells last (subst (λ (cs : List CellState). EachAre IsQuiet cs last) (sym same) quiet) settled) (All-nil ArePrefixes)
rounds_in_order budget cells after last (next ∷ rounds) are quiet settled =
    All-cons ArePrefixes cells (next ∷ rounds) (quiet_prefixes cells are.1.middle are.1.quiet are.1.settled) (rounds_in_order budget next after last rounds are.2 quiet settled)

pub nodes_are_one : NodesAreOne
nodes_are_one node budget cells after last rounds begun wires more are end held = record {
  rounds_are = rounds_are node budget begun cells rounds wires after are (held_before wires more end.exchange.passed held);
  quiet = all_quiet node wires more after end.ready last end.exchange end.settling held;
  settled = all_settled node wires more after end.ready last end.exchange end.settling held;
}

pub nodes_make_a_run : NodesMakeARun
nodes_make_a_run node budget made cells after last rounds begun wires more starts are end held =
    let one = nodes_are_one node budget cells after last rounds begun wires more are end held in
    let run = workers_make_a_run budget made cells after last rounds starts one.rounds_are one.quiet one.settled in
    record { end = run.0; run = run.1; in_order = rounds_in_order budget cells after last rounds one.rounds_are one.quiet one.settled }

ends : (node : ℕ → ℕ) (budget : ℕ) (made : List View) (begun wires more : List Wire) (cells now last : List CellState) (answer : RunEnd) → AreStarted made cells
    → ArePlayedOver node budget begun cells wires now → IsNodeEnd node wires more now last → HaveHeld more → IsCellEnd budget last answer → MakesARun budget made last answer
ends node budget made begun wires more cells now last answer starts p end held told =
    let one = nodes_are_one node budget cells now last p.rounds begun wires more p.are end held in
    let played : ArePlayed budget cells now = record { rounds = p.rounds; are = one.rounds_are } in
    played_cells_make_runs.ends budget made cells now last answer starts played one.quiet one.settled told

rests : (node : ℕ → ℕ) (budget : ℕ) (made : List View) (begun wires between more : List Wire) (cells now next last : List CellState) → AreStarted made cells
    → ArePlayedOver node budget begun cells wires now → total now < budget → IsNodeRound node wires between now next → total next ≡ total now → IsNodeEnd node between more next last → HaveHeld more
    → all_ended last ≡ false → MakesARun budget made last (Still (total last))
rests node budget made begun wires between more cells now next last starts p less round same end held awake =
    let held_between : HaveHeld between = held_before between more end.exchange.passed held in
    let held_wires : HaveHeld wires = held_before wires between round.exchange.passed held_between in
    let played : ArePlayed budget cells now = record { rounds = p.rounds; are = rounds_are node budget begun cells p.rounds wires now p.are held_wires } in
    played_cells_make_runs.rests budget made cells now next last starts played less (round_is node wires between now next round held_between) same
    (all_quiet node between more next end.ready last end.exchange end.settling held) (all_settled node between more next end.ready last end.exchange end.settling held) awake

pub played_nodes_make_runs : PlayedNodesMakeRuns
played_nodes_make_runs = record {
  none = λ node budget wires cells. record { rounds = []; are = (refl, refl) };
  more = λ node budget begun wires between cells now next p less round.
      record { rounds = p.rounds ++ next ∷ []; are = node_rounds_push node budget begun cells p.rounds wires now between next p.are less round };
  ends = ends;
  rests = rests;
}
