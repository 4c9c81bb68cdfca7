-- With one node every link is settled.
use Rattle.std.proofs.Common.{◌≡◌, ℕ, ◌*◌, ◌<◌, List, length, sym, ◌∙◌, arith}
use Rattle.std.proofs.Math.Nat.{div-eq_of_lt}
use Rattle.std.proofs.lemmas.Option.{slice_get_within}
use Rattle.worker_laws.specs.Cells.{CellState}
use Rattle.worker_laws.specs.Visits.{IsQuiet}
use Rattle.worker_laws.specs.CellRounds.{AreSettled}
use Rattle.worker_laws.specs.OneNode.{home, IsSettling, OneNodeIsAll}
use Rattle.worker_laws.proofs.EachLaws.{each_long}

first_home : (n i : ℕ) → i < n → home 1 n i ≡ 0
first_home n i lt = let less : i * 1 < n = omega (arith, lt) in div-eq_of_lt {n = i * 1} {m = n} less

all_settled : (before after : List CellState) → IsSettling (home 1 (length before)) before after → AreSettled after
all_settled before after s i j to from e f =
    let long = each_long IsQuiet before after s.quiet in
    let in_i = slice_get_within after i to e in
    let in_j = slice_get_within after j from f in
    s.settled i j to from e f (first_home (length before) i (omega (arith, long, in_i)) ∙ sym (first_home (length before) j (omega (arith, long, in_j))))

pub one_node_is_all : OneNodeIsAll
one_node_is_all = record {
  settling = λ before after s. (s.quiet, all_settled before after s);
  round = λ before after r. record { middle = r.middle; quiet = r.settling.quiet; settled = all_settled before r.middle r.settling; sprints = r.sprints };
}
