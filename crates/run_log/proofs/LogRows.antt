-- Worked rows: the log of two ADOPT agents x and y, its stamps and its text.
use Rattle.std.proofs.Common.{◌≡◌, ℕ, List, [], ◌∷◌, Option, Some, None, Ok, Err, codes, refl}
use Rattle.protocol_steps.specs.declared.event.Take.{Take}
use Rattle.protocol_steps.specs.Step.{start_of, step_of}
use Rattle.protocol_steps.specs.View.{View}
use Rattle.protocol_steps.specs.Network.{start_state}
use Rattle.protocol_steps.proofs.NetworkRows.{pair_x, pair_y}
use Rattle.problem_text.specs.declared.fault.ReportFault.TheVariants.{Bad}
use Rattle.problem_text.specs.declared.fault.ReportKind.TheVariants.{BadLine, BadNumber, UnknownName}
use Rattle.run_log.specs.declared.log.LogEvent.{LogEvent}
use Rattle.run_log.specs.LogStamps.{start_stamps, StampDifference, stamp_difference, HasRightStamps}
use Rattle.run_log.specs.LogReading.{log_read}

-- an event with one take
abbrev one : ℕ → ℕ → ℕ → ℕ → LogEvent
one agent stamp from count =
    let t : Take = record { from = from; count = count } in
    record { agent = agent; stamp = stamp; takes = t ∷ [] }

abbrev pair : List View
pair = pair_x ∷ pair_y ∷ []

abbrev pair_log : List LogEvent
pair_log = one 0 1 1 1 ∷ one 1 2 0 4 ∷ one 0 3 1 1 ∷ one 1 4 0 2 ∷ one 0 5 1 1 ∷ one 1 6 0 3 ∷ []

pub pair_is_right : HasRightStamps pair pair_log
unfolding start_of step_of
pair_is_right = refl

abbrev first_difference : List LogEvent → Option StampDifference
first_difference log = stamp_difference 1 (Some (start_state pair)) (start_stamps (start_state pair)) None log

-- a stamp that is too great
pub stamp_too_great : first_difference (one 0 1 1 1 ∷ one 1 3 0 4 ∷ []) ≡ Some (record { event = 2; left = 3; right = 2 })
unfolding start_of step_of
stamp_too_great = refl

-- y may take what was sent at first before x does, with the same stamp, and then x comes first
pub ties_by_agent : first_difference (one 0 1 1 1 ∷ one 1 1 0 2 ∷ []) ≡ None
unfolding start_of step_of
ties_by_agent = refl

pub ties_turned : first_difference (one 1 1 0 2 ∷ one 0 1 1 1 ∷ []) ≡ Some (record { event = 2; left = 1; right = 1 })
unfolding start_of step_of
ties_turned = refl

-- the text of the log
abbrev names : List (List ℕ)
names = codes "x" ∷ codes "y" ∷ []

abbrev pair_text : List ℕ
pair_text = codes "event x 1 y 1\nevent y 2 x 4\nevent x 3 y 1\nevent y 4 x 2\nevent x 5 y 1\nevent y 6 x 3\n"

pub pair_read : log_read names pair_text ≡ Ok pair_log
pair_read = refl

-- faults: a pair that is cut short before all others, then names and numbers from left to right
pub cut_short : log_read names (codes "\nevent z 1 y") ≡ Err (Bad 2 BadLine)
cut_short = refl

pub no_agent : log_read names (codes "event z 1x y 1\n") ≡ Err (Bad 1 UnknownName)
no_agent = refl

pub great_stamp : log_read names (codes "event x 4611686018427387905 z 1\n") ≡ Err (Bad 1 BadNumber)
great_stamp = refl

pub great_count : log_read names (codes "event x 1 y 4294967296\n") ≡ Err (Bad 1 BadNumber)
great_count = refl
