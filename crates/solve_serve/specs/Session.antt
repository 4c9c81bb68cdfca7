-- A session: what it read and wrote, and why it ended.
use Rattle.std.specs.Prelude.{◌≡◌, ◌≢◌, ℕ, ◌<◌, ◌≤◌, min, List, [], ◌∷◌, ◌++◌, length, take, Option, Result, Ok, Err}
use Rattle.std.specs.List.{All, AllZip}
use Rattle.std.specs.Io.KnownBytes.{prepend_known, IsAtEnd}
use Rattle.dcop_base.specs.Limits.{count_limit}
use Rattle.dcop_edge.specs.Faults.{Rose}
use Rattle.dcop_edge.specs.Sink.{Adds}
use Rattle.reply_cache.specs.Steps.{Step}
use Rattle.wire_frames.specs.Frame.{framed, framed_all, IsShort, IsTooLong}
use Rattle.wire_frames.specs.Reader.{Reader}
use Rattle.solve_serve.specs.Limits.{request_limit, session_limit}
use Rattle.solve_serve.specs.Requests.{reading, IsStopped, Gives}
use Rattle.solve_serve.specs.Answers.{Answering, AreLooked, IsUnanswered, IsAnswered}
use Rattle.solve_serve.specs.declared.end.SessionEnd.{SessionEnd}
use Rattle.solve_serve.specs.declared.end.SessionEnd.TheVariants as ends
use Rattle.solve_serve.specs.declared.stop.Stop.{Stop}
use Rattle.solve_serve.specs.declared.stop.Stop.TheVariants as stops

-- what is outside of a session: what its source has left, if it is known, and the source's count of
-- faults; and its answering
pub record Outside : Type 0 where
  pub left : Option (List ℕ)
  pub faults : ℕ
  pub answering : Answering

-- the outside with these parts
abbrev pub outside : Option (List ℕ) → ℕ → Answering → Outside
outside left faults answering = record { left = left; faults = faults; answering = answering }

-- how many requests a session with this end answered
abbrev pub served_by : SessionEnd → ℕ
served_by (ends.Closed served) = served
served_by (ends.Cut served) = served
served_by (ends.Long served place) = served
served_by (ends.Limit served) = served
served_by (ends.Read served) = served
served_by (ends.Write served) = served
served_by (ends.Memory served) = served

-- nothing was written after the replies, no look was made except for them, and the sink did not
-- fail
pub record IsQuiet (beside : List ℕ) (more : List (List ℕ)) (before after : Outside) : Type 0 where
  pub none : beside ≡ []
  pub no_more : more ≡ []
  pub same : after.answering.faults ≡ before.answering.faults

-- the first request that was not answered was read whole, and a prefix of its reply's frame was
-- written
pub record IsBroken (is_reply : List ℕ → List ℕ → Type 0) (behind beside : List ℕ) : Type 0 where
  pub request : List ℕ
  pub reply : List ℕ
  pub is : is_reply request reply
  pub rest : List ℕ
  pub count : ℕ
  pub read : behind ≡ framed request ++ rest
  pub within : length request ≤ request_limit
  pub most : count ≤ length (framed reply)
  pub written : beside ≡ take count (framed reply)

-- why a session with these requests ended so; `behind` was read after the requests, `beside` was
-- written after their replies, and for the keys `more` a look was made but no whole reply written
abbrev pub IsCause : (List ℕ → List ℕ → Type 0) → SessionEnd → List (List ℕ) → List ℕ → List ℕ → List (List ℕ) → Outside → Outside → Type 0
IsCause is_reply (ends.Closed served) requests behind beside more before after =
    (served < session_limit) × IsQuiet beside more before after × (behind ≡ []) × IsAtEnd after.left × (after.faults ≡ before.faults)
IsCause is_reply (ends.Cut served) requests behind beside more before after =
    (served < session_limit) × IsQuiet beside more before after × (behind ≢ []) × IsShort request_limit behind × IsAtEnd after.left × (after.faults ≡ before.faults)
IsCause is_reply (ends.Long served place) requests behind beside more before after =
    (served < session_limit) × IsQuiet beside more before after × IsTooLong request_limit behind × (place ≡ min (length (framed_all requests)) count_limit) × (after.faults ≡ before.faults)
IsCause is_reply (ends.Limit served) requests behind beside more before after =
    (served ≡ session_limit) × IsQuiet beside more before after × (after.faults ≡ before.faults)
IsCause is_reply (ends.Read served) requests behind beside more before after =
    (served < session_limit) × IsQuiet beside more before after × IsShort request_limit behind × Rose before.faults after.faults
IsCause is_reply (ends.Write served) requests behind beside more before after =
    (served < session_limit) × (broken : IsBroken is_reply behind beside) × (more ≡ broken.request ∷ []) × Rose before.answering.faults after.answering.faults × (after.faults ≡ before.faults)
IsCause is_reply (ends.Memory served) requests behind beside more before after =
    (served < session_limit) × (beside ≡ []) × (length more ≤ 1) × (after.answering.faults ≡ before.answering.faults) × (after.faults ≡ before.faults)

-- a session ended so: its requests are the first that were read, in order; the frames of their
-- replies were written, in order; and for each request in order a look was made, and its reply was
-- made exactly if that look found nothing. `went` holds of the list of these steps: the looks, and
-- the making of replies. (It is used for the statement that the maker took these steps.)
pub record HasServed (is_reply : List ℕ → List ℕ → Type 0) (went : List Step → Type 0) (end : SessionEnd) (before after : Outside) : Type 0 where
  pub requests : List (List ℕ)
  pub replies : List (List ℕ)
  pub replied : AllZip is_reply requests replies
  pub count : length requests ≡ served_by end
  pub within : All (λ request. length request ≤ request_limit) requests
  pub behind : List ℕ
  pub read : before.left ≡ prepend_known (framed_all requests ++ behind) after.left
  pub beside : List ℕ
  pub written : Adds before.answering.held (framed_all replies ++ beside) after.answering.held
  pub more : List (List ℕ)
  pub looked : AreLooked went (requests ++ more) before.answering.tally after.answering.tally
  pub cause : IsCause is_reply end requests behind beside more before after

-- one turn of a session: the next request was read and answered, or the session stops
abbrev pub IsTurn : (List ℕ → List ℕ → Type 0) → (List Step → Type 0) → Result (Unit {0}) Stop → Reader → Outside → Reader → Outside → Type 0
IsTurn is_reply went (Ok done) r before r' after =
    (request : List ℕ) × Gives request (reading r before.left before.faults) (reading r' after.left after.faults) × (after.faults ≡ before.faults)
    × IsAnswered is_reply went request (Ok done) before.answering after.answering
IsTurn is_reply went (Err stops.Write) r before r' after =
    (request : List ℕ) × Gives request (reading r before.left before.faults) (reading r' after.left after.faults) × (after.faults ≡ before.faults)
    × IsAnswered is_reply went request (Err stops.Write) before.answering after.answering
IsTurn is_reply went (Err stops.Memory) r before r' after =
    IsStopped stops.Memory (reading r before.left before.faults) (reading r' after.left after.faults) × IsUnanswered went before.answering after.answering
IsTurn is_reply went (Err stop) r before r' after =
    IsStopped stop (reading r before.left before.faults) (reading r' after.left after.faults) × (after.answering ≡ before.answering) × went []
