-- A session, turn after turn.
use Rattle.std.proofs.Common.{◌≡◌, ℕ, ◌+◌, ◌<◌, ◌≤◌, min, Bool, true, false, List, [], ◌∷◌, ◌++◌, length, take, Option, Result, Ok, Err, IsErrAnd, refl, sym, ap, subst, ◌∙◌, append-nil, arith, length-append}
use Rattle.std.proofs.lemmas.List.Elements.{All-nil, All-head, AllZip-push}
use Rattle.std.specs.List.{AllZip}
use Rattle.std.specs.Io.KnownBytes.{prepend_known}
use Rattle.dcop_base.specs.Limits.{count_limit}
use Rattle.dcop_edge.specs.Faults.{Rose}
use Rattle.dcop_edge.specs.Sink.{Adds}
use Rattle.dcop_edge.proofs.AddsLaws.{Adds-append}
use Rattle.wire_frames.specs.Frame.{framed, framed_all, EndsAt}
use Rattle.wire_frames.specs.Reader.{Reader, fresh}
use Rattle.reply_cache.specs.Steps.{Step, Leads}
use Rattle.solve_serve.specs.Limits.{request_limit, session_limit}
use Rattle.solve_serve.specs.Requests.{IsAhead, reading, RunsDry, IsStopped, Gives}
use Rattle.solve_serve.specs.Answers.{Answering, AreLooked, IsAnswered}
use Rattle.solve_serve.specs.Session.{Outside, outside, served_by, IsQuiet, IsCause, HasServed, IsTurn}
use Rattle.solve_serve.specs.Ends.{end_of}
use Rattle.solve_serve.specs.declared.stop.Stop.{Stop}
use Rattle.solve_serve.specs.declared.stop.Stop.TheVariants as stops
use Rattle.solve_serve.specs.declared.end.SessionEnd.{SessionEnd}
use Rattle.solve_serve.specs.declared.end.SessionEnd.TheVariants as ends
use Rattle.solve_serve.proofs.ListLaws.{prepend_none, Adds-none, framed_front, framed_push, All-back}
use Rattle.solve_serve.proofs.LookLaws.{looked_none, looked_then, looked_still, calls_few, never}
use Rattle.solve_serve.proofs.RequestLaws.{ahead_behind, ahead_within, loses_given}

-- this many turns of a session were played, each with its reply; `went` states which steps the maker
-- made
pub record SoFar (is_reply : List ℕ → List ℕ → Type 0) (went : List Step → Type 0) (before : Outside) (r : Reader) (now : Outside) (served : ℕ) : Type 0 where
  pub requests : List (List ℕ)
  pub replies : List (List ℕ)
  pub replied : AllZip is_reply requests replies
  pub count : length requests ≡ served
  pub ahead : IsAhead before.left requests r now.left
  pub reads : now.faults ≡ before.faults
  pub written : Adds before.answering.held (framed_all replies) now.answering.held
  pub writes : now.answering.faults ≡ before.answering.faults
  pub looked : AreLooked went requests before.answering.tally now.answering.tally

-- what a session has written if it stops without a write
quiet_written : (before now after : Option (List ℕ)) (text : List ℕ) → Adds before text now → after ≡ now → Adds before (text ++ []) after
quiet_written before now after text adds same = subst (λ (x : Option (List ℕ)). Adds before (text ++ []) x) (sym same) (subst (λ (x : List ℕ). Adds before x now) (sym (append-nil text)) adds)

-- if a session stops with nothing held, the reader's rest follows the requests
dry_read : (start : Option (List ℕ)) (requests : List (List ℕ)) (r : Reader) (left : Option (List ℕ)) → IsAhead start requests r left → r.ready ≡ [] → start ≡ prepend_known (framed_all requests ++ r.rest) left
dry_read start requests r left h none = ahead_behind start requests r left h ∙ ap (λ (x : List (List ℕ)). prepend_known (framed_all requests ++ (framed_all x ++ r.rest)) left) none

dry_place : (start : Option (List ℕ)) (requests : List (List ℕ)) (r : Reader) (left : Option (List ℕ)) → IsAhead start requests r left → r.ready ≡ [] → r.place ≡ min (length (framed_all requests)) count_limit
dry_place start requests r left h none = h.stands.place ∙ ap (λ (x : List (List ℕ)). min (length (framed_all x)) count_limit) (ap (λ (x : List (List ℕ)). requests ++ x) none ∙ append-nil requests)

dry_ends : (start : Option (List ℕ)) (requests : List (List ℕ)) (r : Reader) (left : Option (List ℕ)) (stuck : Bool) → IsAhead start requests r left → r.stuck ≡ stuck → EndsAt request_limit r.rest stuck
dry_ends start requests r left stuck h is = subst (λ (b : Bool). EndsAt request_limit r.rest b) is (subst (λ (n : ℕ). EndsAt n r.rest r.stuck) h.limit h.stands.splits.ends)

-- a maker's steps, and which bytes are a reply
module _ {S : Type 0} (does : S → Step → S → Type 0) (is_reply : List ℕ → List ℕ → Type 0) where
  -- these steps lead from one state of the maker to another
  abbrev pub Went : S → S → List Step → Type 0
  Went a b steps = Leads does steps a b

  -- before the first turn
  pub so_far_none : (a : S) (before : Outside) → SoFar is_reply (Went a a) before (fresh request_limit) before 0
  so_far_none a before = record {
    requests = [];
    replies = [];
    replied = tt;
    count = refl;
    ahead = record {
      stream = [];
      read = sym (prepend_none before.left);
      stands = record { splits = record { whole = refl; within = All-nil (λ p. length p ≤ request_limit); ends = tt }; place = refl };
      limit = refl;
    };
    reads = refl;
    written = Adds-none before.answering.held;
    writes = refl;
    looked = looked_none does a before.answering.tally;
  }

  -- one more turn
  pub so_far_more : (a b c : S) (before : Outside) (r : Reader) (now : Outside) (served : ℕ) (r' : Reader) (after : Outside) → SoFar is_reply (Went a b) before r now served → IsTurn is_reply (Went b c) (Ok tt) r now r' after
      → SoFar is_reply (Went a c) before r' after (served + 1)
  so_far_more a b c before r now served r' after s t = record {
    requests = s.requests ++ t.0 ∷ [];
    replies = s.replies ++ t.3.0 ∷ [];
    replied = AllZip-push is_reply s.requests s.replies t.0 t.3.0 s.replied t.3.1;
    count = length-append s.requests (t.0 ∷ []) ∙ ap (λ (n : ℕ). n + 1) s.count;
    ahead = t.1 before.left s.requests s.ahead;
    reads = t.2 ∙ s.reads;
    written = subst (λ (x : List ℕ). Adds before.answering.held x after.answering.held) (sym (framed_push s.replies t.3.0))
        (Adds-append before.answering.held now.answering.held after.answering.held (framed_all s.replies) (framed t.3.0) s.written t.3.3);
    writes = t.3.4 ∙ s.writes;
    looked = looked_then does s.requests (t.0 ∷ []) a b c before.answering.tally now.answering.tally after.answering.tally s.looked t.3.2;
  }

  -- a session that stops while reading, with nothing held
  dry_end : (a b c : S) (end : SessionEnd) (before : Outside) (r : Reader) (now : Outside) (served : ℕ) (r' : Reader) (after : Outside) → served_by end ≡ served → SoFar is_reply (Went a b) before r now served
      → RunsDry (reading r now.left now.faults) (reading r' after.left after.faults) → after.answering ≡ now.answering → c ≡ b
      → ((requests : List (List ℕ)) → IsAhead before.left requests r' after.left → IsQuiet [] [] before after → IsCause is_reply end requests r'.rest [] [] before after)
      → HasServed is_reply (Went a c) end before after
  dry_end a b c end before r now served r' after is s dry same still cause =
      let ahead : IsAhead before.left s.requests r' after.left = dry.on before.left s.requests s.ahead in
      let none_more : s.requests ++ [] ≡ s.requests = append-nil s.requests in
      let looked : AreLooked (Went a c) s.requests before.answering.tally after.answering.tally =
      subst (λ (x : Answering). AreLooked (Went a c) s.requests before.answering.tally x.tally) (sym same) (looked_still does s.requests a b c before.answering.tally now.answering.tally s.looked still) in
      record {
        requests = s.requests;
        replies = s.replies;
        replied = s.replied;
        count = s.count ∙ sym is;
        within = ahead_within before.left s.requests r' after.left ahead;
        behind = r'.rest;
        read = dry_read before.left s.requests r' after.left ahead dry.none;
        beside = [];
        written = quiet_written before.answering.held now.answering.held after.answering.held (framed_all s.replies) s.written (ap (λ (a : Answering). a.held) same);
        more = [];
        looked = subst (λ (ks : List (List ℕ)). AreLooked (Went a c) ks before.answering.tally after.answering.tally) (sym none_more) looked;
        cause = cause s.requests ahead (record { none = refl; no_more = refl; same = ap (λ (a : Answering). a.faults) same ∙ s.writes });
      }

  -- a session that stops because its sink failed
  write_end : (a b c : S) (before : Outside) (r : Reader) (now : Outside) (served : ℕ) (r' : Reader) (after : Outside) → served < session_limit → SoFar is_reply (Went a b) before r now served
      → IsTurn is_reply (Went b c) (Err stops.Write) r now r' after → HasServed is_reply (Went a c) (ends.Write served) before after
  write_end a b c before r now served r' after lt s t =
      let request = t.0 in
      let ahead : IsAhead before.left (s.requests ++ request ∷ []) r' after.left = t.1 before.left s.requests s.ahead in
      let held = framed_all r'.ready ++ r'.rest in
      record {
        requests = s.requests;
        replies = s.replies;
        replied = s.replied;
        count = s.count;
        within = ahead_within before.left s.requests r now.left s.ahead;
        behind = framed_all (request ∷ []) ++ held;
        read = ahead_behind before.left (s.requests ++ request ∷ []) r' after.left ahead ∙ ap (λ (x : List ℕ). prepend_known x after.left) (framed_front s.requests (request ∷ []) held);
        beside = take t.3.3.0 (framed t.3.0);
        written = Adds-append before.answering.held now.answering.held after.answering.held (framed_all s.replies) (take t.3.3.0 (framed t.3.0)) s.written t.3.3.2;
        more = request ∷ [];
        looked = looked_then does s.requests (request ∷ []) a b c before.answering.tally now.answering.tally after.answering.tally s.looked t.3.2;
        cause = (
          lt,
          record {
            request = request;
            reply = t.3.0;
            is = t.3.1;
            rest = held;
            count = t.3.3.0;
            read = ap (λ (x : List ℕ). x ++ held) (append-nil (framed request));
            within = All-head (λ p. length p ≤ request_limit) request [] (All-back (λ p. length p ≤ request_limit) s.requests (request ∷ []) (ahead_within before.left (s.requests ++ request ∷ []) r' after.left ahead));
            most = t.3.3.1;
            written = refl;
          },
          refl,
          subst (λ (n : ℕ). Rose n after.answering.faults) s.writes t.3.4,
          t.2 ∙ s.reads,
        );
      }

  -- a session that stops because memory ran out
  memory_end : (a b c : S) (before : Outside) (r : Reader) (now : Outside) (served : ℕ) (r' : Reader) (after : Outside) → served < session_limit → SoFar is_reply (Went a b) before r now served
      → IsTurn is_reply (Went b c) (Err stops.Memory) r now r' after → HasServed is_reply (Went a c) (ends.Memory served) before after
  memory_end a b c before r now served r' after lt s t =
      let lost = t.0.0 before.left s.requests s.ahead in
      record {
        requests = s.requests;
        replies = s.replies;
        replied = s.replied;
        count = s.count;
        within = ahead_within before.left s.requests r now.left s.ahead;
        behind = lost.0;
        read = lost.1;
        beside = [];
        written = quiet_written before.answering.held now.answering.held after.answering.held (framed_all s.replies) s.written t.1.held;
        more = t.1.looked.more;
        looked = looked_then does s.requests t.1.looked.more a b c before.answering.tally now.answering.tally after.answering.tally s.looked t.1.looked.looked;
        cause = (lt, refl, t.1.looked.once, t.1.faults ∙ s.writes, t.0.1 ∙ s.reads);
      }

  -- a session that stops before its last turn
  pub so_far_end : (a b c : S) (stop : Stop) (before : Outside) (r : Reader) (now : Outside) (served : ℕ) (r' : Reader) (after : Outside) → served < session_limit → SoFar is_reply (Went a b) before r now served
      → IsTurn is_reply (Went b c) (Err stop) r now r' after → HasServed is_reply (Went a c) (end_of stop served) before after
  so_far_end a b c stops.Closed before r now served r' after lt s t =
      dry_end a b c (ends.Closed served) before r now served r' after refl s t.0.0 t.1 t.2 (λ requests ahead quiet. (lt, quiet, t.0.2, t.0.3, t.0.4 ∙ s.reads))
  so_far_end a b c stops.Cut before r now served r' after lt s t =
      dry_end a b c (ends.Cut served) before r now served r' after refl s t.0.0 t.1 t.2
      (λ requests ahead quiet. (lt, quiet, t.0.2, dry_ends before.left requests r' after.left false ahead t.0.1, t.0.3, t.0.4 ∙ s.reads))
  so_far_end a b c (stops.Long place) before r now served r' after lt s t =
      dry_end a b c (ends.Long served place) before r now served r' after refl s t.0.0 t.1 t.2
      (λ requests ahead quiet. (lt, quiet, dry_ends before.left requests r' after.left true ahead t.0.1, t.0.2 ∙ dry_place before.left requests r' after.left ahead t.0.0.none, t.0.3 ∙ s.reads))
  so_far_end a b c stops.Read before r now served r' after lt s t =
      dry_end a b c (ends.Read served) before r now served r' after refl s t.0.0 t.1 t.2
      (λ requests ahead quiet. (lt, quiet, dry_ends before.left requests r' after.left false ahead t.0.1, subst (λ (n : ℕ). Rose n after.faults) s.reads t.0.2))
  so_far_end a b c stops.Write before r now served r' after lt s t = write_end a b c before r now served r' after lt s t
  so_far_end a b c stops.Memory before r now served r' after lt s t = memory_end a b c before r now served r' after lt s t

  -- a session that has played its last turn
  pub so_far_limit : (a b : S) (before : Outside) (r : Reader) (after : Outside) → SoFar is_reply (Went a b) before r after session_limit → HasServed is_reply (Went a b) (ends.Limit session_limit) before after
  so_far_limit a b before r after s = record {
    requests = s.requests;
    replies = s.replies;
    replied = s.replied;
    count = s.count;
    within = ahead_within before.left s.requests r after.left s.ahead;
    behind = framed_all r.ready ++ r.rest;
    read = ahead_behind before.left s.requests r after.left s.ahead;
    beside = [];
    written = quiet_written before.answering.held after.answering.held after.answering.held (framed_all s.replies) s.written refl;
    more = [];
    looked = subst (λ (ks : List (List ℕ)). AreLooked (Went a b) ks before.answering.tally after.answering.tally) (sym (append-nil s.requests)) s.looked;
    cause = (refl, record { none = refl; no_more = refl; same = s.writes }, s.reads);
  }

  -- a turn that stops while reading
  turn_stopped : (a : S) (stop : Stop) (r : Reader) (now : Outside) (r' : Reader) (left : Option (List ℕ)) (faults : ℕ) → IsStopped stop (reading r now.left now.faults) (reading r' left faults)
      → IsTurn is_reply (Went a a) (Err stop) r now r' (outside left faults now.answering)
  turn_stopped a stops.Closed r now r' left faults s = (s, refl, refl)
  turn_stopped a stops.Cut r now r' left faults s = (s, refl, refl)
  turn_stopped a (stops.Long place) r now r' left faults s = (s, refl, refl)
  turn_stopped a stops.Read r now r' left faults s = (s, refl, refl)
  turn_stopped a stops.Write r now r' left faults s = absurd s
  turn_stopped a stops.Memory r now r' left faults s = (s, record { looked = never (Went a a) now.answering.tally now.answering.tally (looked_none does a now.answering.tally); held = refl; faults = refl })

  pub turn_failed : (a : S) (result : Result (Unit {0}) Stop) (stop : Stop) (r : Reader) (now : Outside) (r' : Reader) (left : Option (List ℕ)) (faults : ℕ) → IsErrAnd result (λ e. e ≡ stop)
      → IsStopped stop (reading r now.left now.faults) (reading r' left faults) → IsTurn is_reply (Went a a) result r now r' (outside left faults now.answering)
  turn_failed a (Ok done) stop r now r' left faults is s = absurd is
  turn_failed a (Err e) stop r now r' left faults is s =
      subst (λ (x : Stop). IsTurn is_reply (Went a a) (Err x) r now r' (outside left faults now.answering)) (sym is) (turn_stopped a stop r now r' left faults s)

  -- a turn whose request was read
  pub turn_answered : (a b : S) (request : List ℕ) (result : Result (Unit {0}) Stop) (r : Reader) (now : Outside) (r' : Reader) (left : Option (List ℕ)) (faults : ℕ) (then : Answering)
      → Gives request (reading r now.left now.faults) (reading r' left faults) → faults ≡ now.faults → IsAnswered is_reply (Went a b) request result now.answering then → IsTurn is_reply (Went a b) result r now r' (outside left faults then)
  turn_answered a b request (Ok tt) r now r' left faults then gives same answered = (request, gives, same, answered)
  turn_answered a b request (Err stops.Write) r now r' left faults then gives same answered = (request, gives, same, answered)
  turn_answered a b request (Err stops.Memory) r now r' left faults then gives same answered =
      ((loses_given request (reading r now.left now.faults) (reading r' left faults) gives, same), answered)
  turn_answered a b request (Err stops.Closed) r now r' left faults then gives same answered = absurd answered
  turn_answered a b request (Err stops.Cut) r now r' left faults then gives same answered = absurd answered
  turn_answered a b request (Err (stops.Long place)) r now r' left faults then gives same answered = absurd answered
  turn_answered a b request (Err stops.Read) r now r' left faults then gives same answered = absurd answered

-- at most as many calls as turns
pub so_far_calls : (is_reply : List ℕ → List ℕ → Type 0) (went : List Step → Type 0) (before : Outside) (r : Reader) (now : Outside) (served : ℕ) → SoFar is_reply went before r now served
    → now.answering.tally.calls ≤ before.answering.tally.calls + served
so_far_calls is_reply went before r now served s =
    let few = calls_few went s.requests before.answering.tally now.answering.tally s.looked in
    omega (arith, few, s.count)

-- a session, of whose maker's steps nothing is stated
pub stepless : (is_reply : List ℕ → List ℕ → Type 0) (went : List Step → Type 0) (end : SessionEnd) (before after : Outside) → HasServed is_reply went end before after → HasServed is_reply (λ steps. Unit {0}) end before after
stepless is_reply went end before after h = record {
  requests = h.requests;
  replies = h.replies;
  replied = h.replied;
  count = h.count;
  within = h.within;
  behind = h.behind;
  read = h.read;
  beside = h.beside;
  written = h.written;
  more = h.more;
  looked = record { finds = h.looked.finds; each = h.looked.each; steps = tt; tally = h.looked.tally };
  cause = h.cause;
}
