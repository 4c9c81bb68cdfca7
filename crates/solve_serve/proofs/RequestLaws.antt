-- How a reading goes on.
use Rattle.std.proofs.Common.{◌≡◌, ℕ, ◌≤◌, false, List, [], ◌∷◌, ◌++◌, length, All, Option, Some, None, Result, Ok, Err, IsErrAnd, refl, sym, ap, subst, ◌∙◌, append_assoc}
use Rattle.std.specs.Io.KnownBytes.{prepend_known, IsAtEnd}
use Rattle.wire_frames.specs.Frame.{framed_all}
use Rattle.wire_frames.specs.Reader.{Reader, Takes, Hands, first_of, after_first}
use Rattle.wire_frames.proofs.StreamLaws.{takes_on, hands_on}
use Rattle.solve_serve.specs.Limits.{request_limit}
use Rattle.solve_serve.specs.Requests.{IsAhead, Reading, reading, GoesOn, Gives, Loses, RunsDry, IsStopped, IsNext, IsPlace, IsPiece, IsEnd, IsTaken}
use Rattle.solve_serve.specs.declared.stop.Stop.{Stop}
use Rattle.solve_serve.specs.declared.stop.Stop.TheVariants as stops
use Rattle.solve_serve.proofs.ListLaws.{prepend_twice, framed_front, All-front}

-- after the requests that were handed out come the frames of those that are held, and then the rest
pub ahead_behind : (start : Option (List ℕ)) (requests : List (List ℕ)) (r : Reader) (left : Option (List ℕ)) → IsAhead start requests r left
    → start ≡ prepend_known (framed_all requests ++ (framed_all r.ready ++ r.rest)) left
ahead_behind start requests r left h = h.read ∙ ap (λ (x : List ℕ). prepend_known x left) (h.stands.splits.whole ∙ framed_front requests r.ready r.rest)

-- no request is longer than the limit
pub ahead_within : (start : Option (List ℕ)) (requests : List (List ℕ)) (r : Reader) (left : Option (List ℕ)) → IsAhead start requests r left
    → All (λ request. length request ≤ request_limit) requests
ahead_within start requests r left h =
    subst (λ (n : ℕ). All (λ request. length request ≤ n) requests) h.limit (All-front (λ request. length request ≤ r.limit) requests r.ready h.stands.splits.within)

pub loses_on : (before after : Reading) → GoesOn before after → Loses before after
loses_on before after on = λ start requests h. (_, ahead_behind start requests after.reader after.left (on start requests h))

pub loses_given : (request : List ℕ) (before after : Reading) → Gives request before after → Loses before after
loses_given request before after gives = λ start requests h.
    let ahead = gives start requests h in
    (_, ahead_behind start (requests ++ request ∷ []) after.reader after.left ahead ∙ ap (λ (x : List ℕ). prepend_known x after.left) (framed_front requests (request ∷ []) (framed_all after.reader.ready ++ after.reader.rest)))

no_first : (ready : List (List ℕ)) → None ≡ first_of ready → ready ≡ []
no_first [] e = refl
no_first (p ∷ ps) e = cc

-- a reader that hands out nothing holds nothing, and is unchanged
pub hands_nothing : (before after : Reader) → Hands before None after → (before.ready ≡ []) × (after ≡ before)
hands_nothing before after hands =
    let none = no_first before.ready hands.first in
    (none, hands.left ∙ ap (λ (ready : List (List ℕ)). record before { ready = ready }) (ap after_first none ∙ sym none))

pub hands_request : (request : List ℕ) (before after : Reader) (left : Option (List ℕ)) (faults : ℕ) → Hands before (Some request) after → Gives request (reading before left faults) (reading after left faults)
hands_request request before after left faults hands = λ start requests h. record {
  stream = h.stream;
  read = h.read;
  stands = hands_on h.stream request requests before after h.stands hands;
  limit = ap (λ (r : Reader). r.limit) hands.left ∙ h.limit;
}

pub takes_piece : (piece : List ℕ) (before after : Reader) (left left' : Option (List ℕ)) (faults faults' : ℕ) → left ≡ prepend_known piece left' → Takes before piece after
    → GoesOn (reading before left faults) (reading after left' faults')
takes_piece piece before after left left' faults faults' given takes = λ start requests h. record {
  stream = h.stream ++ piece;
  read = h.read ∙ ap (λ (x : Option (List ℕ)). prepend_known h.stream x) given ∙ prepend_twice h.stream piece left';
  stands = takes_on h.stream piece requests before after h.stands takes;
  limit = takes.limit ∙ h.limit;
}

-- a piece that could not be taken is lost
pub loses_piece : (piece : List ℕ) (r : Reader) (left left' : Option (List ℕ)) (faults faults' : ℕ) → left ≡ prepend_known piece left' → Loses (reading r left faults) (reading r left' faults')
loses_piece piece r left left' faults faults' given = λ start requests h. (
  (framed_all r.ready ++ r.rest) ++ piece,
  ahead_behind start requests r left h ∙ ap (λ (x : Option (List ℕ)). prepend_known (framed_all requests ++ (framed_all r.ready ++ r.rest)) x) given
      ∙ prepend_twice (framed_all requests ++ (framed_all r.ready ++ r.rest)) piece left'
      ∙ ap (λ (x : List ℕ). prepend_known x left') (append_assoc (framed_all requests) (framed_all r.ready ++ r.rest) piece),
)

-- if nothing is left or a read failed, the reading is as it was
pub stays : (r : Reader) (left left' : Option (List ℕ)) (faults faults' : ℕ) → left' ≡ left → GoesOn (reading r left faults) (reading r left' faults')
stays r left left' faults faults' same = λ start requests h. subst (λ (x : Option (List ℕ)). IsAhead start requests r x) (sym same) h

-- the end of the input
pub ends_input : (stop : Stop) (r : Reader) (left left' : Option (List ℕ)) (faults faults' : ℕ) → IsEnd r stop → r.ready ≡ [] → r.stuck ≡ false → left' ≡ left → IsAtEnd left' → faults' ≡ faults
    → IsStopped stop (reading r left faults) (reading r left' faults')
ends_input stops.Closed r left left' faults faults' end none free same at quiet = (record { on = stays r left left' faults faults' same; none = none }, free, end, at, quiet)
ends_input stops.Cut r left left' faults faults' end none free same at quiet = (record { on = stays r left left' faults faults' same; none = none }, free, end, at, quiet)
ends_input (stops.Long place) r left left' faults faults' end none free same at quiet = absurd end
ends_input stops.Read r left left' faults faults' end none free same at quiet = absurd end
ends_input stops.Write r left left' faults faults' end none free same at quiet = absurd end
ends_input stops.Memory r left left' faults faults' end none free same at quiet = absurd end

dry_after : (a b c : Reading) → GoesOn a b → RunsDry b c → RunsDry a c
dry_after a b c on dry = record { on = λ start requests h. dry.on start requests (on start requests h); none = dry.none }

-- a reading that went on before it stopped
pub stopped_after : (stop : Stop) (a b c : Reading) → GoesOn a b → b.faults ≡ a.faults → IsStopped stop b c → IsStopped stop a c
stopped_after stops.Closed a b c on same s = (dry_after a b c on s.0, s.1, s.2, s.3, s.4 ∙ same)
stopped_after stops.Cut a b c on same s = (dry_after a b c on s.0, s.1, s.2, s.3, s.4 ∙ same)
stopped_after (stops.Long place) a b c on same s = (dry_after a b c on s.0, s.1, s.2, s.3 ∙ same)
stopped_after stops.Read a b c on same s = (dry_after a b c on s.0, s.1, rw (← same) s.2)
stopped_after stops.Write a b c on same s = absurd s
stopped_after stops.Memory a b c on same s = ((λ start requests h. s.0 start requests (on start requests h)), s.1 ∙ same)

-- a reading that went on before it gave a request
pub gives_after : (request : List ℕ) (a b c : Reading) → GoesOn a b → Gives request b c → Gives request a c
gives_after request a b c on gives = λ start requests h. gives start requests (on start requests h)

pub on_after : (a b c : Reading) → GoesOn a b → GoesOn b c → GoesOn a c
on_after a b c on more = λ start requests h. more start requests (on start requests h)

-- a piece that was read, and taken or not
pub piece_taken : (result : Result (Option ℕ) Stop) (piece : List ℕ) (r r' : Reader) (left left' : Option (List ℕ)) (faults faults' : ℕ) → left ≡ prepend_known piece left' → faults' ≡ faults → IsTaken r piece result r'
    → IsPiece result (reading r left faults) (reading r' left' faults')
piece_taken (Ok place) piece r r' left left' faults faults' given same taken = (takes_piece piece r r' left left' faults faults' given taken.0, taken.1, same)
piece_taken (Err stops.Memory) piece r r' left left' faults faults' given same taken =
    ((λ start requests h. loses_piece piece r left left' faults faults' given start requests h), same)
piece_taken (Err stops.Closed) piece r r' left left' faults faults' given same taken = absurd taken
piece_taken (Err stops.Cut) piece r r' left left' faults faults' given same taken = absurd taken
piece_taken (Err (stops.Long place)) piece r r' left left' faults faults' given same taken = absurd taken
piece_taken (Err stops.Read) piece r r' left left' faults faults' given same taken = absurd taken
piece_taken (Err stops.Write) piece r r' left left' faults faults' given same taken = absurd taken

-- a reading that has handed out nothing yet
pub record HasGoneOn (before : Reading) (place : Option ℕ) (now : Reading) : Type 0 where
  pub at : IsPlace place now.reader
  pub on : GoesOn before now
  pub same : now.faults ≡ before.faults

pub gone_on_none : (before : Reading) (place : Option ℕ) → IsPlace place before.reader → HasGoneOn before place before
gone_on_none before place at = record { at = at; on = λ start requests h. h; same = refl }

-- the reader held a request
pub next_given : (before now : Reading) (place : Option ℕ) (request : List ℕ) (r : Reader) → HasGoneOn before place now → Hands now.reader (Some request) r
    → IsNext (Ok request) before (reading r now.left now.faults)
next_given before now place request r h hands =
    (gives_after request before now (reading r now.left now.faults) h.on (hands_request request now.reader r now.left now.faults hands), h.same)

-- handing out keeps the place
pub place_kept : (place : Option ℕ) (before after : Reader) (given : Option (List ℕ)) → IsPlace place before → Hands before given after → IsPlace place after
place_kept None before after given at hands = ap (λ (r : Reader). r.stuck) hands.left ∙ at
place_kept (Some place) before after given at hands = (ap (λ (r : Reader). r.stuck) hands.left ∙ at.0, at.1 ∙ sym (ap (λ (r : Reader). r.place) hands.left))

-- the reader held nothing
pub gone_on_empty : (before now : Reading) (place : Option ℕ) (r : Reader) → HasGoneOn before place now → Hands now.reader None r → HasGoneOn before place (reading r now.left now.faults)
gone_on_empty before now place r h hands =
    subst (λ (x : Reader). HasGoneOn before place (reading x now.left now.faults)) (sym (hands_nothing now.reader r hands).1) h

pub empty_after : (before after : Reader) → Hands before None after → after.ready ≡ []
empty_after before after hands = let h = hands_nothing before after hands in ap (λ (r : Reader). r.ready) h.1 ∙ h.0

-- a reader that holds nothing is at a length field that is too long
pub stands_long : (place : ℕ) (now : Reading) → IsPlace (Some place) now.reader → now.reader.ready ≡ [] → IsStopped (stops.Long place) now now
stands_long place now at none = (record { on = λ start requests h. h; none = none }, at.0, at.1, refl)

-- one more piece was read
pub gone_on_more : (before now after : Reading) (place place' : Option ℕ) → HasGoneOn before place now → IsPiece (Ok place') now after → HasGoneOn before place' after
gone_on_more before now after place place' h piece = record { at = piece.1; on = on_after before now after h.on piece.0; same = piece.2 ∙ h.same }

-- no further piece came
pub next_stopped : (result : Result (List ℕ) Stop) (stop : Stop) (before now after : Reading) (place : Option ℕ) → HasGoneOn before place now → IsPiece (Err stop) now after → IsErrAnd result (λ s. s ≡ stop) → IsNext result before after
next_stopped (Ok request) stop before now after place h piece is = absurd is
next_stopped (Err s) stop before now after place h piece is =
    subst (λ (t : Stop). IsStopped t before after) (sym is) (stopped_after stop before now after h.on h.same piece)
