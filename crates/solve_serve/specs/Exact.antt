-- The end of a session is that of its input, its requests are the first of the input, and its
-- replies are the only ones.
use Rattle.std.specs.Prelude.{◌≡◌, ℕ, nat_le, min, Bool, true, false, List, [], ◌∷◌, length, take, Some, if◌then◌else◌}
use Rattle.dcop_base.specs.Limits.{count_limit}
use Rattle.reply_cache.specs.Steps.{Step, Leads}
use Rattle.wire_frames.specs.Frame.{framed_all}
use Rattle.wire_frames.specs.Run.{Splits}
use Rattle.solve_serve.specs.Limits.{request_limit, session_limit}
use Rattle.solve_serve.specs.Session.{Outside, served_by, HasServed}
use Rattle.solve_serve.specs.declared.end.SessionEnd.{SessionEnd}
use Rattle.solve_serve.specs.declared.end.SessionEnd.TheVariants as ends

-- whether the input made this end, and not a fault or running out of memory
abbrev pub is_of_input : SessionEnd → Bool
is_of_input (ends.Closed served) = true
is_of_input (ends.Cut served) = true
is_of_input (ends.Long served place) = true
is_of_input (ends.Limit served) = true
is_of_input (ends.Read served) = false
is_of_input (ends.Write served) = false
is_of_input (ends.Memory served) = false

-- how a session ends after this many whole frames: closed if no bytes follow them, cut if some do
abbrev pub end_behind : List ℕ → ℕ → SessionEnd
end_behind [] served = ends.Closed served
end_behind (b ∷ bs) served = ends.Cut served

-- the end of a session on the frames of these payloads and this rest, which is less than a frame
-- or, if `stuck`, begins with a length field above the limit; if there are at least session_limit
-- payloads, the end is that of the limit of replies, whatever follows
abbrev pub end_for : List (List ℕ) → List ℕ → Bool → SessionEnd
end_for payloads rest stuck =
    if nat_le session_limit (length payloads) then ends.Limit session_limit
    else (if stuck then ends.Long (length payloads) (min (length (framed_all payloads)) count_limit)
    else end_behind rest (length payloads))

module _ {S : Type 0} (does : S → Step → S → Type 0) (is_reply : List ℕ → List ℕ → Type 0) where
  -- a session ended so, and the steps of its looks and of the replies that were made led its maker
  -- from one state to another
  abbrev pub Serves : S → S → SessionEnd → Outside → Outside → Type 0
  Serves a b end before after = HasServed is_reply (λ steps. Leads does steps a b) end before after

  -- if a source's bytes are known, and neither a fault nor running out of memory ends the session,
  -- its end is that of the whole input
  abbrev pub EndsExactly : Type 0
  EndsExactly = (a b : S) (end : SessionEnd) (before after : Outside) (stream : List ℕ) (payloads : List (List ℕ)) (rest : List ℕ) (stuck : Bool)
      → before.left ≡ Some stream → Splits request_limit stream payloads rest stuck → Serves a b end before after → is_of_input end ≡ true → end ≡ end_for payloads rest stuck

  -- if a source's bytes are known, the requests that were answered are the first payloads of the
  -- whole input
  abbrev pub AnswersFirst : Type 0
  AnswersFirst = (a b : S) (end : SessionEnd) (before after : Outside) (stream : List ℕ) (payloads : List (List ℕ)) (rest : List ℕ) (stuck : Bool)
      → before.left ≡ Some stream → Splits request_limit stream payloads rest stuck → (h : Serves a b end before after) → h.requests ≡ take (served_by end) payloads

  -- two sessions that answered the same requests gave the same replies; so a cache changes no reply
  abbrev pub RepliesAreOne : Type 0
  RepliesAreOne = (a b a' b' : S) (end end' : SessionEnd) (before after before' after' : Outside) (h : Serves a b end before after) (h' : Serves a' b' end' before' after')
      → h.requests ≡ h'.requests → h.replies ≡ h'.replies
