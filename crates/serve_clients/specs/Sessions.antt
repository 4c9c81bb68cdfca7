-- The sessions of a server, each from the connection that was accepted to the one that was given
-- back.
use Rattle.std.specs.Prelude.{◌≡◌, ℕ, ◌+◌, List, [], ◌∷◌, ◌++◌, map, length, Option, option_map}
use Rattle.solve_serve.specs.Answers.{Tally, tally, answering}
use Rattle.solve_serve.specs.Session.{Outside, outside, HasServed}
use Rattle.solve_serve.specs.declared.end.SessionEnd.{SessionEnd}

-- the sum of what each element counts
abbrev pub total : {X : Type 0} → (X → ℕ) → List X → ℕ
total f [] = 0
total f (x ∷ xs) = f x + total f xs

-- known connections with these before them
abbrev pub all_before : {C : Type 0} → List C → Option (List C) → Option (List C)
all_before cs known = option_map (λ xs. cs ++ xs) known

-- known connections with these after them
abbrev pub all_behind : {C : Type 0} → Option (List C) → List C → Option (List C)
all_behind known cs = option_map (λ xs. xs ++ cs) known

-- the connections that were accepted, if any, were given back unchanged and in order
pub record AreReturned {C : Type 0} (waiting waiting' closed closed' : Option (List C)) : Type 0 where
  pub connections : List C
  pub taken : waiting ≡ all_before connections waiting'
  pub given : closed' ≡ all_behind closed connections

-- a session: the connection as it was accepted and as it was given back, how the session ended, and
-- its looks, misses and calls
pub record Session (S K : Type 0) : Type 0 where
  pub taken : S × K
  pub given : S × K
  pub end : SessionEnd
  pub tally : Tally

module _ {S K : Type 0} (left : S → Option (List ℕ)) (reads : S → ℕ) (held : K → Option (List ℕ)) (writes : K → ℕ) where
  -- what is outside of a session with this connection and this tally
  abbrev pub outside_with : S × K → Tally → Outside
  outside_with c t = outside (left c.0) (reads c.0) (answering (held c.1) (writes c.1) t)

  -- a session with a fresh maker ended so; of the maker's steps nothing is stated
  abbrev pub WasServed : (List ℕ → List ℕ → Type 0) → Session S K → Type 0
  WasServed is_reply s = HasServed is_reply (λ steps. Unit {0}) s.end (outside_with s.taken (tally 0 0 0)) (outside_with s.given s.tally)

  -- each session ended so
  abbrev pub WereServed : (List ℕ → List ℕ → Type 0) → List (Session S K) → Type 0
  WereServed is_reply [] = Unit {0}
  WereServed is_reply (s ∷ ss) = WasServed is_reply s × WereServed is_reply ss

  -- a server served `clients` clients: these are the ends of their sessions, with this many looks
  -- together, and the connections that waited first were given back, in the same order
  pub record HaveServed (is_reply : List ℕ → List ℕ → Type 0) (clients : ℕ) (ends : List SessionEnd) (looks : ℕ) (waiting waiting' closed closed' : Option (List (S × K))) : Type 0 where
    pub sessions : List (Session S K)
    pub each : WereServed is_reply sessions
    pub count : length ends ≡ clients
    pub told : ends ≡ map (λ s. s.end) sessions
    pub looked : looks ≡ total (λ s. s.tally.looks) sessions
    pub taken : waiting ≡ all_before (map (λ s. s.taken) sessions) waiting'
    pub given : closed' ≡ all_behind closed (map (λ s. s.given) sessions)
