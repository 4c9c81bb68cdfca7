-- Peers: the two ends of many sessions, and how each was served.
use Rattle.std.specs.Prelude.{◌≡◌, ℕ, ◌<◌, ◌≤◌, ◌^◌, List, length, Option, None, IsSomeAnd, slice_index_or}
use Rattle.reply_cache.specs.Steps.{Step, Leads}
use Rattle.solve_serve.specs.declared.peers.Peer.{Peer}
use Rattle.solve_serve.specs.Answers.{tally, answering}
use Rattle.solve_serve.specs.Session.{Outside, outside, HasServed}

-- the most peers
abbrev pub peer_limit : ℕ
peer_limit = 64

-- the most workers that serve them
abbrev pub server_limit : ℕ
server_limit = 16

module _ {S K M A B : Type 0} (made : M → ℕ) where
  -- a peer whose session has not begun: its share has at least one part of the count of looks and
  -- at least one of the count of misses; and its maker was called at most 2^62 times
  pub record IsFresh (p : Peer S K M A B) : Type 0 where
    pub endless : p.end ≡ None
    pub look_parts : 0 < p.share.looks.parts
    pub miss_parts : 0 < p.share.misses.parts
    pub calls : made p.maker ≤ 2 ^ 62

module _ {S K M A B : Type 0} (left : S → Option (List ℕ)) (reads : S → ℕ) (held : K → Option (List ℕ)) (writes : K → ℕ) (made : M → ℕ) where
  -- the outside of a peer's session: what its source has left, its sink, and its counts of looks,
  -- misses and calls
  abbrev pub outside_of : Peer S K M A B → Outside
  outside_of p = outside (left p.source) (reads p.source) (answering (held p.sink) (writes p.sink) (tally p.share.looks.amount p.share.misses.amount (made p.maker)))

  module _ (does : M → Step → M → Type 0) where
    -- a peer was served: its session has an end, which belongs to what was read and written
    pub record IsServed (is_reply : List ℕ → List ℕ → Type 0) (before after : Peer S K M A B) : Type 0 where
      pub ended : IsSomeAnd after.end (λ end. HasServed is_reply (λ steps. Leads does steps before.maker after.maker) end (outside_of before) (outside_of after))
      pub look_parts : after.share.looks.parts ≡ before.share.looks.parts
      pub miss_parts : after.share.misses.parts ≡ before.share.misses.parts

    -- each peer was served
    pub record AreServed (is_reply : List ℕ → List ℕ → Type 0) (before after : List (Peer S K M A B)) : Type 0 where
      pub size : length after ≡ length before
      pub each : (i : ℕ) (d : Peer S K M A B) → i < length before → IsServed is_reply (slice_index_or before i d) (slice_index_or after i d)
