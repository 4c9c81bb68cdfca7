-- Peers that are accepted and given back.
use Rattle.std.specs.Prelude.{◌≡◌, ℕ, Option, Some, None}
use Rattle.solve_serve.specs.declared.peers.Peer.{Peer}
use Rattle.solve_serve.specs.declared.end.SessionEnd.{SessionEnd}
use Rattle.solve_serve.specs.declared.end.SessionEnd.TheVariants.{Memory}

-- the end that is given; Memory 0 if none is
abbrev pub end_in : Option SessionEnd → SessionEnd
end_in (Some end) = end
end_in None = Memory 0

module _ {S K M A B : Type 0} where
  -- the connection of a peer
  abbrev pub connection : Peer S K M A B → S × K
  connection p = (p.source, p.sink)

  -- how a peer's session ended
  abbrev pub end_of : Peer S K M A B → SessionEnd
  end_of p = end_in p.end

  -- a peer's looks, and its parts of both ledgers
  abbrev pub looks_of : Peer S K M A B → ℕ
  looks_of p = p.share.looks.amount

  abbrev pub look_parts_of : Peer S K M A B → ℕ
  look_parts_of p = p.share.looks.parts

  abbrev pub miss_parts_of : Peer S K M A B → ℕ
  miss_parts_of p = p.share.misses.parts

  -- a peer that was just accepted, with one part of each ledger
  pub record IsNew (made : M → ℕ) (p : Peer S K M A B) : Type 0 where
    pub endless : p.end ≡ None
    pub look_parts : p.share.looks.parts ≡ 1
    pub miss_parts : p.share.misses.parts ≡ 1
    pub looks : p.share.looks.amount ≡ 0
    pub misses : p.share.misses.amount ≡ 0
    pub calls : made p.maker ≡ 0
