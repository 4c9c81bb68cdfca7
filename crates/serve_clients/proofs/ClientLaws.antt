-- Peers that are accepted one after another, and given back in the same order.
use Rattle.std.proofs.Common.{◌≡◌, ℕ, ◌+◌, List, [], ◌∷◌, ◌++◌, map, length, drop, All, Option, IsSome, refl, sym, ap, subst, ◌∙◌, append_assoc, arith, length-append}
use Rattle.std.proofs.lemmas.List.{map-append}
use Rattle.std.proofs.lemmas.List.Elements.{All-nil, All-push, All-head, All-tail}
use Rattle.solve_serve.specs.declared.peers.Peer.{Peer}
use Rattle.solve_serve.specs.declared.end.SessionEnd.{SessionEnd}
use Rattle.solve_serve.specs.Peers.{IsFresh}
use Rattle.serve_clients.specs.Listener.{first_of, last_of}
use Rattle.serve_clients.specs.Sessions.{total, all_before, all_behind}
use Rattle.serve_clients.specs.Clients.{connection, end_of, looks_of, look_parts_of, miss_parts_of, IsNew}
use Rattle.serve_clients.proofs.ConnectionLaws.{all_before_none, all_before_more, all_behind_more}

-- the state of a listener: its faults, the connections that wait and those that were given back,
-- and how many are out
pub record Standing (S K : Type 0) : Type 0 where
  pub faults : ℕ
  pub waiting : Option (List (S × K))
  pub closed : Option (List (S × K))
  pub lent : ℕ

-- the listener in this state
abbrev pub standing : {S K : Type 0} → ℕ → Option (List (S × K)) → Option (List (S × K)) → ℕ → Standing S K
standing faults waiting closed lent = record { faults = faults; waiting = waiting; closed = closed; lent = lent }

-- a list that is its own rest is empty
pub nothing_left : {X : Type 0} (xs : List X) → xs ≡ drop 1 xs → xs ≡ []
nothing_left [] e = refl
nothing_left (x ∷ xs) e = absurd (omega (arith, ap length e))

-- what is counted when peers are given back: the ends that were noted, and the looks and the parts
-- of the whole share
pub record Counted : Type 0 where
  pub ends : List SessionEnd
  pub looks : ℕ
  pub look_parts : ℕ
  pub miss_parts : ℕ

-- these counts
abbrev pub counted : List SessionEnd → ℕ → ℕ → ℕ → Counted
counted ends looks look_parts miss_parts = record { ends = ends; looks = looks; look_parts = look_parts; miss_parts = miss_parts }

module _ {S K M A B : Type 0} where
  -- these peers were accepted
  pub record HaveCome (made : M → ℕ) (peers : List (Peer S K M A B)) (before now : Standing S K) : Type 0 where
    pub new : All (λ p. IsNew made p) peers
    pub same : now.faults ≡ before.faults
    pub taken : before.waiting ≡ all_before (map (λ p. connection p) peers) now.waiting
    pub kept : now.closed ≡ before.closed
    pub out : now.lent ≡ before.lent + length peers

  pub none_came : (made : M → ℕ) (before : Standing S K) → HaveCome made [] before before
  none_came made before = record { new = All-nil (λ p. IsNew made p); same = refl; taken = sym (all_before_none before.waiting); kept = refl; out = omega arith }

  -- one more
  pub one_came : (made : M → ℕ) (peers : List (Peer S K M A B)) (p : Peer S K M A B) (before now after : Standing S K) → HaveCome made peers before now → IsNew made p → after.faults ≡ now.faults
      → now.waiting ≡ first_of (connection p) after.waiting → after.closed ≡ now.closed → after.lent ≡ now.lent + 1 → HaveCome made (peers ++ p ∷ []) before after
  one_came made peers p before now after h new same taken kept out = record {
    new = All-push (λ q. IsNew made q) peers p h.new new;
    same = same ∙ h.same;
    taken = h.taken ∙ ap (λ (w : Option (List (S × K))). all_before (map (λ q. connection q) peers) w) taken ∙ all_before_more (map (λ q. connection q) peers) (connection p) after.waiting
        ∙ ap (λ (cs : List (S × K)). all_before cs after.waiting) (sym (map-append (λ q. connection q) peers (p ∷ [])));
    kept = kept ∙ h.kept;
    out = omega (arith, out, h.out, length-append peers (p ∷ []));
  }

  -- one was given back, and those after it will be
  pub one_back : (all : Option (List (S × K))) (p : Peer S K M A B) (old rest : List (Peer S K M A B)) (closed closed' : Option (List (S × K))) → all ≡ all_behind closed (map (λ q. connection q) old) → old ≡ p ∷ rest
      → closed' ≡ last_of closed (connection p) → all ≡ all_behind closed' (map (λ q. connection q) rest)
  one_back all p old rest closed closed' h first back =
      h ∙ ap (λ (ps : List (Peer S K M A B)). all_behind closed (map (λ q. connection q) ps)) first ∙ sym (all_behind_more closed (connection p) (map (λ q. connection q) rest))
      ∙ ap (λ (c : Option (List (S × K))). all_behind c (map (λ q. connection q) rest)) (sym back)

  -- a peer that was just accepted can be served
  pub fresh_peers : (made : M → ℕ) (peers : List (Peer S K M A B)) → All (λ p. IsNew made p) peers → All (λ p. IsFresh made p) peers
  fresh_peers made peers new k d lt =
      let n = new k d lt in
      record { endless = n.endless; look_parts = omega (arith, n.look_parts); miss_parts = omega (arith, n.miss_parts); calls = omega (arith, n.calls) }

  -- of all peers these are still to be given back, and then all are
  pub record AreLeft (all rest : List (Peer S K M A B)) (closed closed' : Option (List (S × K))) (before now : Counted) : Type 0 where
    pub given : all_behind closed (map (λ p. connection p) all) ≡ all_behind closed' (map (λ p. connection p) rest)
    pub told : before.ends ++ map (λ p. end_of p) all ≡ now.ends ++ map (λ p. end_of p) rest
    pub looked : before.looks + total (λ p. looks_of p) all ≡ now.looks + total (λ p. looks_of p) rest
    pub look_shares : before.look_parts + total (λ p. look_parts_of p) all ≡ now.look_parts + total (λ p. look_parts_of p) rest
    pub miss_shares : before.miss_parts + total (λ p. miss_parts_of p) all ≡ now.miss_parts + total (λ p. miss_parts_of p) rest
    pub ended : All (λ p. IsSome p.end) rest

  pub all_left : (all : List (Peer S K M A B)) (closed : Option (List (S × K))) (before : Counted) → All (λ p. IsSome p.end) all → AreLeft all all closed closed before before
  all_left all closed before ended = record { given = refl; told = refl; looked = refl; look_shares = refl; miss_shares = refl; ended = ended }

  -- one was given back
  pub one_less : (all : List (Peer S K M A B)) (p : Peer S K M A B) (old rest : List (Peer S K M A B)) (closed closed' closed'' : Option (List (S × K))) (before now after : Counted) → AreLeft all old closed closed' before now
      → old ≡ p ∷ rest → closed'' ≡ last_of closed' (connection p) → after.ends ≡ now.ends ++ end_of p ∷ [] → after.looks ≡ now.looks + looks_of p
      → after.look_parts ≡ now.look_parts + look_parts_of p → after.miss_parts ≡ now.miss_parts + miss_parts_of p → AreLeft all rest closed closed'' before after
  one_less all p old rest closed closed' closed'' before now after h first back told looked look_shares miss_shares =
      let from : AreLeft all (p ∷ rest) closed closed' before now = subst (λ (ps : List (Peer S K M A B)). AreLeft all ps closed closed' before now) first h in
      record {
        given = from.given ∙ sym (all_behind_more closed' (connection p) (map (λ q. connection q) rest)) ∙ ap (λ (c : Option (List (S × K))). all_behind c (map (λ q. connection q) rest)) (sym back);
        told = from.told ∙ sym (append_assoc now.ends (end_of p ∷ []) (map (λ q. end_of q) rest)) ∙ ap (λ (es : List SessionEnd). es ++ map (λ q. end_of q) rest) (sym told);
        looked = omega (arith, from.looked, looked);
        look_shares = omega (arith, from.look_shares, look_shares);
        miss_shares = omega (arith, from.miss_shares, miss_shares);
        ended = All-tail (λ q. IsSome q.end) p rest from.ended;
      }

  -- the next one has its end
  pub first_ended : (all : List (Peer S K M A B)) (p : Peer S K M A B) (old rest : List (Peer S K M A B)) (closed closed' : Option (List (S × K))) (before now : Counted) → AreLeft all old closed closed' before now → old ≡ p ∷ rest → IsSome p.end
  first_ended all p old rest closed closed' before now h first = All-head (λ q. IsSome q.end) p rest (subst (λ (ps : List (Peer S K M A B)). All (λ q. IsSome q.end) ps) first h.ended)

  -- none is left
  pub none_left : (all old : List (Peer S K M A B)) (closed closed' : Option (List (S × K))) (before now : Counted) → AreLeft all old closed closed' before now → old ≡ [] → AreLeft all [] closed closed' before now
  none_left all old closed closed' before now h none = subst (λ (ps : List (Peer S K M A B)). AreLeft all ps closed closed' before now) none h
