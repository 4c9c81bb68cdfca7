-- Peers that were served are the sessions of a server.
use Rattle.std.proofs.Common.{◌≡◌, ℕ, suc, ◌+◌, List, [], ◌∷◌, map, length, All, Option, Some, None, IsSome, IsSomeAnd, refl, sym, ap, subst, ◌∙◌, arith}
use Rattle.std.proofs.lemmas.List.{length-map}
use Rattle.std.proofs.lemmas.List.Elements.{All-nil, All-cons, All-head, All-tail}
use Rattle.reply_cache.specs.Steps.{Step, Leads}
use Rattle.solve_serve.specs.declared.peers.Peer.{Peer}
use Rattle.solve_serve.specs.declared.end.SessionEnd.{SessionEnd}
use Rattle.solve_serve.specs.Answers.{tally}
use Rattle.solve_serve.specs.Session.{Outside, HasServed}
use Rattle.solve_serve.specs.Peers.{outside_of, IsServed, AreServed}
use Rattle.solve_serve.proofs.SessionLaws.{stepless}
use Rattle.serve_clients.specs.Sessions.{total, all_before, all_behind, Session, outside_with, WasServed, WereServed, HaveServed}
use Rattle.serve_clients.specs.Clients.{end_in, connection, end_of, looks_of, look_parts_of, miss_parts_of, IsNew}

ended_so : (o : Option SessionEnd) (P : SessionEnd → Type 0) → IsSomeAnd o P → P (end_in o)
ended_so None P h = absurd h
ended_so (Some end) P h = h

some_end : (o : Option SessionEnd) (P : SessionEnd → Type 0) → IsSomeAnd o P → IsSome o
some_end None P h = absurd h
some_end (Some end) P h = refl

module _ {S K M A B : Type 0} (made : M → ℕ) where
  -- the session of a peer, from before and after it
  abbrev pub session_of : Peer S K M A B → Peer S K M A B → Session S K
  session_of p q = record { taken = connection p; given = connection q; end = end_of q; tally = tally q.share.looks.amount q.share.misses.amount (made q.maker) }

  -- the sessions of peers
  abbrev pub sessions_of : List (Peer S K M A B) → List (Peer S K M A B) → List (Session S K)
  sessions_of [] qs = []
  sessions_of (p ∷ ps) [] = []
  sessions_of (p ∷ ps) (q ∷ qs) = session_of p q ∷ sessions_of ps qs

  pub taken_of : (ps qs : List (Peer S K M A B)) → length qs ≡ length ps → map (λ s. s.taken) (sessions_of ps qs) ≡ map (λ p. connection p) ps
  taken_of [] qs long = refl
  taken_of (p ∷ ps) [] long = absurd (omega (arith, long))
  taken_of (p ∷ ps) (q ∷ qs) long = ap (λ (cs : List (S × K)). connection p ∷ cs) (taken_of ps qs (omega (arith, long)))

  pub given_of : (ps qs : List (Peer S K M A B)) → length qs ≡ length ps → map (λ s. s.given) (sessions_of ps qs) ≡ map (λ q. connection q) qs
  given_of [] [] long = refl
  given_of [] (q ∷ qs) long = absurd (omega (arith, long))
  given_of (p ∷ ps) [] long = refl
  given_of (p ∷ ps) (q ∷ qs) long = ap (λ (cs : List (S × K)). connection q ∷ cs) (given_of ps qs (omega (arith, long)))

  pub ends_of : (ps qs : List (Peer S K M A B)) → length qs ≡ length ps → map (λ s. s.end) (sessions_of ps qs) ≡ map (λ q. end_of q) qs
  ends_of [] [] long = refl
  ends_of [] (q ∷ qs) long = absurd (omega (arith, long))
  ends_of (p ∷ ps) [] long = refl
  ends_of (p ∷ ps) (q ∷ qs) long = ap (λ (es : List SessionEnd). end_of q ∷ es) (ends_of ps qs (omega (arith, long)))

  pub looks_all : (ps qs : List (Peer S K M A B)) → length qs ≡ length ps → total (λ s. s.tally.looks) (sessions_of ps qs) ≡ total (λ q. looks_of q) qs
  looks_all [] [] long = refl
  looks_all [] (q ∷ qs) long = absurd (omega (arith, long))
  looks_all (p ∷ ps) [] long = refl
  looks_all (p ∷ ps) (q ∷ qs) long = ap (λ (n : ℕ). looks_of q + n) (looks_all ps qs (omega (arith, long)))

  -- all peers together have one part of each ledger for each of them
  pub one_each : (f : Peer S K M A B → ℕ) (qs : List (Peer S K M A B)) → All (λ q. f q ≡ 1) qs → total f qs ≡ length qs
  one_each f [] each = refl
  one_each f (q ∷ qs) each =
      let head : f q ≡ 1 = All-head (λ q. f q ≡ 1) q qs each in
      let on = one_each f qs (All-tail (λ q. f q ≡ 1) q qs each) in
      omega (arith, head, on)

module _ {S K M A B : Type 0} (left : S → Option (List ℕ)) (reads : S → ℕ) (held : K → Option (List ℕ)) (writes : K → ℕ) (made : M → ℕ) (does : M → Step → M → Type 0) (is_reply : List ℕ → List ℕ → Type 0) where
  -- each peer of a list was served
  abbrev pub EachServed : List (Peer S K M A B) → List (Peer S K M A B) → Type 0
  EachServed [] qs = Unit {0}
  EachServed (p ∷ ps) [] = ⊥
  EachServed (p ∷ ps) (q ∷ qs) = IsServed left reads held writes made does is_reply p q × EachServed ps qs

  pub each_of : (ps qs : List (Peer S K M A B)) → AreServed left reads held writes made does is_reply ps qs → EachServed ps qs
  each_of [] qs h = tt
  each_of (p ∷ ps) [] h = absurd (let e = h.size in omega arith)
  each_of (p ∷ ps) (q ∷ qs) h = (h.each 0 p (omega arith), each_of ps qs (record { size = (let e = h.size in omega arith); each = λ i d lt. h.each (suc i) d (omega (arith, lt)) }))

  was_served : (p q : Peer S K M A B) → IsNew made p → IsServed left reads held writes made does is_reply p q → WasServed left reads held writes is_reply (session_of made p q)
  was_served p q new h =
      let begun : outside_of left reads held writes made p ≡ outside_with left reads held writes (connection p) (tally 0 0 0) =
      λ i. outside_with left reads held writes (connection p) (tally (new.looks i) (new.misses i) (new.calls i)) in
      let steps : List Step → Type 0 = λ steps. Leads does steps p.maker q.maker in
      subst (λ (o : Outside). HasServed is_reply (λ steps. Unit {0}) (end_of q) o (outside_of left reads held writes made q)) begun
      (stepless is_reply steps (end_of q) (outside_of left reads held writes made p) (outside_of left reads held writes made q)
      (ended_so q.end (λ end. HasServed is_reply steps end (outside_of left reads held writes made p) (outside_of left reads held writes made q)) h.ended))

  pub were_served : (ps qs : List (Peer S K M A B)) → All (λ p. IsNew made p) ps → EachServed ps qs → WereServed left reads held writes is_reply (sessions_of made ps qs)
  were_served [] qs new h = tt
  were_served (p ∷ ps) [] new h = absurd h
  were_served (p ∷ ps) (q ∷ qs) new h = (was_served p q (All-head (λ p. IsNew made p) p ps new) h.0, were_served ps qs (All-tail (λ p. IsNew made p) p ps new) h.1)

  pub all_ended : (ps qs : List (Peer S K M A B)) → length qs ≡ length ps → EachServed ps qs → All (λ q. IsSome q.end) qs
  all_ended [] [] long h = All-nil (λ q. IsSome q.end)
  all_ended [] (q ∷ qs) long h = absurd (omega (arith, long))
  all_ended (p ∷ ps) [] long h = absurd h
  all_ended (p ∷ ps) (q ∷ qs) long h =
      All-cons (λ q. IsSome q.end) q qs
      (some_end q.end (λ end. HasServed is_reply (λ steps. Leads does steps p.maker q.maker) end (outside_of left reads held writes made p) (outside_of left reads held writes made q)) h.0.ended)
      (all_ended ps qs (omega (arith, long)) h.1)

  pub look_parts_kept : (ps qs : List (Peer S K M A B)) → length qs ≡ length ps → All (λ p. IsNew made p) ps → EachServed ps qs → All (λ q. look_parts_of q ≡ 1) qs
  look_parts_kept [] [] long new h = All-nil (λ q. look_parts_of q ≡ 1)
  look_parts_kept [] (q ∷ qs) long new h = absurd (omega (arith, long))
  look_parts_kept (p ∷ ps) [] long new h = absurd h
  look_parts_kept (p ∷ ps) (q ∷ qs) long new h =
      All-cons (λ q. look_parts_of q ≡ 1) q qs (h.0.look_parts ∙ (All-head (λ p. IsNew made p) p ps new).look_parts)
      (look_parts_kept ps qs (omega (arith, long)) (All-tail (λ p. IsNew made p) p ps new) h.1)

  pub miss_parts_kept : (ps qs : List (Peer S K M A B)) → length qs ≡ length ps → All (λ p. IsNew made p) ps → EachServed ps qs → All (λ q. miss_parts_of q ≡ 1) qs
  miss_parts_kept [] [] long new h = All-nil (λ q. miss_parts_of q ≡ 1)
  miss_parts_kept [] (q ∷ qs) long new h = absurd (omega (arith, long))
  miss_parts_kept (p ∷ ps) [] long new h = absurd h
  miss_parts_kept (p ∷ ps) (q ∷ qs) long new h =
      All-cons (λ q. miss_parts_of q ≡ 1) q qs (h.0.miss_parts ∙ (All-head (λ p. IsNew made p) p ps new).miss_parts)
      (miss_parts_kept ps qs (omega (arith, long)) (All-tail (λ p. IsNew made p) p ps new) h.1)

  -- all parts of both ledgers are back
  pub look_parts_back : (ps qs : List (Peer S K M A B)) → All (λ p. IsNew made p) ps → AreServed left reads held writes made does is_reply ps qs → total (λ q. look_parts_of q) qs ≡ length ps
  look_parts_back ps qs new h = one_each made (λ q. look_parts_of q) qs (look_parts_kept ps qs h.size new (each_of ps qs h)) ∙ h.size

  pub miss_parts_back : (ps qs : List (Peer S K M A B)) → All (λ p. IsNew made p) ps → AreServed left reads held writes made does is_reply ps qs → total (λ q. miss_parts_of q) qs ≡ length ps
  miss_parts_back ps qs new h = one_each made (λ q. miss_parts_of q) qs (miss_parts_kept ps qs h.size new (each_of ps qs h)) ∙ h.size

  -- the peers that were accepted, served and given back are the sessions of a server
  pub have_served : (clients : ℕ) (ps qs : List (Peer S K M A B)) (ends : List SessionEnd) (looks : ℕ) (waiting waiting' closed closed' : Option (List (S × K))) → length ps ≡ clients → All (λ p. IsNew made p) ps
      → AreServed left reads held writes made does is_reply ps qs → waiting ≡ all_before (map (λ p. connection p) ps) waiting' → closed' ≡ all_behind closed (map (λ q. connection q) qs)
      → ends ≡ map (λ q. end_of q) qs → looks ≡ total (λ q. looks_of q) qs → HaveServed left reads held writes is_reply clients ends looks waiting waiting' closed closed'
  have_served clients ps qs ends looks waiting waiting' closed closed' count new h taken given told looked = record {
    sessions = sessions_of made ps qs;
    each = were_served ps qs new (each_of ps qs h);
    count = ap length told ∙ length-map qs (λ q. end_of q) ∙ h.size ∙ count;
    told = told ∙ sym (ends_of made ps qs h.size);
    looked = looked ∙ sym (looks_all made ps qs h.size);
    taken = taken ∙ ap (λ (cs : List (S × K)). all_before cs waiting') (sym (taken_of made ps qs h.size));
    given = given ∙ ap (λ (cs : List (S × K)). all_behind closed cs) (sym (given_of made ps qs h.size));
  }
