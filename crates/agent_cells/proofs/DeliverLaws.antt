-- Delivering, parcel by parcel.
use Rattle.std.proofs.Common.{◌≡◌, ℕ, zero, suc, ◌<◌, Bool, false, ◌==◌, if◌then◌else◌, Some, None, List, [], ◌∷◌, ◌++◌, length, set, get_or, refl, sym, ap, ap₂, subst, ◌∙◌, arith}
use Rattle.std.specs.List.{All, Contains, position}
use Rattle.std.specs.List.Sorted.{IsStrictlyIncreasing}
use Rattle.std.proofs.lemmas.Bool.{or_parts, or_from, eqb-false, eq-eqb, ne_eqb}
use Rattle.std.proofs.lemmas.List.{append-nil, map-append, map-set, get_or-map, length-map}
use Rattle.std.proofs.lemmas.List.Quantifiers.{position-Some}
use Rattle.std.proofs.lemmas.Bool.{eqb-true}
use Rattle.std.proofs.lemmas.Grind.{flat_map-append}
use Rattle.dcop_base.specs.Table.{has}
use Rattle.dcop_base.proofs.FaultLaws.{position-none}
use Rattle.dcop_base.proofs.UniqueLaws.{IsStrictlyIncreasing-tail, head_below}
use Rattle.protocol_steps.specs.declared.message.Message.{Message}
use Rattle.protocol_steps.specs.Stamps.{Posted, post}
use Rattle.protocol_steps.specs.Deeds.{envelope_to, posted_to}
use Rattle.fifo_links.specs.Link.{sent_on}
use Rattle.worker_laws.specs.Cells.{Lane, peers, grown}
use Rattle.worker_laws.proofs.LaneLaws.{once, peers_grown, grown_grown, grown_none}
use Rattle.agent_cells.specs.Links.{Tail, lanes_sent}
use Rattle.agent_cells.specs.Delivered.{HasDelivered}

-- links that grow by the same
pub grown_same : (f g : ℕ → List (ℕ × Message)) (ls : List Lane) → ((j : ℕ) → f j ≡ g j) → grown f ls ≡ grown g ls
grown_same f g [] same = refl
grown_same f g (l ∷ ls) same = ap₂ (λ (es : List (ℕ × Message)) (ks : List Lane). let k : Lane = record { peer = l.peer; messages = l.messages ++ es } in k ∷ ks) (same l.peer) (grown_same f g ls same)

-- one message, with its stamp, to peer j
abbrev one : ℕ → ℕ → Message → ℕ → List (ℕ × Message)
one s j m i = posted_to i (post s ((j, m) ∷ []))

one-here : (s j : ℕ) (m : Message) → one s j m j ≡ (s, m) ∷ []
one-here s j m = ap (λ (b : Bool). (if b then (s, m) ∷ [] else []) ++ []) (eq-eqb j j refl)

one-else : (s j i : ℕ) (m : Message) → (j ≡ i → ⊥) → one s j m i ≡ []
one-else s j i m ne = ap (λ (b : Bool). (if b then (s, m) ∷ [] else []) ++ []) (ne_eqb j i ne)

-- on links that don't lead there nothing is sent
unsent : (s j : ℕ) (m : Message) (ls : List Lane) → has (peers ls) j ≡ false → grown (one s j m) ls ≡ ls
unsent s j m [] none = refl
unsent s j m (l ∷ ls) none =
    let parts = or_parts (l.peer == j) (has (peers ls) j) none in
    ap₂ (λ (es : List (ℕ × Message)) (ks : List Lane). let k : Lane = record { peer = l.peer; messages = es } in k ∷ ks)
    (ap (λ (es : List (ℕ × Message)). l.messages ++ es) (one-else s j l.peer m (λ e. eqb-false l.peer j parts.0 (sym e))) ∙ append-nil l.messages) (unsent s j m ls parts.1)

-- the link that leads there has the message
sent_at : (s j : ℕ) (m : Message) (ls : List Lane) (k : ℕ) (d x : Lane) → IsStrictlyIncreasing (peers ls) → k < length ls → (get_or ls k d).peer ≡ j
    → x.peer ≡ (get_or ls k d).peer → x.messages ≡ (get_or ls k d).messages ++ (s, m) ∷ [] → set ls k x ≡ grown (one s j m) ls
sent_at s j m [] k d x up lt at p e = let no : k < 0 = lt in absurd (omega arith)
sent_at s j m (l ∷ ls) zero d x up lt at p e =
    let none : has (peers ls) j ≡ false = subst (λ (n : ℕ). has (peers ls) n ≡ false) at (once l.peer (peers ls) up) in
    let here : one s j m l.peer ≡ (s, m) ∷ [] = ap (one s j m) at ∙ one-here s j m in
    ap₂ (λ (n : ℕ) (es : List (ℕ × Message)). let k : Lane = record { peer = n; messages = es } in k ∷ ls) p (e ∙ ap (λ (es : List (ℕ × Message)). l.messages ++ es) (sym here))
    ∙ ap (λ (ks : List Lane). let k : Lane = record { peer = l.peer; messages = l.messages ++ one s j m l.peer } in k ∷ ks) (sym (unsent s j m ls none))
sent_at s j m (l ∷ ls) (suc k) d x up lt at p e =
    let shorter : k < length ls = omega (arith, lt) in
    let among : Contains (peers ls) j = (k, omega (arith, shorter, length-map ls (λ (y : Lane). y.peer)), get_or-map (λ (y : Lane). y.peer) ls k d j shorter ∙ at) in
    let above : l.peer < j = head_below l.peer (peers ls) j up among in
    ap₂ (λ (es : List (ℕ × Message)) (ks : List Lane). let y : Lane = record { peer = l.peer; messages = es } in y ∷ ks)
    (sym (ap (λ (es : List (ℕ × Message)). l.messages ++ es) (one-else s j l.peer m (λ e. omega (arith, above, e))) ∙ append-nil l.messages))
    (sent_at s j m ls k d x (IsStrictlyIncreasing-tail l.peer (peers ls) up) shorter at p e)

-- no link leads there
has-none : (ts : List Tail) (j : ℕ) → All (λ t. (t.0 == j) ≡ false) ts → has (peers (lanes_sent ts)) j ≡ false
has-none [] j h = refl
has-none (t ∷ ts) j h = or_from (t.0 == j) (has (peers (lanes_sent ts)) j) (h 0 t (omega arith)) (has-none ts j (λ k d lt. h (suc k) d (omega (arith, lt))))

pub delivered_nowhere : (ts : List Tail) (p : ℕ × Message) (s : ℕ) → None ≡ position (λ t. t.0 == p.0) ts → HasDelivered ts s (p ∷ []) ts
delivered_nowhere ts p s none = sym (unsent s p.0 p.1 (lanes_sent ts) (has-none ts p.0 (position-none (λ t. t.0 == p.0) ts (sym none))))

pub delivered_one : (ts : List Tail) (p : ℕ × Message) (s k : ℕ) (d t : Tail) → IsStrictlyIncreasing (peers (lanes_sent ts)) → Some k ≡ position (λ t. t.0 == p.0) ts
    → t.0 ≡ (get_or ts k d).0 → sent_on t.1 ≡ sent_on (get_or ts k d).1 ++ (s, p.1) ∷ [] → HasDelivered ts s (p ∷ []) (set ts k t)
delivered_one ts p s k d t up found peer sent =
    let facts = position-Some (λ (x : Tail). x.0 == p.0) ts k d (sym found) in
    let lane : Tail → Lane = λ x. record { peer = x.0; messages = sent_on x.1 } in
    let there : get_or (lanes_sent ts) k (lane d) ≡ lane (get_or ts k d) = get_or-map lane ts k d (lane d) facts.0 in
    map-set lane ts k t
    ∙ sent_at s p.0 p.1 (lanes_sent ts) k (lane d) (lane t) up (omega (arith, facts.0, length-map ts lane))
    (ap (λ (l : Lane). l.peer) there ∙ eqb-true (get_or ts k d).0 p.0 facts.1)
    (peer ∙ sym (ap (λ (l : Lane). l.peer) there))
    (sent ∙ sym (ap (λ (l : Lane). l.messages ++ (s, p.1) ∷ []) there))

-- no parcel, and one parcel more
pub delivered_none : (ts : List Tail) (s : ℕ) → HasDelivered ts s [] ts
delivered_none ts s = sym (grown_none (lanes_sent ts))

pub delivered_more : (before middle after : List Tail) (s : ℕ) (ps : List (ℕ × Message)) (p : ℕ × Message) → HasDelivered before s ps middle → HasDelivered middle s (p ∷ []) after
    → HasDelivered before s (ps ++ p ∷ []) after
delivered_more before middle after s ps p h g =
    g ∙ ap (grown (λ j. posted_to j (post s (p ∷ [])))) h ∙ grown_grown (λ j. posted_to j (post s ps)) (λ j. posted_to j (post s (p ∷ []))) (lanes_sent before)
    ∙ grown_same (λ j. posted_to j (post s ps) ++ posted_to j (post s (p ∷ []))) (λ j. posted_to j (post s (ps ++ p ∷ []))) (lanes_sent before)
    (λ j. sym (ap (posted_to j) (map-append (λ (q : ℕ × Message). let x : Posted = record { to = q.0; envelope = (s, q.1) } in x) ps (p ∷ []))
    ∙ flat_map-append (λ x. envelope_to j x) (post s ps) (post s (p ∷ []))))

-- the peers stay
pub delivered_peers : (before after : List Tail) (s : ℕ) (ps : List (ℕ × Message)) → HasDelivered before s ps after → IsStrictlyIncreasing (peers (lanes_sent before)) → IsStrictlyIncreasing (peers (lanes_sent after))
delivered_peers before after s ps h up = subst (λ (ns : List ℕ). IsStrictlyIncreasing ns) (sym (ap peers h ∙ peers_grown (λ j. posted_to j (post s ps)) (lanes_sent before))) up
