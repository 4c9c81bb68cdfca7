-- New links, one after another, and all of them.
use Rattle.std.proofs.Common.{◌≡◌, ℕ, ◌+◌, ◌<◌, ◌≤◌, ◌==◌, cond, Bool, true, false, List, [], ◌∷◌, ◌++◌, map, length, replicate, take, drop, get_or, slice_index_or, refl, sym, ap, subst, ◌∙◌, inl, inr, arith, length-set}
use Rattle.std.specs.List.{All, Contains, flat_map}
use Rattle.std.proofs.lemmas.Bool.{cases_eq, eq-eqb, ne_eqb, false≢true}
use Rattle.std.proofs.lemmas.Grind.{flat_map-append}
use Rattle.std.proofs.lemmas.List.{append-nil, append_assoc, length-map, length-replicate, map-append, take_all, get_or-map, get_or_default, get_or-set_same, get_or-set_other, get_or-replicate}
use Rattle.std.proofs.lemmas.List.Elements.{All-map}
use Rattle.std.proofs.lemmas.List.Folds.{flat_map-map}
use Rattle.std.proofs.Math.Seq.{drop-length}
use Rattle.std.specs.declared.vec.Vec.{Vec}
use Rattle.std.specs.declared.alloc.Global.{Global}
use Rattle.dcop_base.specs.declared.knowledge.Private.{Private}
use Rattle.dcop_base.proofs.KnowledgeLaws.{All-filter-range}
use Rattle.protocol_steps.specs.declared.message.Message.{Message}
use Rattle.fifo_links.specs.declared.ends.LinkTail.{LinkTail}
use Rattle.fifo_links.specs.declared.ends.LinkHead.{LinkHead}
use Rattle.fifo_links.specs.Link.{AreEnds, sent_on, taken_from}
use Rattle.worker_laws.specs.Cells.{Lane, peers}
use Rattle.agent_cells.specs.Links.{Tail, Head, lanes_sent, lanes_taken}
use Rattle.agent_cells.specs.Settled.{EndsJoin}
use Rattle.agent_links.specs.Beside.{AreBeside, near, neighbours_in}
use Rattle.agent_links.specs.Links.{rows_in, pushed, AreLinksIn, NewLink, pair_of, tails_of, heads_of, AreNewLinks, AddLinks, AddAllLinks, row, pairs_to}
use Rattle.agent_links.proofs.ListLaws.{map-flat_map, map-cond, flat_map_same, from_parts, into_parts, in_cond, one_of_few}
use Rattle.agent_links.proofs.PairLaws.{all_pairs, pairs_more, whole_pairs, list_at, seconds_of, firsts_of, each_once}

-- one more link, seen from the ends of one agent
module _ {A : Type 0} (node : ℕ → ℕ) (key : NewLink node → ℕ) (end : NewLink node → A) (links : List (NewLink node)) (new : NewLink node) (rows : List (List A)) where
  abbrev at : ℕ → NewLink node → List A
  at i l = cond (key l == i) (end l ∷ []) []

  one_behind : (i : ℕ) (b : Bool) → (key new == i) ≡ b → flat_map (at i) (links ++ new ∷ []) ≡ flat_map (at i) links ++ cond b (end new ∷ []) []
  one_behind i b is =
      flat_map-append (at i) links (new ∷ [])
      ∙ ap (λ (xs : List A). flat_map (at i) links ++ xs) (append-nil (at i new) ∙ ap (λ (c : Bool). cond c (end new ∷ []) []) is)

  pub ends_more : (i : ℕ) → i < length rows → slice_index_or rows i [] ≡ flat_map (at i) links → slice_index_or (pushed (key new) (end new) rows) i [] ≡ flat_map (at i) (links ++ new ∷ [])
  ends_more i lt is = elim (cases_eq i (key new)) [
    | inl e ↦
        ap (λ (k : ℕ). get_or (pushed (key new) (end new) rows) k []) e
        ∙ get_or-set_same rows (key new) (slice_index_or rows (key new) [] ++ end new ∷ []) [] (subst (λ (k : ℕ). k < length rows) e lt)
        ∙ ap (λ (xs : List A). xs ++ end new ∷ []) (ap (λ (k : ℕ). get_or rows k []) (sym e) ∙ is)
        ∙ sym (one_behind i true (eq-eqb (key new) i (sym e)))
    | inr ne ↦
        get_or-set_other rows (key new) i (slice_index_or rows (key new) [] ++ end new ∷ []) [] ne
        ∙ is ∙ sym (one_behind i false (ne_eqb (key new) i (λ e. ne (sym e))) ∙ append-nil (flat_map (at i) links))
  ]

pub one_added : (node : ℕ → ℕ) (pairs : List (ℕ × ℕ)) (count : ℕ) (ts : List (List Tail)) (hs : List (List Head)) (from to : ℕ) (t : LinkTail (ℕ × Message)) (h : LinkHead (ℕ × Message))
    → (node from ≡ node to → AreEnds t h) → sent_on t ≡ [] → taken_from h ≡ [] → AreNewLinks node pairs count ts hs → AreNewLinks node (pairs ++ (from, to) ∷ []) count (pushed from (to, t) ts) (pushed to (from, h) hs)
one_added node pairs count ts hs from to t h ends sent taken n =
    let new : NewLink node = record { from = from; to = to; tail = t; head = h; ends = ends; sent = sent; taken = taken } in
    record {
      links = n.links ++ new ∷ [];
      pairs_are = map-append pair_of n.links (new ∷ []) ∙ ap (λ (ps : List (ℕ × ℕ)). ps ++ (from, to) ∷ []) n.pairs_are;
      tails_size = length-set ts from (slice_index_or ts from [] ++ (to, t) ∷ []) ∙ n.tails_size;
      heads_size = length-set hs to (slice_index_or hs to [] ++ (from, h) ∷ []) ∙ n.heads_size;
      tails_are = λ i lt. ends_more node (λ l. l.from) (λ l. (l.to, l.tail)) n.links new ts i (let size = n.tails_size in omega (arith, lt, size)) (n.tails_are i lt);
      heads_are = λ i lt. ends_more node (λ l. l.to) (λ l. (l.from, l.head)) n.links new hs i (let size = n.heads_size in omega (arith, lt, size)) (n.heads_are i lt);
    }

pub added_one : (node : ℕ → ℕ) (from to : ℕ) (t : LinkTail (ℕ × Message)) (h : LinkHead (ℕ × Message)) (ts us : List (List Tail)) (hs is : List (List Head))
    → (node from ≡ node to → AreEnds t h) → sent_on t ≡ [] → taken_from h ≡ [] → us ≡ pushed from (to, t) ts → is ≡ pushed to (from, h) hs → AddLinks node from (to ∷ []) ts hs us is
added_one node from to t h ts us hs is ends sent taken e f pairs count n =
    subst (λ (xs : List (List Tail)). AreNewLinks node (pairs ++ (from, to) ∷ []) count xs is) (sym e)
    (subst (λ (xs : List (List Head)). AreNewLinks node (pairs ++ (from, to) ∷ []) count (pushed from (to, t) ts) xs) (sym f) (one_added node pairs count ts hs from to t h ends sent taken n))

pub added_none : (node : ℕ → ℕ) (from : ℕ) (ts : List (List Tail)) (hs : List (List Head)) → AddLinks node from [] ts hs ts hs
added_none node from ts hs pairs count n = subst (λ (ps : List (ℕ × ℕ)). AreNewLinks node ps count ts hs) (sym (append-nil pairs)) n

pub added_more : (node : ℕ → ℕ) (from to : ℕ) (tos : List ℕ) (ts us vs : List (List Tail)) (hs is js : List (List Head)) → AddLinks node from tos ts hs us is → AddLinks node from (to ∷ []) us is vs js → AddLinks node from (tos ++ to ∷ []) ts hs vs js
added_more node from to tos ts us vs hs is js a b pairs count n =
    subst (λ (ps : List (ℕ × ℕ)). AreNewLinks node ps count vs js)
    (append_assoc pairs (row from tos) ((from, to) ∷ []) ∙ ap (λ (ps : List (ℕ × ℕ)). pairs ++ ps) (sym (map-append (λ (j : ℕ). (from, j)) tos (to ∷ []))))
    (b (pairs ++ row from tos) count (a pairs count n))

pub links_none : (node : ℕ → ℕ) (lists : List (List ℕ)) (n : ℕ) (ts : List (List Tail)) (hs : List (List Head)) → ts ≡ replicate n [] → hs ≡ replicate n [] → AreNewLinks node (pairs_to lists 0) n ts hs
links_none node lists n ts hs e f = record {
  links = [];
  pairs_are = refl;
  tails_size = ap (λ (xs : List (List Tail)). length xs) e ∙ length-replicate n [];
  heads_size = ap (λ (xs : List (List Head)). length xs) f ∙ length-replicate n [];
  tails_are = λ i lt. ap (λ (xs : List (List Tail)). get_or xs i []) e ∙ get_or-replicate n i [] [] lt;
  heads_are = λ i lt. ap (λ (xs : List (List Head)). get_or xs i []) f ∙ get_or-replicate n i [] [] lt;
}

pub links_more : (node : ℕ → ℕ) (lists : List (List ℕ)) (n k : ℕ) (tos : List ℕ) (ts us : List (List Tail)) (hs is : List (List Head)) → tos ≡ slice_index_or lists k [] → AreNewLinks node (pairs_to lists k) n ts hs → AddLinks node k tos ts hs us is → AreNewLinks node (pairs_to lists (k + 1)) n us is
links_more node lists n k tos ts us hs is e a b =
    subst (λ (ps : List (ℕ × ℕ)). AreNewLinks node ps n us is) (ap (λ (js : List ℕ). pairs_to lists k ++ row k js) e ∙ sym (pairs_more lists k)) (b (pairs_to lists k) n a)

-- what the agents know of their neighbours
pub own_list : (known : List Private) (k : ℕ) (own : Private) (xs : List ℕ) → k < length known → own ≡ get_or known k own → xs ≡ own.neighbours → xs ≡ slice_index_or (neighbours_in known) k []
own_list known k own xs lt is e = e ∙ ap (λ (o : Private). o.neighbours) is ∙ sym (get_or-map (λ (o : Private). o.neighbours) known k own [] lt)

pub row_below : (known : List Private) (b : AreBeside (neighbours_in known)) (k size : ℕ) (own : Private) (xs : List ℕ) → k < length known → size ≡ length known → own ≡ get_or known k own → xs ≡ own.neighbours → All (λ j. j < size) xs
row_below known b k size own xs lt long is e =
    let lists : List (List ℕ) = neighbours_in known in
    let same : length lists ≡ length known = length-map known (λ (o : Private). o.neighbours) in
    let below : All (λ (j : ℕ). j < length lists) (near b.edge (length lists) k) = All-filter-range (b.edge k) (length lists) in
    let size_is : length lists ≡ size = omega (arith, same, long) in
    subst (λ (n : ℕ). All (λ (j : ℕ). j < n) xs) size_is
    (subst (λ (ys : List ℕ). All (λ (j : ℕ). j < length lists) ys) (sym (own_list known k own xs lt is e ∙ list_at lists b k (omega (arith, lt, same)))) below)

pub row_added : (node : ℕ → ℕ) (known : List Private) (k : ℕ) (own : Private) (xs : List ℕ) (ts us vs : List (List Tail)) (hs is js : List (List Head)) → k < length known → own ≡ get_or known k own → xs ≡ own.neighbours
    → (AreNewLinks node (pairs_to (neighbours_in known) 0) (length (neighbours_in known)) ts hs → AreNewLinks node (pairs_to (neighbours_in known) k) (length (neighbours_in known)) us is) → AddLinks node k xs us is vs js
    → AreNewLinks node (pairs_to (neighbours_in known) 0) (length (neighbours_in known)) ts hs → AreNewLinks node (pairs_to (neighbours_in known) (k + 1)) (length (neighbours_in known)) vs js
row_added node known k own xs ts us vs hs is js lt own_is e before add start =
    links_more node (neighbours_in known) (length (neighbours_in known)) k xs us vs is js (own_list known k own xs lt own_is e) (before start) add

-- a list that is written back over one of the same length
pub written_back : {A : Type 0} (n : ℕ) (new old : List A) → length new ≡ length old → n ≡ length old → take n (new ++ drop (length new) old) ≡ new
written_back n new old e f =
    ap (λ m. take n (new ++ drop m old)) e ∙ ap (λ zs. take n (new ++ zs)) (drop-length old) ∙ ap (λ zs. take n zs) (append-nil new) ∙ take_all n new (omega (arith, e, f))

tail_names : (ts : List Tail) → peers (lanes_sent ts) ≡ map (λ t. t.0) ts
tail_names [] = refl
tail_names (t ∷ ts) = ap (λ (ns : List ℕ). t.0 ∷ ns) (tail_names ts)

head_names : (hs : List Head) → peers (lanes_taken hs) ≡ map (λ h. h.0) hs
head_names [] = refl
head_names (h ∷ hs) = ap (λ (ns : List ℕ). h.0 ∷ ns) (head_names hs)

names_of : {A : Type 0} (node : ℕ → ℕ) (key : NewLink node → ℕ) (end : NewLink node → ℕ × A) (i : ℕ) (links : List (NewLink node))
    → map (λ t. t.0) (flat_map (λ l. cond (key l == i) (end l ∷ []) []) links) ≡ flat_map (λ l. cond (key l == i) ((end l).0 ∷ []) []) links
names_of {A} node key end i links =
    map-flat_map (λ (t : ℕ × A). t.0) (λ l. cond (key l == i) (end l ∷ []) []) links
    ∙ flat_map_same (λ l. map (λ (t : ℕ × A). t.0) (cond (key l == i) (end l ∷ []) [])) (λ l. cond (key l == i) ((end l).0 ∷ []) []) links (λ l. map-cond (λ (t : ℕ × A). t.0) (key l == i) (end l))

from_link : {A : Type 0} (node : ℕ → ℕ) (key : NewLink node → ℕ) (end : NewLink node → A) (i : ℕ) (links : List (NewLink node)) (x : A) → Contains (flat_map (λ l. cond (key l == i) (end l ∷ []) []) links) x
    → (l : NewLink node) × Contains links l × ((key l == i) ≡ true) × (end l ≡ x)
from_link node key end i links x c =
    let r = from_parts (λ l. cond (key l == i) (end l ∷ []) []) links x c in
    let e = in_cond (key r.0 == i) (end r.0) x r.2 in
    (r.0, r.1, e.0, e.1)

in_both : {A : Type 0} (a b : Bool) (x : A) → a ≡ true → b ≡ true → Contains (cond a (cond b (x ∷ []) []) []) x
in_both {A} a b x ea eb =
    subst (λ (c : Bool). Contains (cond c (cond b (x ∷ []) []) []) x) (sym ea) (subst (λ (c : Bool). Contains (cond c (x ∷ []) []) x) (sym eb) (0, omega arith, refl))

is_that : (a b : ℕ) → (a == b) ≡ true → a ≡ b
is_that a b e = elim (cases_eq a b) [ inl same ↦ same | inr ne ↦ absurd (false≢true (sym (ne_eqb a b ne) ∙ e)) ]

map-both : {A B : Type 0} (f : A → B) (a b : Bool) (x : A) → map f (cond a (cond b (x ∷ []) []) []) ≡ cond a (cond b (f x ∷ []) []) []
map-both f true b x = map-cond f b x
map-both f false b x = refl

module _ (node : ℕ → ℕ) (lists : List (List ℕ)) (b : AreBeside lists) (ts : List (List Tail)) (hs : List (List Head)) (n : AreNewLinks node (pairs_to lists (length lists)) (length lists) ts hs) where
  abbrev count : ℕ
  count = length lists

  abbrev all : List (ℕ × ℕ)
  all = all_pairs b.edge count

  over : {B : Type 0} (h : ℕ × ℕ → List B) → flat_map (λ l. h (pair_of l)) n.links ≡ flat_map h all
  over h = sym (flat_map-map h pair_of n.links) ∙ ap (λ (ps : List (ℕ × ℕ)). flat_map h ps) (n.pairs_are ∙ whole_pairs lists b)

  -- the links between two agents
  abbrev between : ℕ → ℕ → List (NewLink node)
  between i j = flat_map (λ l. cond (l.from == i) (cond (l.to == j) (l ∷ []) []) []) n.links

  between_few : (i j : ℕ) → i < count → j < count → length (between i j) ≤ 1
  between_few i j in_i in_j =
      let each : NewLink node → List (ℕ × ℕ) = λ l. cond (l.from == i) (cond (l.to == j) (pair_of l ∷ []) []) [] in
      let names : map pair_of (between i j) ≡ flat_map (λ (p : ℕ × ℕ). cond (p.0 == i) (cond (p.1 == j) ((p.0, p.1) ∷ []) []) []) all =
      map-flat_map pair_of (λ l. cond (l.from == i) (cond (l.to == j) (l ∷ []) []) []) n.links
      ∙ flat_map_same (λ l. map pair_of (cond (l.from == i) (cond (l.to == j) (l ∷ []) []) [])) each n.links (λ l. map-both pair_of (l.from == i) (l.to == j) l)
      ∙ over (λ (p : ℕ × ℕ). cond (p.0 == i) (cond (p.1 == j) ((p.0, p.1) ∷ []) []) []) in
      subst (λ (k : ℕ). k ≤ 1) (sym (sym (length-map (between i j) pair_of) ∙ ap (λ (ps : List (ℕ × ℕ)). length ps) names)) (each_once b.edge count (λ k m. (k, m)) i j in_i in_j)

  joined_in : (i j : ℕ) → i < count → j < count → node i ≡ node j → EndsJoin (tails_of i n.links) j (heads_of j n.links) i
  joined_in i j in_i in_j home = record {
    each = λ q h at is. record {
      each = λ k t at_t is_t.
          let x = from_link node (λ l. l.from) (λ l. (l.to, l.tail)) i n.links t (k, at_t.inside, at_t.is) in
          let y = from_link node (λ l. l.to) (λ l. (l.from, l.head)) j n.links h (q, at.inside, at.is) in
          let to_j : (x.0.to == j) ≡ true = eq-eqb x.0.to j (ap (λ (p : Tail). p.0) x.3 ∙ is_t) in
          let from_i : (y.0.from == i) ≡ true = eq-eqb y.0.from i (ap (λ (p : Head). p.0) y.3 ∙ is) in
          let part : NewLink node → List (NewLink node) = λ l. cond (l.from == i) (cond (l.to == j) (l ∷ []) []) [] in
          let inside : node x.0.from ≡ node x.0.to = ap node (is_that x.0.from i x.2) ∙ home ∙ sym (ap node (ap (λ (p : Tail). p.0) x.3 ∙ is_t)) in
          let same : x.0 ≡ y.0 = one_of_few (between i j) x.0 y.0 (between_few i j in_i in_j)
          (into_parts part n.links x.0 x.0 x.1 (in_both (x.0.from == i) (x.0.to == j) x.0 x.2 to_j))
          (into_parts part n.links y.0 y.0 y.1 (in_both (y.0.from == i) (y.0.to == j) y.0 from_i y.2)) in
          subst (λ (p : Head). AreEnds t.1 p.1) y.3 (subst (λ (p : Tail). AreEnds p.1 y.0.head) x.3 (subst (λ (l : NewLink node). AreEnds x.0.tail l.head) same (x.0.ends inside)));
    };
  }

  -- all links between agents that are neighbours
  pub links_all : AreLinksIn node lists ts hs
  links_all = record {
    tails_size = n.tails_size;
    heads_size = n.heads_size;
    tail_peers = λ i lt.
        ap (λ (xs : List Tail). peers (lanes_sent xs)) (n.tails_are i lt) ∙ tail_names (tails_of i n.links) ∙ names_of node (λ l. l.from) (λ l. (l.to, l.tail)) i n.links
        ∙ over (λ (p : ℕ × ℕ). cond (p.0 == i) (p.1 ∷ []) []) ∙ seconds_of b.edge count i lt ∙ sym (list_at lists b i lt);
    head_peers = λ i lt.
        ap (λ (xs : List Head). peers (lanes_taken xs)) (n.heads_are i lt) ∙ head_names (heads_of i n.links) ∙ names_of node (λ l. l.to) (λ l. (l.from, l.head)) i n.links
        ∙ over (λ (p : ℕ × ℕ). cond (p.1 == i) (p.0 ∷ []) []) ∙ firsts_of b.edge count b.both i lt ∙ sym (list_at lists b i lt);
    unsent = λ i lt. subst (λ (xs : List Tail). All (λ (l : Lane). l.messages ≡ []) (lanes_sent xs)) (sym (n.tails_are i lt))
        (All-map (λ (l : Lane). l.messages ≡ []) (λ (t : Tail). record { peer = t.0; messages = sent_on t.1 }) (tails_of i n.links) (λ k d inside.
        let x = from_link node (λ l. l.from) (λ l. (l.to, l.tail)) i n.links (get_or (tails_of i n.links) k d) (k, inside, get_or_default (tails_of i n.links) k (get_or (tails_of i n.links) k d) d inside) in
        subst (λ (t : Tail). sent_on t.1 ≡ []) x.3 x.0.sent));
    untaken = λ i lt. subst (λ (xs : List Head). All (λ (l : Lane). l.messages ≡ []) (lanes_taken xs)) (sym (n.heads_are i lt))
        (All-map (λ (l : Lane). l.messages ≡ []) (λ (h : Head). record { peer = h.0; messages = taken_from h.1 }) (heads_of i n.links) (λ k d inside.
        let x = from_link node (λ l. l.to) (λ l. (l.from, l.head)) i n.links (get_or (heads_of i n.links) k d) (k, inside, get_or_default (heads_of i n.links) k (get_or (heads_of i n.links) k d) d inside) in
        subst (λ (h : Head). taken_from h.1 ≡ []) x.3 x.0.taken));
    joined = λ i j in_i in_j home. subst (λ (xs : List Tail). EndsJoin xs j (slice_index_or hs j []) i) (sym (n.tails_are i in_i))
        (subst (λ (xs : List Head). EndsJoin (tails_of i n.links) j xs i) (sym (n.heads_are j in_j)) (joined_in i j in_i in_j home));
  }

pub all_linked : (node : ℕ → ℕ) (known : List Private) (b : AreBeside (neighbours_in known)) (n m : ℕ) (ts us : List (Vec Tail Global)) (hs is : List (Vec Head Global))
    → rows_in ts ≡ replicate (length known) [] → rows_in hs ≡ replicate (length known) [] → length us ≡ length ts → length is ≡ length hs → n ≡ length ts → m ≡ length hs
    → AddAllLinks node (neighbours_in known) (rows_in ts) (rows_in hs) (rows_in us) (rows_in is)
    → AreLinksIn node (neighbours_in known) (rows_in (take n (us ++ drop (length us) ts))) (rows_in (take m (is ++ drop (length is) hs)))
all_linked node known b n m ts us hs is e f long_u long_i n_is m_is add =
    let lists : List (List ℕ) = neighbours_in known in
    let same : length lists ≡ length known = length-map known (λ (o : Private). o.neighbours) in
    subst (λ (xs : List (Vec Tail Global)). AreLinksIn node lists (rows_in xs) (rows_in (take m (is ++ drop (length is) hs)))) (sym (written_back n us ts long_u n_is))
    (subst (λ (xs : List (Vec Head Global)). AreLinksIn node lists (rows_in us) (rows_in xs)) (sym (written_back m is hs long_i m_is))
    (links_all node lists b (rows_in us) (rows_in is) (add (links_none node lists (length lists) (rows_in ts) (rows_in hs)
    (e ∙ ap (λ (k : ℕ). replicate k []) (sym same)) (f ∙ ap (λ (k : ℕ). replicate k []) (sym same))))))
