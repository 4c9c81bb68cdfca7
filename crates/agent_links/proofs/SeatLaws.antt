-- Agents as they are made, and the ends of their links.
use Rattle.std.proofs.Common.{◌≡◌, ℕ, zero, suc, ◌<◌, ◌≤◌, ◌&&◌, ◌||◌, not, Bool, false, ◌⊎◌, inl, inr, List, [], ◌∷◌, ◌++◌, map, length, get_or, slice_get, slice_index_or, Some, refl, sym, ap, ◌∙◌, arith}
use Rattle.std.specs.List.{range_with_len, zip}
use Rattle.std.proofs.lemmas.Bool.{eq-eqb}
use Rattle.std.proofs.lemmas.Option.{none-some, same_Some}
use Rattle.std.proofs.lemmas.List.{get_or-map, length-map}
use Rattle.std.proofs.lemmas.Slice.Zip.{get_or-zip, length-zip}
use Rattle.std.proofs.lemmas.List.FromFn.{length-map-range_with_len, get_or-map-range_with_len}
use Rattle.std.specs.declared.vec.Vec.{Vec}
use Rattle.std.specs.declared.alloc.Global.{Global}
use Rattle.dcop_base.specs.Limits.{variable_limit}
use Rattle.dcop_base.specs.Problem.{Dcop}
use Rattle.dcop_base.specs.Whole.{IsProblem}
use Rattle.dcop_base.specs.Graph.{neighbours, are_neighbours, share_table, are_joined}
use Rattle.dcop_base.proofs.JointLaws.{are_neighbours-swap}
use Rattle.dcop_base.specs.Knowledge.{private_of as known_by, acquaintance_of}
use Rattle.protocol_steps.specs.Knowledge.{IsKnowledge, PrivatesAreKnowledge, AcquaintancesAreKnowledge}
use Rattle.dcop_base.specs.declared.knowledge.Private.{Private}
use Rattle.protocol_steps.specs.View.{View, private_of, started_of}
use Rattle.delivery_core.specs.declared.start.Start.{Start}
use Rattle.delivery_core.specs.declared.start.Start.TheVariants.{Token, Dpop, Adopt}
use Rattle.delivery_core.specs.Agents.{agents_of}
use Rattle.delivery_core.specs.Starts.{agent_of, knowledge_for}
use Rattle.agent_cells.specs.Links.{Tail, Head}
use Rattle.agent_links.specs.Beside.{neighbours_in, near, AreBeside}
use Rattle.agent_links.specs.Links.{rows_in}
use Rattle.agent_links.specs.declared.seat.Seat.{Seat}
use Rattle.agent_links.specs.Kinds.{view_of}
use Rattle.agent_links.specs.Seats.{all_neighbours, HaveEnds, IsSeat, AreSeated}

fresh_agent : (p : Dcop) (start : Start) (i : ℕ) → started_of (agent_of p start i) ≡ false
fresh_agent p Token i = refl
fresh_agent p (Dpop tree) i = refl
fresh_agent p (Adopt tree error) i = refl

-- the agents of a start, one by one
pub agents_made : (p : Dcop) (start : Start) → agents_of p start ≡ map (agent_of p start) (range_with_len 0 (length p.sizes))
agents_made p Token = refl
agents_made p (Dpop tree) = refl
agents_made p (Adopt tree error) = refl

-- what agents know when they are made fits together, with tables or without
pub knowledge_fits : PrivatesAreKnowledge → AcquaintancesAreKnowledge → (p : Dcop) (start : Start) (i : ℕ) → IsProblem p → i < length p.sizes → IsKnowledge (knowledge_for p start i)
knowledge_fits privates acquaintances p Token i whole inside = acquaintances p i whole inside
knowledge_fits privates acquaintances p (Dpop tree) i whole inside = privates p i whole inside
knowledge_fits privates acquaintances p (Adopt tree error) i whole inside = privates p i whole inside

knows_me : (p : Dcop) (start : Start) (i : ℕ) → (knowledge_for p start i).me ≡ i
knows_me p Token i = refl
knows_me p (Dpop tree) i = refl
knows_me p (Adopt tree error) i = refl

pub knows_neighbours : (p : Dcop) (start : Start) (i : ℕ) → (knowledge_for p start i).neighbours ≡ neighbours p i
knows_neighbours p Token i = refl
knows_neighbours p (Dpop tree) i = refl
knows_neighbours p (Adopt tree error) i = refl

-- the number of an agent, by what it knows
pub own_me : (p : Dcop) (start : Start) (i : ℕ) (own : Private) → own ≡ knowledge_for p start i → own.me ≡ i
own_me p start i own e = ap (λ (o : Private). o.me) e ∙ knows_me p start i

pub known_own : (p : Dcop) (start : Start) (i : ℕ) (own : Private) → own ≡ knowledge_for p start i → own ≡ knowledge_for p start own.me
known_own p start i own e = e ∙ ap (knowledge_for p start) (sym (own_me p start i own e))

agent_private : (p : Dcop) (start : Start) (i : ℕ) → private_of (agent_of p start i) ≡ knowledge_for p start i
agent_private p Token i = refl
agent_private p (Dpop tree) i = refl
agent_private p (Adopt tree error) i = refl

pub fresh_view : (p : Dcop) (start : Start) (i : ℕ) (v : View) → v ≡ agent_of p start i → started_of v ≡ false
fresh_view p start i v e = ap started_of e ∙ fresh_agent p start i

pub private_view : (p : Dcop) (start : Start) (i : ℕ) (v : View) (own : Private) → v ≡ agent_of p start i → own ≡ knowledge_for p start i → private_of v ≡ own
private_view p start i v own e known = ap private_of e ∙ agent_private p start i ∙ sym known

-- the neighbours of all variables, by what their agents know
pub known_lists : (p : Dcop) (known : List Private) → known ≡ map (known_by p) (range_with_len 0 (length p.sizes)) → neighbours_in known ≡ all_neighbours p
known_lists p known e = ap (λ (xs : List Private). neighbours_in xs) e ∙ read (range_with_len 0 (length p.sizes))
  where
    read : (xs : List ℕ) → neighbours_in (map (known_by p) xs) ≡ map (neighbours p) xs
    read [] = refl
    read (x ∷ xs) = ap (λ (ls : List (List ℕ)). neighbours p x ∷ ls) (read xs)

not_itself : (p : Dcop) (i : ℕ) → are_neighbours p i i ≡ false
not_itself p i = ap (λ (b : Bool). not b && (share_table p.tables i i || are_joined p.joints i i)) (eq-eqb i i refl)

-- neighbours in a problem are neighbours of each other
pub known_beside : (p : Dcop) (known : List Private) → known ≡ map (known_by p) (range_with_len 0 (length p.sizes)) → AreBeside (neighbours_in known)
known_beside p known e =
    let n : ℕ = length p.sizes in
    let lists : neighbours_in known ≡ all_neighbours p = known_lists p known e in
    let size : length (neighbours_in known) ≡ n = ap (λ (ls : List (List ℕ)). length ls) lists ∙ length-map-range_with_len (neighbours p) 0 n in
    record {
      edge = are_neighbours p;
      both = are_neighbours-swap p;
      apart = not_itself p;
      are = lists ∙ ap (λ (m : ℕ). map (near (are_neighbours p) m) (range_with_len 0 m)) (sym size);
    }

pub known_few : (p : Dcop) (known : List Private) → IsProblem p → known ≡ map (known_by p) (range_with_len 0 (length p.sizes)) → length known ≤ variable_limit
known_few p known whole e =
    let size : length known ≡ length p.sizes = ap (λ (xs : List Private). length xs) e ∙ length-map-range_with_len (known_by p) 0 (length p.sizes) in
    let few : length p.sizes ≤ variable_limit = whole.few in
    omega (arith, size, few)

pub lists_size : (p : Dcop) → length (all_neighbours p) ≡ length p.sizes
lists_size p = length-map-range_with_len (neighbours p) 0 (length p.sizes)

pub list_at : (p : Dcop) (i : ℕ) → i < length p.sizes → slice_index_or (all_neighbours p) i [] ≡ neighbours p i
list_at p i lt = get_or-map-range_with_len (neighbours p) 0 (length p.sizes) i i [] lt (omega arith)

last_at : {A : Type 0} (xs : List A) (x s : A) (i : ℕ) → slice_get (xs ++ x ∷ []) i ≡ Some s → (slice_get xs i ≡ Some s) ⊎ ((length xs ≡ i) × (x ≡ s))
last_at [] x s zero e = inr (refl, same_Some x s e)
last_at [] x s (suc i) e = absurd (none-some s e)
last_at (y ∷ xs) x s zero e = inl e
last_at (y ∷ xs) x s (suc i) e = elim (last_at xs x s i e) [
  | inl old ↦ inl old
  | inr new ↦ inr (ap suc new.0, new.1)
]

pub seats_more : (p : Dcop) (start : Start) (all : List (List Tail)) (rows : List (List Head)) (seats new : List Seat) (x : Seat) (own : Private) (me : ℕ) (ts : List Tail) (hs : List Head)
    → new ≡ seats ++ x ∷ [] → length seats ≡ me → own ≡ knowledge_for p start me → ts ≡ slice_index_or all me [] → hs ≡ slice_index_or rows me []
    → IsSeat (agent_of p start own.me) own.me ts hs x
    → ((i : ℕ) (s : Seat) → slice_get seats i ≡ Some s → IsSeat (agent_of p start i) i (slice_index_or all i []) (slice_index_or rows i []) s)
    → (i : ℕ) (s : Seat) → slice_get new i ≡ Some s → IsSeat (agent_of p start i) i (slice_index_or all i []) (slice_index_or rows i []) s
seats_more p start all rows seats new x own me ts hs pushed size known t h q each i s e =
    elim (last_at seats x s i (ap (λ (xs : List Seat). slice_get xs i) (sym pushed) ∙ e)) [
      | inl old ↦ each i s old
      | inr last ↦
          let at : me ≡ i = sym size ∙ last.0 in
          let now : own.me ≡ i = own_me p start me own known ∙ at in
          record {
            view_is = ap (λ (y : Seat). view_of y.agent) (sym last.1) ∙ q.view_is ∙ ap (agent_of p start) now;
            me_is = ap (λ (y : Seat). y.me) (sym last.1) ∙ q.me_is ∙ now;
            tails_are = ap (λ (y : Seat). y.tails.items) (sym last.1) ∙ q.tails_are ∙ t ∙ ap (λ (k : ℕ). slice_index_or all k []) at;
            heads_are = ap (λ (y : Seat). y.heads.items) (sym last.1) ∙ q.heads_are ∙ h ∙ ap (λ (k : ℕ). slice_index_or rows k []) at;
          }
    ]

-- so it is by what they know without costs
pub met_lists : (p : Dcop) (known : List Private) → known ≡ map (acquaintance_of p) (range_with_len 0 (length p.sizes)) → neighbours_in known ≡ all_neighbours p
met_lists p known e = ap (λ (xs : List Private). neighbours_in xs) e ∙ read (range_with_len 0 (length p.sizes))
  where
    read : (xs : List ℕ) → neighbours_in (map (acquaintance_of p) xs) ≡ map (neighbours p) xs
    read [] = refl
    read (x ∷ xs) = ap (λ (ls : List (List ℕ)). neighbours p x ∷ ls) (read xs)

pub met_beside : (p : Dcop) (known : List Private) → known ≡ map (acquaintance_of p) (range_with_len 0 (length p.sizes)) → AreBeside (neighbours_in known)
met_beside p known e =
    let n : ℕ = length p.sizes in
    let lists : neighbours_in known ≡ all_neighbours p = met_lists p known e in
    let size : length (neighbours_in known) ≡ n = ap (λ (ls : List (List ℕ)). length ls) lists ∙ length-map-range_with_len (neighbours p) 0 n in
    record {
      edge = are_neighbours p;
      both = are_neighbours-swap p;
      apart = not_itself p;
      are = lists ∙ ap (λ (m : ℕ). map (near (are_neighbours p) m) (range_with_len 0 m)) (sym size);
    }

pub met_few : (p : Dcop) (known : List Private) → IsProblem p → known ≡ map (acquaintance_of p) (range_with_len 0 (length p.sizes)) → length known ≤ variable_limit
met_few p known whole e =
    let size : length known ≡ length p.sizes = ap (λ (xs : List Private). length xs) e ∙ length-map-range_with_len (acquaintance_of p) 0 (length p.sizes) in
    let few : length p.sizes ≤ variable_limit = whole.few in
    omega (arith, size, few)

-- what the next agent knows
pub own_is : (p : Dcop) (start : Start) (known : List Private) (n me : ℕ) (own : Private) → known ≡ map (knowledge_for p start) (range_with_len 0 (length p.sizes)) → (n < length known) × (own ≡ slice_index_or known n own) → n ≡ me
    → (me < length p.sizes) × (own ≡ knowledge_for p start me)
own_is p start known n me own e at same =
    let size : length known ≡ length p.sizes = ap (λ (xs : List Private). length xs) e ∙ length-map-range_with_len (knowledge_for p start) 0 (length p.sizes) in
    let below = at.0 in
    let lt : n < length p.sizes = omega (arith, below, size) in (
      omega (arith, lt, same),
      at.1 ∙ ap (λ (xs : List Private). slice_index_or xs n own) e ∙ get_or-map-range_with_len (knowledge_for p start) 0 (length p.sizes) n n own lt (omega arith) ∙ ap (knowledge_for p start) same,
    )

-- what the next agent knows, and its ends
pub turn_is : (p : Dcop) (start : Start) (known : List Private) (tails : List (Vec Tail Global)) (heads : List (Vec Head Global)) (k : ℕ) (x : Private × (Vec Tail Global × Vec Head Global))
    → known ≡ map (knowledge_for p start) (range_with_len 0 (length p.sizes)) → HaveEnds (all_neighbours p) (rows_in tails) (rows_in heads)
    → (k < length (zip known (zip tails heads))) × (x ≡ get_or (zip known (zip tails heads)) k x)
    → (k < length p.sizes) × (x.0 ≡ knowledge_for p start k) × (x.1.0.items ≡ get_or (rows_in tails) k []) × (x.1.1.items ≡ get_or (rows_in heads) k [])
turn_is p start known tails heads k x e ends at =
    let n : ℕ = length p.sizes in
    let knowns : length known ≡ n = ap (λ (xs : List Private). length xs) e ∙ length-map-range_with_len (knowledge_for p start) 0 n in
    let tail_rows : length tails ≡ n = sym (length-map tails (λ (r : Vec Tail Global). r.items)) ∙ ends.tails_size ∙ lists_size p in
    let head_rows : length heads ≡ n = sym (length-map heads (λ (r : Vec Head Global). r.items)) ∙ ends.heads_size ∙ lists_size p in
    let inner = length-zip tails heads in
    let outer = length-zip known (zip tails heads) in
    let below = at.0 in
    let lt : k < n = omega (arith, below, outer, inner, knowns, tail_rows, head_rows) in
    let in_known : k < length known = omega (arith, lt, knowns) in
    let in_tails : k < length tails = omega (arith, lt, tail_rows) in
    let in_heads : k < length heads = omega (arith, lt, head_rows) in
    let in_ends : k < length (zip tails heads) = omega (arith, lt, inner, tail_rows, head_rows) in
    let pair : x ≡ (get_or known k x.0, get_or (zip tails heads) k x.1) = at.1 ∙ get_or-zip known (zip tails heads) k x in_known in_ends in
    let own : x.0 ≡ get_or known k x.0 = ap (λ (y : Private × (Vec Tail Global × Vec Head Global)). y.0) pair in
    let row : x.1 ≡ (get_or tails k x.1.0, get_or heads k x.1.1) = ap (λ (y : Private × (Vec Tail Global × Vec Head Global)). y.1) pair ∙ get_or-zip tails heads k x.1 in_tails in_heads in (
      lt,
      (own_is p start known k k x.0 e (in_known, own) refl).1,
      ap (λ (y : Vec Tail Global × Vec Head Global). y.0.items) row ∙ sym (get_or-map (λ (r : Vec Tail Global). r.items) tails k x.1.0 [] in_tails),
      ap (λ (y : Vec Tail Global × Vec Head Global). y.1.items) row ∙ sym (get_or-map (λ (r : Vec Head Global). r.items) heads k x.1.1 [] in_heads),
    )

-- as many agents were seated as know something
pub all_seated : (p : Dcop) (start : Start) (known : List Private) (tails : List (Vec Tail Global)) (heads : List (Vec Head Global)) (seats : List Seat)
    → known ≡ map (knowledge_for p start) (range_with_len 0 (length p.sizes)) → HaveEnds (all_neighbours p) (rows_in tails) (rows_in heads)
    → length seats ≡ length (zip known (zip tails heads))
    → ((i : ℕ) (s : Seat) → slice_get seats i ≡ Some s → IsSeat (agent_of p start i) i (slice_index_or (rows_in tails) i []) (slice_index_or (rows_in heads) i []) s)
    → AreSeated p start (rows_in tails) (rows_in heads) seats
all_seated p start known tails heads seats e ends count each =
    let n : ℕ = length p.sizes in
    let knowns : length known ≡ n = ap (λ (xs : List Private). length xs) e ∙ length-map-range_with_len (knowledge_for p start) 0 n in
    let tail_rows : length tails ≡ n = sym (length-map tails (λ (r : Vec Tail Global). r.items)) ∙ ends.tails_size ∙ lists_size p in
    let head_rows : length heads ≡ n = sym (length-map heads (λ (r : Vec Head Global). r.items)) ∙ ends.heads_size ∙ lists_size p in
    let inner = length-zip tails heads in
    let outer = length-zip known (zip tails heads) in
    record {
      size = omega (arith, count, outer, inner, knowns, tail_rows, head_rows);
      each = each;
    }
