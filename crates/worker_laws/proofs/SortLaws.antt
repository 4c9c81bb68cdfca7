-- Lists by stamp and then agent: putting lists of single agents together, in exactly one way.
use Rattle.std.proofs.Common.{◌≡◌, ℕ, zero, suc, ◌≤◌, ◌<◌, ◌⊎◌, Bool, true, false, nat_lt, ◌==◌, ◌||◌, ◌&&◌, if◌then◌else◌, List, [], ◌∷◌, ◌++◌, length, drop, refl, sym, ap, ap₂, subst, ◌∙◌, inl, inr, arith}
use Rattle.std.specs.List.{flat_map, slice_get}
use Rattle.std.proofs.lemmas.Bool.{cases_Bool, cases_eq, cases_lt, eqb-true, eq-eqb, ne_eqb, or_cases, or_parts, or_left, and_parts, and_from, ltb-true, ltb-false, lt-ltb, true≢false}
use Rattle.std.proofs.lemmas.Option.{same_Some}

module _ {X : Type 0} (agent stamp : X → ℕ) where
  -- one comes before another: a lower stamp, or the same one and a lower agent
  abbrev pub Before : X → X → Type 0
  Before a b = (stamp a < stamp b) ⊎ ((stamp a ≡ stamp b) × (agent a < agent b))

  abbrev pub First : X → List X → Type 0
  First a [] = Unit {0}
  First a (b ∷ bs) = Before a b × First a bs

  abbrev pub Ordered : List X → Type 0
  Ordered [] = Unit {0}
  Ordered (a ∷ xs) = First a xs × Ordered xs

  -- what is of agent i
  abbrev pub one_own : ℕ → X → List X
  one_own i a = if agent a == i then a ∷ [] else []

  abbrev pub own : ℕ → List X → List X
  own i xs = flat_map (λ a. one_own i a) xs

  -- all stamps are above k
  abbrev pub Above : ℕ → List X → Type 0
  Above k [] = Unit {0}
  Above k (a ∷ xs) = (k < stamp a) × Above k xs

  -- each stamp is below all later ones
  abbrev pub Rising : List X → Type 0
  Rising [] = Unit {0}
  Rising (a ∷ xs) = Above (stamp a) xs × Rising xs

  -- all are of agent i
  abbrev pub OfAgent : ℕ → List X → Type 0
  OfAgent i [] = Unit {0}
  OfAgent i (a ∷ xs) = (agent a ≡ i) × OfAgent i xs

  before_then : (a b c : X) → Before a b → Before b c → Before a c
  before_then a b c h k = elim h [
    | inl low ↦ elim k [ inl less ↦ inl (omega (arith, low, less)) | inr same ↦ let e = same.0 in inl (omega (arith, low, e)) ]
    | inr low ↦ elim k [
      | inl less ↦ let e = low.0 in inl (omega (arith, e, less))
      | inr same ↦ let e = low.0 in let f = same.0 in let x = low.1 in let y = same.1 in inr (omega (arith, e, f), omega (arith, x, y))
    ]
  ]

  first_then : (a b : X) (cs : List X) → Before a b → First b cs → First a cs
  first_then a b [] h k = tt
  first_then a b (c ∷ cs) h k = (before_then a b c h k.0, first_then a b cs h k.1)

  not_both : (a b : X) → Before a b → Before b a → ⊥
  not_both a b h k = elim h [
    | inl low ↦ elim k [ inl less ↦ omega (arith, low, less) | inr same ↦ let e = same.0 in omega (arith, low, e) ]
    | inr low ↦ elim k [
      | inl less ↦ let e = low.0 in omega (arith, e, less)
      | inr same ↦ let x = low.1 in let y = same.1 in omega (arith, x, y)
    ]
  ]

  abbrev is_before : X → X → Bool
  is_before a b = nat_lt (stamp a) (stamp b) || (stamp a == stamp b && nat_lt (agent a) (agent b))

  before_from : (a b : X) → is_before a b ≡ true → Before a b
  before_from a b h = elim (or_cases (nat_lt (stamp a) (stamp b)) (stamp a == stamp b && nat_lt (agent a) (agent b)) h) [
    | inl low ↦ inl (ltb-true (stamp a) (stamp b) low)
    | inr both ↦ let parts = and_parts (stamp a == stamp b) (nat_lt (agent a) (agent b)) both in inr (eqb-true (stamp a) (stamp b) parts.0, ltb-true (agent a) (agent b) parts.1)
  ]

  -- what does not come before another one comes after it, unless they are of one agent
  after_from : (a b : X) → is_before a b ≡ false → (agent a ≡ agent b → stamp a < stamp b) → Before b a
  after_from a b h apart =
      let parts = or_parts (nat_lt (stamp a) (stamp b)) (stamp a == stamp b && nat_lt (agent a) (agent b)) h in
      let over = ltb-false (stamp a) (stamp b) parts.0 in
      elim (cases_lt (stamp b) (stamp a)) [
        | inl low ↦ inl low
        | inr high ↦
            let same : stamp a ≡ stamp b = omega (arith, over, high) in
            elim (cases_lt (agent b) (agent a)) [
              | inl less ↦ inr (sym same, less)
              | inr more ↦
                  elim (cases_eq (agent a) (agent b)) [
                    | inl one ↦ let low = apart one in absurd (omega (arith, low, same))
                    | inr two ↦
                        let less : agent a < agent b = between (agent a) (agent b) more two in
                        absurd (true≢false (sym (and_from (stamp a == stamp b) (nat_lt (agent a) (agent b)) (eq-eqb (stamp a) (stamp b) same) (lt-ltb (agent a) (agent b) less)) ∙ parts.1))
                  ]
            ]
      ]
    where
      between : (m n : ℕ) → m ≤ n → (m ≡ n → ⊥) → m < n
      between m n le ne = elim (cases_lt m n) [ inl less ↦ less | inr more ↦ absurd (ne (omega (arith, le, more))) ]

  -- one is put into a list, in its place
  abbrev put : X → List X → List X
  put a [] = a ∷ []
  put a (b ∷ bs) = if is_before a b then a ∷ b ∷ bs else b ∷ put a bs

  own_here : (a : X) (xs : List X) → own (agent a) (a ∷ xs) ≡ a ∷ own (agent a) xs
  own_here a xs = ap (λ (b : Bool). (if b then a ∷ [] else []) ++ own (agent a) xs) (eq-eqb (agent a) (agent a) refl)

  own_else : (i : ℕ) (a : X) (xs : List X) → (agent a ≡ i → ⊥) → own i (a ∷ xs) ≡ own i xs
  own_else i a xs ne = ap (λ (b : Bool). (if b then a ∷ [] else []) ++ own i xs) (ne_eqb (agent a) i ne)

  own_same : (i : ℕ) (a : X) (xs : List X) → agent a ≡ i → own i (a ∷ xs) ≡ a ∷ own i xs
  own_same i a xs same = ap (λ (b : Bool). (if b then a ∷ [] else []) ++ own i xs) (eq-eqb (agent a) i same)

  put_at : (a b : X) (bs : List X) (P : List X → Type 0) → (is_before a b ≡ true → P (a ∷ b ∷ bs)) → (is_before a b ≡ false → P (b ∷ put a bs)) → P (put a (b ∷ bs))
  put_at a b bs P so not_so = elim (cases_Bool (is_before a b)) [
    | inl h ↦ subst (λ (t : Bool). P (if t then a ∷ b ∷ bs else b ∷ put a bs)) (sym h) (so h)
    | inr h ↦ subst (λ (t : Bool). P (if t then a ∷ b ∷ bs else b ∷ put a bs)) (sym h) (not_so h)
  ]

  -- where the stamps of its own agent are above it, they come behind it
  above_own : (a b : X) (bs : List X) → Above (stamp a) (own (agent a) (b ∷ bs)) → agent a ≡ agent b → stamp a < stamp b
  above_own a b bs h same = (subst (λ (xs : List X). Above (stamp a) xs) (own_same (agent a) b bs (sym same)) h).0

  above_rest : (a b : X) (bs : List X) → Above (stamp a) (own (agent a) (b ∷ bs)) → Above (stamp a) (own (agent a) bs)
  above_rest a b bs h = elim (cases_eq (agent b) (agent a)) [
    | inl same ↦ (subst (λ (xs : List X). Above (stamp a) xs) (own_same (agent a) b bs same) h).1
    | inr other ↦ subst (λ (xs : List X). Above (stamp a) xs) (own_else (agent a) b bs other) h
  ]

  put_own : (a : X) (bs : List X) → Above (stamp a) (own (agent a) bs) → own (agent a) (put a bs) ≡ a ∷ own (agent a) bs
  put_own a [] h = own_here a []
  put_own a (b ∷ bs) h =
      put_at a b bs (λ cs. own (agent a) cs ≡ a ∷ own (agent a) (b ∷ bs)) (λ _. own_here a (b ∷ bs))
      (λ not_so. elim (cases_eq (agent b) (agent a)) [
        | inl same ↦ let low = above_own a b bs h (sym same) in absurd (true≢false (sym (or_left (nat_lt (stamp a) (stamp b)) (stamp a == stamp b && nat_lt (agent a) (agent b)) (lt-ltb (stamp a) (stamp b) low)) ∙ not_so))
        | inr other ↦ own_else (agent a) b (put a bs) other ∙ put_own a bs (above_rest a b bs h) ∙ ap (λ (cs : List X). a ∷ cs) (sym (own_else (agent a) b bs other))
      ])

  put_other : (i : ℕ) (a : X) (bs : List X) → (agent a ≡ i → ⊥) → own i (put a bs) ≡ own i bs
  put_other i a [] ne = own_else i a [] ne
  put_other i a (b ∷ bs) ne =
      put_at a b bs (λ cs. own i cs ≡ own i (b ∷ bs)) (λ _. own_else i a (b ∷ bs) ne) (λ _. ap (λ (cs : List X). one_own i b ++ cs) (put_other i a bs ne))

  first_put : (a b : X) (bs : List X) → Before b a → First b bs → First b (put a bs)
  first_put a b [] h k = (h, tt)
  first_put a b (c ∷ cs) h k = put_at a c cs (First b) (λ _. (h, k)) (λ _. (k.0, first_put a b cs h k.1))

  put_ordered : (a : X) (bs : List X) → Ordered bs → Above (stamp a) (own (agent a) bs) → Ordered (put a bs)
  put_ordered a [] h k = (tt, tt)
  put_ordered a (b ∷ bs) h k =
      put_at a b bs Ordered (λ so. let low = before_from a b so in ((low, first_then a b bs low h.0), h))
      (λ not_so. (first_put a b bs (after_from a b not_so (above_own a b bs k)) h.0, put_ordered a bs h.1 (above_rest a b bs k)))

  -- all of one agent are put into a list
  abbrev puts : List X → List X → List X
  puts [] bs = bs
  puts (a ∷ xs) bs = put a (puts xs bs)

  -- an ordered list with these of agent i, and of the others as before
  record Put (i : ℕ) (xs bs cs : List X) : Type 0 where
    ordered : Ordered cs
    mine : own i cs ≡ xs
    others : (k : ℕ) → (i ≡ k → ⊥) → own k cs ≡ own k bs

  puts_are : (i : ℕ) (xs bs : List X) → OfAgent i xs → Rising xs → Ordered bs → own i bs ≡ [] → Put i xs bs (puts xs bs)
  puts_are i [] bs of up order none = record { ordered = order; mine = none; others = λ k ne. refl }
  puts_are i (a ∷ xs) bs of up order none =
      let rest = puts_are i xs bs of.1 up.1 order none in
      let above : Above (stamp a) (own (agent a) (puts xs bs)) = subst (λ (k : ℕ). Above (stamp a) (own k (puts xs bs))) (sym of.0) (subst (λ (cs : List X). Above (stamp a) cs) (sym rest.mine) up.0) in
      record {
        ordered = put_ordered a (puts xs bs) rest.ordered above;
        mine =
            ap (λ (k : ℕ). own k (put a (puts xs bs))) (sym of.0) ∙ put_own a (puts xs bs) above
            ∙ ap (λ (k : ℕ). a ∷ own k (puts xs bs)) of.0 ∙ ap (λ (cs : List X). a ∷ cs) rest.mine;
        others = λ k ne. put_other k a (puts xs bs) (λ same. ne (sym of.0 ∙ same)) ∙ rest.others k ne;
      }

  -- the lists of the first n agents, put together
  pub record Sorted (n : ℕ) (f : ℕ → List X) : Type 0 where
    pub all : List X
    pub ordered : Ordered all
    pub own_is : (i : ℕ) → i < n → own i all ≡ f i
    pub none : (i : ℕ) → n ≤ i → own i all ≡ []

  pub sorted : (n : ℕ) (f : ℕ → List X) → ((i : ℕ) → i < n → OfAgent i (f i)) → ((i : ℕ) → i < n → Rising (f i)) → Sorted n f
  sorted zero f of up = record { all = []; ordered = tt; own_is = λ i lt. absurd (omega (arith, lt)); none = λ i le. refl }
  sorted (suc n) f of up =
      let rest = sorted n f (λ i lt. of i (omega (arith, lt))) (λ i lt. up i (omega (arith, lt))) in
      let now = puts_are n (f n) rest.all (of n (omega arith)) (up n (omega arith)) rest.ordered (rest.none n (omega arith)) in
      record {
        all = puts (f n) rest.all;
        ordered = now.ordered;
        own_is = λ i lt. elim (cases_eq n i) [
          | inl same ↦ subst (λ (k : ℕ). own k (puts (f n) rest.all) ≡ f k) same now.mine
          | inr other ↦ now.others i other ∙ rest.own_is i (below i lt other)
        ];
        none = λ i le. now.others i (λ same. omega (arith, le, same)) ∙ rest.none i (omega (arith, le));
      }
    where
      below : (i : ℕ) → i < suc n → (n ≡ i → ⊥) → i < n
      below i lt ne = elim (cases_lt i n) [ inl less ↦ less | inr more ↦ absurd (ne (omega (arith, lt, more))) ]

  first_own : (i : ℕ) (a : X) (bs : List X) → First a bs → First a (own i bs)
  first_own i a [] h = tt
  first_own i a (b ∷ bs) h = elim (cases_eq (agent b) i) [
    | inl same ↦ subst (λ (cs : List X). First a cs) (sym (own_same i b bs same)) (h.0, first_own i a bs h.1)
    | inr other ↦ subst (λ (cs : List X). First a cs) (sym (own_else i b bs other)) (first_own i a bs h.1)
  ]

  nothing : (a : X) (xs : List X) → [] ≡ a ∷ xs → ⊥
  nothing a xs e = let long = ap length e in omega (arith, long)

  heads : (a b : X) (xs bs : List X) → a ∷ xs ≡ b ∷ bs → a ≡ b
  heads a b xs bs e = same_Some a b (ap (λ (cs : List X). slice_get cs 0) e)

  tails : (a b : X) (xs bs : List X) → a ∷ xs ≡ b ∷ bs → xs ≡ bs
  tails a b xs bs e = ap (λ (cs : List X). drop 1 cs) e

  comes_first : (a b : X) (xs bs : List X) → First a xs → own (agent b) (a ∷ xs) ≡ own (agent b) (b ∷ bs) → (agent a ≡ agent b → ⊥) → Before a b
  comes_first a b xs bs h same ne =
      let is : own (agent b) xs ≡ b ∷ own (agent b) bs = sym (own_else (agent b) a xs ne) ∙ same ∙ own_here b bs in
      (subst (λ (cs : List X). First a cs) is (first_own (agent b) a xs h)).0

  -- ordered lists that have the same of each agent are the same
  pub only_one : (xs bs : List X) → Ordered xs → Ordered bs → ((i : ℕ) → own i xs ≡ own i bs) → xs ≡ bs
  only_one [] [] h k same = refl
  only_one [] (b ∷ bs) h k same = absurd (nothing b (own (agent b) bs) (same (agent b) ∙ own_here b bs))
  only_one (a ∷ xs) [] h k same = absurd (nothing a (own (agent a) xs) (sym (same (agent a)) ∙ own_here a xs))
  only_one (a ∷ xs) (b ∷ bs) h k same = elim (cases_eq (agent a) (agent b)) [
    | inl one ↦
        let both : a ∷ own (agent a) xs ≡ b ∷ own (agent a) bs = sym (own_here a xs) ∙ same (agent a) ∙ own_same (agent a) b bs (sym one) in
        let head : a ≡ b = heads a b (own (agent a) xs) (own (agent a) bs) both in
        let rest : (i : ℕ) → own i xs ≡ own i bs = λ i. elim (cases_eq (agent a) i) [
          | inl mine ↦ subst (λ (j : ℕ). own j xs ≡ own j bs) mine (tails a b (own (agent a) xs) (own (agent a) bs) both)
          | inr other ↦ sym (own_else i a xs other) ∙ same i ∙ own_else i b bs (λ e. other (one ∙ e))
        ] in
        ap₂ (λ (x : X) (cs : List X). x ∷ cs) head (only_one xs bs h.1 k.1 rest)
    | inr two ↦ absurd (not_both a b (comes_first a b xs bs h.0 (same (agent b)) two) (comes_first b a bs xs k.0 (sym (same (agent a))) (λ e. two (sym e))))
  ]
