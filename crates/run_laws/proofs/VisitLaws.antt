-- What stays as a search goes on: paths, subtrees and places.
use Rattle.std.proofs.Common.{◌≡◌, ℕ, zero, suc, ◌+◌, ◌<◌, ◌≤◌, Bool, true, false, ◌||◌, cond, eqb, List, [], ◌∷◌, ◌++◌, length, take, Option, Some, None, refl, sym, ap, subst, ◌∙◌, inl, inr, arith}
use Rattle.std.specs.Prelude.{◌⊎◌}
use Rattle.std.specs.List.{concat, find, filter, range_with_len}
use Rattle.std.proofs.lemmas.Bool.{cases_Bool, cases_eq, cases_lt, or_cases, or_left, or_parts, eqb-true, eq-eqb, true≢false}
use Rattle.std.proofs.lemmas.Option.{same_Some, none-some}
use Rattle.std.proofs.lemmas.List.{length-append, append-nil, append_assoc, map-append}
use Rattle.std.proofs.lemmas.List.Concat.{flat_map-append}
use Rattle.std.proofs.lemmas.List.Folds.{concat-append}
use Rattle.dcop_base.specs.Table.{has}
use Rattle.dcop_base.specs.Problem.{Dcop}
use Rattle.dcop_base.specs.Graph.{are_neighbours}
use Rattle.pseudotree.specs.DepthFirst.{Visit, is_seen, path_in}
use Rattle.protocol_steps.specs.Token.{TokenView}
use Rattle.pseudotree.proofs.NestLaws.{has_filter}
use Rattle.run_laws.proofs.MemberLaws.{in_left, in_right, in_cases, only}
use Rattle.run_laws.proofs.Visits.{vars, ended_view, heads, Ascends, Grown, Nested, Found}

-- lists that ascend
pub ascend-push : (xs : List ℕ) (w : ℕ) → Ascends xs → ((y : ℕ) → has xs y ≡ true → y < w) → Ascends (xs ++ (w ∷ []))
ascend-push [] w a below = (λ y h. absurd (cc), tt)
ascend-push (x ∷ xs) w a below = (
  λ y h. elim (in_cases xs (w ∷ []) y h) [
    | inl old ↦ a.0 y old
    | inr new ↦ subst (λ (z : ℕ). x < z) (only w y new) (below x (or_left (eqb x x) (has xs x) (eq-eqb x x refl)))
  ],
  ascend-push xs w a.1 (λ y h. below y (in_right (x ∷ []) xs y h)),
)

in_range : (a n u : ℕ) → has (range_with_len a n) u ≡ true → (a ≤ u) × (u < a + n)
in_range a zero u h = absurd (cc)
in_range a (suc n) u h = elim (or_cases (eqb a u) (has (range_with_len (a + 1) n) u) h) [
  | inl first ↦ let same = eqb-true a u first in (omega arith, omega arith)
  | inr later ↦ let rest = in_range (a + 1) n u later in let low : a + 1 ≤ u = rest.0 in let high : u < a + 1 + n = rest.1 in (omega arith, omega arith)
]

pub ascend-filter : (q : ℕ → Bool) (a n : ℕ) → Ascends (filter q (range_with_len a n))
ascend-filter q a zero = tt
ascend-filter q a (suc n) = elim (cases_Bool (q a)) [
  | inl passes ↦
      subst (λ (b : Bool). Ascends (cond b (a ∷ filter q (range_with_len (a + 1) n)) (filter q (range_with_len (a + 1) n)))) (sym passes)
      (λ y h. let inside : a + 1 ≤ y = (in_range (a + 1) n y (has_filter q (range_with_len (a + 1) n) y h).0).0 in omega arith, ascend-filter q (a + 1) n)
  | inr fails ↦
      subst (λ (b : Bool). Ascends (cond b (a ∷ filter q (range_with_len (a + 1) n)) (filter q (range_with_len (a + 1) n)))) (sym fails) (ascend-filter q (a + 1) n)
]

pub filter_in : (q : ℕ → Bool) (n u : ℕ) → has (filter q (range_with_len 0 n)) u ≡ true → (q u ≡ true) × (u < n)
filter_in q n u h =
    let parts = has_filter q (range_with_len 0 n) u h in
    let inside : u < 0 + n = (in_range 0 n u parts.0).1 in
    (parts.1, omega arith)

-- ascending lists of the same numbers are one list
pub ascend-same : (xs ys : List ℕ) → Ascends xs → Ascends ys → ((u : ℕ) → has xs u ≡ true → has ys u ≡ true) → ((u : ℕ) → has ys u ≡ true → has xs u ≡ true) → xs ≡ ys
ascend-same [] [] a b to from = refl
ascend-same [] (y ∷ ys) a b to from = absurd (true≢false (sym (from y (or_left (eqb y y) (has ys y) (eq-eqb y y refl)))))
ascend-same (x ∷ xs) [] a b to from = absurd (true≢false (sym (to x (or_left (eqb x x) (has xs x) (eq-eqb x x refl)))))
ascend-same (x ∷ xs) (y ∷ ys) a b to from =
    let here : x ≡ y = elim (or_cases (eqb y x) (has ys x) (to x (or_left (eqb x x) (has xs x) (eq-eqb x x refl)))) [
      | inl e ↦ sym (eqb-true y x e)
      | inr more ↦ elim (or_cases (eqb x y) (has xs y) (from y (or_left (eqb y y) (has ys y) (eq-eqb y y refl)))) [
        | inl e ↦ eqb-true x y e
        | inr less ↦ let up = b.0 x more in let down = a.0 y less in absurd (omega (arith, up, down))
      ]
    ] in
    let rest : xs ≡ ys = ascend-same xs ys a.1 b.1
    (λ u h. elim (or_cases (eqb y u) (has ys u) (to u (in_right (x ∷ []) xs u h))) [
      | inl e ↦ let up = a.0 u h in let same = eqb-true y u e in absurd (omega (arith, up, here, same))
      | inr there ↦ there
    ])
    (λ u h. elim (or_cases (eqb x u) (has xs u) (from u (in_right (y ∷ []) ys u h))) [
      | inl e ↦ let up = b.0 u h in let same = eqb-true x u e in absurd (omega (arith, up, here, same))
      | inr there ↦ there
    ]) in
    ap (λ (z : ℕ). z ∷ xs) here ∙ ap (λ (zs : List ℕ). y ∷ zs) rest

-- the first that passes
pub find_some : (q : ℕ → Bool) (xs : List ℕ) (w : ℕ) → find q xs ≡ Some w → (has xs w ≡ true) × (q w ≡ true)
find_some q [] w e = absurd (none-some w e)
find_some q (x ∷ xs) w e = elim (cases_Bool (q x)) [
  | inl passes ↦
      let same : x ≡ w = same_Some x w (sym (ap (λ (b : Bool). cond b (Some x) (find q xs)) passes) ∙ e) in
      (or_left (eqb x w) (has xs w) (eq-eqb x w same), ap q (sym same) ∙ passes)
  | inr fails ↦
      let rest = find_some q xs w (sym (ap (λ (b : Bool). cond b (Some x) (find q xs)) fails) ∙ e) in
      (in_right (x ∷ []) xs w rest.0, rest.1)
]

pub find_none : (q : ℕ → Bool) (xs : List ℕ) (w : ℕ) → find q xs ≡ None → has xs w ≡ true → q w ≡ false
find_none q [] w e h = absurd (cc)
find_none q (x ∷ xs) w e h = elim (cases_Bool (q x)) [
  | inl passes ↦ absurd (none-some x (sym e ∙ ap (λ (b : Bool). cond b (Some x) (find q xs)) passes))
  | inr fails ↦ elim (or_cases (eqb x w) (has xs w) h) [
    | inl same ↦ ap q (sym (eqb-true x w same)) ∙ fails
    | inr later ↦ find_none q xs w (sym (ap (λ (b : Bool). cond b (Some x) (find q xs)) fails) ∙ e) later
  ]
]

-- where the list ascends, no lower one passes
pub find_first : (q : ℕ → Bool) (xs : List ℕ) (w u : ℕ) → Ascends xs → find q xs ≡ Some w → has xs u ≡ true → u < w → q u ≡ false
find_first q [] w u a e h lt = absurd (none-some w e)
find_first q (x ∷ xs) w u a e h lt = elim (cases_Bool (q x)) [
  | inl passes ↦
      let same : x ≡ w = same_Some x w (sym (ap (λ (b : Bool). cond b (Some x) (find q xs)) passes) ∙ e) in
      elim (or_cases (eqb x u) (has xs u) h) [
        | inl first ↦ let at = eqb-true x u first in absurd (omega (arith, same, at, lt))
        | inr later ↦ let up = a.0 u later in absurd (omega (arith, same, up, lt))
      ]
  | inr fails ↦ elim (or_cases (eqb x u) (has xs u) h) [
    | inl first ↦ ap q (sym (eqb-true x u first)) ∙ fails
    | inr later ↦ find_first q xs w u a.1 (sym (ap (λ (b : Bool). cond b (Some x) (find q xs)) fails) ∙ e) later lt
  ]
]

pub find_same : (f g : ℕ → Bool) (xs : List ℕ) → ((u : ℕ) → has xs u ≡ true → f u ≡ g u) → find f xs ≡ find g xs
find_same f g [] same = refl
find_same f g (x ∷ xs) same =
    ap (λ (b : Bool). cond b (Some x) (find f xs)) (same x (or_left (eqb x x) (has xs x) (eq-eqb x x refl)))
    ∙ ap (λ (o : Option ℕ). cond (g x) (Some x) o) (find_same f g xs (λ u h. same u (in_right (x ∷ []) xs u h)))

-- what was seen, as a list of variables
pub seen_is : (S : List Visit) (u : ℕ) → is_seen S u ≡ has (vars S) u
seen_is [] u = refl
seen_is (s ∷ S) u = ap (λ (b : Bool). eqb s.var u || b) (seen_is S u)

pub path_kept : (S more : List Visit) (u : ℕ) → has (vars S) u ≡ true → path_in (S ++ more) u ≡ path_in S u
path_kept [] more u h = absurd (cc)
path_kept (s ∷ S) more u h = elim (cases_Bool (eqb s.var u)) [
  | inl here ↦
      ap (λ (b : Bool). cond b s.path (path_in (S ++ more) u)) here ∙ sym (ap (λ (b : Bool). cond b s.path (path_in S u)) here)
  | inr other ↦
      let later : has (vars S) u ≡ true = sym (ap (λ (b : Bool). b || has (vars S) u) other) ∙ h in
      ap (λ (b : Bool). cond b s.path (path_in (S ++ more) u)) other ∙ path_kept S more u later ∙ sym (ap (λ (b : Bool). cond b s.path (path_in S u)) other)
]

pub path_new : (S : List Visit) (x : Visit) → has (vars S) x.var ≡ false → path_in (S ++ (x ∷ [])) x.var ≡ x.path
path_new [] x h = ap (λ (b : Bool). cond b x.path []) (eq-eqb x.var x.var refl)
path_new (s ∷ S) x h =
    let parts = or_parts (eqb s.var x.var) (has (vars S) x.var) h in
    ap (λ (b : Bool). cond b s.path (path_in (S ++ (x ∷ [])) x.var)) parts.0 ∙ path_new S x parts.1

pub grown_vars : (S R : List Visit) (g : Grown S R) → vars R ≡ vars S ++ vars g.more
grown_vars S R g = ap (λ (Q : List Visit). vars Q) g.is ∙ map-append (λ (s : Visit). s.var) S g.more

pub grown_has : (S R : List Visit) → Grown S R → (u : ℕ) → has (vars S) u ≡ true → has (vars R) u ≡ true
grown_has S R g u h = ap (λ (xs : List ℕ). has xs u) (grown_vars S R g) ∙ in_left (vars S) (vars g.more) u h

pub grown_path : (S R : List Visit) → Grown S R → (u : ℕ) → has (vars S) u ≡ true → path_in R u ≡ path_in S u
grown_path S R g u h = ap (λ (Q : List Visit). path_in Q u) g.is ∙ path_kept S g.more u h

pub grown_then : (S R Q : List Visit) → Grown S R → Grown R Q → Grown S Q
grown_then S R Q a b = record { more = a.more ++ b.more; is = b.is ∙ ap (λ (T : List Visit). T ++ b.more) a.is ∙ append_assoc S a.more b.more }

pub nested_later : (p : Dcop) (S R : List Visit) (v : ℕ) (path : List ℕ) (kept : List (List ℕ)) → Grown S R → Nested p S v path kept → Nested p R v path kept
nested_later p S R v path kept g n = record {
  seen = λ x h. grown_has S R g x (n.seen x h);
  tops = λ c h. let old = n.tops c h in (old.0, grown_path S R g c (n.seen c old.0) ∙ old.1);
  deep = λ x h. elim (n.deep x h) [
    | inl top ↦ inl top
    | inr long ↦ inr (subst (λ (xs : List ℕ). length path + 1 < length xs) (sym (grown_path S R g x (n.seen x h))) long)
  ];
  ascend = n.ascend;
  lower = λ c u h lt inside near. grown_has S R g u (n.lower c u h lt inside near);
}

pub found_later : (p : Dcop) (S R : List Visit) (u : ℕ) (view : TokenView) → Grown S R → has (vars S) u ≡ true → Found p S u view → Found p R u view
found_later p S R u view g h f =
    let same : path_in S u ≡ path_in R u = sym (grown_path S R g u h) in
    record {
      kept = f.kept;
      is = subst (λ (path : List ℕ). view ≡ ended_view p u path f.kept) same f.is;
      whole = subst (λ (path : List ℕ). (w : ℕ) → w < length p.sizes → are_neighbours p u w ≡ true → (has path w || has (concat f.kept) w) ≡ true) same f.whole;
      nested = subst (λ (path : List ℕ). Nested p R u path f.kept) same (nested_later p S R u (path_in S u) f.kept g f.nested);
    }

pub concat-push : (kept : List (List ℕ)) (xs : List ℕ) → concat (kept ++ (xs ∷ [])) ≡ concat kept ++ xs
concat-push kept xs = concat-append kept (xs ∷ []) ∙ ap (λ (ys : List ℕ). concat kept ++ ys) (append-nil xs)

pub heads-push : (kept : List (List ℕ)) (w : ℕ) (xs : List ℕ) → heads (kept ++ ((w ∷ xs) ∷ [])) ≡ heads kept ++ (w ∷ [])
heads-push kept w xs = flat_map-append (λ (subtree : List ℕ). take 1 subtree) kept ((w ∷ xs) ∷ [])

-- one more child w, with its subtree
module _ (p : Dcop) (S R : List Visit) (v : ℕ) (path : List ℕ) (kept : List (List ℕ)) (g : Grown S R) (old : Nested p S v path kept)
    (w : ℕ) (below : List (List ℕ)) (new : Nested p R w (path ++ (v ∷ [])) below)
    (free : has (vars S) w ≡ false) (inside : w < length p.sizes) (near : are_neighbours p v w ≡ true)
    (least : (u : ℕ) → u < w → u < length p.sizes → are_neighbours p v u ≡ true → has (vars S) u ≡ true)
    (there : has (vars R) w ≡ true) (at : path_in R w ≡ path ++ (v ∷ [])) where
  abbrev child : List ℕ
  child = w ∷ concat below

  still : Nested p R v path kept
  still = nested_later p S R v path kept g old

  in_child : (x : ℕ) → has child x ≡ true → (w ≡ x) ⊎ (has (concat below) x ≡ true)
  in_child x h = elim (or_cases (eqb w x) (has (concat below) x) h) [ inl e ↦ inl (eqb-true w x e) | inr later ↦ inr later ]

  into : (x : ℕ) → (has (concat kept) x ≡ true) ⊎ (has child x ≡ true) → has (concat (kept ++ (child ∷ []))) x ≡ true
  into x (inl h) = ap (λ (xs : List ℕ). has xs x) (concat-push kept child) ∙ in_left (concat kept) child x h
  into x (inr h) = ap (λ (xs : List ℕ). has xs x) (concat-push kept child) ∙ in_right (concat kept) child x h

  out_of : (x : ℕ) → has (concat (kept ++ (child ∷ []))) x ≡ true → (has (concat kept) x ≡ true) ⊎ (has child x ≡ true)
  out_of x h = in_cases (concat kept) child x (sym (ap (λ (xs : List ℕ). has xs x) (concat-push kept child)) ∙ h)

  head_into : (x : ℕ) → (has (heads kept) x ≡ true) ⊎ (w ≡ x) → has (heads (kept ++ (child ∷ []))) x ≡ true
  head_into x (inl h) = ap (λ (xs : List ℕ). has xs x) (heads-push kept w (concat below)) ∙ in_left (heads kept) (w ∷ []) x h
  head_into x (inr e) = ap (λ (xs : List ℕ). has xs x) (heads-push kept w (concat below)) ∙ in_right (heads kept) (w ∷ []) x (or_left (eqb w x) false (eq-eqb w x e))

  head_out : (x : ℕ) → has (heads (kept ++ (child ∷ []))) x ≡ true → (has (heads kept) x ≡ true) ⊎ (w ≡ x)
  head_out x h = elim (in_cases (heads kept) (w ∷ []) x (sym (ap (λ (xs : List ℕ). has xs x) (heads-push kept w (concat below))) ∙ h)) [
    | inl before ↦ inl before
    | inr now ↦ inr (only w x now)
  ]

  head_below : (c : ℕ) → has (heads kept) c ≡ true → c < w
  head_below c h =
      let seen : has (vars S) c ≡ true = old.seen c (old.tops c h).0 in
      elim (cases_lt c w) [
        | inl lt ↦ lt
        | inr le ↦ elim (cases_eq c w) [
          | inl same ↦ absurd (true≢false (sym seen ∙ ap (λ (x : ℕ). has (vars S) x) same ∙ free))
          | inr other ↦ absurd (true≢false (sym (old.lower c w h (omega (arith, le, other)) inside near) ∙ free))
        ]
      ]

  pub nested_more : Nested p R v path (kept ++ (child ∷ []))
  nested_more = record {
    seen = λ x h. elim (out_of x h) [
      | inl before ↦ still.seen x before
      | inr now ↦ elim (in_child x now) [
        | inl e ↦ subst (λ (y : ℕ). has (vars R) y ≡ true) e there
        | inr deeper ↦ new.seen x deeper
      ]
    ];
    tops = λ c h. elim (head_out c h) [
      | inl before ↦ let o = still.tops c before in (into c (inl o.0), o.1)
      | inr e ↦ (into c (inr (or_left (eqb w c) (has (concat below) c) (eq-eqb w c e))), subst (λ (y : ℕ). path_in R y ≡ path ++ (v ∷ [])) e at)
    ];
    deep = λ x h. elim (out_of x h) [
      | inl before ↦ elim (still.deep x before) [
        | inl top ↦ inl (head_into x (inl top))
        | inr long ↦ inr long
      ]
      | inr now ↦ elim (in_child x now) [
        | inl e ↦ inl (head_into x (inr e))
        | inr deeper ↦ elim (new.deep x deeper) [
          | inl top ↦
              let long : length (path_in R x) ≡ length ((path ++ (v ∷ [])) ++ (w ∷ [])) = ap (λ (xs : List ℕ). length xs) (new.tops x top).1 in
              inr (omega (arith, long, length-append (path ++ (v ∷ [])) (w ∷ []), length-append path (v ∷ [])))
          | inr long ↦ inr (omega (arith, long, length-append path (v ∷ [])))
        ]
      ]
    ];
    ascend = subst (λ (xs : List ℕ). Ascends xs) (sym (heads-push kept w (concat below))) (ascend-push (heads kept) w old.ascend head_below);
    lower = λ c u h lt known beside. elim (head_out c h) [
      | inl before ↦ still.lower c u before lt known beside
      | inr e ↦ grown_has S R g u (least u (subst (λ (y : ℕ). u < y) (sym e) lt) known beside)
    ];
  }
