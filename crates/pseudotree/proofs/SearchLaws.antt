-- The depth-first search of a problem, which joints connect: its tree is a linked pseudotree.
use Rattle.std.proofs.Common.{◌≡◌, ℕ, zero, suc, ◌+◌, ◌-◌, ◌<◌, ◌≤◌, Bool, true, false, ◌&&◌, ◌||◌, not, cond, eqb, List, [], ◌∷◌, ◌++◌, length, Option, Some, None, refl, sym, ap, subst, ◌∙◌, inl, inr, zero-add, arith}
use Rattle.std.specs.Prelude.{◌⊎◌}
use Rattle.std.specs.List.{find, slice_get, count_by, range_with_len, All}
use Rattle.std.proofs.lemmas.Bool.{cases_Bool, and_parts, and_from, or_cases, or_left, or_right, or_parts, eqb-true, eq-eqb, not-true, not-false, not_from_true, not_from_false, true≢false}
use Rattle.std.proofs.lemmas.Option.{same_Some, none-some}
use Rattle.std.proofs.lemmas.List.{length-append}
use Rattle.std.proofs.lemmas.List.Elements.{All-head, All-tail, filter_passes}
use Rattle.std.proofs.lemmas.List.Folds.{list_any-append, Any-from_list_any}
use Rattle.std.proofs.lemmas.List.FromFn.{length-range_with_len, length-map-range_with_len, get_or-map-range_with_len}
use Rattle.std.proofs.lemmas.List.Sums.{sum_by-cons, count_by-le-length}
use Rattle.dcop_base.specs.Table.{CostTable, has}
use Rattle.dcop_base.specs.Problem.{Dcop}
use Rattle.dcop_base.specs.Graph.{are_neighbours, neighbours, share_table, are_joined, IsPath, IsConnected}
use Rattle.dcop_base.specs.Whole.{IsProblem, IsTableOf}
use Rattle.dcop_base.proofs.JointLaws.{IsConnected-joints}
use Rattle.pseudotree.specs.Tree.{path_of, parent_of, IsRoot}
use Rattle.pseudotree.specs.Pseudotree.{IsPseudotree, IsLinked}
use Rattle.pseudotree.specs.DepthFirst.{Visit, is_seen, next_of, and_next, visit, search_of, path_in, dfs, DepthFirstTreesAreLinked}
use Rattle.pseudotree.specs.Marks.{are_together}
use Rattle.pseudotree.proofs.TreeLaws.{last_push}
use Rattle.pseudotree.proofs.OrderLaws.{filter_below}
use Rattle.pseudotree.proofs.CheckLaws.{together_turned, or_turned, within_tree}
use Rattle.pseudotree.proofs.NestLaws.{filter_has, scope_below}
use Rattle.pseudotree.proofs.SpreadLaws.{any_in_range}

-- what is seen after one more visit
seen_push : (S : List Visit) (x : Visit) (u : ℕ) → is_seen (S ++ (x ∷ [])) u ≡ (is_seen S u || (eqb x.var u || false))
seen_push S x u = list_any-append (λ (s : Visit). eqb s.var u) S (x ∷ [])

path_kept : (S : List Visit) (x : Visit) (u : ℕ) → is_seen S u ≡ true → path_in (S ++ (x ∷ [])) u ≡ path_in S u
path_kept [] x u h = absurd (cc)
path_kept (s ∷ S) x u h =
    elim (cases_Bool (eqb s.var u)) [
      | inl here ↦
          ap (λ (b : Bool). cond b s.path (path_in (S ++ (x ∷ [])) u)) here ∙ sym (ap (λ (b : Bool). cond b s.path (path_in S u)) here)
      | inr other ↦
          let later : is_seen S u ≡ true = sym (ap (λ (b : Bool). b || is_seen S u) other) ∙ h in
          ap (λ (b : Bool). cond b s.path (path_in (S ++ (x ∷ [])) u)) other ∙ path_kept S x u later ∙ sym (ap (λ (b : Bool). cond b s.path (path_in S u)) other)
    ]

path_new : (S : List Visit) (x : Visit) → is_seen S x.var ≡ false → path_in (S ++ (x ∷ [])) x.var ≡ x.path
path_new [] x h = ap (λ (b : Bool). cond b x.path []) (eq-eqb x.var x.var refl)
path_new (s ∷ S) x h =
    let parts = or_parts (eqb s.var x.var) (is_seen S x.var) h in
    ap (λ (b : Bool). cond b s.path (path_in (S ++ (x ∷ [])) x.var)) parts.0 ∙ path_new S x parts.1

find_gives : (P : ℕ → Type 0) (q : ℕ → Bool) (xs : List ℕ) (w : ℕ) → All P xs → find q xs ≡ Some w → P w × (q w ≡ true)
find_gives P q [] w all e = absurd (none-some w e)
find_gives P q (x ∷ xs) w all e =
    elim (cases_Bool (q x)) [
      | inl passes ↦
          let same : x ≡ w = same_Some x w (sym (ap (λ (b : Bool). cond b (Some x) (find q xs)) passes) ∙ e) in
          (subst P same (All-head P x xs all), ap q (sym same) ∙ passes)
      | inr fails ↦ find_gives P q xs w (All-tail P x xs all) (sym (ap (λ (b : Bool). cond b (Some x) (find q xs)) fails) ∙ e)
    ]

find_none : (q : ℕ → Bool) (xs : List ℕ) (w : ℕ) → find q xs ≡ None → has xs w ≡ true → q w ≡ false
find_none q [] w e h = absurd (cc)
find_none q (x ∷ xs) w e h =
    elim (cases_Bool (q x)) [
      | inl passes ↦ absurd (none-some x (sym e ∙ ap (λ (b : Bool). cond b (Some x) (find q xs)) passes))
      | inr fails ↦
          elim (or_cases (eqb x w) (has xs w) h) [
            | inl same ↦ ap q (sym (eqb-true x w same)) ∙ fails
            | inr later ↦ find_none q xs w (sym (ap (λ (b : Bool). cond b (Some x) (find q xs)) fails) ∙ e) later
          ]
    ]

count-le : (f g : ℕ → Bool) (xs : List ℕ) → ((x : ℕ) → f x ≡ true → g x ≡ true) → count_by f xs ≤ count_by g xs
count-le f g [] more = omega arith
count-le f g (x ∷ xs) more =
    let rest = count-le f g xs more in
    let left : count_by f (x ∷ xs) ≡ cond (f x) 1 0 + count_by f xs = sum_by-cons (λ y. cond (f y) 1 0) x xs in
    let right : count_by g (x ∷ xs) ≡ cond (g x) 1 0 + count_by g xs = sum_by-cons (λ y. cond (g y) 1 0) x xs in
    elim (cases_Bool (f x)) [
      | inl passes ↦
          let one : cond {A = ℕ} (f x) 1 0 ≡ 1 = ap (λ (b : Bool). cond {A = ℕ} b 1 0) passes in
          let other : cond {A = ℕ} (g x) 1 0 ≡ 1 = ap (λ (b : Bool). cond {A = ℕ} b 1 0) (more x passes) in omega arith
      | inr fails ↦ let none : cond {A = ℕ} (f x) 1 0 ≡ 0 = ap (λ (b : Bool). cond {A = ℕ} b 1 0) fails in omega arith
    ]

count-lt : (f g : ℕ → Bool) (xs : List ℕ) (w : ℕ) → ((x : ℕ) → f x ≡ true → g x ≡ true) → has xs w ≡ true → f w ≡ false → g w ≡ true → count_by f xs < count_by g xs
count-lt f g [] w more h fw gw = absurd (cc)
count-lt f g (x ∷ xs) w more h fw gw =
    let left : count_by f (x ∷ xs) ≡ cond (f x) 1 0 + count_by f xs = sum_by-cons (λ y. cond (f y) 1 0) x xs in
    let right : count_by g (x ∷ xs) ≡ cond (g x) 1 0 + count_by g xs = sum_by-cons (λ y. cond (g y) 1 0) x xs in
    elim (or_cases (eqb x w) (has xs w) h) [
      | inl same ↦
          let none : cond {A = ℕ} (f x) 1 0 ≡ 0 = ap (λ (b : Bool). cond {A = ℕ} b 1 0) (ap f (eqb-true x w same) ∙ fw) in
          let one : cond {A = ℕ} (g x) 1 0 ≡ 1 = ap (λ (b : Bool). cond {A = ℕ} b 1 0) (ap g (eqb-true x w same) ∙ gw) in
          let rest = count-le f g xs more in omega arith
      | inr later ↦
          let rest = count-lt f g xs w more later fw gw in
          elim (cases_Bool (f x)) [
            | inl passes ↦
                let one : cond {A = ℕ} (f x) 1 0 ≡ 1 = ap (λ (b : Bool). cond {A = ℕ} b 1 0) passes in
                let other : cond {A = ℕ} (g x) 1 0 ≡ 1 = ap (λ (b : Bool). cond {A = ℕ} b 1 0) (more x passes) in omega arith
            | inr fails ↦ let none : cond {A = ℕ} (f x) 1 0 ≡ 0 = ap (λ (b : Bool). cond {A = ℕ} b 1 0) fails in omega arith
          ]
    ]

has_range : (n v : ℕ) → v < n → has (range_with_len 0 n) v ≡ true
has_range n v lt = any_in_range (λ y. eqb y v) n v lt (eq-eqb v v refl)

neighbours_turned : (p : Dcop) (u w : ℕ) → are_neighbours p u w ≡ true → are_neighbours p w u ≡ true
neighbours_turned p u w h =
    let parts = and_parts (not (eqb u w)) (are_together p u w) h in
    and_from (not (eqb w u)) (are_together p w u)
    (elim (cases_Bool (eqb w u)) as (λ (_ : _). not (eqb w u) ≡ true) [
      | inl same ↦ absurd (true≢false (sym parts.0 ∙ not_from_true (eqb u w) (eq-eqb u w (sym (eqb-true w u same)))))
      | inr differs ↦ not_from_false (eqb w u) differs
    ])
    (together_turned p w u ∙ parts.1)

-- how many variables are not seen yet
abbrev pub unseen : Dcop → List Visit → ℕ
unseen p S = count_by (λ v. not (is_seen S v)) (range_with_len 0 (length p.sizes))

-- the parent of u is seen, a neighbour, and has the path up to it
abbrev pub HasParent : Dcop → List Visit → ℕ → Type 0
HasParent p S u = (q : ℕ) × (is_seen S q ≡ true) × (path_in S u ≡ path_in S q ++ (q ∷ [])) × (are_neighbours p u q ≡ true)

-- what was seen is a tree from variable 0 along neighbours
pub record IsSearch (p : Dcop) (S : List Visit) : Type 0 where
  pub root : (is_seen S 0 ≡ true) × (path_in S 0 ≡ [])
  pub known : (u : ℕ) → is_seen S u ≡ true → u < length p.sizes
  pub parents : (u : ℕ) → is_seen S u ≡ true → (u ≡ 0) ⊎ HasParent p S u

-- what was seen stays seen, with its path
pub record Extends (S R : List Visit) : Type 0 where
  pub seen : (u : ℕ) → is_seen S u ≡ true → is_seen R u ≡ true
  pub same : (u : ℕ) → is_seen S u ≡ true → path_in R u ≡ path_in S u

Extends-refl : (S : List Visit) → Extends S S
Extends-refl S = record { seen = λ u h. h; same = λ u h. refl }

Extends-trans : (S R Q : List Visit) → Extends S R → Extends R Q → Extends S Q
Extends-trans S R Q a b = record {
  seen = λ u h. b.seen u (a.seen u h);
  same = λ u h. b.same u (a.seen u h) ∙ a.same u h;
}

Extends-push : (S : List Visit) (x : Visit) → Extends S (S ++ (x ∷ []))
Extends-push S x = record {
  seen = λ u h. seen_push S x u ∙ or_left (is_seen S u) (eqb x.var u || false) h;
  same = λ u h. path_kept S x u h;
}

unseen-le : (p : Dcop) (S R : List Visit) → Extends S R → unseen p R ≤ unseen p S
unseen-le p S R e =
    count-le (λ v. not (is_seen R v)) (λ v. not (is_seen S v)) (range_with_len 0 (length p.sizes))
    (λ x h. elim (cases_Bool (is_seen S x)) [
      | inl seen ↦ absurd (true≢false (sym (e.seen x seen) ∙ not-true (is_seen R x) h))
      | inr free ↦ not_from_false (is_seen S x) free
    ])

unseen-lt : (p : Dcop) (S R : List Visit) (w : ℕ) → Extends S R → w < length p.sizes → is_seen S w ≡ false → is_seen R w ≡ true → unseen p R < unseen p S
unseen-lt p S R w e lt free seen =
    count-lt (λ v. not (is_seen R v)) (λ v. not (is_seen S v)) (range_with_len 0 (length p.sizes)) w
    (λ x h. elim (cases_Bool (is_seen S x)) [
      | inl there ↦ absurd (true≢false (sym (e.seen x there) ∙ not-true (is_seen R x) h))
      | inr not_there ↦ not_from_false (is_seen S x) not_there
    ])
    (has_range (length p.sizes) w lt) (not_from_true (is_seen R w) seen) (not_from_false (is_seen S w) free)

-- every neighbour of u is seen, and one of the two is the other's ancestor
abbrev pub IsDone : Dcop → List Visit → ℕ → Type 0
IsDone p S u = (w : ℕ) → w < length p.sizes → are_neighbours p u w ≡ true → (is_seen S w ≡ true) × ((has (path_in S u) w || has (path_in S w) u) ≡ true)

done_stays : (p : Dcop) (S R : List Visit) (u : ℕ) → Extends S R → is_seen S u ≡ true → IsDone p S u → IsDone p R u
done_stays p S R u e h done w lt near =
    let d = done w lt near in (
      e.seen w d.0,
      ap (λ (xs : List ℕ). has xs w || has (path_in R w) u) (e.same u h) ∙ ap (λ (xs : List ℕ). has (path_in S u) w || has xs u) (e.same w d.0) ∙ d.1,
    )

-- each variable that was seen is done or stands in this path
abbrev pub AllDoneBut : Dcop → List Visit → List ℕ → Type 0
AllDoneBut p S path = (u : ℕ) → is_seen S u ≡ true → IsDone p S u ⊎ (has path u ≡ true)

-- what a search leaves: it goes on from what was seen, and all that is not in the path is done
pub record IsLeft (p : Dcop) (S R : List Visit) (path : List ℕ) : Type 0 where
  pub search : IsSearch p R
  pub extends : Extends S R
  pub done : AllDoneBut p R path

-- where no neighbour is left, the variable itself is done
finish : (p : Dcop) (v : ℕ) (path : List ℕ) (S : List Visit) → IsSearch p S → is_seen S v ≡ true → path_in S v ≡ path → AllDoneBut p S (path ++ (v ∷ []))
    → ((w : ℕ) → w < length p.sizes → are_neighbours p v w ≡ true → is_seen S w ≡ true) → IsLeft p S S path
finish p v path S search seen at done none = record {
  search = search;
  extends = Extends-refl S;
  done = λ u h.
      elim (done u h) [
        | inl finished ↦ inl finished
        | inr open_one ↦
            elim (or_cases (has path u) (eqb v u || false) (sym (list_any-append (λ y. eqb y u) path (v ∷ [])) ∙ open_one)) [
              | inl above ↦ inr above
              | inr last ↦ inl (subst (λ (x : ℕ). IsDone p S x) (same u last) now)
            ]
      ];
} where
  same : (u : ℕ) → (eqb v u || false) ≡ true → v ≡ u
  same u h = elim (or_cases (eqb v u) false h) [ inl e ↦ eqb-true v u e | inr no_one ↦ absurd (cc) ]

  now : IsDone p S v
  now w lt near =
      let there = none w lt near in (
        there,
        elim (done w there) [
          | inl finished ↦
              let back = finished v (search.known v seen) (neighbours_turned p v w near) in
              or_turned (has (path_in S v) w) (has (path_in S w) v) ∙ back.1
          | inr open_one ↦
              elim (or_cases (has path w) (eqb v w || false) (sym (list_any-append (λ y. eqb y w) path (v ∷ [])) ∙ open_one)) [
                | inl above ↦ or_left (has (path_in S v) w) (has (path_in S w) v) (ap (λ (xs : List ℕ). has xs w) at ∙ above)
                | inr last ↦
                    let parts = and_parts (not (eqb v w)) (are_together p v w) near in
                    absurd (true≢false (sym parts.0 ∙ not_from_true (eqb v w) (eq-eqb v w (same w last))))
              ]
        ],
      )

-- one more variable is seen, below v
begin : (p : Dcop) (v w : ℕ) (path : List ℕ) (S : List Visit) → IsSearch p S → is_seen S v ≡ true → path_in S v ≡ path
    → w < length p.sizes → are_neighbours p v w ≡ true → is_seen S w ≡ false
    → IsSearch p (S ++ (record { var = w; path = path ++ (v ∷ []) } ∷ []))
begin p v w path S search seen at lt near free = record {
  root = (e.seen 0 search.root.0, e.same 0 search.root.0 ∙ search.root.1);
  known = λ u h.
      elim (or_cases (is_seen S u) (eqb w u || false) (sym (seen_push S x u) ∙ h)) [
        | inl before ↦ search.known u before
        | inr now ↦ subst (λ (y : ℕ). y < length p.sizes) (same u now) lt
      ];
  parents = λ u h.
      elim (or_cases (is_seen S u) (eqb w u || false) (sym (seen_push S x u) ∙ h)) [
        | inl before ↦
            elim (search.parents u before) [
              | inl zero_one ↦ inl zero_one
              | inr parent ↦
                  inr (
                    parent.0,
                    e.seen parent.0 parent.1,
                    e.same u before ∙ parent.2 ∙ ap (λ (xs : List ℕ). xs ++ (parent.0 ∷ [])) (sym (e.same parent.0 parent.1)),
                    parent.3,
                  )
            ]
        | inr now ↦
            inr (
              v,
              e.seen v seen,
              ap (path_in (S ++ (x ∷ []))) (sym (same u now)) ∙ path_new S x free ∙ ap (λ (xs : List ℕ). xs ++ (v ∷ [])) (sym at ∙ sym (e.same v seen)),
              ap (λ (y : ℕ). are_neighbours p y v) (sym (same u now)) ∙ neighbours_turned p v w near,
            )
      ];
} where
  x : Visit
  x = record { var = w; path = path ++ (v ∷ []) }

  e : Extends S (S ++ (x ∷ []))
  e = Extends-push S x

  same : (u : ℕ) → (eqb w u || false) ≡ true → w ≡ u
  same u h = elim (or_cases (eqb w u) false h) [ inl is ↦ eqb-true w u is | inr no_one ↦ absurd (cc) ]

none_left : (p : Dcop) (S : List Visit) → unseen p S ≤ 0 → (w : ℕ) → w < length p.sizes → is_seen S w ≡ true
none_left p S le w lt =
    elim (cases_Bool (is_seen S w)) [
      | inl seen ↦ seen
      | inr free ↦
          let some = count-lt (λ v. false) (λ v. not (is_seen S v)) (range_with_len 0 (length p.sizes)) w (λ x h. absurd (true≢false (sym h))) (has_range (length p.sizes) w lt) refl (not_from_false (is_seen S w) free) in
          absurd (omega arith)
    ]

pub visited : (p : Dcop) (steps v : ℕ) (path : List ℕ) (S : List Visit) → IsSearch p S → is_seen S v ≡ true → path_in S v ≡ path → AllDoneBut p S (path ++ (v ∷ []))
    → unseen p S ≤ steps → IsLeft p S (visit p steps v path S) path
visited p zero v path S search seen at done le = finish p v path S search seen at done (λ w lt near. none_left p S le w lt)
visited p (suc steps) v path S search seen at done le =
    elim (next_of p S v) as (λ (o : Option ℕ). next_of p S v ≡ o → IsLeft p S (and_next o S (λ w.
    visit p steps v path (visit p steps w (path ++ (v ∷ [])) (S ++ (record { var = w; path = path ++ (v ∷ []) } ∷ []))))) path) [
      | None ↦ λ e.
          finish p v path S search seen at done
          (λ w lt near. not-false (is_seen S w) (find_none (λ x. not (is_seen S x)) (neighbours p v) w e
          (filter_has (are_neighbours p v) (range_with_len 0 (length p.sizes)) w (has_range (length p.sizes) w lt) near)))
      | Some w ↦ λ e.
          let gives = find_gives (λ x. (x < length p.sizes) × (are_neighbours p v x ≡ true)) (λ x. not (is_seen S x)) (neighbours p v) w
          (λ k d lt. (filter_below (are_neighbours p v) (length p.sizes) k d lt, filter_passes (are_neighbours p v) (range_with_len 0 (length p.sizes)) k d lt)) e in
          let free : is_seen S w ≡ false = not-true (is_seen S w) gives.1 in
          let x : Visit = record { var = w; path = path ++ (v ∷ []) } in
          let first = begin p v w path S search seen at gives.0.0 gives.0.1 free in
          let seen_w : is_seen (S ++ (x ∷ [])) w ≡ true =
          seen_push S x w ∙ or_right (is_seen S w) (eqb w w || false) (or_left (eqb w w) false (eq-eqb w w refl)) in
          let less = unseen-lt p S (S ++ (x ∷ [])) w (Extends-push S x) gives.0.0 free seen_w in
          let inner = visited p steps w (path ++ (v ∷ [])) (S ++ (x ∷ [])) first seen_w (path_new S x free) (done_push p S x w (path ++ (v ∷ [])) refl done) (omega arith) in
          let fewer = unseen-le p (S ++ (x ∷ [])) (visit p steps w (path ++ (v ∷ [])) (S ++ (x ∷ []))) inner.extends in
          let before = Extends-trans S (S ++ (x ∷ [])) (visit p steps w (path ++ (v ∷ [])) (S ++ (x ∷ []))) (Extends-push S x) inner.extends in
          let outer = visited p steps v path (visit p steps w (path ++ (v ∷ [])) (S ++ (x ∷ []))) inner.search (before.seen v seen) (before.same v seen ∙ at) inner.done (omega arith) in
          record {
            search = outer.search;
            extends = Extends-trans S (visit p steps w (path ++ (v ∷ [])) (S ++ (x ∷ []))) (visit p steps v path (visit p steps w (path ++ (v ∷ [])) (S ++ (x ∷ [])))) before outer.extends;
            done = outer.done;
          }
    ] refl where
      done_push : (p : Dcop) (S : List Visit) (x : Visit) (w : ℕ) (path : List ℕ) → x.var ≡ w → AllDoneBut p S path → AllDoneBut p (S ++ (x ∷ [])) (path ++ (w ∷ []))
      done_push p S x w path is all u h =
          elim (or_cases (is_seen S u) (eqb x.var u || false) (sym (seen_push S x u) ∙ h)) [
            | inl before ↦
                elim (all u before) [
                  | inl finished ↦ inl (done_stays p S (S ++ (x ∷ [])) u (Extends-push S x) before finished)
                  | inr above ↦ inr (list_any-append (λ y. eqb y u) path (w ∷ []) ∙ or_left (has path u) (eqb w u || false) above)
                ]
            | inr now ↦
                inr (list_any-append (λ y. eqb y u) path (w ∷ []) ∙ or_right (has path u) (eqb w u || false) (ap (λ (y : ℕ). eqb y u || false) (sym is) ∙ now))
          ]

-- the search from variable 0 leaves a tree in which each variable that was seen is done
module _ (p : Dcop) (problem : IsProblem p) where
  searched : IsLeft p (record { var = 0; path = [] } ∷ []) (search_of p) []
  searched =
      visited p (length p.sizes) 0 [] (record { var = 0; path = [] } ∷ [])
      (record {
        root = (refl, refl);
        known = λ u h. let some = problem.some in let same : 0 ≡ u = zero_is u h in omega arith;
        parents = λ u h. inl (sym (zero_is u h));
      })
      refl refl (λ u h. inr h)
      (omega (arith, count_by-le-length (λ v. not (is_seen (record { var = 0; path = [] } ∷ []) v)) (range_with_len 0 (length p.sizes)), length-range_with_len 0 (length p.sizes))) where
        zero_is : (u : ℕ) → (eqb 0 u || false) ≡ true → 0 ≡ u
        zero_is u h = elim (or_cases (eqb 0 u) false h) [ inl e ↦ eqb-true 0 u e | inr no_one ↦ absurd (cc) ]

  all_done : (u : ℕ) → is_seen (search_of p) u ≡ true → IsDone p (search_of p) u
  all_done u h = elim (searched.done u h) [ inl finished ↦ finished | inr above ↦ absurd (cc) ]

  -- a neighbour is a variable of the problem
  near_within : (u w : ℕ) → are_neighbours p u w ≡ true → w < length p.sizes
  near_within u w near =
      elim (or_cases (share_table p.tables u w) (are_joined p.joints u w) (and_parts (not (eqb u w)) (are_together p u w) near).1) [
        | inl shared ↦
            let some = Any-from_list_any (λ (t : CostTable). has t.scope u && has t.scope w) p.tables shared in
            let table : IsTableOf p.sizes some.1 = subst (IsTableOf p.sizes) some.3 (problem.tables some.0 some.1 some.2) in
            scope_below some.1.scope (length p.sizes) table.within w (and_parts (has some.1.scope u) (has some.1.scope w) some.4).1
        | inr joined ↦
            let some = Any-from_list_any (λ (j : ℕ × ℕ). (eqb j.0 u && eqb j.1 w) || (eqb j.0 w && eqb j.1 u)) p.joints joined in
            let first : (some.1).0 ≡ 0 = subst (λ (j : ℕ × ℕ). j.0 ≡ 0) some.3 (problem.joints.from_zero some.0 some.1 some.2) in
            let below : (some.1).1 < length p.sizes = subst (λ (j : ℕ × ℕ). j.1 < length p.sizes) some.3 (problem.joints.within some.0 some.1 some.2) in
            elim (or_cases (eqb (some.1).0 u && eqb (some.1).1 w) (eqb (some.1).0 w && eqb (some.1).1 u) some.4) [
              | inl one ↦ let same = eqb-true (some.1).1 w (and_parts (eqb (some.1).0 u) (eqb (some.1).1 w) one).1 in omega arith
              | inr other ↦
                  let same = eqb-true (some.1).0 w (and_parts (eqb (some.1).0 w) (eqb (some.1).1 u) other).0 in
                  let least = problem.some in omega arith
            ]
      ]

  seen_along : (v u : ℕ) (ws : List ℕ) → is_seen (search_of p) u ≡ true → IsPath (are_neighbours p) u ws v → is_seen (search_of p) v ≡ true
  seen_along v u [] seen same = subst (λ (x : ℕ). is_seen (search_of p) x ≡ true) same seen
  seen_along v u (w ∷ ws) seen way = seen_along v w ws (all_done u seen w (near_within u w way.0) way.0).0 way.1

  module _ (connected : IsConnected p) where
    all_seen : (v : ℕ) → v < length p.sizes → is_seen (search_of p) v ≡ true
    all_seen v lt = let way = connected v lt in seen_along v 0 way.0 searched.search.root.0 way.1

    long : length (dfs p) ≡ length p.sizes
    long = length-map-range_with_len (path_in (search_of p)) 0 (length p.sizes)

    path_is : (v : ℕ) → v < length p.sizes → path_of (dfs p) v ≡ path_in (search_of p) v
    path_is v lt = get_or-map-range_with_len (path_in (search_of p)) 0 (length p.sizes) v v [] lt (zero-add v)

    parent_facts : (v u : ℕ) → parent_of (dfs p) v ≡ Some u → (u < length p.sizes) × (path_of (dfs p) v ≡ path_of (dfs p) u ++ (u ∷ [])) × (are_neighbours p v u ≡ true)
    parent_facts v u h =
        let lt : v < length p.sizes = let within = within_tree (dfs p) v u h in let count = long in omega arith in
        elim (searched.search.parents v (all_seen v lt)) [
          | inl zero_one ↦
              let none : path_of (dfs p) v ≡ [] = path_is v lt ∙ ap (path_in (search_of p)) zero_one ∙ searched.search.root.1 in
              absurd (none-some u (sym (ap (λ (xs : List ℕ). slice_get xs (length xs - 1)) none) ∙ h))
          | inr parent ↦
              let lq : parent.0 < length p.sizes = searched.search.known parent.0 parent.1 in
              let path : path_of (dfs p) v ≡ path_of (dfs p) parent.0 ++ (parent.0 ∷ []) =
              path_is v lt ∙ parent.2 ∙ ap (λ (xs : List ℕ). xs ++ (parent.0 ∷ [])) (sym (path_is parent.0 lq)) in
              let same : parent.0 ≡ u =
              same_Some parent.0 u (sym (ap (λ (xs : List ℕ). slice_get xs (length xs - 1)) path ∙ last_push (path_of (dfs p) parent.0) parent.0) ∙ h) in (
                subst (λ (x : ℕ). x < length p.sizes) same lq,
                subst (λ (x : ℕ). path_of (dfs p) v ≡ path_of (dfs p) x ++ (x ∷ [])) same path,
                subst (λ (x : ℕ). are_neighbours p v x ≡ true) same parent.3,
              )
        ]

    only_zero : (u : ℕ) → IsRoot (dfs p) u → u ≡ 0
    only_zero u root =
        let lt : u < length p.sizes = let within = root.0 in let count = long in omega arith in
        elim (searched.search.parents u (all_seen u lt)) [
          | inl zero_one ↦ zero_one
          | inr parent ↦
              let none : path_in (search_of p) parent.0 ++ (parent.0 ∷ []) ≡ [] = sym parent.2 ∙ sym (path_is u lt) ∙ root.1 in
              let count : length (path_in (search_of p) parent.0 ++ (parent.0 ∷ [])) ≡ 0 = ap length none in
              absurd (omega (arith, length-append (path_in (search_of p) parent.0) (parent.0 ∷ [])))
        ]

    pub dfs_pseudotree : IsPseudotree p (dfs p)
    dfs_pseudotree = record {
      sized = long;
      tree = record {
        some_root =
            let least = problem.some in let count = long in
            (0, (omega arith, path_is 0 (omega arith) ∙ searched.search.root.1));
        one_root = λ u v hu hv. only_zero u hu ∙ sym (only_zero v hv);
        nested = λ v u h. let facts = parent_facts v u h in let count = long in (omega (arith, facts.0), facts.1);
      };
      in_line = λ u v lu lv near.
          let line = (all_done u (all_seen u lu) v lv near).1 in
          ap (λ (xs : List ℕ). has xs u || has (path_of (dfs p) u) v) (path_is v lv)
          ∙ ap (λ (xs : List ℕ). has (path_in (search_of p) v) u || has xs v) (path_is u lu)
          ∙ or_turned (has (path_in (search_of p) v) u) (has (path_in (search_of p) u) v)
          ∙ line;
    }

    pub dfs_linked : IsLinked p (dfs p)
    dfs_linked v u h = (parent_facts v u h).2

pub depth_first_trees_are_linked : DepthFirstTreesAreLinked
depth_first_trees_are_linked p problem =
    let connected = IsConnected-joints p problem.joints in (dfs_pseudotree p problem connected, dfs_linked p problem connected)
