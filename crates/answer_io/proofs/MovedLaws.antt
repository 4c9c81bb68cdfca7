-- What the words of a WCSP text are read as if further bytes follow them.
use Rattle.std.proofs.Common.{◌≡◌, ℕ, zero, suc, ◌+◌, ◌≤◌, Bool, true, false, ◌||◌, cond, List, [], ◌∷◌, ◌++◌, length, map, nat_le, nat_lt, Option, Some, None, Result, Ok, Err, refl, sym, ap, subst, ◌∙◌}
use Rattle.std.proofs.lemmas.List.{map-append}
use Rattle.std.proofs.lemmas.List.Sums.{sum_by-cons}
use Rattle.dcop_base.specs.Faults.{is_bad_size}
use Rattle.dcop_base.specs.Limits.{scope_limit, cell_limit}
use Rattle.dcop_base.specs.NumberWord.{number_of}
use Rattle.dcop_base.specs.Table.{has}
use Rattle.wcsp_text.specs.declared.fault.WcspKind.{WcspKind}
use Rattle.wcsp_text.specs.declared.fault.Fault.{Fault}
use Rattle.wcsp_text.specs.Words.{Word}
use Rattle.wcsp_text.specs.Numbers.{Place, number, as_number, read_on, onto}
use Rattle.wcsp_text.specs.Cells.{values_read, tuple_read, tuples_read, cells_read, written_cells}
use Rattle.wcsp_text.specs.Functions.{Function, scope_read, over_scope, function_read, functions_read, own_sizes, table_over, count_over, cells_of}
use Rattle.wcsp_text.specs.Networks.{Network, count_fault, unless, sizes_read, body_read, named_read, network_read}
use Rattle.answer_io.proofs.CutLaws.{moved_word, AllBefore}

-- a function and a network, with `n` more bytes after them
abbrev pub moved_function : ℕ → Function → Function
moved_function n f = record { after = f.after + n; table = f.table }

abbrev pub moved_network : ℕ → Network → Network
moved_network n w = record { top = w.top; sizes = w.sizes; functions = map (moved_function n) w.functions }

-- a place with a byte after it, as the words to come have
pub record IsBefore (p : Place) : Type 0 where
  pub here : 1 ≤ p.after
  pub later : AllBefore p.words

-- functions have as many cells as before
cells_same : (n : ℕ) (fs : List Function) → cells_of (map (moved_function n) fs) ≡ cells_of fs
cells_same n [] = refl
cells_same n (f ∷ fs) =
    sum_by-cons (λ (f : Function). length f.table.cells) (moved_function n f) (map (moved_function n) fs)
    ∙ ap (λ k. length f.table.cells + k) (cells_same n fs)
    ∙ sym (sum_by-cons (λ (f : Function). length f.table.cells) f fs)

module _ (n : ℕ) (more : List Word) where
  -- a place, with `n` more bytes after it, which have these words
  abbrev pub moved : Place → Place
  moved p = record { after = p.after + n; words = map (moved_word n) p.words ++ more }

  -- what is read is read in the other way too, changed so, up to the moved place
  abbrev pub Keeps : {A : Type 0} → (A → A) → Result (A × Place) Fault → Result (A × Place) Fault → Type 0
  Keeps {A} f r r' = (x : A) (q : Place) → r ≡ Ok (x, q) → (r' ≡ Ok (f x, moved q)) × IsBefore q

  keeps_ok : {A : Type 0} (f : A → A) (x : A) (p : Place) → IsBefore p → Keeps f (Ok (x, p)) (Ok (f x, moved p))
  keeps_ok {A} f x p before y q e =
      let same : ◌≡◌ {A = A × Place} (x, p) (y, q) = cc in
      (ap (λ (s : A × Place). Ok (f s.0, moved s.1)) same, subst (λ (s : A × Place). IsBefore s.1) same before)

  keeps_err : {A : Type 0} (f : A → A) (fault : Fault) (r' : Result (A × Place) Fault) → Keeps f (Err fault) r'
  keeps_err {A} f fault r' x q e = absurd (cc)

  keeps_on : {A B : Type 0} (f : A → A) (g : B → B) (r r' : Result (A × Place) Fault) (later later' : A → Place → Result (B × Place) Fault) → Keeps f r r'
      → ((x : A) (q : Place) → IsBefore q → Keeps g (later x q) (later' (f x) (moved q))) → Keeps g (read_on r later) (read_on r' later')
  keeps_on {A} {B} f g (Ok (x, p)) r' later later' keeps on y q e =
      let there = keeps x p refl in
      let here = on x p there.1 y q e in
      (subst (λ (o : Result (A × Place) Fault). read_on o later' ≡ Ok (g y, moved q)) (sym there.0) here.0, here.1)
  keeps_on {A} {B} f g (Err fault) r' later later' keeps on y q e = absurd (cc)

  keeps_if : {A : Type 0} (f : A → A) (b : Bool) (fault fault' : Fault) (r r' : Result (A × Place) Fault) → Keeps f r r' → Keeps f (cond b (Err fault) r) (cond b (Err fault') r')
  keeps_if {A} f true fault fault' r r' keeps = keeps_err f fault (Err fault')
  keeps_if {A} f false fault fault' r r' keeps = keeps

  keeps_unless : {A : Type 0} (f : A → A) (o : Option WcspKind) (p p' : Place) (r r' : Result (A × Place) Fault) → Keeps f r r' → Keeps f (unless o p r) (unless o p' r')
  keeps_unless {A} f (Some kind) p p' r r' keeps = keeps_err f (record { after = p.after; kind = kind }) (Err (record { after = p'.after; kind = kind }))
  keeps_unless {A} f None p p' r r' keeps = keeps

  keeps_onto : {A : Type 0} (x : A) (r r' : Result (List A × Place) Fault) → Keeps (λ xs. xs) r r' → Keeps (λ xs. xs) (onto x r) (onto x r')
  keeps_onto {A} x (Ok (xs, p)) r' keeps ys q e =
      let there = keeps xs p refl in
      let here = keeps_ok (λ (xs : List A). xs) (x ∷ xs) p there.1 ys q e in
      (subst (λ (o : Result (List A × Place) Fault). onto x o ≡ Ok (ys, moved q)) (sym there.0) here.0, here.1)
  keeps_onto {A} x (Err fault) r' keeps ys q e = absurd (cc)

  keeps_word : (p : Place) (o : Option ℕ) → IsBefore p → Keeps (λ k. k) (as_number p o) (as_number (moved p) o)
  keeps_word p None before = keeps_err (λ k. k) _ _
  keeps_word p (Some k) before = keeps_ok (λ k. k) k p before

  keeps_number : (ws : List Word) → AllBefore ws → Keeps (λ k. k) (number ws) (number (map (moved_word n) ws ++ more))
  keeps_number [] all = keeps_err (λ k. k) _ _
  keeps_number (w ∷ ws) all = keeps_word (record { after = w.after; words = ws }) (number_of w.text) (record { here = all.0; later = all.1 })

  values_keep : (sizes : List ℕ) (p : Place) → IsBefore p → Keeps (λ xs. xs) (values_read sizes p) (values_read sizes (moved p))
  values_keep [] p before = keeps_ok (λ xs. xs) [] p before
  values_keep (size ∷ sizes) p before =
      keeps_on (λ k. k) (λ xs. xs) _ _ _ _ (keeps_number p.words before.later) (λ value q here.
      keeps_if (λ xs. xs) (nat_le size value) _ _ _ _ (keeps_onto value _ _ (values_keep sizes q here)))

  tuple_keeps : (sizes : List ℕ) (p : Place) → IsBefore p → Keeps (λ t. t) (tuple_read sizes p) (tuple_read sizes (moved p))
  tuple_keeps sizes p before =
      keeps_on (λ xs. xs) (λ t. t) _ _ _ _ (values_keep sizes p before) (λ values q here.
      keeps_on (λ k. k) (λ t. t) _ _ _ _ (keeps_number q.words here.later) (λ cost r there.
      keeps_ok (λ t. t) (record { values = values; cost = cost }) r there))

  tuples_keep : (sizes : List ℕ) (count : ℕ) (p : Place) → IsBefore p → Keeps (λ ts. ts) (tuples_read sizes count p) (tuples_read sizes count (moved p))
  tuples_keep sizes zero p before = keeps_ok (λ ts. ts) [] p before
  tuples_keep sizes (suc count) p before =
      keeps_on (λ t. t) (λ ts. ts) _ _ _ _ (tuple_keeps sizes p before) (λ t q here. keeps_onto t _ _ (tuples_keep sizes count q here))

  cells_keep : (sizes : List ℕ) (p : Place) → IsBefore p → Keeps (λ xs. xs) (cells_read sizes p) (cells_read sizes (moved p))
  cells_keep sizes p before =
      keeps_on (λ k. k) (λ xs. xs) _ _ _ _ (keeps_number p.words before.later) (λ default q here.
      keeps_on (λ k. k) (λ xs. xs) _ _ _ _ (keeps_number q.words here.later) (λ count r there.
      keeps_on (λ ts. ts) (λ xs. xs) _ _ _ _ (tuples_keep sizes count r there) (λ tuples s last.
      keeps_ok (λ xs. xs) (written_cells sizes default tuples) s last)))

  scope_keeps : (variables : ℕ) (earlier : List ℕ) (arity : ℕ) (p : Place) → IsBefore p → Keeps (λ xs. xs) (scope_read variables earlier arity p) (scope_read variables earlier arity (moved p))
  scope_keeps variables earlier zero p before = keeps_ok (λ xs. xs) earlier p before
  scope_keeps variables earlier (suc arity) p before =
      keeps_on (λ k. k) (λ xs. xs) _ _ _ _ (keeps_number p.words before.later) (λ var q here.
      keeps_if (λ xs. xs) (nat_le variables var || has earlier var) _ _ _ _ (scope_keeps variables (earlier ++ (var ∷ [])) arity q here))

  over_keeps : (sizes : List ℕ) (cells arity : ℕ) (p : Place) → IsBefore p → Keeps (moved_function n) (over_scope sizes cells arity p) (over_scope sizes cells arity (moved p))
  over_keeps sizes cells arity p before =
      keeps_on (λ xs. xs) (moved_function n) _ _ _ _ (scope_keeps (length sizes) [] arity p before) (λ scope q here.
      keeps_if (moved_function n) (nat_lt cell_limit (cells + count_over sizes scope)) _ _ _ _ (
      keeps_on (λ xs. xs) (moved_function n) _ _ _ _ (cells_keep (own_sizes sizes scope) q here) (λ own r there.
      keeps_ok (moved_function n) (record { after = p.after; table = table_over sizes scope own }) r there)))

  function_keeps : (sizes : List ℕ) (cells : ℕ) (p : Place) → IsBefore p → Keeps (moved_function n) (function_read sizes cells p) (function_read sizes cells (moved p))
  function_keeps sizes cells p before =
      keeps_on (λ k. k) (moved_function n) _ _ _ _ (keeps_number p.words before.later) (λ arity q here.
      keeps_if (moved_function n) (nat_lt scope_limit arity) _ _ _ _ (over_keeps sizes cells arity q here))

  functions_keep : (sizes : List ℕ) (earlier : List Function) (count : ℕ) (p : Place) → IsBefore p
      → Keeps (map (moved_function n)) (functions_read sizes earlier count p) (functions_read sizes (map (moved_function n) earlier) count (moved p))
  functions_keep sizes earlier zero p before = keeps_ok (map (moved_function n)) earlier p before
  functions_keep sizes earlier (suc count) p before =
      keeps_on (moved_function n) (map (moved_function n)) (function_read sizes (cells_of earlier) p) (function_read sizes (cells_of (map (moved_function n) earlier)) (moved p))
      (λ f q. functions_read sizes (earlier ++ (f ∷ [])) count q) (λ f q. functions_read sizes (map (moved_function n) earlier ++ (f ∷ [])) count q)
      (subst (λ (k : ℕ). Keeps (moved_function n) (function_read sizes (cells_of earlier) p) (function_read sizes k (moved p))) (sym (cells_same n earlier))
      (function_keeps sizes (cells_of earlier) p before))
      (λ f q here.
      subst (λ (fs : List Function). Keeps (map (moved_function n)) (functions_read sizes (earlier ++ (f ∷ [])) count q) (functions_read sizes fs count (moved q)))
      (map-append (moved_function n) earlier (f ∷ [])) (functions_keep sizes (earlier ++ (f ∷ [])) count q here))

  sizes_keep : (count : ℕ) (p : Place) → IsBefore p → Keeps (λ xs. xs) (sizes_read count p) (sizes_read count (moved p))
  sizes_keep zero p before = keeps_ok (λ xs. xs) [] p before
  sizes_keep (suc count) p before =
      keeps_on (λ k. k) (λ xs. xs) _ _ _ _ (keeps_number p.words before.later) (λ size q here.
      keeps_if (λ xs. xs) (is_bad_size size) _ _ _ _ (keeps_onto size _ _ (sizes_keep count q here)))

  body_keeps : (top variables functions : ℕ) (p : Place) → IsBefore p → Keeps (moved_network n) (body_read top variables functions p) (body_read top variables functions (moved p))
  body_keeps top variables functions p before =
      keeps_on (λ xs. xs) (moved_network n) _ _ _ _ (sizes_keep variables p before) (λ sizes q here.
      keeps_on (map (moved_function n)) (moved_network n) _ _ _ _ (functions_keep sizes [] functions q here) (λ fs r there.
      keeps_ok (moved_network n) (record { top = top; sizes = sizes; functions = fs }) r there))

  named_keeps : (p : Place) → IsBefore p → Keeps (moved_network n) (named_read p) (named_read (moved p))
  named_keeps p before =
      keeps_on (λ k. k) (moved_network n) _ _ _ _ (keeps_number p.words before.later) (λ variables q here.
      keeps_unless (moved_network n) (count_fault variables) q (moved q) _ _ (
      keeps_on (λ k. k) (moved_network n) _ _ _ _ (keeps_number q.words here.later) (λ greatest_size r there.
      keeps_on (λ k. k) (moved_network n) _ _ _ _ (keeps_number r.words there.later) (λ functions s next.
      keeps_on (λ k. k) (moved_network n) _ _ _ _ (keeps_number s.words next.later) (λ top t last.
      body_keeps top variables functions t last)))))

  -- the network that words give is the same if further words follow them
  pub network_keeps : (ws : List Word) → AllBefore ws → Keeps (moved_network n) (network_read ws) (network_read (map (moved_word n) ws ++ more))
  network_keeps [] all = keeps_err (moved_network n) _ _
  network_keeps (w ∷ ws) all = named_keeps (record { after = w.after; words = ws }) (record { here = all.0; later = all.1 })
