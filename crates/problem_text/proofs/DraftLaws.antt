-- What lines declare stays the beginning of a file.
use Rattle.std.proofs.Common.{◌≡◌, ℕ, ◌+◌, ◌<◌, ◌≤◌, suc, Bool, true, false, not, cond, List, [], ◌∷◌, ◌++◌, length, map, Option, Some, None, position, get_or, nat_lt, nat_le, nat_eq, ◌||◌, ◌&&◌, ◌⊎◌, inl, inr, refl, sym, ap, ◌∙◌, subst, arith, length-append, append_assoc}
use Rattle.std.specs.List.{list_any, list_all, All, AllZip, before_first, after_first}
use Rattle.std.specs.Prelude.{codes}
use Rattle.std.specs.Str.{bytes_eq}
use Rattle.std.specs.Cmp.Lexicographic.{nat_list_eq_equiv}
use Rattle.std.proofs.lemmas.Map.Keys.{IsDistinct-push}
use Rattle.std.proofs.lemmas.List.{append-nil, get_or_append_left}
use Rattle.std.proofs.lemmas.List.Folds.{list_all-append, list_any-append}
use Rattle.std.proofs.lemmas.List.Elements.{All-append, All-cons, All-head, All-tail}
use Rattle.std.proofs.lemmas.Bool.{or_parts, not-false, ltb-false, leb-false, eqb-true, false≢true, eqb-false}
use Rattle.dcop_base.specs.Table.{CostTable, product, greatest, has_repeat}
use Rattle.dcop_base.specs.Faults.{is_bad_size, next_fault, tables_fault, first_fault, cell_count, greatest_sum}
use Rattle.dcop_base.specs.NumberWord.{number_of}
use Rattle.dcop_base.specs.Limits.{amount_limit, variable_limit, cost_limit, cell_limit}
use Rattle.dcop_base.specs.declared.problem.ProblemFault.{ProblemFault}
use Rattle.dcop_base.proofs.FaultLaws.{next-none, none-next, position-none, position-all}
use Rattle.dcop_base.proofs.TableLaws.{four-fail, none-passes}
use Rattle.problem_text.specs.declared.fault.TextKind.{TextKind}
use Rattle.problem_text.specs.declared.fault.TextKind.TheVariants.{BadWord, NameTwice, Problem}
use Rattle.problem_text.specs.Lines.{has_some}
use Rattle.problem_text.specs.Name.{is_name}
use Rattle.problem_text.specs.File.{AreLabels, has_wide_table, is_max, has_labels}
use Rattle.problem_text.specs.Declarations.{Declared, Outcome, Declares, Fails, with_table, with_variable, is_among, unless}
use Rattle.problem_text.specs.Variables.{var_line, has_twice, with_values, with_size, variable, sized, size_fault}
use Rattle.problem_text.specs.Tables.{table_line, cells_fault, names_and_cells, with_scope, with_cells, named_by, numbers_of, onto, most_names, is_colon}
use Rattle.problem_text.specs.Drafts.{IsDraft}
use Rattle.problem_text.proofs.NameLaws.{IsDistinct-from_once}
use Rattle.problem_text.proofs.TableLineLaws.{named-within, some-same}

-- what goes on behind a first fault that is none
pub first-none : (f later : Option ProblemFault) → first_fault f later ≡ None → (f ≡ None) × (later ≡ None)
first-none None later e = (refl, e)
first-none (Some f) later e = absurd (cc e)

-- tables in which nothing is wrong, and a further one
pub tables-push : (sizes : List ℕ) (earlier ts : List CostTable) (t : CostTable) → tables_fault sizes earlier ts ≡ None → next_fault sizes (earlier ++ ts) t ≡ None → tables_fault sizes earlier (ts ++ (t ∷ [])) ≡ None
tables-push sizes earlier [] t none next =
    let here = rw (append-nil earlier) at next in
    ap (λ f. first_fault f None) here
tables-push sizes earlier (x ∷ xs) t none next =
    let parts = first-none (next_fault sizes earlier x) (tables_fault sizes (earlier ++ (x ∷ [])) xs) none in
    let here : next_fault sizes ((earlier ++ (x ∷ [])) ++ xs) t ≡ None = ap (λ ts. next_fault sizes ts t) (append_assoc earlier (x ∷ []) xs) ∙ next in
    ap (λ f. first_fault f (tables_fault sizes (earlier ++ (x ∷ [])) (xs ++ (t ∷ [])))) parts.0 ∙ tables-push sizes (earlier ++ (x ∷ [])) xs t parts.1 here

map-wider : (sizes more scope : List ℕ) → All (λ v. v < length sizes) scope → map (λ v. get_or sizes v 0) scope ≡ map (λ v. get_or (sizes ++ more) v 0) scope
map-wider sizes more [] all = refl
map-wider sizes more (v ∷ vs) all =
    let here = get_or_append_left sizes more 0 v (All-head (λ v. v < length sizes) v vs all) in
    rw (here, map-wider sizes more vs (All-tail (λ v. v < length sizes) v vs all)) refl

-- nothing is wrong with a table where there are more sizes
next-wider : (sizes : List ℕ) (s : ℕ) (earlier : List CostTable) (t : CostTable) → next_fault sizes earlier t ≡ None → next_fault (sizes ++ (s ∷ [])) earlier t ≡ None
next-wider sizes s earlier t none =
    let next = next-none sizes earlier t none in
    none-next (sizes ++ (s ∷ [])) earlier t (record {
      some = next.some;
      few = next.few;
      within = λ k d h. let below : get_or t.scope k d < length sizes = next.within k d h in omega (arith, length-append sizes (s ∷ []));
      apart = next.apart;
      sized = next.sized ∙ map-wider sizes (s ∷ []) t.scope next.within;
      cheap = next.cheap;
      cells = next.cells;
      sums = next.sums;
    })

pub tables-wider : (sizes : List ℕ) (s : ℕ) (earlier ts : List CostTable) → tables_fault sizes earlier ts ≡ None → tables_fault (sizes ++ (s ∷ [])) earlier ts ≡ None
tables-wider sizes s earlier [] none = refl
tables-wider sizes s earlier (t ∷ ts) none =
    let parts = first-none (next_fault sizes earlier t) (tables_fault sizes (earlier ++ (t ∷ [])) ts) none in
    ap (λ f. first_fault f (tables_fault (sizes ++ (s ∷ [])) (earlier ++ (t ∷ [])) ts)) (next-wider sizes s earlier t parts.0) ∙ tables-wider sizes s (earlier ++ (t ∷ [])) ts parts.1

-- what holds of a further variable
pub record IsFurther (d : Declared) (word : List ℕ) (values : List (List ℕ)) (many : ℕ) : Type 0 where
  pub name : is_name word ≡ true
  pub fresh : is_among d.names word ≡ false
  pub room : length d.sizes < 1000
  pub size : is_bad_size many ≡ false
  pub labels : AreLabels many values
  pub second : nat_lt 0 (length values) ≡ true → d.version ≡ 2

AllZip-push : (sizes : List ℕ) (labels : List (List (List ℕ))) (s : ℕ) (values : List (List ℕ)) → AllZip AreLabels sizes labels → AreLabels s values → AllZip AreLabels (sizes ++ (s ∷ [])) (labels ++ (values ∷ []))
AllZip-push [] [] s values all one = (one, tt)
AllZip-push [] (l ∷ ls) s values all one = absurd all
AllZip-push (x ∷ xs) [] s values all one = absurd all
AllZip-push (x ∷ xs) (l ∷ ls) s values all one = (all.0, AllZip-push xs ls s values all.1 one)

second-labels : (a b c : Bool) (v : ℕ) → (a || b ≡ true → v ≡ 2) → (c ≡ true → v ≡ 2) → a || (b || (c || false)) ≡ true → v ≡ 2
second-labels true b c v f g e = f refl
second-labels false true c v f g e = f refl
second-labels false false true v f g e = g refl
second-labels false false false v f g e = absurd (false≢true e)

second-table : (a b c d : Bool) (v : ℕ) → ((a || b) || c ≡ true → v ≡ 2) → (d ≡ true → v ≡ 2) → ((a || (d || false)) || b) || c ≡ true → v ≡ 2
second-table true b c d v f g e = f refl
second-table false b c true v f g e = g refl
second-table false b c false v f g e = f e

pub draft-variable : (d : Declared) (name : List ℕ) (values : List (List ℕ)) (size : ℕ) → IsDraft d → IsFurther d name values size → IsDraft (with_variable d name values size)
draft-variable d name values size draft more =
    record {
      version = draft.version;
      second = λ e. second-labels (has_wide_table d.tables || is_max d.goal) (has_labels d.labels) (nat_lt 0 (length values)) d.version draft.second more.second (rw (list_any-append (λ (names : List (List ℕ)). nat_lt 0 (length names)) d.labels (values ∷ [])) at e);
      named = let same : length d.names ≡ length d.sizes = draft.named in rw (length-append d.names (name ∷ []), length-append d.sizes (size ∷ []), same) refl;
      distinct = IsDistinct-push nat_list_eq_equiv d.names name draft.distinct more.fresh;
      names = rw (list_all-append is_name d.names (name ∷ []), draft.names, more.name) refl;
      labels = AllZip-push d.sizes d.labels size values draft.labels more.labels;
      few = let room : length d.sizes < 1000 = more.room in omega (arith, length-append d.sizes (size ∷ []));
      sizes = position-all is_bad_size (d.sizes ++ (size ∷ [])) (All-append (λ s. is_bad_size s ≡ false) d.sizes (size ∷ []) (position-none is_bad_size d.sizes draft.sizes) (All-cons (λ s. is_bad_size s ≡ false) size [] more.size (λ k d h. absurd (omega arith))));
      tables = tables-wider d.sizes size [] d.tables draft.tables;
    }

declared-same : (d more : Declared) → Declares d ≡ Declares more → d ≡ more
declared-same d more e = cc

unless-declares : (fault : Option TextKind) (d more : Declared) → unless fault d ≡ Declares more → (fault ≡ None) × (d ≡ more)
unless-declares None d more e = (refl, declared-same d more e)
unless-declares (Some kind) d more e = absurd (cc e)

two-pass : (a b : Bool) (x y : TextKind) (o : Outcome) (more : Declared) → cond a (Fails x) (cond b (Fails y) o) ≡ Declares more → (a ≡ false) × (b ≡ false) × (o ≡ Declares more)
two-pass true b x y o more e = absurd (cc e)
two-pass false true x y o more e = absurd (cc e)
two-pass false false x y o more e = (refl, refl, e)

one-pass : (a : Bool) (x : TextKind) (o : Outcome) (more : Declared) → cond a (Fails x) o ≡ Declares more → (a ≡ false) × (o ≡ Declares more)
one-pass true x o more e = absurd (cc e)
one-pass false x o more e = (refl, e)

two-none : (a b : Bool) (x y : TextKind) → cond a (Some x) (cond b (Some y) None) ≡ None → (a ≡ false) × (b ≡ false)
two-none true b x y e = absurd (cc e)
two-none false true x y e = absurd (cc e)
two-none false false x y e = (refl, refl)

-- a variable that is declared, where its name and value names are in order
variable-draft : (d more : Declared) (name : List ℕ) (values : List (List ℕ)) (size : ℕ) → IsDraft d → is_name name ≡ true → is_among d.names name ≡ false → AreLabels size values → (nat_lt 0 (length values) ≡ true → d.version ≡ 2) → variable d name values size ≡ Declares more → IsDraft more
variable-draft d more name values size draft named fresh labels second e =
    let parts = unless-declares (size_fault (length d.sizes) size) (with_variable d name values size) more e in
    let tests = two-none (nat_le variable_limit (length d.sizes)) (is_bad_size size) (Problem 10) (Problem 2) parts.0 in
    subst IsDraft parts.1 (draft-variable d name values size draft (record { name = named; fresh = fresh; room = leb-false variable_limit (length d.sizes) tests.0; size = tests.1; labels = labels; second = second }))

values-draft : (d more : Declared) (name : List ℕ) (ws : List (List ℕ)) → IsDraft d → d.version ≡ 2 → with_values d name ws ≡ Declares more → IsDraft more
values-draft d more name ws draft two e =
    let tests = two-pass (not (is_name name) || not (list_all is_name ws)) (is_among d.names name || has_twice ws) BadWord NameTwice (variable d name ws (length ws)) more e in
    let names = or_parts (not (is_name name)) (not (list_all is_name ws)) tests.0 in
    let once = or_parts (is_among d.names name) (has_twice ws) tests.1 in
    variable-draft d more name ws (length ws) draft (not-false (is_name name) names.0) once.0 (record { many = inr refl; distinct = IsDistinct-from_once ws once.1; names = not-false (list_all is_name ws) names.1 }) (λ h. two) tests.2

sized-draft : (d more : Declared) (name : List ℕ) (size : Option ℕ) → IsDraft d → is_name name ≡ true → is_among d.names name ≡ false → sized d name size ≡ Declares more → IsDraft more
sized-draft d more name None draft named fresh e = absurd (cc e)
sized-draft d more name (Some size) draft named fresh e = variable-draft d more name [] size draft named fresh (record { many = inl refl; distinct = IsDistinct-from_once [] refl; names = refl }) (λ h. absurd (false≢true h)) e

size-draft : (d more : Declared) (name third : List ℕ) (further : List (List ℕ)) → IsDraft d → with_size d name third further ≡ Declares more → IsDraft more
size-draft d more name third further draft e =
    let tests = two-pass (has_some further || not (is_name name)) (is_among d.names name) BadWord NameTwice (sized d name (number_of third)) more e in
    let names = or_parts (has_some further) (not (is_name name)) tests.0 in
    sized-draft d more name (number_of third) draft (not-false (is_name name) names.1) tests.1 tests.2

var-step : (t colon : Bool) (d more : Declared) (a b : Outcome) → (d.version ≡ 2 → a ≡ Declares more → IsDraft more) → (b ≡ Declares more → IsDraft more) → (t ≡ true → d.version ≡ 2) → cond (t && colon) a b ≡ Declares more → IsDraft more
var-step true true d more a b f g two e = f (two refl) e
var-step true false d more a b f g two e = g e
var-step false colon d more a b f g two e = g e

-- what a variable's line declares
pub var-draft : (d more : Declared) (ws : List (List ℕ)) → IsDraft d → var_line d ws ≡ Declares more → IsDraft more
var-draft d more [] draft e = absurd (cc e)
var-draft d more (name ∷ []) draft e = absurd (cc e)
var-draft d more (name ∷ third ∷ further) draft e =
    var-step (nat_eq d.version 2) (bytes_eq third (codes ":")) d more (with_values d name further) (with_size d name third further) (λ two h. values-draft d more name further draft two h) (λ h. size-draft d more name third further draft h) (λ h. eqb-true d.version 2 h) e

named-length-step : (o : Option ℕ) (r : Option (List ℕ)) (scope : List ℕ) (n : ℕ) → onto o r ≡ Some scope → ((xs : List ℕ) → r ≡ Some xs → length xs ≡ n) → length scope ≡ suc n
named-length-step (Some x) (Some xs) scope n e f = ap length (sym (some-same (x ∷ xs) scope e)) ∙ ap suc (f xs refl)
named-length-step (Some x) None scope n e f = absurd (cc e)
named-length-step None (Some xs) scope n e f = absurd (cc e)
named-length-step None None scope n e f = absurd (cc e)

-- a scope has as many variables as names
named-length : (names ws : List (List ℕ)) (scope : List ℕ) → named_by names ws ≡ Some scope → length scope ≡ length ws
named-length names [] scope e = ap length (sym (some-same [] scope e))
named-length names (w ∷ ws) scope e = named-length-step (position (bytes_eq w) names) (named_by names ws) scope (length ws) e (λ xs is. named-length names ws xs is)

-- a further table, where its scope and its cells are in order
draft-table : (d : Declared) (t : CostTable) → IsDraft d → next_fault d.sizes d.tables t ≡ None → (nat_lt 2 (length t.scope) ≡ true → d.version ≡ 2) → IsDraft (with_table d t)
draft-table d t draft next two =
    record {
      version = draft.version;
      second = λ e. second-table (has_wide_table d.tables) (is_max d.goal) (has_labels d.labels) (nat_lt 2 (length t.scope)) d.version draft.second two (rw (list_any-append (λ (t : CostTable). nat_lt 2 (length t.scope)) d.tables (t ∷ [])) at e);
      named = draft.named;
      distinct = draft.distinct;
      names = draft.names;
      labels = draft.labels;
      few = draft.few;
      sizes = draft.sizes;
      tables = tables-push d.sizes [] d.tables t draft.tables next;
    }

cells-draft : (d more : Declared) (scope : List ℕ) (cells : Option (List ℕ)) → IsDraft d → 1 ≤ length scope → length scope ≤ 4 → All (λ v. v < length d.sizes) scope → has_repeat scope ≡ false → (nat_lt 2 (length scope) ≡ true → d.version ≡ 2) → with_cells d scope cells ≡ Declares more → IsDraft more
cells-draft d more scope None draft some few within apart two e = absurd (cc e)
cells-draft d more scope (Some cells) draft some few within apart two e =
    let t : CostTable = record { scope = scope; sizes = map (λ v. get_or d.sizes v 0) scope; cells = cells } in
    let parts = unless-declares (cells_fault d.tables t) (with_table d t) more e in
    let tests = four-fail (not (nat_eq (length cells) (product t.sizes))) (list_any (λ c. nat_lt cost_limit c) cells) (nat_lt cell_limit (cell_count d.tables + length cells)) (nat_lt amount_limit (greatest_sum d.tables + greatest cells)) (Problem 6) (Problem 7) (Problem 9) (Problem 8) None parts.0 in
    let next = none-next d.sizes d.tables t (record {
      some = some;
      few = few;
      within = within;
      apart = apart;
      sized = refl;
      cheap = λ k v h. ltb-false cost_limit (get_or cells k v) (none-passes (λ c. nat_lt cost_limit c) cells tests.1 k v h);
      cells = ltb-false cell_limit (cell_count d.tables + length cells) tests.2;
      sums = ltb-false amount_limit (greatest_sum d.tables + greatest cells) tests.3;
    }) in
    subst IsDraft parts.1 (draft-table d t draft next two)

scope-draft : (d more : Declared) (names cells : List (List ℕ)) (o : Option (List ℕ)) → IsDraft d → 1 ≤ length names → length names ≤ 4 → (nat_lt 2 (length names) ≡ true → d.version ≡ 2) → named_by d.names names ≡ o → with_scope d o cells ≡ Declares more → IsDraft more
scope-draft d more names cells None draft some few two found e = absurd (cc e)
scope-draft d more names cells (Some scope) draft some few two found e =
    let parts = one-pass (has_repeat scope) (Problem 5) (with_cells d scope (numbers_of cells)) more e in
    let many = named-length d.names names scope found in
    let all : All (λ v. v < length d.sizes) scope = subst (λ (n : ℕ). All (λ v. v < n) scope) draft.named (named-within d.names names scope found) in
    cells-draft d more scope (numbers_of cells) draft (omega (arith, many)) (omega (arith, many)) all parts.0 (λ h. two (rw many at h)) parts.1

most-few : (t : Bool) (n : ℕ) → nat_lt (cond t 2 4) n ≡ false → (n ≤ 4) × (nat_lt 2 n ≡ true → t ≡ false)
most-few true n h = let small = ltb-false 2 n h in (omega (arith, small), λ wide. absurd (false≢true (sym h ∙ wide)))
most-few false n h = (ltb-false 4 n h, λ wide. refl)

second-of : (v : ℕ) → (v ≡ 1) ⊎ (v ≡ 2) → nat_eq v 1 ≡ false → v ≡ 2
second-of v (inl e) h = absurd (eqb-false v 1 h e)
second-of v (inr e) h = e

-- what a table's line declares
pub table-draft : (d more : Declared) (ws : List (List ℕ)) → IsDraft d → table_line d ws ≡ Declares more → IsDraft more
table-draft d more ws draft e =
    let names = before_first is_colon ws in
    let cells = after_first is_colon ws in
    let first = one-pass (not (list_any is_colon ws)) BadWord (names_and_cells d names cells) more e in
    let second = one-pass (nat_eq (length names) 0 || nat_lt (most_names d.version) (length names)) (Problem 3) (with_scope d (named_by d.names names) cells) more first.1 in
    let many = or_parts (nat_eq (length names) 0) (nat_lt (most_names d.version) (length names)) second.0 in
    let few = most-few (nat_eq d.version 1) (length names) many.1 in
    let some = eqb-false (length names) 0 many.0 in
    scope-draft d more names cells (named_by d.names names) draft (omega (arith, some)) few.0 (λ wide. second-of d.version draft.version (few.1 wide)) refl second.1
