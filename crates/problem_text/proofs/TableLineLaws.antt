-- The line of a table by its parts.
use Rattle.std.proofs.Common.{◌≡◌, ℕ, ◌+◌, ◌<◌, ◌≤◌, min, Bool, true, false, not, cond, List, [], ◌∷◌, length, map, Option, Some, None, position, get_or, nat_lt, nat_eq, ◌||◌, refl, sym, ap, ◌∙◌, subst, arith}
use Rattle.std.specs.List.{list_any, All}
use Rattle.std.specs.Option.{option_map}
use Rattle.std.specs.Str.{bytes_eq}
use Rattle.std.proofs.lemmas.Bool.Decides.{nat_tests}
use Rattle.std.proofs.lemmas.Bool.{eq-eqb, or_parts, not-false}
use Rattle.std.proofs.lemmas.List.Quantifiers.{position-Some}
use Rattle.std.proofs.lemmas.List.Elements.{All-head, All-tail, All-cons}
use Rattle.std.proofs.lemmas.List.{length-map}
use Rattle.dcop_base.specs.Table.{CostTable, has_repeat, product, table_fault, greatest}
use Rattle.dcop_base.specs.Faults.{is_bad_size, cell_count, greatest_sum}
use Rattle.dcop_base.specs.declared.table.TableFault.{TableFault}
use Rattle.dcop_base.specs.declared.table.TableFault.TheVariants.{Repeat, Sizes, CellCount, CellTooLarge}
use Rattle.dcop_base.specs.Limits.{amount_limit, cost_limit, cell_limit}
use Rattle.dcop_base.proofs.FaultLaws.{position-none}
use Rattle.dcop_base.proofs.TableLaws.{four-fail}
use Rattle.problem_text.specs.declared.fault.TextKind.TheVariants.{Problem}
use Rattle.problem_text.specs.declared.fault.TextKind.{TextKind}
use Rattle.problem_text.specs.Declarations.{Declared, Declares, Fails, with_table, unless}
use Rattle.problem_text.specs.Tables.{onto, named_by, cells_fault, with_cells}
use Rattle.problem_text.specs.Cells.{summary}
use Rattle.problem_text.specs.Drafts.{IsDraft}
use Rattle.problem_text.specs.declared.cell_words.Summary.{Summary}
use Rattle.problem_text.proofs.CellLaws.{exceed-greatest}

pub some-same : {X : Type 0} (x y : X) → Some x ≡ Some y → x ≡ y
some-same x y e = cc

named-step : (n : ℕ) (o : Option ℕ) (r : Option (List ℕ)) (scope : List ℕ) → onto o r ≡ Some scope → ((x : ℕ) → o ≡ Some x → x < n) → ((xs : List ℕ) → r ≡ Some xs → All (λ v. v < n) xs) → All (λ v. v < n) scope
named-step n (Some x) (Some xs) scope e a b = subst (λ (ys : List ℕ). All (λ v. v < n) ys) (some-same (x ∷ xs) scope e) (All-cons (λ v. v < n) x xs (a x refl) (b xs refl))
named-step n (Some x) None scope e a b = absurd (cc e)
named-step n None (Some xs) scope e a b = absurd (cc e)
named-step n None None scope e a b = absurd (cc e)

-- words that name variables name declared ones
pub named-within : (names ws : List (List ℕ)) (scope : List ℕ) → named_by names ws ≡ Some scope → All (λ v. v < length names) scope
named-within names [] scope e = subst (λ (ys : List ℕ). All (λ v. v < length names) ys) (some-same [] scope e) (λ k d h. absurd (omega arith))
named-within names (w ∷ ws) scope e =
    named-step (length names) (position (bytes_eq w) names) (named_by names ws) scope e
    (λ x is. (position-Some (bytes_eq w) names x [] is).0)
    (λ xs is. named-within names ws xs is)

-- a line whose cells have this fault, by what is told of them
pub with_cells-fault : (d : Declared) (scope sizes : List ℕ) (o : Option (List ℕ)) (s : Summary) (r : Option TextKind) (kind : TextKind) → option_map summary o ≡ Some s → sizes ≡ map (λ v. get_or d.sizes v 0) scope → ((t : CostTable) → t.sizes ≡ sizes → summary t.cells ≡ s → r ≡ cells_fault d.tables t) → r ≡ Some kind → with_cells d scope o ≡ Fails kind
with_cells-fault d scope sizes None s r kind told own f is = absurd (cc told)
with_cells-fault d scope sizes (Some cells) s r kind told own f is =
    let t : CostTable = record { scope = scope; sizes = map (λ v. get_or d.sizes v 0) scope; cells = cells } in
    ap (λ k. unless k (with_table d t)) (sym (f t (sym own) (some-same (summary cells) s told)) ∙ is)

-- cells without a fault are no more than are kept
pub cells-few : (d : Declared) (scope sizes : List ℕ) (most : ℕ) (o : Option (List ℕ)) (s : Summary) (r : Option TextKind) → most ≡ min (product sizes) cell_limit → option_map summary o ≡ Some s → ((t : CostTable) → t.sizes ≡ sizes → summary t.cells ≡ s → r ≡ cells_fault d.tables t) → r ≡ None → s.count ≤ most
cells-few d scope sizes most None s r m told f is = absurd (cc told)
cells-few d scope sizes most (Some cells) s r m told f is =
    let same = some-same (summary cells) s told in
    let none = sym (f (record { scope = scope; sizes = sizes; cells = cells }) refl same) ∙ is in
    let tests = four-fail (not (nat_eq (length cells) (product sizes))) (list_any (λ c. nat_lt cost_limit c) cells) (nat_lt cell_limit (cell_count d.tables + length cells)) (nat_lt amount_limit (greatest_sum d.tables + greatest cells)) (Problem 6) (Problem 7) (Problem 9) (Problem 8) None none in
    let count : length cells ≡ s.count = ap (λ (x : Summary). x.count) same in
    let many = not-false (nat_eq (length cells) (product sizes)) tests.0 in
    let few : nat_lt 4194304 (cell_count d.tables + length cells) ≡ false = tests.2 in
    grind (arith, nat_tests, many, few, count, m)

-- a table whose cells have no fault, by what is told of them
pub cells-sound : (d : Declared) (scope sizes cells : List ℕ) (o : Option (List ℕ)) (s : Summary) (r : Option TextKind) → option_map summary o ≡ Some s → o ≡ Some cells → ((t : CostTable) → t.sizes ≡ sizes → summary t.cells ≡ s → r ≡ cells_fault d.tables t) → r ≡ None → cells_fault d.tables (record { scope = scope; sizes = sizes; cells = cells }) ≡ None
cells-sound d scope sizes cells o s r told found f is =
    let same = rw found at told in
    sym (f (record { scope = scope; sizes = sizes; cells = cells }) refl (some-same (summary cells) s same)) ∙ is

-- a line that declares a table, where its cells have no fault
pub with_cells-sound : (d : Declared) (scope sizes cells : List ℕ) (o : Option (List ℕ)) → o ≡ Some cells → sizes ≡ map (λ v. get_or d.sizes v 0) scope → cells_fault d.tables (record { scope = scope; sizes = sizes; cells = cells }) ≡ None → with_cells d scope o ≡ Declares (with_table d (record { scope = scope; sizes = sizes; cells = cells }))
with_cells-sound d scope sizes cells o found own none = rw (found, ← own, none) refl

no-zero : (sizes scope : List ℕ) → All (λ s. is_bad_size s ≡ false) sizes → All (λ v. v < length sizes) scope → list_any (λ s. nat_eq s 0) (map (λ v. get_or sizes v 0) scope) ≡ false
no-zero sizes [] good all = refl
no-zero sizes (v ∷ vs) good all =
    let here = good v 0 (All-head (λ v. v < length sizes) v vs all) in
    let first = or_parts (nat_eq (get_or sizes v 0) 0) (nat_lt 1024 (get_or sizes v 0)) here in
    rw (first.0, no-zero sizes vs good (All-tail (λ v. v < length sizes) v vs all)) refl

table-chain : (repeat sized empty many dear : Bool) (w x y z : TableFault) → repeat ≡ false → sized ≡ true → empty ≡ false → many ≡ true → dear ≡ false → cond repeat (Some w) (cond (not sized || empty) (Some x) (cond (not many) (Some y) (cond dear (Some z) None))) ≡ None
table-chain repeat sized empty many dear w x y z a b c d e = rw (a, b, c, d, e) refl

-- a table whose cells have no fault is whole
pub table-whole : (d : Declared) (scope sizes cells : List ℕ) → IsDraft d → All (λ v. v < length d.sizes) scope → has_repeat scope ≡ false → sizes ≡ map (λ v. get_or d.sizes v 0) scope → cells_fault d.tables (record { scope = scope; sizes = sizes; cells = cells }) ≡ None → table_fault scope sizes cells ≡ None
table-whole d scope sizes cells draft within apart own none =
    let tests = four-fail (not (nat_eq (length cells) (product sizes))) (list_any (λ c. nat_lt cost_limit c) cells) (nat_lt cell_limit (cell_count d.tables + length cells)) (nat_lt amount_limit (greatest_sum d.tables + greatest cells)) (Problem 6) (Problem 7) (Problem 9) (Problem 8) None none in
    let cheap : nat_lt cost_limit (greatest cells) ≡ false = sym (exceed-greatest cost_limit cells) ∙ tests.1 in
    let within_cap : nat_lt amount_limit (greatest cells) ≡ false = grind (arith, nat_tests, cheap) in
    let many : nat_eq (length sizes) (length scope) ≡ true = eq-eqb (length sizes) (length scope) (ap length own ∙ length-map scope (λ v. get_or d.sizes v 0)) in
    let some : list_any (λ s. nat_eq s 0) sizes ≡ false = rw own (no-zero d.sizes scope (position-none is_bad_size d.sizes draft.sizes) within) in
    table-chain (has_repeat scope) (nat_eq (length sizes) (length scope)) (list_any (λ s. nat_eq s 0) sizes) (nat_eq (length cells) (product sizes)) (list_any (λ c. nat_lt amount_limit c) cells) Repeat Sizes CellCount CellTooLarge apart many some (not-false (nat_eq (length cells) (product sizes)) tests.0) (exceed-greatest amount_limit cells ∙ within_cap)

-- the sizes of a scope's variables, as they are read of a draft
pub own-sizes : (own given inside drafted vs scope : List ℕ) → own ≡ map (λ v. get_or given v 0) vs → given ≡ inside → inside ≡ drafted → vs ≡ scope → own ≡ map (λ v. get_or drafted v 0) scope
own-sizes own given inside drafted vs scope e a b c = rw (e, a, b, c) refl
