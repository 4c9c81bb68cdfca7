-- Turns that were read fit their cut.
use Rattle.std.proofs.Common.{◌≡◌, ℕ, ◌+◌, ◌<◌, suc, zero, Bool, true, false, not, List, [], ◌∷◌, ◌++◌, length, map, get_or, Option, Some, None, Ok, Err, Result, nat_eq, position, ◌||◌, ◌&&◌, refl, sym, ap, ◌∙◌, subst, arith}
use Rattle.std.specs.List.{list_any, All, before_first, after_first}
use Rattle.std.specs.Prelude.{codes}
use Rattle.std.specs.Str.{bytes_eq}
use Rattle.std.proofs.lemmas.List.{length-map, ext_get_or}
use Rattle.std.proofs.lemmas.List.Elements.{All-append, All-cons}
use Rattle.std.proofs.lemmas.Bool.{or_parts, eqb-true, eq-eqb, false≢true}
use Rattle.dcop_base.specs.Table.{product, has_repeat, AreWithin, cell_place}
use Rattle.protocol_steps.specs.Values.{choices}
use Rattle.protocol_steps.proofs.ValueLaws.{length-choices, choice_at}
use Rattle.dcop_base.specs.Limits.{amount_limit}
use Rattle.run_log.specs.EventLine.{number_within}
use Rattle.problem_text.specs.declared.fault.ReportKind.{ReportKind}
use Rattle.problem_text.specs.declared.fault.ReportKind.TheVariants.{BadLine, CellCount}
use Rattle.problem_text.specs.Tables.{named_by, is_colon}
use Rattle.certificate_text.specs.declared.certificate.Turn.{Turn}
use Rattle.certificate_text.specs.declared.certificate.Util.{Util}
use Rattle.report_reader.specs.ValueLine.{value_below}
use Rattle.report_reader.specs.TurnLine.{value_before, values_told, numbered, turn_line}
use Rattle.certificate_text.specs.Turns.{first_tables}
use Rattle.report_reader.specs.TurnReading.{are_apart, tells_other}
use Rattle.report_reader.specs.Told.{amounts_of}
use Rattle.report_reader.specs.UtilLine.{is_again, known_among, parent_told, util_told, util_parts, util_line}
use Rattle.certificate_text.specs.Fits.{HasParentOf, KeepParents}
use Rattle.report_reader.proofs.LineFitsLaws.{ok-same, one-ok, other-ok, below-fits}

before-inv : (r : Result ℕ ReportKind) (told : Result (List ℕ) ReportKind) (values : List ℕ) → value_before r told ≡ Ok values → (v : ℕ) × (vs : List ℕ) × (r ≡ Ok v) × (told ≡ Ok vs) × (v ∷ vs ≡ values)
before-inv (Err kind) told values e = absurd (cc e)
before-inv (Ok v) (Err kind) values e = absurd (cc e)
before-inv (Ok v) (Ok vs) values e = (v, vs, refl, refl, ok-same (v ∷ vs) values e)

-- the values that were told are below the sizes
told-within : (sizes : List ℕ) (words : List (List ℕ)) (values : List ℕ) → length words ≡ length sizes → values_told sizes words ≡ Ok values → AreWithin sizes values
told-within [] [] values many e = subst (λ (vs : List ℕ). AreWithin [] vs) (ok-same [] values e) tt
told-within [] (w ∷ ws) values many e = absurd (omega (arith, many))
told-within (s ∷ ss) [] values many e = absurd (omega (arith, many))
told-within (s ∷ ss) (w ∷ ws) values many e =
    let read = before-inv (value_below s (number_within amount_limit w)) (values_told ss ws) values e in
    let below = below-fits s (number_within amount_limit w) read.0 read.2 in
    let rest = told-within ss ws read.1 (omega (arith, many)) read.3 in
    subst (λ (vs : List ℕ). AreWithin (s ∷ ss) vs) read.4 (below, rest)

-- the values of the turn with this number
pub record IsNumbered (sizes : List ℕ) (number : ℕ) (values : List ℕ) : Type 0 where
  pub within : AreWithin sizes values
  pub is : cell_place sizes values ≡ number

numbered-fits : (sizes : List ℕ) (number : ℕ) (told : Result (List ℕ) ReportKind) (values : List ℕ) → ((vs : List ℕ) → told ≡ Ok vs → AreWithin sizes vs) → numbered sizes number told ≡ Ok values → IsNumbered sizes number values
numbered-fits sizes number (Err kind) values h e = absurd (cc e)
numbered-fits sizes number (Ok vs) values h e =
    let test = other-ok (nat_eq (cell_place sizes vs) number) BadLine (Ok vs) values e in
    subst (IsNumbered sizes number) (ok-same vs values test.1) (record { within = h vs refl; is = eqb-true _ _ test.0 })

pub not-not : (t : Bool) → not t ≡ false → t ≡ true
not-not true h = refl
not-not false h = absurd (false≢true (sym h))

-- the values that a turn's line tells
pub turn-fits : (sizes : List ℕ) (number : ℕ) (words : List (List ℕ)) (values : List ℕ) → turn_line sizes number words ≡ Ok values → IsNumbered sizes number values
turn-fits sizes number [] values e = absurd (cc e)
turn-fits sizes number (w ∷ ws) values e =
    let form = one-ok (not (bytes_eq w (codes "turn")) || not (nat_eq (length ws) (length sizes))) BadLine (numbered sizes number (values_told sizes ws)) values e in
    let parts = or_parts (not (bytes_eq w (codes "turn"))) (not (nat_eq (length ws) (length sizes))) form.0 in
    let many : length ws ≡ length sizes = eqb-true _ _ (not-not (nat_eq (length ws) (length sizes)) parts.1) in
    numbered-fits sizes number (values_told sizes ws) values (λ vs is. told-within sizes ws vs many is) form.1

-- turns that stand in the order of their numbers, from this one on
abbrev pub AreNumbered : List ℕ → ℕ → List Turn → Type 0
AreNumbered sizes number [] = Unit {0}
AreNumbered sizes number (t ∷ ts) = IsNumbered sizes number t.values × AreNumbered sizes (number + 1) ts

pub numbered-push : (sizes : List ℕ) (number n : ℕ) (ts : List Turn) (t : Turn) → AreNumbered sizes number ts → n ≡ number + length ts → IsNumbered sizes n t.values → AreNumbered sizes number (ts ++ (t ∷ []))
numbered-push sizes number n [] t h is one =
    let same : n ≡ number = omega (arith, is) in
    (subst (λ (k : ℕ). IsNumbered sizes k t.values) same one, tt)
numbered-push sizes number n (x ∷ xs) t h is one = (h.0, numbered-push sizes (number + 1) n xs t h.1 (omega (arith, is)) one)

-- the values of a turn are the choice with its number
numbered-choice : (sizes : List ℕ) (number : ℕ) (values : List ℕ) → IsNumbered sizes number values → get_or (choices sizes) number [] ≡ values
numbered-choice sizes number values h = ap (λ (k : ℕ). get_or (choices sizes) k []) (sym h.is) ∙ choice_at sizes values h.within

numbered-at : (sizes : List ℕ) (number : ℕ) (ts : List Turn) (k : ℕ) → AreNumbered sizes number ts → k < length ts → get_or (map (λ t. t.values) ts) k [] ≡ get_or (choices sizes) (number + k) []
numbered-at sizes number [] k h lt = absurd (omega (arith, lt))
numbered-at sizes number (t ∷ ts) zero h lt =
    let same : number + 0 ≡ number = omega arith in
    sym (numbered-choice sizes number t.values h.0) ∙ ap (λ (n : ℕ). get_or (choices sizes) n []) (sym same)
numbered-at sizes number (t ∷ ts) (suc k) h lt =
    let same : (number + 1) + k ≡ number + suc k = omega arith in
    numbered-at sizes (number + 1) ts k h.1 (omega (arith, lt)) ∙ ap (λ (n : ℕ). get_or (choices sizes) n []) same

-- as many turns as the product, in their order, are all turns
pub numbered-all : (sizes : List ℕ) (ts : List Turn) → AreNumbered sizes 0 ts → length ts ≡ product sizes → map (λ t. t.values) ts ≡ choices sizes
numbered-all sizes ts h many =
    let long : length (map (λ (t : Turn). t.values) ts) ≡ length ts = length-map ts (λ (t : Turn). t.values) in
    ext_get_or [] (map (λ (t : Turn). t.values) ts) (choices sizes) (long ∙ many ∙ sym (length-choices sizes)) (λ k lt. let same : 0 + k ≡ k = omega arith in numbered-at sizes 0 ts k h (omega (arith, lt, long)) ∙ ap (λ (n : ℕ). get_or (choices sizes) n []) same)

apart-same : (one other : Option ℕ) → are_apart one other ≡ false → one ≡ other
apart-same None None h = refl
apart-same None (Some b) h = absurd (false≢true (sym h))
apart-same (Some a) None h = absurd (false≢true (sym h))
apart-same (Some a) (Some b) h = ap (λ (x : ℕ). Some x) (eqb-true a b (not-not (nat_eq a b) h))

-- a table beside one that tells no other parent
other-step : (o u : Util) → nat_eq o.var u.var && are_apart o.parent u.parent ≡ false → o.var ≡ u.var → o.parent ≡ u.parent
other-step o u h is =
    let same : nat_eq o.var u.var ≡ true = eq-eqb o.var u.var is in
    apart-same o.parent u.parent (rw same at h)

other-none : (others : List Util) (u : Util) → list_any (λ o. nat_eq o.var u.var && are_apart o.parent u.parent) others ≡ false → HasParentOf others u
other-none [] u h = λ k d lt. absurd (omega (arith, lt))
other-none (o ∷ os) u h =
    let parts = or_parts (nat_eq o.var u.var && are_apart o.parent u.parent) (list_any (λ o. nat_eq o.var u.var && are_apart o.parent u.parent) os) h in
    All-cons (λ (o : Util). o.var ≡ u.var → o.parent ≡ u.parent) o os (other-step o u parts.0) (other-none os u parts.1)

-- turns keep the parents of the first, with one more that does
pub keep-push : (ts : List Turn) (t : Turn) → KeepParents ts → All (HasParentOf (first_tables ts)) t.tables → KeepParents (ts ++ (t ∷ []))
keep-push [] t h own = λ k d lt. absurd (omega (arith, lt))
keep-push (x ∷ xs) t h own =
    All-append (λ (t : Turn). All (HasParentOf x.tables) t.tables) xs (t ∷ []) h (All-cons (λ (t : Turn). All (HasParentOf x.tables) t.tables) t [] own (λ k d lt. absurd (omega (arith, lt))))

-- the words of a table's line tell its variable and its parent
told-words : (sizes : List ℕ) (u : Util) (var : Option ℕ) (parent : Option (Option ℕ)) (scope cells : Option (List ℕ)) → util_told sizes var parent scope cells ≡ Ok u → (var ≡ Some u.var) × (parent ≡ Some u.parent)
told-words sizes u None parent scope cells e = absurd (cc e)
told-words sizes u (Some var) None scope cells e = absurd (cc e)
told-words sizes u (Some var) (Some parent) None cells e = absurd (cc e)
told-words sizes u (Some var) (Some parent) (Some scope) None e = absurd (cc e)
told-words sizes u (Some var) (Some parent) (Some scope) (Some cells) e =
    let made : Util = record { var = var; parent = parent; scope = scope; cells = cells } in
    let test = other-ok (nat_eq (length cells) (product (map (λ v. get_or sizes v 0) scope))) CellCount (Ok made) u e in
    subst (λ (u : Util). (Some var ≡ Some u.var) × (Some parent ≡ Some u.parent)) (ok-same made u test.1) (refl, refl)

-- a table whose line tells no other parent than these tables
pub parent-fits : (names : List (List ℕ)) (sizes : List ℕ) (done others : List Util) (ws : List (List ℕ)) (u : Util) → util_line names sizes done ws ≡ Ok u → tells_other names others ws ≡ false → HasParentOf others u
parent-fits names sizes done others [] u e none = absurd (cc e)
parent-fits names sizes done others (a ∷ []) u e none = absurd (cc e)
parent-fits names sizes done others (a ∷ b ∷ []) u e none = absurd (cc e)
parent-fits names sizes done others (a ∷ b ∷ c ∷ []) u e none = absurd (cc e)
parent-fits names sizes done others (first ∷ name ∷ parent ∷ colon ∷ further) u e none =
    let scoped = before_first is_colon further in
    let celled = after_first is_colon further in
    let form = one-ok (not (bytes_eq first (codes "util")) || (not (is_colon colon) || not (list_any is_colon further))) BadLine (util_parts names sizes done name parent scoped celled) u e in
    let twice = one-ok (is_again done (position (bytes_eq name) names) || has_repeat (known_among names scoped)) BadLine (util_told sizes (position (bytes_eq name) names) (parent_told names parent) (named_by names scoped) (amounts_of celled)) u form.1 in
    let words = told-words sizes u (position (bytes_eq name) names) (parent_told names parent) (named_by names scoped) (amounts_of celled) twice.1 in
    other-none others u (rw (words.0, words.1) at none)
