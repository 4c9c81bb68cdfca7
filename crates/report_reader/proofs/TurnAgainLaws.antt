-- The turns of a cut as they are written, read again.
use Rattle.std.proofs.Common.{◌≡◌, ℕ, zero, suc, ◌+◌, ◌-◌, ◌*◌, ◌<◌, ◌≤◌, true, false, List, [], ◌∷◌, ◌++◌, length, map, get_or, Ok, Result, nat_eq, refl, sym, ap, ◌∙◌, subst, inl, inr, arith, append_assoc}
use Rattle.std.specs.List.{All, flat_map, count_by}
use Rattle.std.specs.Prelude.{codes}
use Rattle.std.proofs.lemmas.List.{append-nil, length-append}
use Rattle.std.proofs.lemmas.List.Elements.{All-head, All-tail}
use Rattle.std.proofs.lemmas.Bool.{cases_lt, eq-eqb}
use Rattle.dcop_base.specs.Table.{product}
use Rattle.protocol_steps.specs.Values.{choices}
use Rattle.protocol_steps.proofs.ValueLaws.{choice_at}
use Rattle.problem_text.specs.File.{TextFile, IsFile}
use Rattle.problem_text.proofs.RoundTripLaws.{plain_worded}
use Rattle.certificate_text.specs.declared.certificate.Turn.{Turn}
use Rattle.certificate_text.specs.declared.certificate.Util.{Util}
use Rattle.report_reader.specs.declared.turns.CutSizes.{CutSizes}
use Rattle.certificate_text.specs.CertificateText.{util_words, turn_words, turn_lines}
use Rattle.report_reader.specs.UtilLine.{has_util, lacks_util}
use Rattle.report_reader.specs.ReportLines.{Fault, Left}
use Rattle.certificate_text.specs.Turns.{first_tables}
use Rattle.report_reader.specs.TurnReading.{turns_read}
use Rattle.certificate_text.specs.Fits.{FitsUtil, FitsTables, HasParentOf}
use Rattle.report_reader.proofs.LineAgainLaws.{util-again, parent-kept, turn-again, turn-end, fresh-before, has-one, range-all}
use Rattle.report_reader.proofs.TurnFitsLaws.{IsNumbered, AreNumbered}

-- a number below so many blocks stands in one of them
record IsInBlock (s m k : ℕ) : Type 0 where
  block : ℕ
  rest : ℕ
  below : block < s
  within : rest < m
  is : block * m + rest ≡ k

in-block : (s m k : ℕ) → k < s * m → IsInBlock s m k
in-block zero m k lt = absurd (omega (arith, lt))
in-block (suc s) m k lt = elim (cases_lt k m) [
  | inl first ↦ record { block = 0; rest = k; below = omega arith; within = first; is = omega arith }
  | inr later ↦
      let found = in-block s m (k - m) (omega (arith, lt, later)) in
      let is = found.is in
      let below = found.below in
      record { block = suc found.block; rest = found.rest; below = omega (arith, below); within = found.within; is = omega (arith, is, later) }
]

-- each number below the product is that of some values
values-with : (ss : List ℕ) (k : ℕ) → k < product ss → (values : List ℕ) × IsNumbered ss k values
values-with [] k lt = ([], record { within = tt; is = omega (arith, lt) })
values-with (s ∷ ss) k lt =
    let block = in-block s (product ss) k lt in
    let rest = values-with ss block.rest block.within in
    let at = rest.1.is in
    let is = block.is in
    (block.block ∷ rest.0, record { within = (block.below, rest.1.within); is = omega (arith, at, is) })

choice-numbered : (ss : List ℕ) (k : ℕ) → k < product ss → IsNumbered ss k (get_or (choices ss) k [])
choice-numbered ss k lt =
    let found = values-with ss k lt in
    let same : get_or (choices ss) k [] ≡ found.0 = ap (λ (i : ℕ). get_or (choices ss) i []) (sym found.1.is) ∙ choice_at ss found.0 found.1.within in
    subst (IsNumbered ss k) (sym same) found.1

-- turns whose values are the choices from this one on
numbered-from : (sizes : List ℕ) (number : ℕ) (ts : List Turn) → ((k : ℕ) → k < length ts → get_or (map (λ t. t.values) ts) k [] ≡ get_or (choices sizes) (number + k) []) → number + length ts ≤ product sizes → AreNumbered sizes number ts
numbered-from sizes number [] h most = tt
numbered-from sizes number (t ∷ ts) h most =
    let start : number + 0 ≡ number = omega arith in
    let first : t.values ≡ get_or (choices sizes) number [] = h 0 (omega arith) ∙ ap (λ (n : ℕ). get_or (choices sizes) n []) start in (
      subst (IsNumbered sizes number) (sym first) (choice-numbered sizes number (omega (arith, most))),
      numbered-from sizes (number + 1) ts (λ k lt. let same : number + suc k ≡ (number + 1) + k = omega arith in h (suc k) (omega (arith, lt)) ∙ ap (λ (n : ℕ). get_or (choices sizes) n []) same) (omega (arith, most)),
    )

-- all turns stand in the order of their numbers
pub choices-numbered : (sizes : List ℕ) (ts : List Turn) → map (λ t. t.values) ts ≡ choices sizes → length ts ≡ product sizes → AreNumbered sizes 0 ts
choices-numbered sizes ts same many =
    numbered-from sizes 0 ts (λ k lt. let start : k ≡ 0 + k = omega arith in ap (λ (vs : List (List ℕ)). get_or vs k []) same ∙ ap (λ (n : ℕ). get_or (choices sizes) n []) start) (omega (arith, many))

-- each variable has its table
pub whole-tables : (count : ℕ) (sizes : List ℕ) (utils : List Util) → count ≡ length sizes → FitsTables sizes utils → lacks_util utils count ≡ false
whole-tables count sizes utils many fits =
    let all = range-all (λ var. has_util utils var) 0 count (λ k lo hi. has-one k utils (fits.one k (omega (arith, many, hi)))) in
    rw all refl

-- the tables of a turn, behind others of it, where each variable has one of all, and the lines behind them
pub tables-in-turn : (f : TextFile) (sizes : CutSizes) (turns : List Turn) (values : List ℕ) (done utils : List Util) (over number : ℕ) (later : List (List (List ℕ))) (read : Result (List Turn × Left) Fault) → IsFile f → length f.names ≡ length sizes.slice
    → All (FitsUtil sizes.slice) utils → ((var : ℕ) → var < length sizes.slice → count_by (λ u. nat_eq u.var var) (done ++ utils) ≡ 1) → All (HasParentOf (first_tables turns)) utils
    → ((m : ℕ) → turns_read f.names sizes over turns (record { values = values; tables = done ++ utils }) (plain_worded m later) ≡ read)
    → turns_read f.names sizes over turns (record { values = values; tables = done }) (plain_worded number (map (util_words f.names) utils ++ later)) ≡ read
tables-in-turn f sizes turns values done [] over number later read file many each one keep on =
    subst (λ (us : List Util). turns_read f.names sizes over turns (record { values = values; tables = us }) (plain_worded number later) ≡ read) (append-nil done) (on number)
tables-in-turn f sizes turns values done (u ∷ us) over number later read file many each one keep on =
    let fit = All-head (FitsUtil sizes.slice) u us each in
    let fresh = fresh-before u.var done u us (eq-eqb u.var u.var refl) (one u.var fit.named.own) in
    let again = util-again f.names sizes.slice done u file.distinct file.names many fit fresh in
    let kept = parent-kept f.names sizes.slice (first_tables turns) u file.distinct file.names many fit (All-head (HasParentOf (first_tables turns)) u us keep) in
    let same : (done ++ (u ∷ [])) ++ us ≡ done ++ (u ∷ us) = append_assoc done (u ∷ []) us in
    let once = λ (var : ℕ) (h : var < length sizes.slice). ap (λ (us : List Util). count_by (λ u. nat_eq u.var var) us) same ∙ one var h in
    let rest = tables-in-turn f sizes turns values (done ++ (u ∷ [])) us over (number + 1) later read file many (All-tail (FitsUtil sizes.slice) u us each) once (All-tail (HasParentOf (first_tables turns)) u us keep) (λ m. ap (λ (us : List Util). turns_read f.names sizes over turns (record { values = values; tables = us }) (plain_worded m later)) same ∙ on m) in
    rw (kept, again) rest

first-kept : (turns : List Turn) (turn other : Turn) → first_tables ((turns ++ (turn ∷ [])) ++ (other ∷ [])) ≡ first_tables (turns ++ (turn ∷ []))
first-kept [] turn other = refl
first-kept (t ∷ ts) turn other = refl

-- the turns behind others and one of which each variable has its table, and the line `end`
pub turns-again : (f : TextFile) (sizes : CutSizes) (turns : List Turn) (turn : Turn) (later : List Turn) (over number : ℕ) → IsFile f → length f.names ≡ length sizes.slice → All (λ s. s ≤ 1024) sizes.own
    → FitsTables sizes.slice turn.tables → All (λ t. FitsTables sizes.slice t.tables) later → AreNumbered sizes.own (length turns + 1) later → (length turns + 1) + length later ≡ product sizes.own
    → All (λ t. All (HasParentOf (first_tables (turns ++ (turn ∷ [])))) t.tables) later
    → turns_read f.names sizes over turns turn (plain_worded number (flat_map (turn_lines f.names) later ++ ((codes "end" ∷ []) ∷ []))) ≡ Ok (turns ++ (turn ∷ later), record { lines = []; over = over })
turns-again f sizes turns turn [] over number file many small fit each numbered count keep =
    let whole = whole-tables (length f.names) sizes.slice turn.tables many fit in
    let all : nat_eq (length turns + 1) (product sizes.own) ≡ true = eq-eqb (length turns + 1) (product sizes.own) (omega (arith, count)) in
    rw (whole, all) refl
turns-again f sizes turns turn (t ∷ ts) over number file many small fit each numbered count keep =
    let end : List (List (List ℕ)) = (codes "end" ∷ []) ∷ [] in
    let behind = flat_map (turn_lines f.names) ts ++ end in
    let all = turns ++ (turn ∷ []) in
    let whole = whole-tables (length f.names) sizes.slice turn.tables many fit in
    let line = turn-again sizes.own (length turns + 1) t.values numbered.0 small in
    let own = All-head (λ (t : Turn). FitsTables sizes.slice t.tables) t ts each in
    let parents = All-head (λ (t : Turn). All (HasParentOf (first_tables all)) t.tables) t ts keep in
    let longer : length all ≡ length turns + 1 = length-append turns (turn ∷ []) in
    let next : AreNumbered sizes.own (length all + 1) ts = subst (λ (n : ℕ). AreNumbered sizes.own (n + 1) ts) (sym longer) numbered.1 in
    let first = first-kept turns turn t in
    let kept = subst (λ (us : List Util). All (λ (t : Turn). All (HasParentOf us) t.tables) ts) (sym first) (All-tail (λ (t : Turn). All (HasParentOf (first_tables all)) t.tables) t ts keep) in
    let read : Result (List Turn × Left) Fault = Ok (turns ++ (turn ∷ t ∷ ts), record { lines = []; over = over }) in
    let rest = λ (m : ℕ). subst (λ (us : List Turn). turns_read f.names sizes over all t (plain_worded m behind) ≡ Ok (us, record { lines = []; over = over })) (append_assoc turns (turn ∷ []) (t ∷ ts))
    (turns-again f sizes all t ts over m file many small own (All-tail (λ (t : Turn). FitsTables sizes.slice t.tables) t ts each) next (omega (arith, count, longer)) kept) in
    let lines : flat_map (turn_lines f.names) (t ∷ ts) ++ end ≡ turn_words t.values ∷ (map (util_words f.names) t.tables ++ behind) =
    ap (λ (rows : List (List (List ℕ))). turn_words t.values ∷ rows) (append_assoc (map (util_words f.names) t.tables) (flat_map (turn_lines f.names) ts) end) in
    let tables = tables-in-turn f sizes all t.values [] t.tables over (number + 1) behind read file many own.each own.one parents rest in
    subst (λ (rows : List (List (List ℕ))). turns_read f.names sizes over turns turn (plain_worded number rows) ≡ read) (sym lines) (rw (turn-end t.values, whole, line) tables)
