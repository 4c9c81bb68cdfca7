-- Journals whose stamps ascend have exactly one merge.
use Rattle.std.proofs.Common.{◌≡◌, ℕ, ◌≤◌, Bool, ◌==◌, if◌then◌else◌, List, [], ◌∷◌, ◌++◌, map, length, refl, sym, ap, ◌∙◌, inl, inr, arith}
use Rattle.std.proofs.lemmas.Bool.{cases_Bool, cases_lt, eqb-true}
use Rattle.std.proofs.lemmas.List.{get_or_past}
use Rattle.protocol_steps.specs.declared.event.Entry.{Entry}
use Rattle.protocol_steps.specs.JournalStamps.{journal_at}
use Rattle.worker_laws.specs.Merges.{entries_in, IsMerge, AscendsAbove, JournalsMerge}
use Rattle.worker_laws.proofs.SortLaws.{Above, Rising, OfAgent, own, Sorted, sorted, only_one}

abbrev pub by_agent : ℕ × Entry → ℕ
by_agent a = a.0

abbrev pub by_stamp : ℕ × Entry → ℕ
by_stamp a = a.1.stamp

-- the entries of agent i, each with its agent
abbrev pub signed : ℕ → List Entry → List (ℕ × Entry)
signed i es = map (λ e. (i, e)) es

signed_agent : (i : ℕ) (es : List Entry) → OfAgent by_agent by_stamp i (signed i es)
signed_agent i [] = tt
signed_agent i (e ∷ es) = (refl, signed_agent i es)

signed_above : (i b k : ℕ) (es : List Entry) → k ≤ b → AscendsAbove b es → Above by_agent by_stamp k (signed i es)
signed_above i b k [] le h = tt
signed_above i b k (e ∷ es) le h = let low = h.0 in (omega (arith, le, low), signed_above i e.stamp k es (omega (arith, le, low)) h.1)

signed_rising : (i b : ℕ) (es : List Entry) → AscendsAbove b es → Rising by_agent by_stamp (signed i es)
signed_rising i b [] h = tt
signed_rising i b (e ∷ es) h = (signed_above i e.stamp e.stamp es (omega arith) h.1, signed_rising i e.stamp es h.1)

-- what is of agent i in a log are its entries
pub own_entries : (i : ℕ) (log : List (ℕ × Entry)) → own by_agent by_stamp i log ≡ signed i (entries_in i log)
own_entries i [] = refl
own_entries i (a ∷ log) = elim (cases_Bool (a.0 == i)) [
  | inl here ↦
      ap (λ (b : Bool). (if b then a ∷ [] else []) ++ own by_agent by_stamp i log) here
      ∙ ap (λ (rest : List (ℕ × Entry)). a ∷ rest) (own_entries i log)
      ∙ ap (λ (k : ℕ). let first : ℕ × Entry = (k, a.1) in first ∷ signed i (entries_in i log)) (eqb-true a.0 i here)
      ∙ sym (ap (λ (b : Bool). signed i ((if b then a.1 ∷ [] else []) ++ entries_in i log)) here)
  | inr other ↦
      ap (λ (b : Bool). (if b then a ∷ [] else []) ++ own by_agent by_stamp i log) other
      ∙ own_entries i log
      ∙ sym (ap (λ (b : Bool). signed i ((if b then a.1 ∷ [] else []) ++ entries_in i log)) other)
]

unsigned : (i : ℕ) (es : List Entry) → map (λ (a : ℕ × Entry). a.1) (signed i es) ≡ es
unsigned i [] = refl
unsigned i (e ∷ es) = ap (λ (fs : List Entry). e ∷ fs) (unsigned i es)

entries_own : (i : ℕ) (log : List (ℕ × Entry)) → entries_in i log ≡ map (λ (a : ℕ × Entry). a.1) (own by_agent by_stamp i log)
entries_own i log = sym (ap (λ (cs : List (ℕ × Entry)). map (λ (a : ℕ × Entry). a.1) cs) (own_entries i log) ∙ unsigned i (entries_in i log))

pub one_merge : (journals : List (List Entry)) (log other : List (ℕ × Entry)) → IsMerge journals log → IsMerge journals other → log ≡ other
one_merge journals log other a b =
    only_one by_agent by_stamp log other a.ordered b.ordered
    (λ i. own_entries i log ∙ ap (signed i) (a.whole i ∙ sym (b.whole i)) ∙ sym (own_entries i other))

pub journals_merge : JournalsMerge
journals_merge journals up =
    let s : Sorted by_agent by_stamp (length journals) (λ i. signed i (journal_at journals i)) =
    sorted by_agent by_stamp (length journals) (λ i. signed i (journal_at journals i)) (λ i lt. signed_agent i (journal_at journals i)) (λ i lt. signed_rising i 0 (journal_at journals i) (up i)) in
    record {
      some = (
        s.all,
        record {
          ordered = s.ordered;
          whole = λ i. entries_own i s.all ∙ elim (cases_lt i (length journals)) [
            | inl lt ↦ ap (λ (cs : List (ℕ × Entry)). map (λ (a : ℕ × Entry). a.1) cs) (s.own_is i lt) ∙ unsigned i (journal_at journals i)
            | inr le ↦ ap (λ (cs : List (ℕ × Entry)). map (λ (a : ℕ × Entry). a.1) cs) (s.none i le) ∙ sym (get_or_past journals i [] le)
          ];
        },
      );
      one = one_merge journals;
    }
