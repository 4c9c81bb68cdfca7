-- The start state is the network of its agents' accounts, and the stamp law for journals.
use Rattle.std.proofs.Common.{◌≡◌, ℕ, ◌+◌, ◌<◌, ◌≤◌, Bool, ◌==◌, if◌then◌else◌, List, [], ◌∷◌, ◌++◌, map, length, take, Option, Some, refl, sym, ap, subst, ◌∙◌, inl, inr, arith}
use Rattle.std.specs.List.{slice_get, flat_map}
use Rattle.std.specs.Option.{option_map}
use Rattle.std.proofs.lemmas.Bool.{cases_Bool, eq-eqb}
use Rattle.std.proofs.lemmas.Option.{slice_get-map, slice_get_cases}
use Rattle.std.proofs.lemmas.List.{length-map, length-take-le, length-drop}
use Rattle.std.proofs.lemmas.List.Sums.{sum_by-cons, sum_by-append}
use Rattle.protocol_steps.specs.declared.message.Message.{Message}
use Rattle.protocol_steps.specs.declared.event.Take.{Take}
use Rattle.protocol_steps.specs.declared.event.Entry.{Entry}
use Rattle.protocol_steps.specs.View.{View}
use Rattle.protocol_steps.specs.Step.{start_of}
use Rattle.protocol_steps.specs.Network.{Desk, taken_from, start_state}
use Rattle.protocol_steps.specs.Run.{journal}
use Rattle.protocol_steps.specs.Stamps.{Gain, Deed, Account, account_of}
use Rattle.protocol_steps.specs.Deeds.{takes_of, event_of, AreDeeds, deeds_of, gained_from, posted_to}
use Rattle.protocol_steps.specs.StampLaw.{IsPrefix, all_of, desk_of}
use Rattle.protocol_steps.specs.JournalStamps.{cut_off, left_of, deeds_from, AreEnough, journal_at, AreStarts, StartsShow, JournalsOrder}
use Rattle.protocol_steps.proofs.StampLaws.{unposted, stamps_order}

-- the view and the desk of an agent that has just started are those of its account
started_at : (made : List View) (now : ℕ → Account) → AreStarts made now → (i : ℕ) → i < length made
    → (slice_get (start_state made).views i ≡ Some (now i).view) × (slice_get (start_state made).desks i ≡ Some (desk_of (now i)))
started_at made now starts i lt = elim (slice_get_cases made i).1 [
  | inl there ↦
      let v : View = there.0 in
      let is : account_of v ≡ now i = sym (starts.started i v there.2) in (
        slice_get-map (λ (w : View). (start_of w).view) made i ∙ ap (λ (o : Option View). option_map (λ (w : View). (start_of w).view) o) there.2 ∙ ap (λ (x : Account). Some x.view) is,
        slice_get-map (λ (w : View). let d : Desk = record { sent = (start_of w).sends; takes = [] } in d) made i
            ∙ ap (λ (o : Option View). option_map (λ (w : View). let d : Desk = record { sent = (start_of w).sends; takes = [] } in d) o) there.2
            ∙ ap (λ (ps : List (ℕ × Message)). let d : Desk = record { sent = ps; takes = [] } in Some d) (sym (unposted 0 (start_of v).sends))
            ∙ ap (λ (x : Account). Some (desk_of x)) is,
      )
  | inr past ↦ absurd (omega (arith, past.0))
]

pub starts_show : StartsShow
starts_show made now starts = (
  record {
    agents = length-map made (λ (v : View). (start_of v).view);
    size = length-map made (λ (v : View). let d : Desk = record { sent = (start_of v).sends; takes = [] } in d);
    views = λ i lt. (started_at made now starts i lt).0;
    desks = λ i lt. (started_at made now starts i lt).1;
  },
  λ i j. subst (λ (gs : List Gain). IsPrefix (gained_from j gs) (posted_to i (now j).posted)) (sym (starts.idle i)) (posted_to i (now j).posted, refl),
)

-- takes of lists that are long enough are told again by what they cut off
takes_again : (lists : ℕ → List (ℕ × Message)) (ts : List Take) → ((j : ℕ) → taken_from j ts ≤ length (lists j)) → takes_of (map (cut_off lists) ts) ≡ ts
takes_again lists [] enough = refl
takes_again lists (t ∷ ts) enough =
    let own : taken_from t.from (t ∷ ts) ≡ t.count + taken_from t.from ts =
    sum_by-cons (λ (u : Take). if u.from == t.from then u.count else 0) t ts ∙ ap (λ (b : Bool). (if b then t.count else 0) + taken_from t.from ts) (eq-eqb t.from t.from refl) in
    let fits = enough t.from in
    let count : length (take t.count (lists t.from)) ≡ t.count = length-take-le t.count (lists t.from) (omega (arith, own, fits)) in
    let later : (j : ℕ) → taken_from j ts ≤ length (lists j) = λ j.
    let sum = sum_by-cons (λ (u : Take). if u.from == j then u.count else 0) t ts in
    let all = enough j in omega (arith, sum, all) in
    ap (λ (k : ℕ). let u : Take = record { from = t.from; count = k } in u ∷ takes_of (map (cut_off lists) ts)) count ∙ ap (λ (us : List Take). t ∷ us) (takes_again lists ts later)

-- the activations of a journal take what its entries say
journal_again : (i : ℕ) (lists : ℕ → List (ℕ × Message)) (es : List Entry) → AreEnough lists es → map (λ d. takes_of d.gains) (deeds_from i lists es) ≡ map (λ e. e.takes) es
journal_again i lists [] enough = refl
journal_again i lists (e ∷ es) enough =
    let sum : (j : ℕ) → taken_from j (e.takes ++ flat_map (λ f. f.takes) es) ≡ taken_from j e.takes + taken_from j (flat_map (λ f. f.takes) es) = λ j.
    sum_by-append (λ (u : Take). if u.from == j then u.count else 0) e.takes (flat_map (λ f. f.takes) es) in
    let now : (j : ℕ) → taken_from j e.takes ≤ length (lists j) = λ j. let both = sum j in let all = enough j in omega (arith, both, all) in
    let later : AreEnough (left_of lists e.takes) es = λ j.
    let both = sum j in let all = enough j in let left = length-drop (taken_from j e.takes) (lists j) in omega (arith, both, all, left) in
    ap (λ (ts : List Take). ts ∷ map (λ d. takes_of d.gains) (deeds_from i (left_of lists e.takes) es)) (takes_again lists e.takes now)
    ∙ ap (λ (tss : List (List Take)). e.takes ∷ tss) (journal_again i (left_of lists e.takes) es later)

-- the journal of an agent is what its activations take
pub journal_of_deeds : (i : ℕ) (ds : List Deed) → journal i (map event_of ds) ≡ map (λ d. takes_of d.gains) (deeds_of i ds)
journal_of_deeds i [] = refl
journal_of_deeds i (d ∷ ds) = elim (cases_Bool (d.agent == i)) [
  | inl mine ↦
      ap (λ (b : Bool). (if b then takes_of d.gains ∷ [] else []) ++ journal i (map event_of ds)) mine
      ∙ ap (λ (tss : List (List Take)). takes_of d.gains ∷ tss) (journal_of_deeds i ds)
      ∙ sym (ap (λ (b : Bool). map (λ e. takes_of e.gains) ((if b then d ∷ [] else []) ++ deeds_of i ds)) mine)
  | inr other ↦
      ap (λ (b : Bool). (if b then takes_of d.gains ∷ [] else []) ++ journal i (map event_of ds)) other
      ∙ journal_of_deeds i ds
      ∙ sym (ap (λ (b : Bool). map (λ e. takes_of e.gains) ((if b then d ∷ [] else []) ++ deeds_of i ds)) other)
]

pub journals_order : JournalsOrder
journals_order made now taken journals pieces starts of pieced =
    let show = starts_show made now starts in
    record {
      ends = stamps_order (length made) (start_state made) now pieces show.0 show.1
          (λ i. subst (λ (ds : List Deed). AreDeeds (length made) (now i) ds) (sym (of.same i)) (of.allowed i)) pieced;
      agrees = λ i. sym (journal_of_deeds i (all_of pieces) ∙ ap (λ (ds : List Deed). map (λ d. takes_of d.gains) ds) (of.same i) ∙ journal_again i (taken i) (journal_at journals i) (of.enough i));
    }
