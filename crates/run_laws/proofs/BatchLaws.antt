-- A batch of a run of DPOP: what it changes.
use Rattle.std.proofs.Common.{◌≡◌, ℕ, ◌+◌, ◌<◌, ◌≤◌, Bool, true, false, cond, not, ◌==◌, nat_lt, nat_le, if◌then◌else◌, List, [], ◌∷◌, ◌++◌, map, length, take, drop, Option, Some, None, refl, sym, ap, ap₂, subst, ◌∙◌, inl, inr, arith}
use Rattle.std.specs.List.{list_any, sum_by, fold}
use Rattle.std.proofs.lemmas.Bool.{cases_eq, or_parts, eq-eqb, ne_eqb, ltb-false, leb-true, leb-false, not-false, true≢false, false_from_ne_true}
use Rattle.std.proofs.lemmas.Option.{none-some}
use Rattle.std.proofs.lemmas.List.{append-nil, append_assoc}
use Rattle.std.proofs.lemmas.List.Concat.{flat_map-append}
use Rattle.std.proofs.lemmas.List.Sums.{sum_by-cons}
use Rattle.dcop_base.specs.Problem.{Dcop}
use Rattle.dcop_base.specs.Whole.{IsProblem}
use Rattle.pseudotree.specs.Tree.{parent_of, is_variable}
use Rattle.pseudotree.specs.Pseudotree.{IsPseudotree, IsLinked}
use Rattle.pseudotree.specs.Width.{IsNarrow}
use Rattle.pseudotree.proofs.GatherLaws.{variable_is}
use Rattle.protocol_steps.specs.declared.message.Message.{Message}
use Rattle.protocol_steps.specs.declared.event.Take.{Take}
use Rattle.protocol_steps.specs.declared.event.EventFault.{EventFault}
use Rattle.protocol_steps.specs.declared.event.EventFault.TheVariants.{TooMany, Nobody, Ended, Nothing, Order}
use Rattle.protocol_steps.specs.Agent.{Stepped, next_letter}
use Rattle.protocol_steps.specs.Dpop.{DpopView}
use Rattle.protocol_steps.specs.DpopStep.{dpop_message}
use Rattle.protocol_steps.specs.Network.{Desk, message_to, messages_to, taken_from, waiting, next_letters, batch}
use Rattle.protocol_steps.specs.Run.{or_else, ascends_from, has_nothing, form_fault, too_many}
use Rattle.protocol_steps.proofs.EventLaws.{not_then}
use Rattle.run_laws.proofs.Plan.{Plan, util_of_plan, values_for_child}
use Rattle.run_laws.proofs.Marks.{Marks, joined, ended, view, sent, past, waits, IsFit, taken}
use Rattle.run_laws.proofs.LetterLaws.{not_both, no_link, IsTaken, IsNext, next_one}

then_true : (b x : Bool) → cond b x false ≡ true → (b ≡ true) × (x ≡ true)
then_true true x h = (refl, h)
then_true false x h = absurd (true≢false (sym h))

pub both_fine : (a b : Option EventFault) → or_else a b ≡ None → (a ≡ None) × (b ≡ None)
both_fine None b h = (refl, h)
both_fine (Some f) b h = absurd (none-some f (sym h))

-- takes of a lawful form: by agents below n, some, and in ascending order
pub form_all : (n : ℕ) (ended : Bool) (ts : List Take) → form_fault n ended ts ≡ None → (list_any (λ t. nat_le n t.from) ts ≡ false) × (has_nothing ts ≡ false) × (ascends_from 0 ts ≡ true)
form_all n ended ts h =
    let a = not_then (list_any (λ t. nat_le n t.from) ts) Nobody (if ended then Some Ended else (if has_nothing ts then Some Nothing else (if not (ascends_from 0 ts) then Some Order else None))) h in
    let b = not_then ended Ended (if has_nothing ts then Some Nothing else (if not (ascends_from 0 ts) then Some Order else None)) a.1 in
    let c = not_then (has_nothing ts) Nothing (if not (ascends_from 0 ts) then Some Order else None) b.1 in
    let d = not_then (not (ascends_from 0 ts)) Order None c.1 in
    (a.0, c.0, not-false (ascends_from 0 ts) d.0)

-- what comes at the end in two steps
one_after_another : {X : Type 0} (last mid first some more : List X) → last ≡ mid ++ more → mid ≡ first ++ some → last ≡ first ++ (some ++ more)
one_after_another last mid first some more h k = h ∙ ap (λ ms. ms ++ more) k ∙ append_assoc first some more

module _ (p : Dcop) (paths : List (List ℕ)) (problem : IsProblem p) (pseudo : IsPseudotree p paths) (linked : IsLinked p paths) (narrow : IsNarrow p paths) (plan : Plan p paths) where
  -- what a batch changes: agent i has taken the next messages
  pub record IsBatched (s : Marks) (i : ℕ) (x : Stepped DpopView) (ls : List (ℕ × Message)) (ts : List Take) : Type 0 where
    pub next : Marks
    pub fit : IsFit plan next
    pub more : List (ℕ × Message)
    pub view_is : (fold (next_letter dpop_message) x ls).view ≡ view plan next i
    pub sends_are : (fold (next_letter dpop_message) x ls).sends ≡ x.sends ++ more
    pub sent_is : (u : ℕ) → sent plan next i u ≡ sent plan s i u ++ messages_to u more
    pub other_view : (k : ℕ) → (k ≡ i → ⊥) → view plan next k ≡ view plan s k
    pub other_sent : (k u : ℕ) → (k ≡ i → ⊥) → sent plan next k u ≡ sent plan s k u
    pub here : (j : ℕ) → length (past plan next i j) ≡ length (past plan s i j) + taken_from j ts
    pub other_past : (k j : ℕ) → (k ≡ i → ⊥) → past plan next k j ≡ past plan s k j
    pub count : taken plan (length paths) next ≡ taken plan (length paths) s + sum_by (λ t. t.count) ts

  -- a lawful take is of the one message that waits
  record IsOne (s : Marks) (ds : List Desk) (i : ℕ) (t : Take) : Type 0 where
    next : IsNext p paths problem pseudo linked narrow plan s i t.from
    one : t.count ≡ 1
    letters : next_letters ds i t ≡ (t.from, next.message) ∷ []

  one_take : (s : Marks) (ds : List Desk) (i : ℕ) (t : Take) → IsFit plan s → i < length paths → waiting ds i t.from ≡ waits plan s i t.from → (t.count == 0) ≡ false
      → nat_lt (length (waiting ds i t.from)) t.count ≡ false → IsOne s ds i t
  one_take s ds i t fit lt same some enough =
      let le : t.count ≤ length (waiting ds i t.from) = ltb-false (length (waiting ds i t.from)) t.count enough in
      let least : 1 ≤ t.count = elim (cases_eq t.count 0) [
        | inl none ↦ absurd (true≢false (sym (eq-eqb t.count 0 none) ∙ some))
        | inr more ↦ omega (arith, more)
      ] in
      elim (next_one p paths problem pseudo linked narrow plan s fit i t.from lt) [
        | inl none ↦
            let empty : length (waiting ds i t.from) ≡ 0 = ap (λ (ms : List Message). length ms) (same ∙ none) in
            absurd (omega (arith, le, least, empty))
        | inr next ↦
            let short : length (waiting ds i t.from) ≡ 1 = ap (λ (ms : List Message). length ms) (same ∙ next.is) in
            let one : t.count ≡ 1 = omega (arith, le, least, short) in
            record {
              next = next;
              one = one;
              letters =
                  ap (λ (k : ℕ). map (λ m. (t.from, m)) (take k (waiting ds i t.from))) one
                  ∙ ap (λ (ms : List Message). map (λ m. (t.from, m)) (take 1 ms)) (same ∙ next.is);
            }
      ]

  -- one take, and then the others
  continued : (s : Marks) (ds : List Desk) (i : ℕ) (t : Take) (ts : List Take) (x : Stepped DpopView) (one : IsOne s ds i t) → x.view ≡ view plan s i
      → IsBatched one.next.taken_is.next i (next_letter dpop_message x (t.from, one.next.message)) (batch ds i ts) ts → IsBatched s i x (batch ds i (t ∷ ts)) (t ∷ ts)
  continued s ds i t ts x one is rest = record {
    next = rest.next;
    fit = rest.fit;
    more = (dpop_message (view plan s i) t.from one.next.message).sends ++ rest.more;
    view_is = ap (λ (z : Stepped DpopView). z.view) whole ∙ rest.view_is;
    sends_are = ap (λ (z : Stepped DpopView). z.sends) whole ∙ one_after_another _ _ _ _ _ rest.sends_are (ap (λ (v : DpopView). x.sends ++ (dpop_message v t.from one.next.message).sends) is);
    sent_is = λ u.
        one_after_another _ _ _ _ _ (rest.sent_is u) (now.sent_is u)
        ∙ ap (λ (ms : List Message). sent plan s i u ++ ms) (sym (flat_map-append (message_to u) (dpop_message (view plan s i) t.from one.next.message).sends rest.more));
    other_view = λ k ne. rest.other_view k ne ∙ now.other_view k ne;
    other_sent = λ k u ne. rest.other_sent k u ne ∙ now.other_sent k u ne;
    here = λ j.
        let all = sum_by-cons (λ (t : Take). if t.from == j then t.count else 0) t ts in
        let tail = rest.here j in
        elim (cases_eq t.from j) [
          | inl same ↦
              let first : cond (t.from == j) t.count 0 ≡ t.count = ap (λ (b : Bool). cond b t.count 0) (eq-eqb t.from j same) in
              let more : length (past plan now.next i j) ≡ length (past plan s i j) + 1 = subst (λ (k : ℕ). length (past plan now.next i k) ≡ length (past plan s i k) + 1) same now.here in
              omega (arith, all, tail, first, more, one.one)
          | inr other ↦
              let first : cond (t.from == j) t.count 0 ≡ 0 = ap (λ (b : Bool). cond b t.count 0) (ne_eqb t.from j other) in
              let kept : length (past plan now.next i j) ≡ length (past plan s i j) = ap (λ (ms : List Message). length ms) (now.elsewhere i j (λ q. other (sym q.1))) in
              omega (arith, all, tail, first, kept)
        ];
    other_past = λ k j ne. rest.other_past k j ne ∙ now.elsewhere k j (λ q. ne q.0);
    count =
        let all = sum_by-cons (λ (t : Take). t.count) t ts in
        omega (arith, all, rest.count, now.count, one.one);
  } where
    now : IsTaken p paths problem pseudo linked narrow plan s i t.from (dpop_message (view plan s i) t.from one.next.message)
    now = one.next.taken_is

    whole : fold (next_letter dpop_message) x (batch ds i (t ∷ ts)) ≡ fold (next_letter dpop_message) (next_letter dpop_message x (t.from, one.next.message)) (batch ds i ts)
    whole = ap (λ (ls : List (ℕ × Message)). fold (next_letter dpop_message) x (ls ++ batch ds i ts)) one.letters

  -- nothing waits for an agent from itself
  waits_self : (s : Marks) (i j : ℕ) → j ≡ i → waits plan s i j ≡ []
  waits_self s i j same =
      subst (λ (k : ℕ). waits plan s i k ≡ []) (sym same)
      (no_link (is_variable i (parent_of paths i)) (is_variable i (parent_of paths i)) (s.up i) (s.down i) (joined plan s i) (ended plan s i) (util_of_plan plan i) (values_for_child p paths plan.value i) none none)
    where
      none : is_variable i (parent_of paths i) ≡ false
      none = false_from_ne_true (is_variable i (parent_of paths i)) (λ h.
          let own = variable_is i (parent_of paths i) h in
          not_both p paths problem pseudo linked narrow plan i i own own)

  pub batched : (ds : List Desk) (i : ℕ) → i < length paths → (ts : List Take) (b : ℕ) (s : Marks) (x : Stepped DpopView) → IsFit plan s → x.view ≡ view plan s i
      → ((j : ℕ) → b ≤ j → j < length paths → waiting ds i j ≡ waits plan s i j)
      → list_any (λ t. nat_le (length paths) t.from) ts ≡ false → list_any (λ t. t.count == 0) ts ≡ false → ascends_from b ts ≡ true → too_many ds i ts ≡ None
      → IsBatched s i x (batch ds i ts) ts
  batched ds i lt [] b s x fit is there known some ascend enough = record {
    next = s;
    fit = fit;
    more = [];
    view_is = is;
    sends_are = sym (append-nil x.sends);
    sent_is = λ u. sym (append-nil (sent plan s i u));
    other_view = λ k ne. refl;
    other_sent = λ k u ne. refl;
    here = λ j. omega arith;
    other_past = λ k j ne. refl;
    count = omega arith;
  }
  batched ds i lt (t ∷ ts) b s x fit is there known some ascend enough =
      let up = then_true (nat_le b t.from) (ascends_from (t.from + 1) ts) ascend in
      let from_b : b ≤ t.from = leb-true b t.from up.0 in
      let all_known = or_parts (nat_le (length paths) t.from) (list_any (λ t. nat_le (length paths) t.from) ts) known in
      let inside : t.from < length paths = leb-false (length paths) t.from all_known.0 in
      let all_some = or_parts (t.count == 0) (list_any (λ t. t.count == 0) ts) some in
      let short = not_then (nat_lt (length (waiting ds i t.from)) t.count) (TooMany t.from t.count (length (waiting ds i t.from))) (too_many ds i ts) enough in
      let one = one_take s ds i t fit lt (there t.from from_b inside) all_some.0 short.0 in
      let m : Message = one.next.message in
      let now : IsTaken p paths problem pseudo linked narrow plan s i t.from (dpop_message (view plan s i) t.from m) = one.next.taken_is in
      let y : Stepped DpopView = next_letter dpop_message x (t.from, m) in
      let later : (j : ℕ) → t.from + 1 ≤ j → j < length paths → waiting ds i j ≡ waits plan now.next i j = λ j high low.
      let ne : j ≡ t.from → ⊥ = λ e. omega (arith, e, high) in
      there j (omega (arith, from_b, high)) low
      ∙ sym (elim (cases_eq j i) [
        | inl self ↦ waits_self now.next i j self ∙ sym (waits_self s i j self)
        | inr other ↦
            ap₂ (λ (k : ℕ) (ms : List Message). drop k ms) (ap (λ (ms : List Message). length ms) (now.elsewhere i j (λ q. ne q.1))) (now.other_sent j i other)
      ]) in
      let rest = batched ds i lt ts (t.from + 1) now.next y now.fit (ap (λ (v : DpopView). (dpop_message v t.from m).view) is ∙ now.view_is) later all_known.1 all_some.1 up.1 short.1 in
      continued s ds i t ts x one is rest
