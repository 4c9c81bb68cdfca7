-- Where two lists first differ, and what a link's passages add up to.
use Rattle.std.proofs.Common.{◌≡◌, ℕ, zero, suc, ◌+◌, ◌<◌, List, [], ◌∷◌, ◌++◌, take, length, min, Bool, true, false, not, Option, Some, None, get_or, refl, sym, ap, ap₂, subst, ◌∙◌, arith}
use Rattle.std.specs.List.{All, slice_get}
use Rattle.std.specs.Prelude.{◌↔◌, is_some, MatchOption, slice_set}
use Rattle.std.proofs.Math.Seq.{take-append_seam}
use Rattle.std.proofs.lemmas.Option.{none-some, same_Some, get_or_from_slice_get, slice_get_within}
use Rattle.std.proofs.lemmas.Bool.{true≢false}
use Rattle.std.proofs.lemmas.List.{append-nil}
use Rattle.std.proofs.lemmas.List.Elements.{All-head}
use Rattle.dcop_base.specs.Limits.{count_limit}
use Rattle.protocol_steps.specs.declared.message.Message.{Message}
use Rattle.worker_laws.specs.Wires.{Passage, Wire, IsSame, HasHeld, HaveHeld, HasPassed}
use Rattle.worker_laws.proofs.WireLaws.{all_right}
use Rattle.link_records.specs.Differences.{drained_by, IsLowerLink, Differs}
use Rattle.link_records.specs.declared.first.FirstDifference.{FirstDifference}
use Rattle.link_records.specs.declared.kept.LinkDifference.{LinkDifference}
use Rattle.link_records.specs.Firsts.{DiffersFirst}
use Rattle.link_records.specs.Passed.{passed_since}
use Rattle.link_records.specs.Found.{IsLowest, IsDifferenceOf}
use Rattle.link_records.specs.Left.{fresh_link, IsRenewed}

abbrev tail_of : {X : Type 0} → List X → List X
tail_of [] = []
tail_of (x ∷ xs) = xs

same_suc : {X : Type 0} (xs ys : List X) (k : ℕ) → take k xs ≡ take k ys → slice_get xs k ≡ slice_get ys k → take (suc k) xs ≡ take (suc k) ys
same_suc [] [] k front at = refl
same_suc [] (y ∷ ys) zero front at = absurd (none-some y at)
same_suc [] (y ∷ ys) (suc k) front at = absurd (none-some y (ap (λ (zs : List _). slice_get zs 0) front))
same_suc (x ∷ xs) [] zero front at = absurd (none-some x (sym at))
same_suc (x ∷ xs) [] (suc k) front at = absurd (none-some x (sym (ap (λ (zs : List _). slice_get zs 0) front)))
same_suc (x ∷ xs) (y ∷ ys) zero front at = ap (λ (z : _). z ∷ []) (same_Some x y at)
same_suc (x ∷ xs) (y ∷ ys) (suc k) front at =
    ap₂ (λ (z : _) (zs : List _). z ∷ zs) (same_Some x y (ap (λ (zs : List _). slice_get zs 0) front)) (same_suc xs ys k (ap (λ (zs : List _). tail_of zs) front) at)

-- lists that are the same so far are the same one place further
pub same_further : {X : Type 0} (xs ys : List X) (k : ℕ) → take k xs ≡ take k ys → slice_get xs k ≡ slice_get ys k → take (k + 1) xs ≡ take (k + 1) ys
same_further xs ys k front at = let next : suc k ≡ k + 1 = omega arith in subst (λ (n : ℕ). take n xs ≡ take n ys) next (same_suc xs ys k front at)

-- a link with one passage more
pub passes_one : (before after : Wire) (p : Passage) → after.receiver ≡ before.receiver → after.sender ≡ before.sender → after.passages ≡ before.passages ++ p ∷ [] → HasPassed before after
passes_one before after p receiver sender passages = record { passage = Some p; receiver = receiver; sender = sender; passages = passages }

-- the first of some passages, behind others
seam : (ps qs : List Passage) → slice_get (ps ++ qs) (length ps) ≡ slice_get qs 0
seam [] qs = refl
seam (p ∷ ps) qs = seam ps qs

some_first : (ps : List Passage) → 0 < length ps → (p : Passage) × (slice_get ps 0 ≡ Some p)
some_first [] some = absurd (omega (arith, some))
some_first (p ∷ ps) some = (p, refl)

-- a difference stands, whatever is passed behind it
pub differs_still : (since more : List Passage) (p : Passage) (place : ℕ) (sent taken : Option (ℕ × Message)) → more ≡ since ++ p ∷ [] → 0 < length since → DiffersFirst since place sent taken
    → (0 < length more) × DiffersFirst more place sent taken
differs_still [] more p place sent taken is some differs = absurd (omega (arith, some))
differs_still (q ∷ since) more p place sent taken is some differs =
    subst (λ (ps : List Passage). (0 < length ps) × DiffersFirst ps place sent taken) (sym is) (omega arith, differs)

first_same : (ps : List Passage) (p : Passage) → slice_get ps 0 ≡ Some p → All IsSame ps → IsSame p
first_same [] p is all = absurd (none-some p is)
first_same (q ∷ ps) p is all = subst IsSame (same_Some q p is) (All-head IsSame q ps all)

-- a link with a difference has not held
pub has_differed : (held since : List Passage) (place : ℕ) (sent taken : Option (ℕ × Message)) → 0 < length since → DiffersFirst since place sent taken → All IsSame (held ++ since) → ⊥
has_differed held since place sent taken some differs all =
    let p = some_first since some in
    let first = differs p.0 p.1 in
    first.3 (first.2 ∙ ap (λ (es : List (ℕ × Message)). slice_get es place) (first_same since p.0 p.1 (all_right IsSame held since all)) ∙ sym first.1)

-- whether a link has held, by whether it has one
pub held_by : (w : Wire) (held : List Passage) (first : Option FirstDifference) (b : Bool) → is_some first ≡ not b → w.passages ≡ held ++ passed_since first → All IsSame held → (b ≡ true) ↔ HasHeld w
held_by w held None true is passages same = (λ t. subst (λ (ps : List Passage). All IsSame ps) (sym (passages ∙ append-nil held)) same, λ h. refl)
held_by w held None false is passages same = absurd (true≢false (sym is))
held_by w held (Some first) true is passages same = absurd (true≢false is)
held_by w held (Some first) false is passages same = (
  (λ t. absurd (true≢false (sym t))),
  (λ h. absurd (has_differed held first.since.items first.place first.sent first.taken first.some first.differs (subst (λ (ps : List Passage). All IsSame ps) passages h))),
)

-- its first difference, by what passed before
pub difference_of : (w : Wire) (held since : List Passage) (drained place at : ℕ) (sent taken : Option (ℕ × Message)) → w.passages ≡ held ++ since → All IsSame held
    → drained ≡ min (drained_by held) count_limit → at ≡ min (drained + place) count_limit → 0 < length since → DiffersFirst since place sent taken → IsDifferenceOf w at sent taken
difference_of w held since drained place at sent taken passages same counted told some differs =
    let p = some_first since some in
    let first = differs p.0 p.1 in
    let front : take (length held) w.passages ≡ held = ap (take (length held)) passages ∙ take-append_seam held since in
    record {
      number = length held;
      place = place;
      first = record {
        passage = p.0;
        is = ap (λ (ps : List Passage). slice_get ps (length held)) passages ∙ seam held since ∙ p.1;
        earlier = subst (λ (ps : List Passage). All IsSame ps) (sym front) same;
        differ = record { same = first.0; differ = λ e. first.3 (first.2 ∙ e ∙ sym first.1) };
        counted = subst (λ (ps : List Passage). at ≡ min (drained_by ps + place) count_limit) (sym front) (omega (arith, counted, told));
      };
      sent_is = first.1;
      taken_is = first.2;
    }

-- the first difference of the lowest link that has not held is that of all
lowest_differs : (ws : List Wire) (link : ℕ) (w : Wire) (from to at : ℕ) (sent taken : Option (ℕ × Message)) → (l : IsLowest ws (length ws) link) → l.wire ≡ w → from ≡ w.sender → to ≡ w.receiver
    → IsDifferenceOf w at sent taken → Differs ws from to at sent taken
lowest_differs ws link w from to at sent taken l same sender receiver d = record {
  link = link;
  number = d.number;
  place = d.place;
  first = record {
    wire = w;
    is = subst (λ (v : Wire). slice_get ws link ≡ Some v) same l.is;
    lowest = λ k v found before. l.lowest k v (slice_get_within ws k v found) found (subst (λ (u : Wire). IsLowerLink v u) (sym same) before);
    first = d.first;
  };
  from_is = sender;
  to_is = receiver;
  sent_is = d.sent_is;
  taken_is = d.taken_is;
  apart = λ e. d.first.differ.differ (sym d.taken_is ∙ e ∙ d.sent_is);
}

-- and the lowest link has one
pub differs_at : (ws : List Wire) (link : ℕ) (w v : Wire) (r : Option LinkDifference) → IsLowest ws (length ws) link → v ≡ get_or ws link w
    → MatchOption r (HasHeld v) (λ d. (d.from ≡ v.sender) × (d.to ≡ v.receiver) × IsDifferenceOf v d.at d.sent d.taken) → MatchOption r (HaveHeld ws) (λ d. Differs ws d.from d.to d.at d.sent d.taken)
differs_at ws link w v None l same held = absurd (l.differs (subst HasHeld (same ∙ get_or_from_slice_get ws link l.wire w l.is) held))
differs_at ws link w v (Some d) l same found = lowest_differs ws link v d.from d.to d.at d.sent d.taken l (sym (same ∙ get_or_from_slice_get ws link l.wire w l.is)) found.0 found.1 found.2

same_wire : (w : Wire) (from to : ℕ) → w.sender ≡ from → w.receiver ≡ to → w.passages ≡ [] → w ≡ fresh_link from to
same_wire w from to sender receiver none =
    ap (λ (ps : List Passage). record { receiver = w.receiver; sender = w.sender; passages = ps }) none ∙ ap₂ (λ (i j : ℕ). fresh_link i j) sender receiver

-- and what is left of the links
pub left_at : (ws : List Wire) (link : ℕ) (w v u x : Wire) (r : Option LinkDifference) → IsLowest ws (length ws) link → v ≡ get_or ws link w → u ≡ x
    → (x.sender ≡ (get_or ws link w).sender) × (x.receiver ≡ (get_or ws link w).receiver) → x.passages ≡ []
    → MatchOption r (HasHeld v) (λ d. (d.from ≡ v.sender) × (d.to ≡ v.receiver) × IsDifferenceOf v d.at d.sent d.taken) → MatchOption r (slice_set ws link u ≡ ws) (λ d. IsRenewed ws d.from d.to (slice_set ws link u))
left_at ws link w v u x None l same new ends none held = absurd (l.differs (subst HasHeld (same ∙ get_or_from_slice_get ws link l.wire w l.is) held))
left_at ws link w v u x (Some d) l same new ends none found =
    let here : v ≡ l.wire = same ∙ get_or_from_slice_get ws link l.wire w l.is in
    let sender : v.sender ≡ (get_or ws link w).sender = ap (λ (y : Wire). y.sender) same in
    let receiver : v.receiver ≡ (get_or ws link w).receiver = ap (λ (y : Wire). y.receiver) same in
    record {
      link = link;
      wire = l.wire;
      is = l.is;
      ends = (ap (λ (y : Wire). y.sender) (sym here) ∙ sym found.0, ap (λ (y : Wire). y.receiver) (sym here) ∙ sym found.1);
      differs = l.differs;
      left = ap (λ (y : Wire). slice_set ws link y) (new ∙ same_wire x d.from d.to (ends.0 ∙ sym sender ∙ sym found.0) (ends.1 ∙ sym receiver ∙ sym found.1) none);
    }
