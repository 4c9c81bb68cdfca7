-- Wires that tell that all was received told so before.
use Rattle.std.proofs.Common.{◌≡◌, ℕ, List, [], ◌∷◌, ◌++◌, length, get_or, drop, Option, Some, None, Err, refl, sym, ap, ap₂, subst, ◌∙◌, arith}
use Rattle.std.proofs.lemmas.List.{append-nil, append_assoc, length-append}
use Rattle.std.proofs.lemmas.List.Elements.{All-nil, All-cons, All-head, All-tail}
use Rattle.std.proofs.lemmas.Option.{none-some, same_Some}
use Rattle.wire_pump.specs.Wire.{Told, told_more}
use Rattle.wire_pump.specs.Ends.{start_of}
use Rattle.wire_pump.specs.Pump.{HasPassed, HasAll, HaveAll, HasPumped}
use Rattle.wire_pump.specs.declared.pump.Pumped.{Pumped}
use Rattle.node_exchange.specs.declared.fault.PassFault.{PassFault}
use Rattle.node_exchange.specs.declared.fault.PassFault.TheVariants.{Failed, Bytes, NoMemory}
use Rattle.node_exchange.specs.Faults.{IsNoDifference}
use Rattle.node_exchange.specs.Honest.{HaveReceivedAll}
use Rattle.node_exchange.specs.Turned.{Load, HasCarried, EachCarried, AreTurned, lost_by}
use Rattle.node_exchange.proofs.TurnLaws.{empty}

-- equal lists have equal ends of the same length
same_ends : (s r xs ys : List ℕ) → s ++ xs ≡ r ++ ys → length xs ≡ length ys → (s ≡ r) × (xs ≡ ys)
same_ends [] [] xs ys e long = (refl, e)
same_ends [] (y ∷ r) xs ys e long = let sizes : length xs ≡ length (y ∷ r ++ ys) = ap length e in let parts = length-append r ys in absurd (omega (arith, long, sizes, parts))
same_ends (x ∷ s) [] xs ys e long = let sizes : length (x ∷ s ++ xs) ≡ length ys = ap length e in let parts = length-append s xs in absurd (omega (arith, long, sizes, parts))
same_ends (x ∷ s) (y ∷ r) xs ys e long =
    let rest = same_ends s r xs ys (ap (λ (zs : List ℕ). drop 1 zs) e) long in
    (ap₂ (λ (z : ℕ) (zs : List ℕ). z ∷ zs) (ap (λ (zs : List ℕ). get_or zs 0 x) e) rest.0, rest.1)

-- what two ends told before they told the same text, if as many bytes came in as went out
fronts : (s r : Option (List ℕ)) (bytes got text : List ℕ) → told_more s bytes ≡ Some text → told_more r got ≡ Some text → length got ≡ length bytes → (front : List ℕ) × (s ≡ Some front) × (r ≡ Some front) × (got ≡ bytes)
fronts None r bytes got text e f long = absurd (none-some text e)
fronts (Some s) None bytes got text e f long = absurd (none-some text f)
fronts (Some s) (Some r) bytes got text e f long =
    let two = same_ends s r bytes got (same_Some (s ++ bytes) (r ++ got) (e ∙ sym f)) (sym long) in
    (s, refl, ap (λ (xs : List ℕ). Some xs) (sym two.0), sym two.1)

module _ (a b from to : Told) (bytes got : List ℕ) (p : HasPassed (start_of a b) from to bytes got) (h : HasAll from to) where
  fronts_of : (front : List ℕ) × (a.sent ≡ Some front) × (b.received ≡ Some front) × (got ≡ bytes)
  fronts_of = fronts a.sent b.received bytes got h.text (sym p.sent ∙ h.sent) (sym p.received ∙ h.received) p.same_length

  all_before : HasAll a b
  all_before = record { text = fronts_of.0; sent = fronts_of.1; received = fronts_of.2 }

  came_whole : got ≡ bytes
  came_whole = fronts_of.3

module _ {W : Type 0} (told : W → Told) (is_joined : W → W → Type 0) where
  -- a pump whose wires tell at its end that all was received took what was sent
  pub pumped_whole : (first second : W) (there back : List ℕ) (p : Pumped W) → HasPumped told is_joined first second there back p → HaveAll (told p.first) (told p.second)
      → (p.at_second ≡ there) × (p.at_first ≡ back)
  pumped_whole first second there back p pumped all = (
    came_whole (told first) (told second) (told p.first) (told p.second) there p.at_second pumped.there all.there,
    came_whole (told second) (told first) (told p.second) (told p.first) back p.at_first pumped.back all.back,
  )

  abbrev IsWhole : W × W → Type 0
  IsWhole pair = HaveAll (told pair.0) (told pair.1)

  pair_before : (l : Load) (d e : W × W) → HasCarried told is_joined l d e → IsWhole e → IsWhole d
  pair_before l d e later all = record {
    there = all_before (told d.0) (told d.1) (told e.0) (told e.1) l.0 later.at_second later.there all.there;
    back = all_before (told d.1) (told d.0) (told e.1) (told e.0) l.1 later.at_first later.back all.back;
  }

  -- the last pair of a list, and those before it
  last_all : (pairs : List (W × W)) (last : W × W) → HaveReceivedAll told (pairs ++ last ∷ []) → HaveReceivedAll told pairs × IsWhole last
  last_all [] last all = (All-nil IsWhole, All-head IsWhole last [] all)
  last_all (pair ∷ pairs) last all =
      let rest = last_all pairs last (All-tail IsWhole pair (pairs ++ last ∷ []) all) in
      (All-cons IsWhole pair pairs (All-head IsWhole pair (pairs ++ last ∷ []) all) rest.0, rest.1)

  pub last_two : (pairs rest : List (W × W)) (first second : W) → pairs ≡ rest ++ (first, second) ∷ [] → HaveReceivedAll told pairs → HaveAll (told first) (told second)
  last_two pairs rest first second is all = (last_all rest (first, second) (subst (λ (ps : List (W × W)). HaveReceivedAll told ps) is all)).1

  all_taken : (ls : List Load) (taken used before after : List (W × W)) → EachCarried told is_joined ls taken used → before ++ used ≡ taken ++ after → HaveReceivedAll told after → HaveReceivedAll told before
  all_taken [] [] [] before after later is all = subst (λ (ps : List (W × W)). HaveReceivedAll told ps) (sym is ∙ append-nil before) all
  all_taken [] [] (e ∷ used) before after later is all = absurd later
  all_taken [] (d ∷ taken) used before after later is all = absurd later
  all_taken (l ∷ ls) [] used before after later is all = absurd later
  all_taken (l ∷ ls) (d ∷ taken) [] before after later is all = absurd later
  all_taken (l ∷ ls) (d ∷ taken) (e ∷ used) [] after later is all = All-nil IsWhole
  all_taken (l ∷ ls) (d ∷ taken) (e ∷ used) (pair ∷ before) after later is all =
      let rest : before ++ e ∷ used ≡ taken ++ after = ap (λ (ps : List (W × W)). drop 1 ps) is in
      let two = last_all before e (all_taken ls taken used (before ++ e ∷ []) after later.1 (append_assoc before (e ∷ []) used ∙ rest) all) in
      All-cons IsWhole pair before (subst IsWhole (sym (ap (λ (ps : List (W × W)). get_or ps 0 pair) is)) (pair_before l d e later.0 two.1)) two.0

  -- pairs that were used in turn, of which none is gone
  pub turned_back : (xs ys : List (W × W)) → AreTurned told is_joined 0 xs ys → HaveReceivedAll told ys → HaveReceivedAll told xs
  turned_back xs ys (loads, t) all =
      all_taken loads t.taken t.used xs ys t.later (t.turned ∙ ap (λ (ps : List (W × W)). ps ++ ys) (ap (λ (ps : List (W × W)). t.taken ++ ps) (empty t.gone t.few) ∙ append-nil t.taken)) all

  -- a fault after which all was received
  pub fault_back : (e : PassFault) (xs ys : List (W × W)) → AreTurned told is_joined (lost_by {T = Unit {0}} (Err e)) xs ys → HaveReceivedAll told ys → (HaveReceivedAll told xs → IsNoDifference e) → IsNoDifference e
  fault_back Failed xs ys t all none = tt
  fault_back (Bytes from_node to_node place sent taken) xs ys t all none = none (turned_back xs ys t all)
  fault_back NoMemory xs ys t all none = tt
