-- The wires of a pair of nodes go from the front of a list to its end.
use Rattle.std.proofs.Common.{◌≡◌, ℕ, ◌+◌, ◌<◌, List, [], ◌∷◌, ◌++◌, length, get_or, Result, Ok, Err, sym, subst, ◌∙◌, arith}
use Rattle.std.specs.Prelude.{OnOk, IfErr, IsErrAnd}
use Rattle.std.specs.List.{All, remove}
use Rattle.std.proofs.lemmas.List.Elements.{All-nil, All-tail, All-push}
use Rattle.wire_pump.specs.Wire.{Told}
use Rattle.wire_pump.specs.Pump.{HaveAll}
use Rattle.worker_laws.specs.Cells.{EachAre}
use Rattle.node_exchange.specs.declared.payload.Addressed.{Addressed}
use Rattle.node_exchange.specs.Letters.{IsLetter}
use Rattle.node_exchange.specs.Passings.{Passing, letters_of, frames_of, SamePassing, HasReceived, AreAcross, HaveCome}
use Rattle.node_exchange.proofs.LetterLaws.{frames_same, letters_same}
use Rattle.node_exchange.proofs.ReceiveLaws.{other_still}
use Rattle.node_exchange.proofs.ComeLaws.{come_on}
use Rattle.node_exchange.specs.Honest.{AreHonest}
use Rattle.node_exchange.specs.declared.fault.PassFault.{PassFault}
use Rattle.node_exchange.specs.declared.fault.PassFault.TheVariants.{Failed, Bytes, NoMemory}
use Rattle.node_exchange.specs.Faults.{AreTwo, IsByteFault, HasPassCause}

all_but_first : {A : Type 0} (P : A → Type 0) (xs : List A) → All P xs → All P (remove xs 0)
all_but_first P [] h = All-nil P
all_but_first P (x ∷ xs) h = All-tail P x xs h

module _ {W : Type 0} (told : W → Told) (is_joined : W → W → Type 0) where
  pub first_joined : (pairs : List (W × W)) (d : W × W) → AreHonest told is_joined pairs → 0 < length pairs → d ≡ get_or pairs 0 d → is_joined d.0 d.1
  first_joined pairs d h lt is = subst (λ (p : W × W). is_joined p.0 p.1) (sym is) (h.joined 0 d lt)

  pub first_all : (pairs : List (W × W)) (d : W × W) → AreHonest told is_joined pairs → 0 < length pairs → d ≡ get_or pairs 0 d → HaveAll (told d.0) (told d.1)
  first_all pairs d h lt is = subst (λ (p : W × W). HaveAll (told p.0) (told p.1)) (sym is) (h.all 0 d lt)

  pub turned_honest : (pairs : List (W × W)) (a b : W) → AreHonest told is_joined pairs → is_joined a b → HaveAll (told a) (told b) → AreHonest told is_joined (remove pairs 0 ++ (a, b) ∷ [])
  turned_honest pairs a b h joined all = record {
    joined = All-push (λ (p : W × W). is_joined p.0 p.1) (remove pairs 0) (a, b) (all_but_first (λ (p : W × W). is_joined p.0 p.1) pairs h.joined) joined;
    all = All-push (λ (p : W × W). HaveAll (told p.0) (told p.1)) (remove pairs 0) (a, b) (all_but_first (λ (p : W × W). HaveAll (told p.0) (told p.1)) pairs h.all) all;
  }

-- a fault that is passed on
pub err_on : {T : Type 0} (r : Result T PassFault) (e : PassFault) (P : PassFault → Type 0) → IsErrAnd r (λ x. x ≡ e) → P e → IfErr r P
err_on (Ok x) e P h p = tt
err_on (Err x) e P h p = subst P (sym h) p

pub nothing_on : {T : Type 0} (r : Result T PassFault) (e : PassFault) (P : Type 0) → IsErrAnd r (λ x. x ≡ e) → OnOk r P
nothing_on (Ok x) e P h = absurd h
nothing_on (Err x) e P h = tt

-- the cause of a fault that is passed on, behind calls that left the count as it was
abbrev pub Causes : ℕ → ℕ → PassFault → Type 0
Causes old new e = HasPassCause {T = Unit {0}} old new (Err e)

pub cause_on : (first old new : ℕ) (r : Result (Unit {0}) PassFault) (e : PassFault) → old ≡ first → IsErrAnd r (λ x. x ≡ e) → Causes old new e → HasPassCause first new r
cause_on first old new (Ok x) e same h cause = absurd h
cause_on first old new (Err x) e same h cause = subst (λ (f : PassFault). Causes first new f) (sym h) (subst (λ (n : ℕ). Causes n new e) same cause)

-- a byte that differed is that of links of which the same was drained
pub fault_still : (nodes : ℕ) (ps qs : List Passing) (f : PassFault) → EachAre SamePassing ps qs → IsByteFault nodes qs f → IsByteFault nodes ps f
fault_still nodes ps qs Failed s d = tt
fault_still nodes ps qs (Bytes from_node to_node place sent taken) s d = record { two = d.two; came = d.came; other = other_still from_node to_node d.came place sent taken ps qs s d.other }
fault_still nodes ps qs NoMemory s d = tt

-- two nodes the other way round, and two in order
pub turned_two : (nodes first second : ℕ) → AreTwo nodes first second → AreTwo nodes second first
turned_two nodes first second two = record { first_in = two.second_in; second_in = two.first_in; apart = λ e. two.apart (sym e) }

pub two_in_order : (nodes first second : ℕ) → first < second → second < nodes → AreTwo nodes first second
two_in_order nodes first second order inside = record { first_in = omega (arith, order, inside); second_in = inside; apart = λ e. omega (arith, order, e) }

-- what a turn of two nodes came to, over honest wires
module _ (a b : ℕ) (ps qs : List Passing) (back at_first : List ℕ) (s : EachAre SamePassing ps qs) where
  pub back_frames : at_first ≡ back → back ≡ frames_of b a ps → at_first ≡ frames_of b a qs
  back_frames got is = got ∙ is ∙ sym (frames_same b a ps qs s)

module _ (a b : ℕ) (ps qs : List Passing) (s : EachAre SamePassing ps qs) where
  pub back_letters : All IsLetter (letters_of b a ps) → All IsLetter (letters_of b a qs)
  back_letters good = subst (λ (ls : List Addressed). All IsLetter ls) (sym (letters_same b a ps qs s)) good

pub turn_come : (a b nodes : ℕ) (ps qs rs : List Passing) → a < b → AreAcross nodes ps → HaveCome a b ps → EachAre SamePassing ps qs → EachAre (HasReceived a b (letters_of a b ps)) ps qs → EachAre (HasReceived b a (letters_of b a qs)) qs rs
    → HaveCome a (b + 1) rs
turn_come a b nodes ps qs rs order across come s f g = come_on a b nodes ps qs rs order across come f (subst (λ (ls : List Addressed). EachAre (HasReceived b a ls) qs rs) (letters_same b a ps qs s) g)
