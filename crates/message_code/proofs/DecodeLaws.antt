-- What decoding answers, from what reading gives.
use Rattle.std.proofs.Common.{◌≡◌, ℕ, ◌+◌, ◌-◌, ◌<◌, List, [], ◌∷◌, ◌++◌, length, Some, None, Err, refl, sym, ap, ◌∙◌, arith, length-append}
use Rattle.protocol_steps.specs.declared.message.Message.{Message}
use Rattle.message_code.specs.declared.fault.DecodeFault.{DecodeFault}
use Rattle.message_code.specs.declared.fault.DecodeFault.TheVariants.{Bad, NoMemory}
use Rattle.std.proofs.Common.{zero, suc, false, append_assoc}
use Rattle.std.specs.Prelude.{◌==◌}
use Rattle.std.specs.Int.{w8, to_be_bytes}
use Rattle.message_code.specs.Code.{amount_code, tag_of, fields_code, code_of}
use Rattle.message_code.specs.Decode.{IsEnvelope, IsFault, Finds}
use Rattle.message_code.specs.Form.{ended, envelope, bad_place, first_fault}
use Rattle.message_code.specs.Reading.{IsRefused}
use Rattle.message_code.proofs.PassLaws.{envelope_passes, codes_are_good, byte_is}

left_over : (bytes : List ℕ) (place : ℕ) → 0 < length bytes → first_fault ended place bytes ≡ Some place
left_over [] place h = absurd (omega arith)
left_over (b ∷ bytes) place h = refl

-- bytes behind an envelope are refused at the first of them
pub refused_behind : (e : ℕ × Message) (bytes rest : List ℕ) → IsEnvelope e → bytes ≡ code_of e ++ rest → 0 < length rest → IsRefused (λ (_ : Unit {0}). envelope ended) bytes (length rest)
refused_behind e bytes rest h is some =
    let long : length bytes ≡ length (code_of e) + length rest = ap length is ∙ length-append (code_of e) rest in
    record {
      within = omega arith;
      place = λ _ before place at.
          let there : before + length (code_of e) ≡ place = omega arith in
          ap (first_fault (envelope ended) before) is ∙ envelope_passes e rest h ended before ∙ left_over rest (before + length (code_of e)) some ∙ ap Some there;
    }

-- the place of a refusal, from the bytes that are left
pub place_of : (bytes : List ℕ) (left : ℕ) → IsRefused (λ (_ : Unit {0}). envelope ended) bytes left → bad_place bytes ≡ Some (length bytes - left)
place_of bytes left h = let within = h.within in h.place tt 0 (length bytes - left) (omega arith)

-- no code is refused
pub finds_fault : (bytes : List ℕ) (fault : DecodeFault) → IsFault bytes fault → Finds bytes (Err fault)
finds_fault bytes (Bad place) h = λ e is same. absurd (let good : bad_place bytes ≡ None = ap bad_place same ∙ codes_are_good e is in cc)
finds_fault bytes NoMemory h = tt

-- stamp, tag and fields, one behind the other, are the code
pub whole_behind : (stamp tag : ℕ) (m : Message) (bytes tagged told rest : List ℕ) → bytes ≡ amount_code stamp ++ tagged → tagged ≡ to_be_bytes w8 tag ++ told → told ≡ fields_code m ++ rest → tag_of m ≡ tag → tag < 9
    → bytes ≡ code_of (stamp, m) ++ rest
whole_behind stamp tag m bytes tagged told rest p q r same lt =
    let byte : to_be_bytes w8 tag ≡ tag_of m ∷ [] = byte_is tag (omega arith) ∙ ap (λ (x : ℕ). x ∷ []) (sym same) in
    let second : tagged ≡ (tag_of m ∷ fields_code m) ++ rest = q ∙ ap (λ (x : List ℕ). x ++ told) byte ∙ ap (λ (x : List ℕ). tag_of m ∷ x) r in
    p ∙ ap (λ (x : List ℕ). amount_code stamp ++ x) second ∙ sym (append_assoc (amount_code stamp) (tag_of m ∷ fields_code m) rest)

pub not_empty : (n : ℕ) → false ≡ (n == 0) → 0 < n
not_empty zero h = absurd cc
not_empty (suc n) h = omega arith
