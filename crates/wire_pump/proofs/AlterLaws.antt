-- What goes out of a wire that may change bytes.
use Rattle.std.proofs.Common.{◌≡◌, ◌+◌, ℕ, List, [], ◌∷◌, ◌++◌, length, take, Option, Some, None, Result, Ok, Err, refl, ap, sym, subst, ◌∙◌, inl, arith}
use Rattle.futures.specs.declared.task.Poll.{Poll}
use Rattle.futures.specs.declared.task.Poll.TheVariants.{Ready, Pending}
use Rattle.dcop_edge.specs.declared.fault.Failed.{Failed}
use Rattle.wire_pump.specs.Wire.{Told, AfterWrite}
use Rattle.wire_pump.specs.Steady.{steady_told, sent_by}
use Rattle.wire_pump.specs.Memory.{all_altered, SendsAltered}
use Rattle.wire_pump.specs.declared.alter.Alter.{Alter}
use Rattle.wire_pump.specs.declared.memory.MemoryWire.{MemoryWire}

abbrev some_or_nil : Option (List ℕ) → List ℕ
some_or_nil None = []
some_or_nil (Some xs) = xs

abbrev sent_in : Told → List ℕ
sent_in t = some_or_nil t.sent

all_altered_none : (place : ℕ) (bytes : List ℕ) → all_altered [] place bytes ≡ bytes
all_altered_none place [] = refl
all_altered_none place (byte ∷ bytes) = ap (λ (xs : List ℕ). byte ∷ xs) (all_altered_none (place + 1) bytes)

all_altered_of : (alters : List Alter) (place : ℕ) (bytes : List ℕ) → alters ≡ [] → bytes ≡ all_altered alters place bytes
all_altered_of alters place bytes none = subst (λ (changes : List Alter). bytes ≡ all_altered changes place bytes) (sym none) (sym (all_altered_none place bytes))

pub nil_of : (alters : List Alter) → length alters ≡ 0 → alters ≡ []
nil_of [] e = refl
nil_of (a ∷ alters) e = absurd (omega (arith, e))

-- a wire that changes no byte sends those that it took
pub sends_all : (a b : MemoryWire) (bytes : List ℕ) (result : Poll (Result ℕ Failed)) → AfterWrite (steady_told a.wire) bytes result (steady_told b.wire)
    → a.alters.items ≡ [] → b.written ≡ a.written → SendsAltered a bytes result b
sends_all a b bytes (Ready (Ok count)) w none same =
    (ap sent_in w.is ∙ ap (λ (xs : List ℕ). sent_by a.wire ++ xs) (all_altered_of a.alters.items a.written (take count bytes) none), inl none)
sends_all a b bytes (Ready (Err failed)) w none same = (ap sent_in w.is, same)
sends_all a b bytes Pending w none same = (ap sent_in w.is, same)
