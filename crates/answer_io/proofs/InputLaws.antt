-- What follows from what was read from a source.
use Rattle.std.proofs.Common.{◌≡◌, ℕ, ◌+◌, ◌<◌, ◌≤◌, List, [], ◌++◌, length, Option, Some, None, Result, Ok, Err, inl, inr, refl, sym, ap, ◌∙◌, subst, append-nil, arith}
use Rattle.std.proofs.lemmas.List.{length-append}
use Rattle.std.proofs.lemmas.List.Elements.{All-nil}
use Rattle.std.specs.Io.KnownBytes.{prepend_known}
use Rattle.dcop_base.specs.Limits.{input_limit}
use Rattle.answer_io.specs.declared.reading.ReadEnd.{ReadEnd}
use Rattle.answer_io.specs.declared.reading.ReadEnd.TheVariants as ends
use Rattle.answer_io.specs.Input.{Input, Unread, Broken, TooLong, Whole, SourceState, read_limit, IsAllOf, Took, IsReadFrom, IsReading}
use Rattle.answer_io.specs.Showing.{StaysUnless}

joined : (least : ℕ) (bytes text : List ℕ) (after : Option (List ℕ)) → Some text ≡ prepend_known bytes after → least ≤ length bytes → least ≤ length text
joined least bytes text None front fits = cc front
joined least bytes text (Some left) front fits =
    let same : text ≡ bytes ++ left = cc front in
    let long = length-append bytes left in
    rw same (omega (arith, fits, long))

-- a source that tells its bytes had at least as many as were taken
pub taken-least : (least most : ℕ) (before after : SourceState) (text : List ℕ) → before.left ≡ Some text → Took least most before after → least ≤ length text
taken-least least most before after text told t = joined least t.bytes text after.left (sym told ∙ t.front) t.many

-- what was taken is within wider bounds too
within : (least most : ℕ) (before after : SourceState) → most ≤ input_limit + read_limit → Took least most before after → Took 0 (input_limit + read_limit) before after
within least most before after wide t = record {
  bytes = t.bytes;
  front = t.front;
  many = omega arith;
  few = let few = t.few in omega (arith, few, wide);
  reads = t.reads;
}

-- from a source that is as it was no byte was taken
none_from : (left : Option (List ℕ)) → left ≡ prepend_known [] left
none_from None = refl
none_from (Some bytes) = refl

all_from : (bytes : List ℕ) (left after : Option (List ℕ)) → IsAllOf bytes left after → left ≡ prepend_known bytes after
all_from bytes None after is = sym (ap (prepend_known bytes) is)
all_from bytes (Some left) after is = ap Some (sym is.0 ∙ sym (append-nil bytes)) ∙ sym (ap (prepend_known bytes) is.1)

-- whatever was read, each read but the last took at least one byte, all but the last together no more
-- than an input may have, and all together no more than that and one read
pub taken-most : (input : Input) (before after : SourceState) → IsReadFrom input before after → Took 0 (input_limit + read_limit) before after
taken-most Unread before after read = subst (λ (s : SourceState). Took 0 (input_limit + read_limit) before s) (sym read) (record {
  bytes = [];
  front = none_from before.left;
  many = omega arith;
  few = omega arith;
  reads = record {
    counts = [];
    made = sym (append-nil before.gave);
    total = refl;
    some = All-nil (λ count. 0 < count);
    stops = omega arith;
  };
})
taken-most Broken before after read = within 0 input_limit before after (omega arith) read.2
taken-most TooLong before after read = within (input_limit + 1) (input_limit + read_limit) before after (omega arith) read.0
taken-most (Whole bytes) before after read = record {
  bytes = bytes;
  front = all_from bytes before.left after.left read.1;
  many = omega arith;
  few = let few = read.0 in omega (arith, few);
  reads = read.3;
}

-- the same of a reading to the end, also if memory ran out
pub reading-taken : (result : Result (List ℕ) ReadEnd) (before after : SourceState) → IsReading result before after → Took 0 (input_limit + read_limit) before after
reading-taken (Ok bytes) before after read = taken-most (Whole bytes) before after read
reading-taken (Err ends.Failed) before after read = taken-most Broken before after read
reading-taken (Err ends.TooLong) before after read = taken-most TooLong before after read
reading-taken (Err ends.NoMemory) before after read = within 0 input_limit before after (omega arith) read.0

-- the source's count stays unless the source failed
pub count-stays : (input : Input) (before after : SourceState) (why : Type 0) → IsReadFrom input before after → (input ≡ Broken → why) → StaysUnless before.faults after.faults why
count-stays Unread before after why read broke = inl (ap (λ (s : SourceState). s.faults) read)
count-stays Broken before after why read broke = inr (read.1, read.0, broke refl)
count-stays TooLong before after why read broke = inl read.1
count-stays (Whole bytes) before after why read broke = inl read.2
