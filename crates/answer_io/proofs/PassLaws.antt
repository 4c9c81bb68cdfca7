-- What reading and writing keep as they go.
use Rattle.std.proofs.Common.{◌≡◌, ℕ, ◌+◌, ◌<◌, ◌≤◌, List, [], ◌∷◌, ◌++◌, length, length-append, take, Option, sym, ap, ◌∙◌, subst, refl, append_assoc, append-nil, drop, None, Some, arith}
use Rattle.std.specs.Prelude.{sum, All}
use Rattle.std.proofs.Math.Seq.{take-append_seam}
use Rattle.std.proofs.lemmas.List.Elements.{All-nil, All-cons, All-append}
use Rattle.std.proofs.lemmas.List.Sums.{fold-append}
use Rattle.std.specs.Io.KnownBytes.{prepend_known}
use Rattle.dcop_base.specs.Limits.{input_limit}
use Rattle.dcop_edge.specs.Sink.{Adds}
use Rattle.dcop_edge.specs.Source.{GivesBehind}
use Rattle.answer_io.specs.Input.{SourceState, read_limit, but_last, AreReadsOf}

-- the first `at` bytes of a text are written, and no call failed
pub record WriteDone (before now : Option (List ℕ)) (old new : ℕ) (text : List ℕ) (at : ℕ) : Type 0 where
  pub within : at ≤ length text
  pub added : Adds before (take at text) now
  pub count : new ≡ old

-- these bytes are read, at most those of one read above input_limit, no call failed, each read took
-- at least one byte, and all but the last together took at most input_limit
pub record ReadDone (before now : SourceState) (bytes : List ℕ) : Type 0 where
  pub front : before.left ≡ prepend_known bytes now.left
  pub count : now.faults ≡ before.faults
  pub few : length bytes ≤ input_limit + read_limit
  pub reads : AreReadsOf bytes before now
  pub some : All (λ count. 0 < count) reads.counts

-- the numbers before the last
last_off : (counts : List ℕ) (count : ℕ) → but_last (counts ++ count ∷ []) ≡ counts
last_off counts count =
    let long = length-append counts (count ∷ []) in
    ap (λ (n : ℕ). take n (counts ++ count ∷ [])) (omega (arith, long)) ∙ take-append_seam counts (count ∷ [])

-- one read more, whatever it gave, as long as no more than input_limit bytes were read
pub one_read : (before now after : SourceState) (bytes grown : List ℕ) (count : ℕ) → ReadDone before now bytes → length bytes ≤ input_limit
    → after.gave ≡ now.gave ++ count ∷ [] → length grown ≡ length bytes + count → AreReadsOf grown before after
one_read before now after bytes grown count done low made long =
    let counts = done.reads.counts in record {
      counts = counts ++ count ∷ [];
      made = made ∙ ap (λ (l : List ℕ). l ++ count ∷ []) done.reads.made ∙ append_assoc before.gave counts (count ∷ []);
      total = fold-append (λ (a x : ℕ). a + x) 0 counts (count ∷ []) ∙ ap (λ (n : ℕ). n + count) done.reads.total ∙ sym long;
      some = subst (All (λ (n : ℕ). 0 < n)) (sym (last_off counts count)) done.some;
      stops = subst (λ (l : List ℕ). sum l ≤ input_limit) (sym (last_off counts count)) (let total = done.reads.total in omega (arith, low, total));
    }

-- all of these numbers, and one more
pub and_one : (counts : List ℕ) (count : ℕ) → All (λ n. 0 < n) counts → 0 < count → All (λ n. 0 < n) (counts ++ count ∷ [])
and_one counts count all some =
    let Some = λ (n : ℕ). 0 < n in
    All-append Some counts (count ∷ []) all (All-cons Some count [] some (All-nil Some))

none_front : (left : Option (List ℕ)) → left ≡ prepend_known [] left
none_front None = refl
none_front (Some bytes) = refl

-- nothing is read yet
pub none_read : (before : SourceState) (bytes : List ℕ) → bytes ≡ [] → ReadDone before before bytes
none_read before bytes empty = subst (λ (l : List ℕ). ReadDone before before l) (sym empty) (record {
  front = none_front before.left;
  count = refl;
  few = omega arith;
  reads = record {
    counts = [];
    made = sym (append-nil before.gave);
    total = refl;
    some = All-nil (λ count. 0 < count);
    stops = omega arith;
  };
  some = All-nil (λ count. 0 < count);
})

joined_front : (first more : List ℕ) (a b c : Option (List ℕ)) → a ≡ prepend_known first b → b ≡ prepend_known more c → a ≡ prepend_known (first ++ more) c
joined_front first more a b None p q = p ∙ ap (prepend_known first) q
joined_front first more a b (Some left) p q = p ∙ ap (prepend_known first) q ∙ ap Some (sym (append_assoc first more left))

-- one read more, which gave some bytes
pub more_read : (before now after : SourceState) (bytes grown : List ℕ) (most count : ℕ) → ReadDone before now bytes → length bytes ≤ input_limit
    → most ≤ read_limit → after.faults ≡ now.faults → after.gave ≡ now.gave ++ count ∷ [] → GivesBehind now.left after.left bytes grown most count
    → 0 < count → ReadDone before after grown
unfolding one_read
more_read before now after bytes grown most count done low wide same made gives some = record {
  front = subst (λ (l : List ℕ). before.left ≡ prepend_known l after.left) (sym gives.behind)
      (joined_front bytes (drop (length bytes) grown) before.left now.left after.left done.front gives.front);
  count = same ∙ done.count;
  few = let size = gives.size in let within = gives.within in omega (arith, size, within, low, wide);
  reads = one_read before now after bytes grown count done low made gives.size;
  some = and_one done.reads.counts count done.some some;
}
