-- The stream of SplitMix64, word by word.
use Rattle.std.proofs.Common.{◌≡◌, ℕ, zero, suc, ◌+◌, ◌*◌, refl, sym, ap, subst, ◌∙◌, arith}
use Rattle.rand_xoshiro.specs.SplitMix64.{mix_u64, next_state}
use Rattle.instance_make.specs.Stream.{state_after, word_at}

-- the state after some words and further ones
pub state-more : (start a b : ℕ) → state_after (state_after start a) b ≡ state_after start (a + b)
unfolding state_after
state-more start a zero = let e : a ≡ a + 0 = omega arith in ap (state_after start) e
state-more start a (suc b) =
    let e : suc (a + b) ≡ a + suc b = omega arith in
    ap next_state (state-more start a b) ∙ ap (state_after start) e

-- no words leave the state
pub state-none : (start : ℕ) → state_after start 0 ≡ start
unfolding state_after
state-none start = refl

-- the next word behind so many, and the state behind it
pub word-next : (start count old word new : ℕ) → old ≡ state_after start count → (word, new) ≡ mix_u64 old → (word ≡ word_at start count) × (new ≡ state_after start (count + 1))
unfolding state_after word_at
word-next start count old word new is step =
    let e : suc count ≡ count + 1 = omega arith in (
      ap (λ (pair : ℕ × ℕ). pair.0) step ∙ ap (λ (state : ℕ). (mix_u64 state).0) is,
      ap (λ (pair : ℕ × ℕ). pair.1) step ∙ ap next_state is ∙ ap (state_after start) e,
    )

-- the first word, and the state behind it
pub word-first : (old word new : ℕ) → (word, new) ≡ mix_u64 old → (word ≡ word_at old 0) × (new ≡ state_after old 1)
word-first old word new step = word-next old 0 old word new (sym (state-none old)) step

-- the words of a table: one, and then so many
pub words-on : (start mid end count all : ℕ) → end ≡ state_after mid count → mid ≡ state_after start 1 → count ≡ all → end ≡ state_after start (1 + all)
words-on start mid end count all is first same =
    is ∙ ap (λ (s : ℕ). state_after s count) first ∙ ap (state_after (state_after start 1)) same ∙ state-more start 1 all
