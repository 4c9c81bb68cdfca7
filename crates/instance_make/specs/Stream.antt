-- The stream of SplitMix64 (Steele, Lea and Flood, OOPSLA 2014). Its state is one number, which is
-- initially the seed.
use Rattle.std.specs.Prelude.{ℕ, zero, suc}
use Rattle.rand_xoshiro.specs.SplitMix64.{mix_u64, next_state}

-- the state after n words
unfoldable pub state_after : ℕ → ℕ → ℕ
state_after state zero = state
state_after state (suc count) = next_state (state_after state count)

-- the word at this position of the stream that starts at a state; positions count from 0
unfoldable pub word_at : ℕ → ℕ → ℕ
word_at state place = (mix_u64 (state_after state place)).0
