-- What a source gives, if the bytes that it has left are known.
use Rattle.std.specs.Prelude.{◌≡◌, ◌<◌, ◌≤◌, ℕ, ◌+◌, List, ◌++◌, length, take, drop, Option, Result, Ok, Err}
use Rattle.std.specs.Io.KnownBytes.{prepend_known, IsAtEnd}

-- one read gave `count` bytes: they were the next ones, and they are at the front of the buffer
pub record Gives (before after : Option (List ℕ)) (buffer filled : List ℕ) (count : ℕ) : Type 0 where
  pub within : count ≤ length buffer
  pub front : before ≡ prepend_known (take count filled) after
  pub behind : drop count filled ≡ drop count buffer
  pub end : count ≡ 0 → 0 < length buffer → IsAtEnd after

-- one read added `count` bytes, at most `most`: they were the next ones, and they come after those that were held
pub record GivesBehind (before after : Option (List ℕ)) (held grown : List ℕ) (most count : ℕ) : Type 0 where
  pub within : count ≤ most
  pub size : length grown ≡ length held + count
  pub behind : grown ≡ held ++ drop (length held) grown
  pub front : before ≡ prepend_known (drop (length held) grown) after
  pub end : count ≡ 0 → 0 < most → IsAtEnd after

-- how many bytes a read gave: the number that it returned, and 0 if it failed
abbrev pub count_of : {E : Type 0} → Result ℕ E → ℕ
count_of (Ok count) = count
count_of (Err fault) = 0
