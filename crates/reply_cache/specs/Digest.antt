-- The digest of a key.
use Rattle.std.specs.Prelude.{ℕ, List}
use Rattle.std.specs.Hash.FoldHasher.{initial, write, finish}

-- what std's hasher makes of these bytes, given in one piece
abbrev pub digest_of : List ℕ → ℕ
digest_of bytes = finish (write initial bytes)
