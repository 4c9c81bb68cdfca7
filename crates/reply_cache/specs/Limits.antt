-- Limits of replies and of the cache that keeps them.
use Rattle.std.specs.Prelude.{ℕ}

-- the most bytes of a reply, 2^24
abbrev pub reply_limit : ℕ
reply_limit = 16777216

-- the most bytes of a key that is kept, 2^16
abbrev pub key_limit : ℕ
key_limit = 65536

-- the most entries of a cache
abbrev pub entry_limit : ℕ
entry_limit = 1024
