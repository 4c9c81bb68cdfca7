-- What a cache of replies holds, and what looking up a reply and keeping one do to it.
use Rattle.std.specs.Prelude.{◌≡◌, ℕ, suc, Bool, true, false, List, [], ◌∷◌, ◌++◌, Option, Some, is_some, Contains, nat_eq}
use Rattle.std.specs.Cmp.Lexicographic.{pointwise}
use Rattle.std.specs.Map.{lookup}
use Rattle.lru.specs.LruCache.{LruCache, lru_cache, promoted, put_entries}

-- the entries, each a key and its reply, with the last used one first, and how many there may be;
-- and for each look whether it found an entry
pub record CacheState : Type 0 where
  pub kept : LruCache (List ℕ) (List ℕ)
  pub finds : List Bool

-- a cache of at most this many entries, which has no entry and had no look
abbrev pub fresh_cache : ℕ → CacheState
fresh_cache entries = record { kept = lru_cache [] entries; finds = [] }

-- whether two keys have the same bytes
abbrev pub same_key : List ℕ → List ℕ → Bool
same_key = pointwise nat_eq

-- the reply that is kept for a key, if there is one
abbrev pub reply_at : CacheState → List ℕ → Option (List ℕ)
reply_at cache key = lookup (same_key key) cache.kept.entries

-- the cache after a look at a key: the key's entry, if there is one, comes first, and the look is
-- noted
abbrev pub looked_at : CacheState → List ℕ → CacheState
looked_at cache key = record {
  kept = lru_cache (promoted (same_key key) cache.kept.entries) cache.kept.cap;
  finds = cache.finds ++ is_some (reply_at cache key) ∷ [];
}

-- the cache after a reply was kept for a key: the key's entry, old or new, comes first with this
-- reply; a new one takes the place of the last entry if the cache was full
abbrev pub kept_at : CacheState → List ℕ → List ℕ → CacheState
kept_at cache key reply = record {
  kept = lru_cache (put_entries same_key cache.kept key reply) cache.kept.cap;
  finds = cache.finds;
}

-- the first entry is that of a key, with this reply: it is found, and already comes first
pub record IsFirst (key reply : List ℕ) (entries : List (List ℕ × List ℕ)) : Type 0 where
  pub found : lookup (same_key key) entries ≡ Some reply
  pub stays : promoted (same_key key) entries ≡ entries

-- each entry is a key and the reply to it
pub record AreReplies (is_reply : List ℕ → List ℕ → Type 0) (entries : List (List ℕ × List ℕ)) : Type 0 where
  pub each : (e : List ℕ × List ℕ) → Contains entries e → is_reply e.0 e.1

-- what a look adds to the misses
abbrev pub missed : Bool → ℕ
missed true = 0
missed false = 1

-- how many looks found nothing
abbrev pub misses_of : List Bool → ℕ
misses_of [] = 0
misses_of (true ∷ finds) = misses_of finds
misses_of (false ∷ finds) = suc (misses_of finds)
