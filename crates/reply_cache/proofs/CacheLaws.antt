-- A cache keeps replies, and counts its looks.
use Rattle.std.proofs.Common.{◌≡◌, ℕ, suc, ◌+◌, Bool, true, false, ◌⊎◌, inl, inr, List, [], ◌∷◌, ◌++◌, Option, Some, None, Result, Ok, Err, OnOk, OnErr, IfSome, Contains, refl, sym, ap, ◌∙◌, subst, arith, length, length-append, slice_get}
use Rattle.std.specs.Cmp.Lexicographic.{bytes_decides}
use Rattle.std.specs.Map.{lookup}
use Rattle.lru.specs.LruCache.{LruCache, lru_cache, promoted, put_entries}
use Rattle.lru.proofs.CallerLemmas.{IsPut, Contains-promoted, Contains-put_entries, Contains-lookup}
use Rattle.reply_cache.specs.Cache.{same_key, IsFirst, AreReplies, missed, misses_of}

-- the reply that is found is that of the key
pub found_reply : (is_reply : List ℕ → List ℕ → Type 0) (key value : List ℕ) (entries : List (List ℕ × List ℕ)) → AreReplies is_reply entries → lookup (same_key key) entries ≡ Some value → is_reply key value
found_reply is_reply key value entries are found =
    let at = Contains-lookup (same_key key) entries value found in
    subst (λ (k : List ℕ). is_reply k value) (sym ((bytes_decides key at.0).0 at.2)) (are.each (at.0, value) at.1)

-- after a look
pub looked_replies : (is_reply : List ℕ → List ℕ → Type 0) (key : List ℕ) (entries : List (List ℕ × List ℕ)) → AreReplies is_reply entries → AreReplies is_reply (promoted (same_key key) entries)
looked_replies is_reply key entries are = record { each = λ e in_it. are.each e (Contains-promoted (same_key key) entries e in_it) }

-- the first entry, if it is that of a key
pub first_of : (key : List ℕ) (e : List ℕ × List ℕ) (entries : List (List ℕ × List ℕ)) → slice_get entries 0 ≡ Some e → same_key key e.0 ≡ true → IsFirst key e.1 entries
first_of key e [] is same = cc
first_of key e (f ∷ entries) is same =
    let it : f ≡ e = cc in
    let test : same_key key f.0 ≡ true = ap (λ (x : List ℕ × List ℕ). same_key key x.0) it ∙ same in
    record { found = rw test (ap (λ (x : List ℕ × List ℕ). Some x.1) it); stays = rw test refl }

-- the same reply to the same key
moved : (is_reply : List ℕ → List ℕ → Type 0) (key key' value value' : List ℕ) → key ≡ key' → value' ≡ value → is_reply key value → is_reply key' value'
moved is_reply key key' value value' keys values is = subst (λ (k : List ℕ). is_reply k value') keys (subst (λ (v : List ℕ). is_reply key v) (sym values) is)

put_reply : (is_reply : List ℕ → List ℕ → Type 0) (key value : List ℕ) (cache : LruCache (List ℕ) (List ℕ)) (e : List ℕ × List ℕ) → is_reply key value → IsPut same_key cache key value e → is_reply e.0 e.1
put_reply is_reply key value cache e is (same, inl new) = moved is_reply key e.0 value e.1 (sym new) same is
put_reply is_reply key value cache e is (same, inr old) = moved is_reply key e.0 value e.1 ((bytes_decides key e.0).0 old.2) same is

one_of : (is_reply : List ℕ → List ℕ → Type 0) (key value : List ℕ) (cache : LruCache (List ℕ) (List ℕ)) (e : List ℕ × List ℕ) → AreReplies is_reply cache.entries → is_reply key value
    → Contains cache.entries e ⊎ IsPut same_key cache key value e → is_reply e.0 e.1
one_of is_reply key value cache e are is (inl old) = are.each e old
one_of is_reply key value cache e are is (inr put) = put_reply is_reply key value cache e is put

-- after a reply was kept
pub kept_replies : (is_reply : List ℕ → List ℕ → Type 0) (key value : List ℕ) (cache : LruCache (List ℕ) (List ℕ)) → AreReplies is_reply cache.entries → is_reply key value → AreReplies is_reply (put_entries same_key cache key value)
kept_replies is_reply key value cache are is = record { each = λ e in_it. one_of is_reply key value cache e are is (Contains-put_entries same_key cache key value e in_it) }

-- one more look
pub misses_of-push : (finds : List Bool) (found : Bool) → misses_of (finds ++ found ∷ []) ≡ misses_of finds + missed found
misses_of-push [] true = refl
misses_of-push [] false = refl
misses_of-push (true ∷ finds) found = misses_of-push finds found
misses_of-push (false ∷ finds) found =
    let on : suc (misses_of finds + missed found) ≡ suc (misses_of finds) + missed found = omega arith in
    ap suc (misses_of-push finds found) ∙ on

-- the counts after one more look
pub looks_more : (old mid new : List Bool) (found : Bool) (was now : ℕ) → was ≡ length old → mid ≡ old → new ≡ mid ++ found ∷ [] → now ≡ was + 1 → now ≡ length new
looks_more old mid new found was now counted same noted more = omega (arith, counted, more, ap length noted, ap length same, length-append mid (found ∷ []))

pub misses_more : (old mid new : List Bool) (found : Bool) (was now : ℕ) → was ≡ misses_of old → mid ≡ old → new ≡ mid ++ found ∷ [] → now ≡ was + missed found → now ≡ misses_of new
misses_more old mid new found was now counted same noted more =
    more ∙ ap (λ (n : ℕ). n + missed found) counted ∙ sym (misses_of-push old found) ∙ ap (λ (xs : List Bool). misses_of (xs ++ found ∷ [])) (sym same) ∙ ap misses_of (sym noted)

-- what a look finds is the reply to its key
pub reply_found : (is_reply : List ℕ → List ℕ → Type 0) (key : List ℕ) (found : Option (List ℕ)) (entries : List (List ℕ × List ℕ)) → AreReplies is_reply entries → found ≡ lookup (same_key key) entries
    → IfSome found (λ r. is_reply key r)
reply_found is_reply key None entries are is = tt
reply_found is_reply key (Some value) entries are is = found_reply is_reply key value entries are (sym is)

-- after a reply was kept, or could not be
pub kept_either : {X E : Type 0} (is_reply : List ℕ → List ℕ → Type 0) (key value : List ℕ) (old new : LruCache (List ℕ) (List ℕ)) (result : Result X E) → AreReplies is_reply old.entries → is_reply key value
    → OnOk result (new ≡ lru_cache (put_entries same_key old key value) old.cap) → OnErr result (new ≡ old) → AreReplies is_reply new.entries
kept_either is_reply key value old new (Ok x) are is ok err = subst (λ (c : LruCache (List ℕ) (List ℕ)). AreReplies is_reply c.entries) (sym ok) (kept_replies is_reply key value old are is)
kept_either is_reply key value old new (Err e) are is ok err = subst (λ (c : LruCache (List ℕ) (List ℕ)). AreReplies is_reply c.entries) (sym err) are
