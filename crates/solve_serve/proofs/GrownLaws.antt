-- Each read brings a request nearer: how many reads there are until a frame is whole, or a length
-- field is too long.
use Rattle.std.proofs.Common.{◌≡◌, ℕ, zero, suc, ◌+◌, ◌-◌, ◌<◌, ◌≤◌, Bool, true, false, List, [], ◌∷◌, ◌++◌, length, take, Option, None, Result, Ok, Err, OnOk, refl, sym, ap, subst, ◌∙◌, arith, length-append}
use Rattle.std.proofs.lemmas.Bool.{ltb-true}
use Rattle.std.specs.Prelude.{ltb}
use Rattle.wire_frames.specs.Frame.{framed_all, IsShort, EndsAt}
use Rattle.wire_frames.specs.Reader.{Reader, Takes, Hands}
use Rattle.solve_serve.specs.Requests.{HasGrown, IsTaken}
use Rattle.solve_serve.specs.declared.stop.Stop.{Stop}
use Rattle.solve_serve.proofs.RequestLaws.{hands_nothing}

-- one read if nothing more is to be read, and otherwise this many
abbrev pub reads_with : List (List ℕ) → Bool → ℕ → ℕ
reads_with [] false many = many
reads_with [] true many = 1
reads_with (request ∷ ready) stuck many = 1

-- the most reads that a reader may need
abbrev pub reads_left : Reader → ℕ
reads_left r = reads_with r.ready r.stuck (5 + r.limit - length r.rest)

-- if a piece makes no frame whole, all of it follows the whole frames
longer : (before after : Reader) (piece : List ℕ) → before.ready ≡ [] → 0 < length piece → (takes : Takes before piece after) → after.ready ≡ [] → length before.rest < length after.rest
longer before after piece none some takes empty =
    let no : takes.payloads ≡ [] = sym (ap (λ (ready : List (List ℕ)). ready ++ takes.payloads) none) ∙ sym takes.held ∙ empty in
    let all : before.rest ++ piece ≡ after.rest = takes.whole ∙ ap (λ (ps : List (List ℕ)). framed_all ps ++ after.rest) no in
    let sum = sym (length-append before.rest piece) ∙ ap length all in
    omega (arith, some, sum)

-- a piece with at least one byte was taken
grown_by : (before after : Reader) (piece : List ℕ) → before.ready ≡ [] → before.stuck ≡ false → 0 < length piece → Takes before piece after → HasGrown before after
grown_by before after piece none free some takes = record { free = free; limit = takes.limit; more = λ empty still. longer before after piece none some takes empty }

-- the front of a buffer that was read into is not empty if bytes were read
pub some_taken : (count : ℕ) (filled : List ℕ) → count ≤ length filled → ¬ (count ≡ 0) → 0 < length (take count filled)
some_taken zero filled within some = absurd (some refl)
some_taken (suc n) [] within some = omega (arith, within)
some_taken (suc n) (b ∷ bs) within some = omega arith

-- a piece with at least one byte was taken, or memory ran out
pub grown_on : (result : Result (Option ℕ) Stop) (piece : List ℕ) (before after : Reader) → before.ready ≡ [] → before.stuck ≡ false → 0 < length piece → IsTaken before piece result after → OnOk result (HasGrown before after)
grown_on (Ok place) piece before after none free some taken = grown_by before after piece none free some taken.0
grown_on (Err stop) piece before after none free some taken = tt

-- less than a frame follows the whole frames
short_rest : (limit : ℕ) (rest : List ℕ) → IsShort limit rest → length rest < 4 + limit
short_rest limit rest short = by (ltb (length rest) 4) refl
  where
    by : (b : Bool) → ltb (length rest) 4 ≡ b → length rest < 4 + limit
    by true e = let few : length rest < 4 = ltb-true (length rest) 4 e in omega (arith, few)
    by false e =
        let within = rw e at short in
        omega (arith, within.0, within.1)

-- a reader that is to read on needs more than one read
many_left : (r : Reader) (ready : List (List ℕ)) (stuck : Bool) → ready ≡ [] → stuck ≡ false → EndsAt r.limit r.rest stuck → (reads_with ready stuck (5 + r.limit - length r.rest) ≡ 5 + r.limit - length r.rest) × (length r.rest < 4 + r.limit)
many_left r [] true none free ends = absurd cc
many_left r [] false none free ends = (refl, short_rest r.limit r.rest ends)
many_left r (request ∷ ready) stuck none free ends = absurd cc

one_or : (ready : List (List ℕ)) (stuck : Bool) (many least : ℕ) → 1 < least → (ready ≡ [] → stuck ≡ false → many < least) → reads_with ready stuck many < least
one_or [] true many least some less = some
one_or [] false many least some less = less refl refl
one_or (request ∷ ready) stuck many least some less = some

-- after a read fewer are left
fewer : (r after : Reader) → r.ready ≡ [] → EndsAt r.limit r.rest r.stuck → (grown : HasGrown r after) → reads_left after < reads_left r
fewer r after none ends grown =
    let left = many_left r r.ready r.stuck none grown.free ends in
    let all = left.0 in
    let short = left.1 in
    let same = grown.limit in
    one_or after.ready after.stuck (5 + after.limit - length after.rest) (reads_left r) (omega (arith, all, short))
    (λ empty still. let more = grown.more empty still in omega (arith, all, short, same, more))

-- the same for a reader that was asked for a request first
pub fewer_left : (head empty after : Reader) → Hands head None empty → EndsAt empty.limit empty.rest empty.stuck → HasGrown empty after → reads_left after < reads_left head
fewer_left head empty after hands ends grown =
    let nothing = hands_nothing head empty hands in
    subst (λ (r : Reader). reads_left after < reads_left r) nothing.1 (fewer empty after (ap (λ (r : Reader). r.ready) nothing.1 ∙ nothing.0) ends grown)
