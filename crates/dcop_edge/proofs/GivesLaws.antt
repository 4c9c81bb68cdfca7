-- Copying the front of a list into a buffer is a read of it.
use Rattle.std.proofs.Common.{◌≡◌, ◌≤◌, ℕ, ◌+◌, min, List, ◌++◌, length, take, drop, Option, Some, None, IfSome, MatchOption, unwrap_or, sym, ap, ◌∙◌, arith}
use Rattle.std.proofs.Math.Seq.{drop-append_seam, take-append_seam, take-add}
use Rattle.std.proofs.lemmas.List.{take-append-drop, take_all, drop_all, length-append, length-take-le}
use Rattle.dcop_edge.specs.Source.{Gives, GivesBehind}

pub Gives-front : (left after buffer filled : List ℕ) (count : ℕ) → count ≡ min (length left) (length buffer)
    → take count filled ≡ take count left → drop count filled ≡ drop count buffer → after ≡ drop count left
    → Gives (Some left) (Some after) buffer filled count
Gives-front left after buffer filled count is front behind rest = record {
  within = omega (arith, is);
  front = ap Some (sym (take-append-drop count left) ∙ ap (λ (l : List ℕ). l ++ drop count left) (sym front) ∙ ap (λ (l : List ℕ). take count filled ++ l) (sym rest));
  behind = behind;
  end = λ none some. rest ∙ drop_all count left (omega (arith, is));
}

-- what stands behind the bytes that were held
pub behind-of : (held fresh grown : List ℕ) → grown ≡ held ++ fresh → drop (length held) grown ≡ fresh
behind-of held fresh grown is = ap (drop (length held)) is ∙ drop-append_seam held fresh

pub Gives-behind : (left after held grown : List ℕ) (most count : ℕ) → count ≡ min (length left) most
    → grown ≡ held ++ take count left → after ≡ drop count left
    → GivesBehind (Some left) (Some after) held grown most count
Gives-behind left after held grown most count is onto rest =
    let fresh = behind-of held (take count left) grown onto in
    let short = length-take-le count left (omega (arith, is)) in
    record {
      within = omega (arith, is);
      size = ap length onto ∙ length-append held (take count left) ∙ ap (λ (n : ℕ). length held + n) short;
      behind = onto ∙ ap (λ (l : List ℕ). held ++ l) (sym fresh);
      front = ap Some (sym (take-append-drop count left) ∙ ap (λ (l : List ℕ). l ++ drop count left) (sym fresh) ∙ ap (λ (l : List ℕ). drop (length held) grown ++ l) (sym rest));
      end = λ none some. rest ∙ drop_all count left (omega (arith, is));
    }

-- so many of the bytes behind those that were held are kept, or none where no read was
pub kept-behind : (found : Option ℕ) (kept most at long : ℕ) (held room grown : List ℕ) → kept ≡ unwrap_or found 0
    → at ≡ length held → IfSome found (λ count. at + count ≤ long) → length room ≡ long → long ≡ at + most
    → take at room ≡ held → grown ≡ take (at + kept) room
    → MatchOption found (grown ≡ held) (λ count. (count ≤ most) × (length grown ≡ length held + count)
    × (grown ≡ held ++ drop (length held) grown))
kept-behind None kept most at long held room grown is at_end within size wide front cut =
    cut ∙ ap (λ (n : ℕ). take n room) (omega (arith, is)) ∙ front
kept-behind (Some count) kept most at long held room grown is at_end within size wide front cut =
    let all : grown ≡ take (at + count) room = cut ∙ ap (λ (n : ℕ). take (at + n) room) is in
    let fresh = take count (drop at room) in
    let parts : grown ≡ held ++ fresh = all ∙ take-add at count room ∙ ap (λ (l : List ℕ). l ++ fresh) front in
    let short : length grown ≡ at + count = ap length all ∙ length-take-le (at + count) room (omega (arith, within, size)) in (
      omega (arith, within, wide),
      omega (arith, short, at_end),
      parts ∙ ap (λ (l : List ℕ). held ++ l) (sym (behind-of held fresh grown parts)),
    )

-- bytes that were made longer begin with those that were held
pub held-in-front : (count most : ℕ) (held zeros : List ℕ) → count ≡ length held
    → take count (take (count + most) held ++ zeros) ≡ held
held-in-front count most held zeros is =
    ap (λ (l : List ℕ). take count (l ++ zeros)) (take_all (count + most) held (omega (arith, is)))
    ∙ ap (λ (n : ℕ). take n (held ++ zeros)) is ∙ take-append_seam held zeros

-- a list into whose whole length these bytes were written
pub written-back : (long : ℕ) (room behind : List ℕ) → length room ≡ long → take long (room ++ behind) ≡ room
written-back long room behind is = ap (λ (n : ℕ). take n (room ++ behind)) (sym is) ∙ take-append_seam room behind
