-- Lists.
use Rattle.std.proofs.Common.{◌≡◌, Bool, ◌&&◌, List, [], ◌∷◌, map, refl, ap}
use Rattle.std.specs.List.{list_all}

pub all-map : {X Y : Type 0} (test : Y → Bool) (f : X → Y) (xs : List X) → list_all (λ x. test (f x)) xs ≡ list_all test (map f xs)
all-map test f [] = refl
all-map test f (x ∷ xs) = ap (λ (b : Bool). test (f x) && b) (all-map test f xs)

pub map-map : {X Y Z : Type 0} (g : Y → Z) (f : X → Y) (xs : List X) → map (λ x. g (f x)) xs ≡ map g (map f xs)
map-map g f [] = refl
map-map {X} {Y} {Z} g f (x ∷ xs) = ap (λ (zs : List Z). g (f x) ∷ zs) (map-map g f xs)
