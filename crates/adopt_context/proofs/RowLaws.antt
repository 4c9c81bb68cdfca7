-- Rows of entries: after a reset and a write.
use Rattle.std.proofs.Common.{◌≡◌, ℕ, zero, suc, List, [], ◌∷◌, map, get_or, set, refl, sym, ap, ◌∙◌}
use Rattle.adopt_context.specs.Context.{Context}
use Rattle.adopt_context.specs.Bounds.{Entry, blank, row_at, entry_at}
use Rattle.adopt_context.specs.Allot.{kept, reset}

kept_row : (x : Context) (row : List Entry) (k : ℕ) → get_or (map (kept x) row) k blank ≡ kept x (get_or row k blank)
kept_row x [] k = refl
kept_row x (e ∷ es) zero = refl
kept_row x (e ∷ es) (suc k) = kept_row x es k

-- the rows after a reset
pub reset_row : (x : Context) (rows : List (List Entry)) (d : ℕ) → row_at (reset x rows) d ≡ map (kept x) (row_at rows d)
reset_row x [] d = refl
reset_row x (row ∷ rows) zero = refl
reset_row x (row ∷ rows) (suc d) = reset_row x rows d

pub reset_at : (x : Context) (rows : List (List Entry)) (d k : ℕ) → entry_at (reset x rows) d k ≡ kept x (entry_at rows d k)
reset_at x rows d k = ap (λ (row : List Entry). get_or row k blank) (reset_row x rows d) ∙ kept_row x (row_at rows d) k

-- a property of each element stays where one that has it is written
pub set_each : {X : Type 0} (none : X) (P : ℕ → X → Type 0) (xs : List X) (k : ℕ) (x : X) → P k x → ((j : ℕ) → P j (get_or xs j none)) → (j : ℕ) → P j (get_or (set xs k x) j none)
set_each none P [] k x new old j = old j
set_each none P (y ∷ ys) zero x new old zero = new
set_each none P (y ∷ ys) zero x new old (suc j) = old (suc j)
set_each none P (y ∷ ys) (suc k) x new old zero = old zero
set_each none P (y ∷ ys) (suc k) x new old (suc j) = set_each none (λ i z. P (suc i) z) ys k x new (λ i. old (suc i)) j

pub entry_each : (Q : ℕ → ℕ → Entry → Type 0) (rows : List (List Entry)) (d k : ℕ) (e : Entry) → Q d k e → ((i j : ℕ) → Q i j (entry_at rows i j)) → (i j : ℕ) → Q i j (entry_at (set rows d (set (row_at rows d) k e)) i j)
entry_each Q rows d k e new old =
    set_each [] (λ i row. (j : ℕ) → Q i j (get_or row j blank)) rows d (set (row_at rows d) k e)
    (set_each blank (λ j x. Q d j x) (row_at rows d) k e new (λ j. old d j)) old

-- a row that was written, made of the one that stood there
pub set_same : (f : List Entry → List Entry) → f [] ≡ [] → (rows : List (List Entry)) (d : ℕ) → row_at (set rows d (f (row_at rows d))) d ≡ f (row_at rows d)
set_same f none [] d = sym none
set_same f none (row ∷ rows) zero = refl
set_same f none (row ∷ rows) (suc d) = set_same f none rows d
