-- The search from a variable, by tokens: the contract of the plain recursion.
use Rattle.std.proofs.Common.{◌≡◌, ℕ, zero, suc, ◌+◌, ◌≤◌, List, [], ◌∷◌, ◌++◌, length, Option, Some, None, refl, arith}
use Rattle.std.proofs.lemmas.List.{length-append}
use Rattle.std.specs.List.{concat}
use Rattle.dcop_base.specs.Problem.{Dcop}
use Rattle.pseudotree.specs.DepthFirst.{Visit, next_of, and_next, visit}
use Rattle.protocol_steps.specs.Token.{TokenView}
use Rattle.run_laws.proofs.Serial.{put}
use Rattle.run_laws.proofs.Visits.{vars, open_view, Call, Visited}
use Rattle.run_laws.proofs.CallLaws.{none_next, finished, child_call, rest_call, joined}

pub searched : (p : Dcop) → length p.sizes ≤ 1000 → (steps : ℕ) (S : List Visit) (base path : List ℕ) (v : ℕ) (kept : List (List ℕ)) (V : ℕ → TokenView)
    → Call p S base path v kept V → length p.sizes ≤ length S + steps → Visited p S (visit p steps v path S) base path v kept V
searched p few zero S base path v kept V c fuel = finished p S base path v kept V c (none_next p S base path v kept V c (omega (arith, fuel)))
searched p few (suc k) S base path v kept V c fuel =
    elim (next_of p S v) as (λ (o : Option ℕ). next_of p S v ≡ o → Visited p S (and_next o S (λ w.
    visit p k v path (visit p k w (path ++ (v ∷ [])) (S ++ (record { var = w; path = path ++ (v ∷ []) } ∷ []))))) base path v kept V) [
      | None ↦ λ e. finished p S base path v kept V c e
      | Some w ↦ λ e.
          let x : Visit = record { var = w; path = path ++ (v ∷ []) } in
          let R : List Visit = visit p k w (path ++ (v ∷ [])) (S ++ (x ∷ [])) in
          let inner = searched p few k (S ++ (x ∷ [])) (vars S) (path ++ (v ∷ [])) w [] (put V v (open_view p v path kept (Some w)))
          (child_call p S base path v kept V c few w e) (omega (arith, fuel, length-append S (x ∷ []))) in
          let outer = searched p few k R base path v (kept ++ ((w ∷ concat inner.new_kept) ∷ [])) inner.views
          (rest_call p S base path v kept V c few w e R inner) (omega (arith, fuel, inner.size, length-append S (x ∷ []))) in
          joined p S base path v kept V c few w e R inner (visit p k v path R) outer
    ] refl
