-- What a COST does where it is taken.
use Rattle.std.proofs.Common.{◌≡◌, ℕ, ◌<◌, true, false, ◌&&◌, ◌==◌, nat_lt, length, Option, Some, None, sym, ap, ◌∙◌}
use Rattle.std.specs.List.{position}
use Rattle.std.proofs.lemmas.Bool.{cond-true, cond-false}
use Rattle.std.proofs.lemmas.List.Quantifiers.{position-Some}
use Rattle.adopt_context.specs.Context.{Context, value_in}
use Rattle.protocol_steps.specs.declared.message.Message.TheVariants.{Cost}
use Rattle.protocol_steps.specs.Adopt.{AdoptView}
use Rattle.protocol_steps.specs.AdoptRange.{fits}
use Rattle.protocol_steps.specs.AdoptCost.{learn, stored, take_cost, without}
use Rattle.protocol_steps.specs.AdoptMessage.{adopt_message}

-- the place of a sender among the children
abbrev pub place_at : AdoptView → ℕ → Option ℕ
place_at v j = position (λ child. child == j) v.place.children

fit_stores : (v : AdoptView) (o : Option ℕ) (k d : ℕ) (r : Context) (l : ℕ) (u : Option ℕ) → o ≡ Some k → (nat_lt d v.own.size && fits v r) ≡ true → stored (learn v r) d k r l u ≡ take_cost v o (Some d) r l u
fit_stores v o k d r l u at h =
    sym (ap (λ (p : Option ℕ). take_cost v p (Some d) r l u) at ∙ cond-true (nat_lt d v.own.size && fits v r) (stored (learn v r) d k r l u) v h)

-- a COST that is taken
pub cost_taken : (v w after : AdoptView) (j k d : ℕ) (c r : Context) (l : ℕ) (u : Option ℕ) → place_at v j ≡ Some k → value_in c v.own.me ≡ Some d → r ≡ without v.own.me c → (nat_lt d v.own.size && fits v r) ≡ true → w ≡ learn v r
    → after ≡ stored w d k r l u → after ≡ adopt_message v j (Cost c l u)
cost_taken v w after j k d c r l u at h is fit learns stores =
    stores
    ∙ ap (λ (x : AdoptView). stored x d k r l u) learns
    ∙ fit_stores v (place_at v j) k d r l u at fit
    ∙ ap (λ (x : Context). take_cost v (place_at v j) (Some d) x l u) is
    ∙ ap (λ (o : Option ℕ). take_cost v (place_at v j) o (without v.own.me c) l u) (sym h)

-- a COST of a sender that is no child is ignored
pub cost_of_none : (v : AdoptView) (o d : Option ℕ) (r : Context) (l : ℕ) (u : Option ℕ) → o ≡ None → v ≡ take_cost v o d r l u
cost_of_none v o d r l u e = sym (ap (λ (p : Option ℕ). take_cost v p d r l u) e)

unfit_stays : (v : AdoptView) (o : Option ℕ) (k d : ℕ) (r : Context) (l : ℕ) (u : Option ℕ) → o ≡ Some k → (nat_lt d v.own.size && fits v r) ≡ false → v ≡ take_cost v o (Some d) r l u
unfit_stays v o k d r l u at h =
    sym (ap (λ (p : Option ℕ). take_cost v p (Some d) r l u) at ∙ cond-false (nat_lt d v.own.size && fits v r) (stored (learn v r) d k r l u) v h)

-- a COST whose value or context does not fit is ignored
pub cost_unfit : (v : AdoptView) (j k d : ℕ) (c r : Context) (l : ℕ) (u : Option ℕ) → place_at v j ≡ Some k → value_in c v.own.me ≡ Some d → r ≡ without v.own.me c → (nat_lt d v.own.size && fits v r) ≡ false → v ≡ adopt_message v j (Cost c l u)
cost_unfit v j k d c r l u at h is unfit =
    unfit_stays v (place_at v j) k d r l u at unfit
    ∙ ap (λ (x : Context). take_cost v (place_at v j) (Some d) x l u) is
    ∙ ap (λ (o : Option ℕ). take_cost v (place_at v j) o (without v.own.me c) l u) (sym h)

-- the place of a sender is one of the children's
pub place_inside : (v : AdoptView) (j k : ℕ) → place_at v j ≡ Some k → k < length v.place.children
place_inside v j k at = let first = position-Some (λ child. child == j) v.place.children k 0 at in first.0
