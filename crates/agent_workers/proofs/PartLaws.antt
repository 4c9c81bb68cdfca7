-- Parts of a list.
use Rattle.std.proofs.Common.{◌≡◌, ℕ, suc, ◌+◌, ◌*◌, ◌<◌, ◌≤◌, Result, Ok, Err, List, [], ◌++◌, length, refl, sym, ap, subst, ◌∙◌, arith, length-append}
use Rattle.std.specs.Prelude.{IfOk}
use Rattle.std.proofs.lemmas.List.{append-nil, append_assoc}
use denote.Ref.{MutBor}
use denote.Param.Members.{Shared}
use Rattle.dcop_base.specs.Limits.{count_limit}
use Rattle.agent_cells.specs.declared.fault.VisitFault.{VisitFault}
use Rattle.agent_cells.specs.declared.fault.VisitFault.TheVariants.{NoMemory, StampEnd}
use Rattle.agent_workers.specs.Turns.{sprint_limit}
use Rattle.agent_workers.specs.Parts.{both_of, AcceptsParts, IsCall, IsPlayedByParts}

-- the sum of what two parts took fits
pub fit_together : (q r : Result ℕ VisitFault) (k l : ℕ) → (k + l) * sprint_limit ≤ count_limit → IfOk q (λ n. n ≤ k * sprint_limit) → IfOk r (λ n. n ≤ l * sprint_limit) → IfOk q (λ m. IfOk r (λ n. m + n ≤ count_limit))
fit_together (Ok m) (Ok n) k l within p s = omega (arith, within, p, s)
fit_together (Ok m) (Err f) k l within p s = tt
fit_together (Err f) r k l within p s = tt

pub few_together : (q r : Result ℕ VisitFault) (k l : ℕ) → IfOk q (λ n. n ≤ k * sprint_limit) → IfOk r (λ n. n ≤ l * sprint_limit) → IfOk (both_of q r) (λ n. n ≤ (k + l) * sprint_limit)
few_together (Ok m) (Ok n) k l p s = omega (arith, p, s)
few_together (Ok m) (Err f) k l p s = tt
few_together (Err e) (Ok n) k l p s = tt
few_together (Err NoMemory) (Err f) k l p s = tt
few_together (Err StampEnd) (Err f) k l p s = tt

module _ {F T : Type 0} (g : Shared F (MutBor (List T) × Unit {0}) (Result ℕ VisitFault × (MutBor (List T) × Unit {0}))) (f : F) where
  pub accepts_all : (all : List T) → AcceptsParts g f all → (p : MutBor (List T)) → p.now ≡ all → g.pre f (p, tt)
  accepts_all all a p is = a.each [] all [] p (sym (append-nil all)) is

  pub accepts_low : (low high : List T) → AcceptsParts g f (low ++ high) → AcceptsParts g f low
  accepts_low low high a = record {
    each = λ before part after p whole is. a.each before part (after ++ high) p (ap (λ xs. xs ++ high) whole ∙ append_assoc before (part ++ after) high ∙ ap (λ xs. before ++ xs) (append_assoc part after high)) is;
  }

  pub accepts_high : (low high : List T) → AcceptsParts g f (low ++ high) → AcceptsParts g f high
  accepts_high low high a = record {
    each = λ before part after p whole is. a.each (low ++ before) part after p (ap (λ xs. low ++ xs) whole ∙ sym (append_assoc low before (part ++ after))) is;
  }

  pub one_part : (size : ℕ) (before after : List T) (r : Result ℕ VisitFault) → length before ≤ size → IsCall g f before r after → IsPlayedByParts g f size before r after
  one_part size before after r le c = record { count = 0; parts = (le, c) }

  pub more_parts : (size : ℕ) (low high low_after high_after : List T) (q r : Result ℕ VisitFault) → length low ≡ size → 0 < length high → IsCall g f low q low_after → IsPlayedByParts g f size high r high_after
      → IsPlayedByParts g f size (low ++ high) (both_of q r) (low_after ++ high_after)
  more_parts size low high low_after high_after q r long some c p = record { count = suc p.count; parts = (low, high, low_after, high_after, q, r, refl, refl, refl, c, long, some, p.parts) }

  -- a list that was cut in two
  module _ (all low high : List T) (whole : all ≡ low ++ high) where
    pub low_accepts : AcceptsParts g f all → (p : MutBor (List T)) → p.now ≡ low → g.pre f (p, tt)
    low_accepts a p is = accepts_all low (accepts_low low high (subst (λ (xs : List T). AcceptsParts g f xs) whole a)) p is

    pub high_accepts : AcceptsParts g f all → AcceptsParts g f high
    high_accepts a = accepts_high low high (subst (λ (xs : List T). AcceptsParts g f xs) whole a)

    cut_length : length all ≡ length low + length high
    cut_length = ap length whole ∙ length-append low high

    pub cut_fits : (q r : Result ℕ VisitFault) → length all * sprint_limit ≤ count_limit → IfOk q (λ n. n ≤ length low * sprint_limit) → IfOk r (λ n. n ≤ length high * sprint_limit) → IfOk q (λ m. IfOk r (λ n. m + n ≤ count_limit))
    cut_fits q r within = fit_together q r (length low) (length high) (subst (λ (n : ℕ). n * sprint_limit ≤ count_limit) cut_length within)

    pub cut_few : (q r s : Result ℕ VisitFault) → s ≡ both_of q r → IfOk q (λ n. n ≤ length low * sprint_limit) → IfOk r (λ n. n ≤ length high * sprint_limit) → IfOk s (λ n. n ≤ length all * sprint_limit)
    cut_few q r s is p o =
        subst (λ (k : ℕ). IfOk s (λ n. n ≤ k * sprint_limit)) (sym cut_length) (subst (λ (t : Result ℕ VisitFault). IfOk t (λ n. n ≤ (length low + length high) * sprint_limit)) (sym is) (few_together q r (length low) (length high) p o))

    pub cut_parts : (size : ℕ) (low_after high_after : List T) (q r s : Result ℕ VisitFault) → s ≡ both_of q r → length low ≡ size → 0 < length high → IsCall g f low q low_after → IsPlayedByParts g f size high r high_after
        → IsPlayedByParts g f size all s (low_after ++ high_after)
    cut_parts size low_after high_after q r s is long some c p =
        subst (λ (xs : List T). IsPlayedByParts g f size xs s (low_after ++ high_after)) (sym whole)
        (subst (λ (t : Result ℕ VisitFault). IsPlayedByParts g f size (low ++ high) t (low_after ++ high_after)) (sym is) (more_parts size low high low_after high_after q r long some c p))
