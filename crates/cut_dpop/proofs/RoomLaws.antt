-- When a cut is refused.
use Rattle.std.proofs.Common.{◌≡◌, ℕ, ◌*◌, ◌<◌, ◌≤◌, Bool, cond, ltb, List, Some, None, sym, ap, ◌∙◌, arith}
use Rattle.std.proofs.Math.Nat.{mul_comm}
use Rattle.std.proofs.lemmas.Bool.{lt-ltb, le-ltb}
use Rattle.dcop_base.specs.Problem.{Dcop}
use Rattle.dcop_base.specs.Limits.{sent_limit, turn_limit}
use Rattle.pseudotree.specs.Width.{told, sent_total}
use Rattle.pseudotree.proofs.WidthLaws.{told_times}
use Rattle.run_laws.specs.Turns.{turn_count}
use Rattle.run_laws.specs.CutSet.{counted}
use Rattle.cut_dpop.specs.declared.fault.CutFault.TheVariants.{TooMany, Total}
use Rattle.cut_dpop.specs.Refusal.{cells_sent, refusal, AreAllowed}

-- a told count of many times a told count
pub told-product : (x y : ℕ) → told (x * told y) ≡ told (x * y)
told-product x y =
    let one : y * 1 ≡ y = omega arith in
    let times : 1 * x ≡ x = omega arith in
    ap told (mul_comm x (told y)) ∙ ap (λ (n : ℕ). told (told n * x)) (sym one) ∙ told_times y 1 x ∙ ap (λ (n : ℕ). told (y * n)) times ∙ ap told (mul_comm y x)

module _ (p : Dcop) (paths : List (List ℕ)) (cut : List ℕ) (keep : Bool) (turns : ℕ) (told_turns : turns ≡ told (turn_count p cut)) where
  pub refuse-many : turn_limit < turns → refusal p paths cut keep ≡ Some (TooMany turns)
  refuse-many more =
      ap (λ (b : Bool). cond b (Some (TooMany (told (turn_count p cut)))) (cond (ltb sent_limit (cells_sent p paths cut keep)) (Some (Total (told (cells_sent p paths cut keep)))) None))
      (lt-ltb turn_limit (turn_count p cut) (omega arith))
      ∙ ap (λ (n : ℕ). Some (TooMany n)) (sym told_turns)

  pub exact-turns : turns ≤ turn_limit → turns ≡ turn_count p cut
  exact-turns few = omega arith

  few-turns : turns ≤ turn_limit → refusal p paths cut keep ≡ cond (ltb sent_limit (cells_sent p paths cut keep)) (Some (Total (told (cells_sent p paths cut keep)))) None
  few-turns few =
      ap (λ (b : Bool). cond b (Some (TooMany (told (turn_count p cut)))) (cond (ltb sent_limit (cells_sent p paths cut keep)) (Some (Total (told (cells_sent p paths cut keep)))) None))
      (le-ltb turn_limit (turn_count p cut) (omega arith))

  -- the cells that are sent, where so many are sent in one turn
  pub cells-told : (one cells : ℕ) → turns ≤ turn_limit → one ≡ told (sent_total (counted p cut) paths) → cells ≡ told (cond keep turns 1 * one) → cells ≡ told (cells_sent p paths cut keep)
  cells-told one cells few e is =
      is ∙ ap (λ (n : ℕ). told (cond keep turns 1 * n)) e ∙ told-product (cond keep turns 1) (sent_total (counted p cut) paths)
      ∙ ap (λ (n : ℕ). told (cond keep n 1 * sent_total (counted p cut) paths)) (exact-turns few)

  pub refuse-total : (cells : ℕ) → turns ≤ turn_limit → cells ≡ told (cells_sent p paths cut keep) → sent_limit < cells → refusal p paths cut keep ≡ Some (Total cells)
  refuse-total cells few e more =
      few-turns few
      ∙ ap (λ (b : Bool). cond b (Some (Total (told (cells_sent p paths cut keep)))) None) (lt-ltb sent_limit (cells_sent p paths cut keep) (omega arith))
      ∙ ap (λ (n : ℕ). Some (Total n)) (sym e)

  pub allow : (cells : ℕ) → turns ≤ turn_limit → cells ≡ told (cells_sent p paths cut keep) → cells ≤ sent_limit → AreAllowed p paths cut keep turns
  allow cells few e less = (
    few-turns few ∙ ap (λ (b : Bool). cond b (Some (Total (told (cells_sent p paths cut keep)))) None) (le-ltb sent_limit (cells_sent p paths cut keep) (omega arith)),
    exact-turns few,
  )
