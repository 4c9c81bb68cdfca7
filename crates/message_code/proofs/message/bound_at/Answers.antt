use Rattle.std.proofs.Common.{arith}
use Rattle.std.specs.Int.{w8}
use Rattle.std.proofs.lemmas.Result.{err_from_is_err_and}
use Rattle.message_code.specs.Form.{number, amount, flagged}
use Rattle.message_code.proofs.NumberLaws.{wide8}
use Rattle.message_code.proofs.PartLaws.{stopped_first, field_stops}
use Rattle.message_code.proofs.message.bound_at.Goals as goal
use Rattle.std.proofs.Common.{◌≡◌, ℕ, List, sym, subst}
use Rattle.message_code.specs.declared.stop.Stop.{Stop}
use Rattle.message_code.specs.Reading.{Stopped}

-- behind a flag of 1 stands an amount
one_flag : (flag : ℕ) (rest : List ℕ) (stop : Stop) → flag ≡ 1 → Stopped amount rest stop → Stopped (flagged flag) rest stop
one_flag flag rest stop e h = subst (λ (f : ℕ). Stopped (flagged f) rest stop) (sym e) h

pub returns-in_err-flag-clause-read : goal.returns-in_err-flag-clause-read
returns-in_err-flag-clause-read c =
    let p = err_from_is_err_and c.from_residual.result c.from_residual.ensures.1 in
    rw (p.1, p.2) (stopped_first (number w8 0 2) (λ next f. flagged f next) c.args.bytes.now c.in_err-flag.field-0.0 c.in_err-flag.ensures.read)

pub returns-in_err-amount-clause-read : goal.returns-in_err-amount-clause-read
returns-in_err-amount-clause-read c =
    let p = err_from_is_err_and c.from_residual-in_err-amount.result c.from_residual-in_err-amount.ensures.1 in
    rw (p.1, p.2) (let range = c.in_ok-flag.ensures.range in field_stops w8 _ wide8 0 2 c.in_ok-flag.flag flagged c.args.bytes.now c.in_ok-flag.rest.now c.in_err-amount.field-0.0 c.in_ok-flag.ensures.read (omega (arith, range.1)) range.0 range.1 (one_flag c.in_ok-flag.flag c.in_ok-flag.rest.now c.in_err-amount.field-0.0 (let zero = c.if-flag-eq0.false in omega (arith, range.1)) c.in_err-amount.ensures.read))
