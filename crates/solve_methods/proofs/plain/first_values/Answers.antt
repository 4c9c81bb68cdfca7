use Rattle.std.proofs.Common.{◌≡◌, ◌↔◌, ℕ, Err, Result}
use Rattle.dcop_base.specs.Problem.{Dcop}
use Rattle.dcop_optimum.specs.Optimum.{assignment_count}
use Rattle.dcop_optimum.specs.declared.plain.Best.{Best}
use Rattle.dcop_optimum.specs.declared.plain.PlainFault.{PlainFault}
use Rattle.dcop_optimum.specs.declared.plain.PlainFault.TheVariants.{TooMany, NoMemory}
use Rattle.solve_methods.specs.Plain.{GivesFirst, IsTooMany}
use Rattle.solve_methods.proofs.plain.first_values.Goals as goal

-- a fault tells too many assignments, or that memory ran out
GivesFirst-fault : (p : Dcop) (fault : PlainFault) (result : Result Best PlainFault) → result ≡ Err fault
    → ((n : ℕ) → (result ≡ Err (TooMany n)) ↔ IsTooMany (assignment_count p) n) → GivesFirst p (Err fault)
GivesFirst-fault p (TooMany n) result is many = (many n).0 is
GivesFirst-fault p NoMemory result is many = tt

pub returns-in-Err : goal.returns-in-Err
returns-in-Err c = GivesFirst-fault c.args.problem.now c.in-Err.fault c.least_plain.result c.in-Err.is c.least_plain.ensures.many
