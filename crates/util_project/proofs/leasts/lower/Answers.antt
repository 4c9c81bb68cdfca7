use Rattle.std.proofs.Common.{◌≡◌, ◌≤◌, ℕ, ◌+◌, ◌-◌, ◌*◌, ◌<◌, length, get_or, take, drop, ap, subst, arith}
use Rattle.std.proofs.lemmas.Nat.{row_fits}
use Rattle.util_project.specs.Projection.{IsLeast}
use Rattle.util_project.proofs.LeastLaws.{lower-more}
use Rattle.util_project.proofs.leasts.lower.Goals as goal

pub loop-number-preserved : goal.loop-number-preserved
loop-number-preserved c =
    let block = c.args.block.now in
    let inner = length c.args.run.now in
    let n = c.loop-number.number in
    let fits : n * inner + inner ≤ length block = omega (arith, c.requires.full, row_fits n inner c.args.size inner c.loop-number-test.true (omega arith)) in
    let run : n * inner + inner - n * inner ≡ inner = omega arith in
    record {
      long = omega (arith, c.least_lanes.auto.into, c.loop-number.invariant.long);
      least = lower-more block c.loop-number.run c.least_lanes.new.into _ n inner c.loop-number.invariant.long fits (ap (λ (m : ℕ). take m (drop (n * inner) block)) run) c.least_lanes.ensures c.loop-number.invariant.least;
    }

pub returns-clause-least : goal.returns-clause-least
returns-clause-least c =
    let end = c.loop-number.auto.number-end c.requires.runs in
    let all : c.loop-number.number ≡ c.args.size = omega (arith, end, c.loop-number-test.false) in
    subst (λ (n : ℕ). (i : ℕ) → i < length c.args.run.now → IsLeast (λ d. get_or c.args.block.now (d * length c.args.run.now + i) 0) n (get_or c.loop-number.run i 0)) all c.loop-number.invariant.least
