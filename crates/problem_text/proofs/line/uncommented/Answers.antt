use Rattle.std.proofs.Common.{nat_eq, not, ◌≤◌, arith, length}
use Rattle.std.specs.List.{position_or_len}
use Rattle.std.proofs.lemmas.List.Sums.{prefix_len-le-length}
use Rattle.problem_text.proofs.line.uncommented.Goals as goal

pub split_at-requires : goal.split_at-requires
split_at-requires c =
    let h : position_or_len (λ b. nat_eq b 35) c.args.bytes.now ≤ length c.args.bytes.now = prefix_len-le-length (λ b. not (nat_eq b 35)) c.args.bytes.now in
    omega (arith, c.place_of.ensures)
