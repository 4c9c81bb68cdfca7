use Rattle.std.proofs.Common.{◌≡◌, ◌≤◌, ◌+◌, ◌-◌, ◌*◌, length, take, drop, length-take, length-drop, ◌∙◌, arith}
use Rattle.std.proofs.Math.Nat.{mul-le-mul_right}
use Rattle.std.proofs.lemmas.List.{get_or-take, get_or-drop}
use Rattle.shared_costs.proofs.PartLaws.{pot-more}
use Rattle.shared_costs.proofs.sharing.add_rows.Goals as goal

pub loop-j-preserved : goal.loop-j-preserved
loop-j-preserved c =
    let rows = c.args.rows.now in
    let size = length c.args.pot.now in
    let j = c.loop-j.j in
    let start = j * size in
    let many : start + size - start ≡ size = omega arith in
    let row = take (start + size - start) (drop start rows) in
    let more : j + 1 ≤ c.args.count = omega (arith, c.loop-j-test.true) in
    let room : (j + 1) * size ≤ c.args.count * size = mul-le-mul_right size more in
    let next : (j + 1) * size ≡ j * size + size = grind arith in
    let long : length row ≡ size = omega (arith, length-take (start + size - start) (drop start rows), length-drop start rows, room, next, many, c.requires.full) in
    pot-more rows size j c.loop-j.pot row c.add_lanes.new.into c.loop-j.invariant long
    (λ a lt. get_or-take (start + size - start) (drop start rows) a 0 (omega (arith, lt, many)) ∙ get_or-drop start rows a 0) c.add_lanes.ensures
