use Rattle.std.proofs.Common.{◌≡◌, ◌*◌, ◌-◌, ◌/◌, ◌%◌, ◌<◌, ◌≤◌, arith}
use Rattle.std.proofs.lemmas.Nat.{div-add-mod', mod_below}
use Rattle.util_join.proofs.AlikeLaws.{copies-added}
use Rattle.util_join.proofs.alike.add_short.Goals as goal

pub returns : goal.returns
returns c =
    let width = c.args.width in
    let room = c.min-room.result in
    let span = room - room % width in
    let least : width ≤ room = omega (arith, c.min-room.ensures, c.requires.several, c.requires.short) in
    let part : room % width < width = mod_below room width (omega (arith, c.requires.some)) in
    let whole : span ≡ room / width * width = omega (arith, div-add-mod' room width) in
    copies-added c.args.from.now c.copy_row.new.copies width c.args.step span (room / width) room c.args.cells.now c.add_each.new.cells
    whole c.requires.some (omega (arith, least, part)) (omega arith)
    (λ p h. c.copy_row.ensures.copied p (omega (arith, h, c.split_at_mut-copies.ensures.front_len)))
    c.add_each.ensures
