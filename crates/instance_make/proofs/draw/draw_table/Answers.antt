use Rattle.std.proofs.Common.{◌≡◌, ℕ, ◌*◌, ◌<◌, ap₂, ◌∙◌, arith}
use Rattle.std.proofs.Math.Nat.{mod-lt}
use Rattle.instance_make.specs.Stream.{word_at}
use Rattle.instance_make.proofs.StreamLaws.{words-on}
use Rattle.instance_make.proofs.WholeLaws.{drawn-parts}
use Rattle.instance_make.proofs.draw.draw_table.Goals as goal

pub invariant_of-result : goal.invariant_of-result
invariant_of-result c =
    let before : c.draw_below-partner.result < c.args.var = rw c.draw_below-partner.ensures.partner (mod-lt (word_at c.args.words.now 0) (omega (arith, c.requires.later))) in
    drawn-parts c.args.size c.args.top c.draw_below-partner.new.words (c.from.result * c.from-2.result) c.draw_below-partner.result c.args.var
    c.from_vec.result c.from_vec-2.result c.in_ok-cells.cells
    (c.from_vec.ensures ∙ c.in_ok-vec.ensures.items) (c.from_vec-2.ensures ∙ c.in_ok-vec-2.ensures.items) c.in_ok-cells.ensures.cells
    (ap₂ (λ (a : ℕ) (b : ℕ). a * b) c.from.ensures c.from-2.ensures) before c.requires.valued c.requires.cheap

pub returns-clause-words : goal.returns-clause-words
returns-clause-words c =
    words-on c.args.words.now c.draw_below-partner.new.words c.draw_cells.new.words (c.from.result * c.from-2.result) (c.args.size * c.args.size)
    c.in_ok-cells.ensures.words c.draw_below-partner.ensures.words (ap₂ (λ (a : ℕ) (b : ℕ). a * b) c.from.ensures c.from-2.ensures)
