use Rattle.std.proofs.Common.{sym, ◌≡◌, ◌+◌, true, false, nat_eq, nat_lt, refl, arith}
use Rattle.std.proofs.lemmas.Bool.Decides.{nat_tests}
use Rattle.dcop_base.specs.Table.{product}
use Rattle.dcop_base.specs.Faults.{cell_count, greatest_sum}
use Rattle.problem_text.proofs.CellLaws.{fault-told}
use Rattle.problem_text.proofs.cell_words.fault_of.Goals as goal

pub returns-then-greatest-gt-MAX_COST : goal.returns-then-greatest-gt-MAX_COST
returns-then-greatest-gt-MAX_COST c t same told =
    let many : nat_eq c.args.cells.now.count (product c.args.sizes.now) ≡ true = grind (arith, nat_tests, c.product_of.ensures, c.if-count-product_of.false, c.requires) in
    let much : nat_lt 1125899906842624 c.args.cells.now.greatest ≡ true = grind (arith, nat_tests, c.if-greatest-gt-MAX_COST.true) in
    rw (fault-told c.args.draft.now.tables t c.args.sizes.now c.args.cells.now same told, many, much) refl

pub returns-then-count-draft : goal.returns-then-count-draft
returns-then-count-draft c t same told =
    let cells : cell_count c.args.draft.now.tables ≡ c.draft.inside.cells = rw (← c.draft.view_is) (sym c.draft.invariant.cells) in
    let many : nat_eq c.args.cells.now.count (product c.args.sizes.now) ≡ true = grind (arith, nat_tests, c.product_of.ensures, c.if-count-product_of.false, c.requires) in
    let much : nat_lt 1125899906842624 c.args.cells.now.greatest ≡ false = grind (arith, nat_tests, c.if-greatest-gt-MAX_COST.false) in
    let full : nat_lt 4194304 (c.draft.inside.cells + c.args.cells.now.count) ≡ true = grind (arith, nat_tests, c.if-count-draft.true, c.draft.invariant.room) in
    rw (fault-told c.args.draft.now.tables t c.args.sizes.now c.args.cells.now same told, many, much, cells, full) refl

pub returns-then-greatest-draft : goal.returns-then-greatest-draft
returns-then-greatest-draft c t same told =
    let cells : cell_count c.args.draft.now.tables ≡ c.draft.inside.cells = rw (← c.draft.view_is) (sym c.draft.invariant.cells) in
    let sum : greatest_sum c.args.draft.now.tables ≡ c.draft.inside.sum = rw (← c.draft.view_is) (sym c.draft.invariant.sum) in
    let many : nat_eq c.args.cells.now.count (product c.args.sizes.now) ≡ true = grind (arith, nat_tests, c.product_of.ensures, c.if-count-product_of.false, c.requires) in
    let much : nat_lt 1125899906842624 c.args.cells.now.greatest ≡ false = grind (arith, nat_tests, c.if-greatest-gt-MAX_COST.false) in
    let full : nat_lt 4194304 (c.draft.inside.cells + c.args.cells.now.count) ≡ false = grind (arith, nat_tests, c.if-count-draft.false, c.draft.invariant.room) in
    let above : nat_lt 4611686018427387904 (c.draft.inside.sum + c.args.cells.now.greatest) ≡ true = grind (arith, nat_tests, c.if-greatest-draft.true, c.draft.invariant.fits) in
    rw (fault-told c.args.draft.now.tables t c.args.sizes.now c.args.cells.now same told, many, much, cells, full, sum, above) refl

pub returns : goal.returns
returns c t same told =
    let cells : cell_count c.args.draft.now.tables ≡ c.draft.inside.cells = rw (← c.draft.view_is) (sym c.draft.invariant.cells) in
    let sum : greatest_sum c.args.draft.now.tables ≡ c.draft.inside.sum = rw (← c.draft.view_is) (sym c.draft.invariant.sum) in
    let many : nat_eq c.args.cells.now.count (product c.args.sizes.now) ≡ true = grind (arith, nat_tests, c.product_of.ensures, c.if-count-product_of.false, c.requires) in
    let much : nat_lt 1125899906842624 c.args.cells.now.greatest ≡ false = grind (arith, nat_tests, c.if-greatest-gt-MAX_COST.false) in
    let full : nat_lt 4194304 (c.draft.inside.cells + c.args.cells.now.count) ≡ false = grind (arith, nat_tests, c.if-count-draft.false, c.draft.invariant.room) in
    let above : nat_lt 4611686018427387904 (c.draft.inside.sum + c.args.cells.now.greatest) ≡ false = grind (arith, nat_tests, c.if-greatest-draft.false, c.draft.invariant.fits) in
    rw (fault-told c.args.draft.now.tables t c.args.sizes.now c.args.cells.now same told, many, much, cells, full, sum, above) refl
