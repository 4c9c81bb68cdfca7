use Rattle.std.proofs.Common.{◌≡◌, ◌≤◌, ℕ, List, get_or, drop, refl, sym, ap, ◌∙◌, subst, subst₂, arith}
use Rattle.std.proofs.lemmas.List.Elements.{All-drop}
use Rattle.dcop_base.specs.Table.{CostTable, product, has}
use Rattle.dcop_base.proofs.TableLaws.{parts-of}
use Rattle.util_join.specs.Join.{IsSum}
use Rattle.util_join.proofs.StrideLaws.{product-some}
use Rattle.util_join.proofs.JoinLaws.{still-whole}
use Rattle.util_join.proofs.WindowLaws.{lies-last, zeros-whole, window-gains, none-there}
use Rattle.util_join.proofs.window.add_cells.Goals as goal

pub add_all-requires-2-clause-whole : goal.add_all-requires-2-clause-whole
add_all-requires-2-clause-whole c =
    let width = c.product_of-width.result in
    let first = c.first_named-first.result in
    let zeros = c.split_at_mut-block.result.0.now in
    let own : width ≡ product c.split_at-2.result.1.now = omega (arith, c.product_of-width.ensures, c.if-width-gt-WINDOW.false) in
    let wide : width ≡ product (drop first c.args.sizes.now) = subst (λ (ss : List ℕ). width ≡ product ss) c.split_at-2.ensures.back own in
    rw (c.split_at.ensures.back, c.split_at-2.ensures.back)
    (zeros-whole first c.args.over.now c.args.sizes.now c.args.cells.now zeros c.requires.whole (c.split_at_mut-block.ensures.front_len ∙ wide)
    (λ k. ap (λ (xs : List ℕ). get_or xs k 0) c.split_at_mut-block.ensures.front ∙ none-there width 256 k))

pub add_all-requires-2-clause-lies : goal.add_all-requires-2-clause-lies
add_all-requires-2-clause-lies c =
    let over = c.args.over.now in
    let scope : c.as_slice.result.now ≡ c.args.table.now.scope = c.as_slice.ensures ∙ ap (λ (t : CostTable). t.scope) c.table.view_is in
    rw (c.split_at.ensures.back, c.split_at-2.ensures.back)
    (lies-last c.first_named-first.result over c.args.sizes.now c.args.table.now
    (λ j h. ap (λ (xs : List ℕ). has xs (get_or over j 0)) (sym scope) ∙ c.first_named-first.ensures.unnamed j h) c.first_named-first.ensures.within c.requires.lies)

pub add_alike-requires-clause-some : goal.add_alike-requires-clause-some
add_alike-requires-clause-some c =
    let sizes = c.args.sizes.now in
    let first = c.first_named-first.result in
    let width = c.product_of-width.result in
    let own : width ≡ product c.split_at-2.result.1.now = omega (arith, c.product_of-width.ensures, c.if-width-gt-WINDOW.false) in
    let wide : width ≡ product (drop first sizes) = subst (λ (ss : List ℕ). width ≡ product ss) c.split_at-2.ensures.back own in
    let positive = (parts-of c.args.over.now sizes c.args.cells.now c.requires.whole).positive in
    let some : 1 ≤ width = omega (arith, wide, product-some (drop first sizes) (All-drop (λ s. 1 ≤ s) first sizes positive)) in
    (omega (arith, c.if-width-count.false), some)

pub add_alike-requires-clause-inside : goal.add_alike-requires-clause-inside
add_alike-requires-clause-inside c =
    let sizes = c.args.sizes.now in
    let first = c.first_named-first.result in
    let width = c.product_of-width.result in
    let block = c.add_all-2.new.cells in
    let own : width ≡ product c.split_at-2.result.1.now = omega (arith, c.product_of-width.ensures, c.if-width-gt-WINDOW.false) in
    let wide : width ≡ product (drop first sizes) = subst (λ (ss : List ℕ). width ≡ product ss) c.split_at-2.ensures.back own in
    let positive = (parts-of c.args.over.now sizes c.args.cells.now c.requires.whole).positive in
    let some : 1 ≤ width = omega (arith, wide, product-some (drop first sizes) (All-drop (λ s. 1 ≤ s) first sizes positive)) in
    let full = (parts-of c.split_at.result.1.now c.split_at-2.result.1.now block c.add_all-2.ensures.whole).full in
    omega (arith, some, own, full)

pub returns-clause-whole : goal.returns-clause-whole
returns-clause-whole c = still-whole c.args.over.now c.args.sizes.now c.args.cells.now c.add_alike.new.cells c.requires.whole c.add_alike.ensures.count c.add_alike.ensures.small

pub returns-clause-sum : goal.returns-clause-sum
returns-clause-sum c =
    let t = c.args.table.now in
    let sizes = c.args.sizes.now in
    let first = c.first_named-first.result in
    let width = c.product_of-width.result in
    let zeros = c.split_at_mut-block.result.0.now in
    let block = c.add_all-2.new.cells in
    let own : width ≡ product c.split_at-2.result.1.now = omega (arith, c.product_of-width.ensures, c.if-width-gt-WINDOW.false) in
    let wide : width ≡ product (drop first sizes) = subst (λ (ss : List ℕ). width ≡ product ss) c.split_at-2.ensures.back own in
    let sum = subst₂ (λ (vs ss : List ℕ). IsSum (record { scope = vs; sizes = ss; cells = zeros }) t (record { scope = vs; sizes = ss; cells = block })) c.split_at.ensures.back c.split_at-2.ensures.back c.add_all-2.ensures.sum in
    record {
      same_scope = refl;
      same_sizes = refl;
      cells = λ value within. window-gains first width t c.args.over.now sizes c.args.cells.now zeros block c.add_alike.new.cells value c.requires.whole wide
          (λ k. ap (λ (xs : List ℕ). get_or xs k 0) c.split_at_mut-block.ensures.front ∙ none-there width 256 k) sum c.add_alike.ensures within;
    }
