use Rattle.std.proofs.Common.{◌≡◌, ℕ, ◌*◌, ◌/◌, ◌%◌, ◌<◌, ◌≤◌, ◌∙◌, List, [], ◌++◌, get_or, sym, ap, subst, arith}
use Rattle.dcop_base.specs.Table.{product}
use Rattle.protocol_steps.specs.Values.{choices}
use Rattle.problem_cut.proofs.TurnLaws.{whole-block, first-below, values-more, on-ok}
use Rattle.problem_cut.proofs.turn.+push_values.Goals as goal

pub overflow_cast-number : goal.overflow_cast-number
overflow_cast-number t c =
    let s = c.in-Some.field-0-0.now in
    let later = c.in-Some.later.now in
    let is = c.in-Some.ensures.cases.0 in
    let lt : c.args.number < s * product later = subst (λ (ss : List ℕ). c.args.number < product ss) is c.requires.within in
    let few : s * product later ≤ 18446744073709551615 = subst (λ (ss : List ℕ). product ss ≤ 18446744073709551615) is c.requires.few in
    let block = c.product_of-block.ensures ∙ whole-block c.args.number s (product later) 18446744073709551615 lt few in
    let low = first-below c.args.number s (product later) lt in
    let same = ap (λ (n : ℕ). c.args.number / n) block in
    let fits = rw is at (c.type_inv.sizes 0) in
    omega (arith, low, fits, same)

pub returns : goal.returns
returns t c =
    let s = c.in-Some.field-0-0.now in
    let later = c.in-Some.later.now in
    let is = c.in-Some.ensures.cases.0 in
    let lt : c.args.number < s * product later = subst (λ (ss : List ℕ). c.args.number < product ss) is c.requires.within in
    let few : s * product later ≤ 18446744073709551615 = subst (λ (ss : List ℕ). product ss ≤ 18446744073709551615) is c.requires.few in
    let block = c.product_of-block.ensures ∙ whole-block c.args.number s (product later) 18446744073709551615 lt few in
    on-ok c.push_values.result
    (c.push_values.new.values.items ≡ c.push.new.self.items ++ get_or (choices later) (c.args.number % c.product_of-block.result) [])
    (c.push_values.new.values.items ≡ c.args.values.now.items ++ get_or (choices c.args.sizes.now) c.args.number [])
    (λ e. subst (λ (ss : List ℕ). c.push_values.new.values.items ≡ c.args.values.now.items ++ get_or (choices ss) c.args.number []) (sym is)
    (values-more s later c.args.number c.product_of-block.result c.args.values.now.items c.push.new.self.items c.push_values.new.values.items lt block c.in_ok-push.ensures.items e))
    c.push_values.ensures
