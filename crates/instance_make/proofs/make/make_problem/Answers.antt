use Rattle.std.proofs.Common.{ℕ, ◌-◌, ap, ◌∙◌}
use Rattle.instance_make.specs.Generator.{drawn_tables, draws_behind}
use Rattle.instance_make.proofs.MadeLaws.{made-parts}
use Rattle.instance_make.proofs.make.make_problem.Goals as goal

pub invariant_of-problem : goal.invariant_of-problem
invariant_of-problem c =
    made-parts c.args.seed c.args.vars c.args.size c.args.degree c.args.top c.from_vec.result c.in_ok-tables.tables c.from_vec-2.result c.requires
    (c.from_vec.ensures ∙ c.in_ok-sizes.ensures.items_if_clones_equal (λ y h. h))
    (c.in_ok-tables.ensures ∙ ap (λ (state : ℕ). drawn_tables c.args.size c.args.top state (draws_behind c.args.degree (c.args.vars - 1))) c.seed_from_u64-words.ensures.same)
    (c.from_vec-2.ensures ∙ c.new.ensures.items)
