use Rattle.std.proofs.Common.{◌≡◌, ℕ, List, [], map, length, get_or, refl, sym, ap, subst, ◌∙◌}
use Rattle.problem_text.specs.File.{TextFile}
use Rattle.problem_order.specs.Reordered.{IsReordered}
use Rattle.problem_order.proofs.OrderLaws.{order_of_count}
use Rattle.problem_order.proofs.FileLaws.{labels_long, reordered_from, reordered_file}
use Rattle.problem_order.proofs.reordering.reordered.Goals as goal

pub labels_in-requires : goal.labels_in-requires
labels_in-requires c =
    let long : length c.args.order.now ≡ length c.file.inside.problem.sizes = c.requires ∙ sym (ap (λ (f : TextFile). length f.problem.sizes) c.file.view_is) in
    let labels = labels_long c.file.inside.problem.sizes c.file.inside.labels c.file.invariant.labels in
    (order_of_count (length c.as_slice.result.now) c.args.order.now c.vars-vars.result.now c.vars-vars.ensures.whole c.vars-vars.ensures.same (long ∙ sym labels ∙ sym (ap length c.as_slice.ensures))).within

pub invariant_of-result : goal.invariant_of-result
invariant_of-result c =
    let f : TextFile = record { version = c.file.inside.version; goal = c.file.inside.goal; names = c.file.inside.names; labels = c.file.inside.labels; problem = c.file.inside.problem } in
    let g : TextFile = record { version = c.file.inside.version; goal = c.file.inside.goal; names = c.in_ok-names.names; labels = c.from_vec.result; problem = c.in_ok-problem.problem } in
    let long : length c.args.order.now ≡ length c.file.inside.problem.sizes = c.requires ∙ sym (ap (λ (h : TextFile). length h.problem.sizes) c.file.view_is) in
    let is : IsReordered f c.args.order.now g =
    reordered_from f g c.args.order.now c.vars-vars.result.now c.vars-vars.ensures.whole c.vars-vars.ensures.same long refl refl c.in_ok-names.ensures.names
    (c.from_vec.ensures ∙ c.in_ok-labels.ensures ∙ ap (λ (ls : List (List (List ℕ))). map (λ v. get_or ls v []) c.vars-vars.result.now) c.as_slice.ensures)
    c.in_ok-problem.ensures.sizes c.in_ok-problem.ensures.tables in
    reordered_file f g c.args.order.now c.file.invariant is c.in_ok-names.ensures.distinct

pub returns : goal.returns
returns c =
    let f : TextFile = record { version = c.file.inside.version; goal = c.file.inside.goal; names = c.file.inside.names; labels = c.file.inside.labels; problem = c.file.inside.problem } in
    let g : TextFile = record { version = c.file.inside.version; goal = c.file.inside.goal; names = c.in_ok-names.names; labels = c.from_vec.result; problem = c.in_ok-problem.problem } in
    let long : length c.args.order.now ≡ length c.file.inside.problem.sizes = c.requires ∙ sym (ap (λ (h : TextFile). length h.problem.sizes) c.file.view_is) in
    subst (λ (h : TextFile). IsReordered h c.args.order.now g) c.file.view_is
    (reordered_from f g c.args.order.now c.vars-vars.result.now c.vars-vars.ensures.whole c.vars-vars.ensures.same long refl refl c.in_ok-names.ensures.names
    (c.from_vec.ensures ∙ c.in_ok-labels.ensures ∙ ap (λ (ls : List (List (List ℕ))). map (λ v. get_or ls v []) c.vars-vars.result.now) c.as_slice.ensures)
    c.in_ok-problem.ensures.sizes c.in_ok-problem.ensures.tables)
