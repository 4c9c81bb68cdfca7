use Rattle.std.proofs.Common.{◌≡◌, ℕ, false, List, length, drop, refl, sym, ap, subst, ◌∙◌}
use Rattle.std.proofs.lemmas.List.{take_at}
use Rattle.dcop_base.specs.Problem.{Dcop}
use Rattle.bound_search.specs.Descent.{IsStanding, far_of}
use Rattle.bound_search.specs.First.{HasSearched}
use Rattle.bound_search.specs.Visits.{HasVisited}
use Rattle.bound_search.specs.declared.progress.Progress.{Progress}
use Rattle.bound_search.specs.declared.rules.Rules.{Rules}
use Rattle.bound_search.proofs.SearchLaws.{standing_of, searched_is}
use Rattle.bound_search.proofs.searching.search.Goals as goal

pub search_from_top-requires-clause-standing : goal.search_from_top-requires-clause-standing
search_from_top-requires-clause-standing c =
    let sizes : c.as_slice-2.result.now ≡ c.args.problem.now.sizes = c.as_slice-2.ensures ∙ ap (λ (p : Dcop). p.sizes) c.problem.view_is in
    let found = c.as_mut_slice.ensures.value ∙ c.in_ok-found.ensures.items ∙ c.as_slice.ensures in
    let rules : Rules = record { scale = c.args.shared.now.scale; error = c.args.limits.error; budget = c.args.limits.budget } in
    let now : Progress = record { best = c.args.known.now.best; found = c.args.known.now.found; nodes = c.args.known.now.nodes; lower = 18446744073709551615; spent = false; room = c.room_of.result } in
    subst (λ (ss : List ℕ). IsStanding ss c.args.buckets.now rules c.as_mut_slice.result.now now) (sym sizes)
    (standing_of c.args.problem.now c.args.shared.now c.args.buckets.now c.problem_is_whole.ensures c.requires.shared c.requires.bounds c.args.known.now c.as_mut_slice.result.now c.args.limits.error c.args.limits.budget c.room_of.result now c.requires.known found c.room_of.ensures refl)

pub returns : goal.returns
returns c =
    let sizes : c.as_slice-2.result.now ≡ c.args.problem.now.sizes = c.as_slice-2.ensures ∙ ap (λ (p : Dcop). p.sizes) c.problem.view_is in
    let rules : Rules = record { scale = c.args.shared.now.scale; error = c.args.limits.error; budget = c.args.limits.budget } in
    let old : Progress = record { best = c.args.known.now.best; found = c.args.known.now.found; nodes = c.args.known.now.nodes; lower = 18446744073709551615; spent = false; room = c.room_of.result } in
    let new : Progress = c.search_from_top.new.progress in
    let standing = subst (λ (ss : List ℕ). IsStanding ss c.args.buckets.now rules c.search_from_top.new.found new) sizes c.in_ok-search_from_top.ensures.standing in
    let searched = subst (λ (ss : List ℕ). HasSearched ss c.args.buckets.now rules old new) sizes c.in_ok-search_from_top.ensures.searched in
    let visits = subst (λ (ss : List ℕ). HasVisited ss c.args.buckets.now rules (far_of old) (far_of new)) sizes c.in_ok-search_from_top.ensures.visits in
    let long : length c.search_from_top.new.found ≡ c.in_ok-found.found.len = c.search_from_top.auto.found ∙ c.as_mut_slice.ensures.len in
    let values = c.from_vec.ensures ∙ take_at c.search_from_top.new.found (drop (length c.search_from_top.new.found) c.in_ok-found.found.items) c.in_ok-found.found.len long in
    searched_is c.args.problem.now c.args.shared.now c.args.buckets.now c.problem_is_whole.ensures c.requires.shared c.requires.bounds c.args.limits.error c.args.limits.budget c.args.known.now
    (record { best = new.best; found = new.found; values = c.from_vec.result; nodes = new.nodes }) c.search_from_top.new.found old new (record { lower = c.unscaled.result; spent = new.spent }) standing searched visits
    refl refl refl refl refl refl refl refl values c.unscaled.ensures refl
