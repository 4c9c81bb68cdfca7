use Rattle.std.proofs.Common.{ℕ, List, get_or, sym, subst, ◌∙◌, arith}
use Rattle.dcop_base.specs.Table.{AreWithin}
use Rattle.bound_search.proofs.FirstLaws.{first_is, first_within, zeros_are_values}
use Rattle.bound_search.proofs.VisitLaws.{visited_all}
use Rattle.bound_search.proofs.searching.search_from_top.Goals as goal

pub first_estimate-first-requires : goal.first_estimate-first-requires
first_estimate-first-requires c = record { within = first_within c.args.sizes.now c.args.rules.scale c.args.buckets.now c.requires.grounds }

pub returns-clause-visits : goal.returns-clause-visits
returns-clause-visits c =
    visited_all c.args.sizes.now c.args.buckets.now c.args.rules c.requires.grounds (λ v. get_or c.as_mut_slice.result.now v 0) c.args.progress.now c.descend.new.progress c.descend.ensures.visits

pub descend-requires-clause-within : goal.descend-requires-clause-within
descend-requires-clause-within c =
    let zeros = c.as_mut_slice.ensures.value ∙ c.in_ok-values.ensures.items_if_clones_equal (λ y h. h) in
    subst (λ (xs : List ℕ). AreWithin c.args.sizes.now xs) (sym zeros) (zeros_are_values c.args.sizes.now c.args.rules.scale c.args.buckets.now c.requires.grounds)

pub descend-requires-clause-least : goal.descend-requires-clause-least
descend-requires-clause-least c = c.first_estimate-first.ensures ∙ first_is c.args.sizes.now c.args.rules.scale c.args.buckets.now c.requires.grounds (λ v. get_or c.as_mut_slice.result.now v 0)

pub descend-requires-clause-room : goal.descend-requires-clause-room
descend-requires-clause-room c = λ none. absurd (let some = c.requires.grounds.some in omega (arith, some, none))
