use Rattle.std.proofs.Common.{◌≡◌, ℕ, ◌+◌, ◌<◌, ◌++◌, List, [], None, length, reverse, ap, subst, ◌∙◌, arith}
use Rattle.std.proofs.lemmas.List.{get_or_read, length_push}
use Rattle.pseudotree.specs.Tree.{path_of}
use Rattle.pseudotree.specs.Fault.{parent_at}
use Rattle.pseudotree.specs.Climb.{LeadsTo}
use Rattle.pseudotree.proofs.ClimbLaws.{ascent_known, ascent_more, leads_back, leads_through, no_root}
use Rattle.pseudotree.proofs.climb.path_to.Goals as goal

pub returns-in_default : goal.returns-in_default
returns-in_default c =
    leads_back c.args.parents.now c.args.var c.loop-step.climb.items c.in_ok-path.path c.loop-step.above c.loop-step.invariant.1 c.in_default.is
    (c.in_ok-path.ensures ∙ ap (λ (xs : List ℕ). reverse xs) c.as_mut_slice.ensures.value)

pub returns-in-Some-get : goal.returns-in-Some-get
returns-in-Some-get c =
    let parents = c.args.parents.now in
    let found = c.in-Some-get.ensures.lookup.3 in
    let leads : LeadsTo parents c.ancestor.inside.0 (path_of c.args.paths.now c.ancestor.inside.0) = c.requires.paths c.ancestor.inside.0 found.0 in
    let path : c.in_ok-path-2.path ≡ path_of c.args.paths.now c.ancestor.inside.0 ++ reverse c.push.new.self.items =
    c.in_ok-path-2.ensures ∙ ap (λ (xs : List ℕ). xs ++ reverse c.as_mut_slice-in-Some-get.result.now) (c.as_slice.ensures ∙ found.1 [])
    ∙ ap (λ (xs : List ℕ). path_of c.args.paths.now c.ancestor.inside.0 ++ reverse xs) c.as_mut_slice-in-Some-get.ensures.value in
    leads_through parents c.args.var c.in-Some.ancestor c.loop-step.climb.items c.push.new.self.items (path_of c.args.paths.now c.ancestor.inside.0) c.in_ok-path-2.path c.loop-step.above
    c.loop-step.invariant.1 c.in-Some.is c.in_ok-push.ensures.items
    (subst (λ (u : ℕ). LeadsTo parents u (path_of c.args.paths.now c.ancestor.inside.0)) c.ancestor.view_is leads) path

pub bounds-parents-ancestor-inside : goal.bounds-parents-ancestor-inside
bounds-parents-ancestor-inside c = rw c.ancestor.view_is (ascent_known c.args.parents.now c.requires.known c.args.var c.loop-step.climb.items c.loop-step.above c.in-Some.ancestor c.loop-step.invariant.1 c.in-Some.is)

pub loop-step-preserved : goal.loop-step-preserved
loop-step-preserved c =
    let inside : c.ancestor.inside.0 < length c.args.parents.now =
    rw c.ancestor.view_is (ascent_known c.args.parents.now c.requires.known c.args.var c.loop-step.climb.items c.loop-step.above c.in-Some.ancestor c.loop-step.invariant.1 c.in-Some.is) in
    let next : c.index-parents-ancestor.result ≡ parent_at c.args.parents.now c.in-Some.ancestor =
    get_or_read c.args.parents.now c.ancestor.inside.0 c.index-parents-ancestor.result inside c.index-parents-ancestor.is None
    ∙ ap (λ (u : ℕ). parent_at c.args.parents.now u) c.ancestor.view_is in (
      ap length c.in_ok-push.ensures.items ∙ length_push c.loop-step.climb.items c.in-Some.ancestor ∙ ap (λ (n : ℕ). n + 1) c.loop-step.invariant.0,
      ascent_more c.args.parents.now c.args.var c.loop-step.climb.items c.push.new.self.items c.loop-step.above c.index-parents-ancestor.result c.in-Some.ancestor
          c.loop-step.invariant.1 c.in-Some.is c.in_ok-push.ensures.items next,
    )

pub returns : goal.returns
returns c = no_root c.args.parents.now c.requires.known c.args.var c.loop-step.climb.items c.loop-step.above c.requires.within c.loop-step.invariant.1 (omega arith)
