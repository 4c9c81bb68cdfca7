use Rattle.std.proofs.Common.{ℕ, List, ◌++◌, ap, ◌∙◌}
use Rattle.dpop_agent.specs.declared.made.Made.{Made}
use Rattle.dpop_agent.specs.Remade.{sent_of}
use Rattle.dpop_agent.proofs.RemakeLaws.{named_in_all, names_more, names_none}
use Rattle.dpop_agent.proofs.made.named_by.Goals as goal
use Rattle.dpop_agent.proofs.made.named_by.Goals.{in-Some+in_ok-append, in_default}

pub loop-child-preserved : goal.loop-child-preserved
loop-child-preserved c =
    let children = c.args.children.now in
    let kept = c.args.kept.now in
    let whole = named_in_all (sent_of kept children) in
    elim c.match-kept-child.branch [
      | in-Some+in_ok-append w ↦
          names_more kept children c.loop-child.child-index c.child-item.result c.child.inside.0 c.index-kept-child.result c.loop-child-test.true c.child-item.is c.requires c.child.view_is c.index-kept-child.is
          w.in-Some.made c.loop-child.vars c.match-kept-child.vars whole w.in-Some.is (w.vars-is ∙ w.in_ok-append.ensures ∙ ap (λ (us : List ℕ). c.loop-child.vars ++ us) (w.as_slice.ensures ∙ ap (λ (m : Made). m.sent.scope) w.made.view_is)) c.loop-child.invariant
      | in_default w ↦
          names_none kept children c.loop-child.child-index c.child-item.result c.child.inside.0 c.index-kept-child.result c.loop-child-test.true c.child-item.is c.requires c.child.view_is c.index-kept-child.is
          c.loop-child.vars c.match-kept-child.vars whole w.in_default.is w.vars-is c.loop-child.invariant
    ]
