use Rattle.std.proofs.Common.{◌≡◌, ℕ, ◌∷◌, ◌++◌, [], List, Option, Some, eqb, refl, sym, ap, subst, ◌∙◌}
use Rattle.std.specs.List.{position, slice_set}
use Rattle.std.proofs.lemmas.Result.{IfOk-weaker}
use Rattle.dcop_base.specs.Table.{CostTable}
use Rattle.protocol_steps.specs.declared.message.Message.TheVariants.{Util}
use Rattle.protocol_steps.specs.Dpop.{DpopView, separator_with, kept_scopes}
use Rattle.protocol_steps.specs.DpopJoin.{join}
use Rattle.protocol_steps.specs.DpopStep.{dpop_message}
use Rattle.dpop_agent.specs.Stage.{view_at}
use Rattle.dpop_agent.specs.Keeping.{keeping}
use Rattle.dpop_agent.specs.Deed.{GivesDpopStep, IsTableTaken}
use Rattle.dpop_agent.proofs.TakeLaws.{cells_with, known_after, keeps_sound, open_works, passes_over, takes, untaken}
use Rattle.dpop_agent.proofs.agent.DpopAgent.take_util.Goals as goal

pub table_of-requires-clause-over : goal.table_of-requires-clause-over
table_of-requires-clause-over c =
    let a = c.self.inside in
    let now = c.as_slice-kept.result.now in
    let v : DpopView = keeping a.own a.place now in
    let sizes = c.as_slice-2.ensures ∙ c.in_ok-over.ensures.sizes in
    cells_with a.own a.place now (c.args.scope.now ∷ kept_scopes v) c.in_ok-over.over.vars c.as_slice-2.result.now c.in_ok-over.ensures.vars sizes

pub returns-in_default-2-clause-gives : goal.returns-in_default-2-clause-gives
returns-in_default-2-clause-gives c =
    let a = c.self.inside in
    let k = c.in-Some.child in
    let scope = c.args.scope.now in
    let cells = c.args.cells.now in
    let found = ap (λ (cs : List ℕ). position (λ x. eqb x c.args.from) cs) (sym c.as_slice.ensures) ∙ sym c.position_of.ensures ∙ c.in-Some.is in
    let tried = subst (λ (es : List (Option CostTable)). IsTableTaken (keeping a.own a.place es) k scope cells c.in_ok-table.field-0) c.as_slice-kept.ensures.value c.in_ok-table.ensures in
    let not_taken = untaken (keeping a.own a.place a.kept.items) k scope cells c.in_ok-table.field-0 tried c.in_default-2.not-Some in
    passes_over a.own a.place a.stage a.kept.items a.made a.value c.args.self.now c.args.from k scope cells c.args.parcels.items c.args.parcels.items c.self.view_is found not_taken refl

pub invariant_of-self : goal.invariant_of-self
invariant_of-self c =
    let a = c.self.inside in
    let k = c.in-Some.child in
    let scope = c.args.scope.now in
    let cells = c.args.cells.now in
    let t = c.in-Some-2.table in
    let now = c.as_slice-kept.result.now in
    let taken = subst (λ (es : List (Option CostTable)). IsTableTaken (keeping a.own a.place es) k scope cells (Some t)) c.as_slice-kept.ensures.value
    (subst (λ (o : Option CostTable). IsTableTaken (keeping a.own a.place now) k scope cells o) c.in-Some-2.is c.in_ok-table.ensures) in
    keeps_sound a.own a.place a.stage a.kept.items a.made k scope cells t c.self.invariant taken

pub join-requires : goal.join-requires
join-requires c =
    let a = c.self.inside in
    let k = c.in-Some.child in
    let scope = c.args.scope.now in
    let cells = c.args.cells.now in
    let t = c.in-Some-2.table in
    let now = c.as_slice-kept.result.now in
    let started = ap (λ (v : DpopView). v.phase.started) c.self.view_is ∙ c.requires.running.started in
    let well = ap (λ (v : DpopView). v.phase.failed) c.self.view_is ∙ c.requires.running.well in
    let taken = subst (λ (es : List (Option CostTable)). IsTableTaken (keeping a.own a.place es) k scope cells (Some t)) c.as_slice-kept.ensures.value
    (subst (λ (o : Option CostTable). IsTableTaken (keeping a.own a.place now) k scope cells o) c.in-Some-2.is c.in_ok-table.ensures) in
    let vars = subst (λ (es : List (Option CostTable)). c.in_ok-over.over.vars ≡ separator_with (keeping a.own a.place es) (scope ∷ kept_scopes (keeping a.own a.place es)) ++ (a.own.me ∷ [])) c.as_slice-kept.ensures.value c.in_ok-over.ensures.vars in
    record {
      working = open_works a.own a.place a.stage a.kept.items a.made k scope cells c.self.invariant started well taken.0;
      known = known_after a.own a.place a.stage a.kept.items a.made a.value k scope cells t c.in_ok-over.over taken vars c.in_ok-over.ensures.sizes;
    }

pub returns-clause-gives : goal.returns-clause-gives
returns-clause-gives c =
    let a = c.self.inside in
    let k = c.in-Some.child in
    let scope = c.args.scope.now in
    let cells = c.args.cells.now in
    let t = c.in-Some-2.table in
    let now = c.as_slice-kept.result.now in
    let v = c.args.self.now in
    let after = c.join.new.self in
    let mid : DpopView = view_at a.own a.place a.stage (slice_set a.kept.items k (Some t)) a.made a.value in
    let found = ap (λ (cs : List ℕ). position (λ x. eqb x c.args.from) cs) (sym c.as_slice.ensures) ∙ sym c.position_of.ensures ∙ c.in-Some.is in
    let taken = subst (λ (es : List (Option CostTable)). IsTableTaken (keeping a.own a.place es) k scope cells (Some t)) c.as_slice-kept.ensures.value
    (subst (λ (o : Option CostTable). IsTableTaken (keeping a.own a.place now) k scope cells o) c.in-Some-2.is c.in_ok-table.ensures) in
    IfOk-weaker c.join.result (λ ps. GivesDpopStep (join mid) after c.args.parcels.items ps.items) (λ ps. GivesDpopStep (dpop_message v c.args.from (Util scope cells)) after c.args.parcels.items ps.items)
    (λ ps gives. takes a.own a.place a.stage a.kept.items a.made a.value v c.args.from k scope cells t after c.args.parcels.items ps.items c.self.view_is found taken gives)
    c.join.ensures.gives
