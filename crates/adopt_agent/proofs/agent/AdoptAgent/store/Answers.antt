use Rattle.std.proofs.Common.{◌≡◌, ℕ, ◌<◌, Bool, true, cond, List, length, sym, ap, subst, ◌∙◌}
use Rattle.adopt_context.specs.Bounds.{entry_at}
use Rattle.adopt_context.specs.Context.{part_of}
use Rattle.adopt_bounds.specs.Rows.{merged_at}
use Rattle.protocol_steps.specs.Adopt.{AdoptView}
use Rattle.adopt_agent.specs.Best.{AreBest}
use Rattle.adopt_agent.proofs.StoreLaws.{parts_agree, backed_merged, stored_shown, not_stored}
use Rattle.adopt_agent.proofs.agent.AdoptAgent.store.Goals as goal

pub store_at-requires-clause-compatible : goal.store_at-requires-clause-compatible
store_at-requires-clause-compatible c =
    let a = c.self.inside in
    let s = c.self.invariant in
    let rest = c.args.rest.now in
    let part : part_of rest a.known ≡ true = ap (λ (v : AdoptView). part_of rest v.known) c.self.view_is ∙ sym c.knows.ensures ∙ c.if-not-knows.false in
    parts_agree (entry_at a.bounds.rows c.args.d c.args.place).context rest a.known (s.backed.rest c.args.d c.args.place) part

pub store_at-requires-clause-place : goal.store_at-requires-clause-place
store_at-requires-clause-place c =
    let inside : c.args.place < length c.self.inside.place.children =
    subst (λ (v : AdoptView). c.args.place < length v.place.children) (sym c.self.view_is) c.requires.place in
    subst (λ (xs : List ℕ). c.args.place < length xs) (sym c.self.invariant.backed.children) inside

pub invariant_of-self-then-branch : goal.invariant_of-self-then-branch
invariant_of-self-then-branch c =
    let a = c.self.inside in
    let s = c.self.invariant in
    let rest = c.args.rest.now in
    let part : part_of rest a.known ≡ true = ap (λ (v : AdoptView). part_of rest v.known) c.self.view_is ∙ sym c.knows.ensures ∙ c.if-not-knows.false in
    let merged = c.in_ok-store_at.ensures.merged ∙ ap (λ (b : Bool). cond b (merged_at a.bounds c.args.d c.args.place rest c.args.lower c.args.upper) a.bounds) c.if-branch.true in
    record {
      ground = s.ground;
      costed = s.costed;
      higher_is = s.higher_is;
      knows_higher_is = s.knows_higher_is;
      backed = backed_merged a.own a.place a.known a.bounds c.store_at.new.self c.args.d c.args.place rest c.args.lower c.args.upper s.backed part merged;
      best_is = subst (λ (xs : List ℕ). AreBest xs a.knows_higher c.store_at.new.self.rows c.best_of-self-inside.result) c.as_slice.ensures.value c.best_of-self-inside.ensures;
      value_below = s.value_below;
      error_within = s.error_within;
      threshold_within = s.threshold_within;
      last_within = s.last_within;
    }

pub returns-then-branch-clause-stored : goal.returns-then-branch-clause-stored
returns-then-branch-clause-stored c =
    let a = c.self.inside in
    let s = c.self.invariant in
    let rest = c.args.rest.now in
    let part : part_of rest a.known ≡ true = ap (λ (v : AdoptView). part_of rest v.known) c.self.view_is ∙ sym c.knows.ensures ∙ c.if-not-knows.false in
    let merged = c.in_ok-store_at.ensures.merged ∙ ap (λ (b : Bool). cond b (merged_at a.bounds c.args.d c.args.place rest c.args.lower c.args.upper) a.bounds) c.if-branch.true in
    c.restore.ensures
    ∙ stored_shown a.own a.place a.error a.stage a.known a.value a.threshold a.last_received a.told_to_end a.bounds c.store_at.new.self c.args.self.now c.args.d c.args.place rest c.args.lower c.args.upper
    c.self.view_is part (sym c.in_ok-store_at.ensures.stored ∙ c.if-branch.true) merged

pub returns-else-branch-clause-stored : goal.returns-else-branch-clause-stored
returns-else-branch-clause-stored c =
    let a = c.self.inside in
    let s = c.self.invariant in
    let rest = c.args.rest.now in
    let part : part_of rest a.known ≡ true = ap (λ (v : AdoptView). part_of rest v.known) c.self.view_is ∙ sym c.knows.ensures ∙ c.if-not-knows.false in
    let same = c.in_ok-store_at.ensures.merged ∙ ap (λ (b : Bool). cond b (merged_at a.bounds c.args.d c.args.place rest c.args.lower c.args.upper) a.bounds) c.if-branch.false in
    not_stored a.own a.place a.error a.stage a.known a.value a.threshold a.last_received a.told_to_end a.bounds c.store_at.new.self c.args.self.now c.args.d c.args.place rest c.args.lower c.args.upper
    c.self.view_is part (sym c.in_ok-store_at.ensures.stored ∙ c.if-branch.false) same
