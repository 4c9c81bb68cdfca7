use Rattle.std.proofs.Common.{◌≡◌, ℕ, true, List, is_some, vec_len, sym, ap, subst, ◌∙◌}
use Rattle.adopt_context.specs.Context.{Context, names_all, put, value_in}
use Rattle.adopt_bounds.specs.Rows.{BoundsView}
use Rattle.protocol_steps.specs.Adopt.{AdoptView, higher}
use Rattle.protocol_steps.specs.AdoptBounds.{at_context, restore}
use Rattle.protocol_steps.specs.AdoptRange.{in_range}
use Rattle.adopt_agent.specs.Best.{AreBest}
use Rattle.adopt_agent.specs.Costs.{Differ}
use Rattle.adopt_agent.specs.Stage.{knowing, view_at}
use Rattle.adopt_agent.specs.Sound.{AreCosts, AreTableShares}
use Rattle.adopt_agent.proofs.BoundLaws.{written_back, backed_reset}
use Rattle.adopt_agent.proofs.GrowLaws.{ground_grows}
use Rattle.adopt_agent.proofs.ExchangeLaws.{names_put, put_differs}
use Rattle.adopt_agent.proofs.agent.AdoptAgent.know_other.Goals as goal

pub exchange-requires-clause-ground : goal.exchange-requires-clause-ground
exchange-requires-clause-ground c =
    let a = c.self.inside in
    let var = c.args.var in
    let value = c.args.value in
    let range : in_range (knowing a.own a.place a.known) var value ≡ true = subst (λ (w : AdoptView). in_range w var value ≡ true) (sym c.self.view_is) c.requires.range in
    ground_grows a.own a.place a.known var value c.set.new.self c.self.invariant.ground range c.in_ok-set.ensures.given

pub exchange-requires-clause-before : goal.exchange-requires-clause-before
exchange-requires-clause-before c =
    let a = c.self.inside in
    let var = c.args.var in
    record {
      before = a.known;
      others = subst (λ (x : Context). Differ a.known x var) (sym c.in_ok-set.ensures.given) (put_differs a.known var c.args.value);
      costed = subst (λ (xs : List ℕ). AreCosts a.own a.place a.known xs) (sym c.as_mut_slice-2.ensures.value) c.self.invariant.costed;
      shared = subst (λ (xs : List ℕ). AreTableShares a.own a.place a.known var xs) (sym (c.as_slice.ensures.value ∙ written_back (vec_len c.resize.new.self) c.set_shares.new.shares c.resize.new.self.items (sym (c.set_shares.auto.shares ∙ c.as_mut_slice.ensures.len)))) c.set_shares.ensures;
    }

pub invariant_of-self-2 : goal.invariant_of-self-2
invariant_of-self-2 c =
    let a = c.self.inside in
    let s = c.self.invariant in
    let var = c.args.var in
    let value = c.args.value in
    let known : Context = c.set.new.self in
    let new = c.exchange.new.costs in
    let is : known ≡ put a.known var value = c.in_ok-set.ensures.given in
    let range : in_range (knowing a.own a.place a.known) var value ≡ true = subst (λ (w : AdoptView). in_range w var value ≡ true) (sym c.self.view_is) c.requires.range in
    let named : is_some (value_in a.known var) ≡ true = subst (λ (w : AdoptView). is_some (value_in w.known var) ≡ true) (sym c.self.view_is) c.requires.named in
    let near : List ℕ = higher (knowing a.own a.place a.known) in
    record {
      ground = ground_grows a.own a.place a.known var value known s.ground range is;
      costed = subst (λ (xs : List ℕ). AreCosts a.own a.place known xs) (sym (written_back a.costs.len new a.costs.items (sym (c.exchange.auto.costs ∙ c.as_mut_slice-2.ensures.len)))) c.exchange.ensures;
      higher_is = s.higher_is;
      knows_higher_is = s.knows_higher_is ∙ sym (ap (λ (x : Context). names_all x near) is ∙ names_put a.known var value near named);
      backed = backed_reset a.own a.place a.known known a.bounds c.reset.new.self s.backed c.reset.ensures;
      best_is = subst (λ (xs : List ℕ). AreBest xs a.knows_higher c.reset.new.self.rows c.best_of-self-inside.result) c.as_slice-2.ensures.value c.best_of-self-inside.ensures;
      value_below = s.value_below;
      error_within = s.error_within;
      threshold_within = s.threshold_within;
      last_within = s.last_within;
    }

pub returns-clause-known : goal.returns-clause-known
returns-clause-known c =
    let a = c.self.inside in
    let var = c.args.var in
    let value = c.args.value in
    let known : Context = c.set.new.self in
    let v : AdoptView = view_at a.own a.place a.error a.stage a.known a.value a.threshold a.last_received a.told_to_end a.bounds.rows in
    let shown : view_at a.own a.place a.error a.stage known a.value a.threshold a.last_received a.told_to_end c.reset.new.self.rows ≡ at_context c.args.self.now (put c.args.self.now.known var value) =
    ap (λ (b : BoundsView). (view_at a.own a.place a.error a.stage known a.value a.threshold a.last_received a.told_to_end b.rows)) c.reset.ensures
    ∙ ap (λ (x : Context). at_context v x) c.in_ok-set.ensures.given
    ∙ ap (λ (w : AdoptView). at_context w (put w.known var value)) c.self.view_is in
    c.restore.ensures ∙ ap (λ (w : AdoptView). restore w) shown
