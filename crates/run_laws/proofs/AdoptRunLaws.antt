-- The law on runs of ADOPT agents: bounds enclose.
use Rattle.std.proofs.Common.{ℕ, ◌<◌, List, length, ap, ◌∙◌}
use Rattle.dcop_base.specs.Problem.{Dcop}
use Rattle.dcop_base.specs.Knowledge.{private_of}
use Rattle.dcop_base.specs.Whole.{IsProblem}
use Rattle.dcop_base.specs.declared.knowledge.Private.{Private}
use Rattle.pseudotree.specs.declared.agent.Place.{Place}
use Rattle.pseudotree.specs.Pseudotree.{IsPseudotree}
use Rattle.adopt_context.specs.Context.{value_in}
use Rattle.protocol_steps.specs.Adopt.{AdoptView}
use Rattle.protocol_steps.specs.AdoptBounds.{lower_bound, upper_bound}
use Rattle.protocol_steps.specs.Network.{Network, start_state, link}
use Rattle.protocol_steps.specs.View.{OfAdopt}
use Rattle.dcop_optimum.proofs.DecompositionLaws.{root_bounds_enclose_optima}
use Rattle.protocol_steps.specs.TreeAgents.{place_at, adopt_agents}
use Rattle.run_laws.specs.AdoptAgents.{IsValueAbove, IsAgentOf, IsSent}
use Rattle.run_laws.specs.AdoptRunLaws.{HoldsOfAdopt, AdoptBoundsEnclose}
use Rattle.run_laws.proofs.Every.{every_then, all_every}
use Rattle.run_laws.proofs.EncloseLaws.{encloses_from}
use Rattle.run_laws.proofs.PlacedLaws.{row_long, known_above, agent_bounded, not_cut, uncut, value_small}
use Rattle.run_laws.proofs.SayLaws.{Says, says_sent, entry_encloses}
use Rattle.run_laws.proofs.AdoptRunSteps.{Settled, IsGood, runs_on, starts}

module _ (p : Dcop) (paths : List (List ℕ)) (problem : IsProblem p) (pseudo : IsPseudotree p paths) (error : ℕ) where
  agent_of : (i : ℕ) (lt : i < length p.sizes) (v : AdoptView) → Settled p paths problem pseudo error i lt v → IsAgentOf p paths error i v
  agent_of i lt v a =
      let bounds = encloses_from p paths i (value_in v.known) (lower_bound v) (upper_bound v) (agent_bounded p paths problem pseudo error i lt v a.mid) in
      let small = value_small p paths problem pseudo error i lt v a.mid in
      record {
        made =
            ap (λ (o : Private). OfAdopt o v.place v.error) a.mid.own_is ∙ ap (λ (q : Place). OfAdopt (private_of p i) q v.error) a.mid.place_is
            ∙ ap (λ (n : ℕ). OfAdopt (private_of p i) (place_at p paths i) n) a.mid.error_is;
        value_below = small;
        known_fits = all_every (IsValueAbove p paths i) v.known (known_above p paths problem pseudo error i lt v a.mid);
        wide = row_long p paths problem pseudo error i lt v a.mid;
        bounds = bounds;
        entries = entry_encloses p paths problem pseudo error i lt v a.mid;
        hold = record { entries = λ d k. (a.mid.entries d k).holds; low = a.closed.held.low; high = a.closed.held.high; whole = a.closed.whole };
        uncut = uncut p paths problem pseudo error i lt v a.mid;
        whole = λ known. a.closed.whole known (not_cut p paths problem pseudo error i lt v a.mid v.value small);
        at_root = λ root m is. root_bounds_enclose_optima p paths i (value_in v.known) (lower_bound v) (upper_bound v) problem pseudo root bounds m is;
      }

  holds : (end : Network) → IsGood p paths problem pseudo error end → HoldsOfAdopt p paths error end
  holds end is = record {
    sized = is.count;
    agents = λ i lt. ((is.agents i lt).view, (is.agents i lt).at, agent_of i lt (is.agents i lt).view (is.agents i lt).settled);
    sent = λ i j. all_every (IsSent p paths i) (link end.desks i j) (every_then (Says p paths i) (IsSent p paths i) (link end.desks i j) (says_sent p paths i) (is.said j i));
  }

pub adopt_bounds_enclose : AdoptBoundsEnclose
adopt_bounds_enclose p paths error problem pseudo es end r =
    holds p paths problem pseudo error end (runs_on p paths problem pseudo error (start_state (adopt_agents p paths error)) end es (starts p paths problem pseudo error) r)
