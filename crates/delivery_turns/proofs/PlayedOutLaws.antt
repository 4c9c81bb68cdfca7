-- The outcome of agents that were played out.
use Rattle.std.proofs.Common.{◌≡◌, ℕ, ◌+◌, ◌*◌, ◌≤◌, Bool, List, [], length, map, Option, Some, is_some, ap, sym, subst, ◌∙◌, arith}
use Rattle.std.specs.List.{flat_map, list_all, slice_get}
use Rattle.std.specs.Option.{option_map}
use Rattle.dcop_base.specs.Limits.{budget_limit, variable_limit}
use Rattle.dcop_base.specs.Problem.{Dcop}
use Rattle.protocol_steps.specs.declared.event.Event.{Event}
use Rattle.protocol_steps.specs.declared.outcome.Outcome.{Outcome}
use Rattle.protocol_steps.specs.View.{View, value_of, standing_of, table_of, place_of, ended_of}
use Rattle.protocol_steps.specs.Network.{Network, start_state}
use Rattle.protocol_steps.specs.Effect.{deliveries}
use Rattle.protocol_steps.specs.Run.{run}
use Rattle.protocol_steps.specs.Outcomes.{IsOutcomeOf}
use Rattle.protocol_steps.specs.Rounds.{most_events}
use Rattle.protocol_steps.proofs.RunLaws.{rounds_are_a_run}
use Rattle.delivery_core.specs.State.{CoreView}
use Rattle.delivery_core.specs.Shown.{IsCore}
use Rattle.log_replay.specs.Notes.{NotesView, MayBeNotes, StartNotes, AreSomeNotes, MayBeLogBy}
use Rattle.delivery_turns.specs.Sprints.{turn_share, PlaysSprints}
use Rattle.delivery_turns.specs.PlayedOut.{HavePlayedOut}
use Rattle.delivery_turns.specs.declared.sprint.PlayedOut.{PlayedOut}
use Rattle.delivery_core.specs.PlayedOut.{TellsOf}
use Rattle.delivery_turns.proofs.DeliveredLaws.{none-taken}
use Rattle.delivery_turns.proofs.KeptLaws.{ran_after}

-- an outcome of a core state is one of its network if the messages taken are few enough to be
-- counted
told-of : (p : Dcop) (end : Network) (s : CoreView) (outcome : Outcome) → IsCore p end s → deliveries end ≤ budget_limit + most_events * turn_share → TellsOf s outcome → IsOutcomeOf end outcome
told-of p end s outcome core few tells = record {
  values = tells.values ∙ ap (map value_of) core.shows.views;
  tables = tells.tables ∙ ap (map table_of) core.shows.views;
  places = tells.places ∙ ap (map place_of) core.shows.views;
  top = ap (λ (vs : List View). option_map standing_of (slice_get vs 0)) (sym core.shows.views) ∙ tells.top;
  deliveries = let told = tells.deliveries in let counted = core.delivered in omega (arith, told, counted, few);
  ended = tells.ended ∙ ap (list_all ended_of) core.shows.views;
}

-- all events of these rounds
abbrev all_in : List (List Event) → List Event
all_in pieces = flat_map (λ es. es) pieces

module _ (p : Dcop) (budget : ℕ) (made : List View) (old new : CoreView) (a b : Option NotesView) (core : IsCore p (start_state made) old) (notes : StartNotes p old a) (plays : PlaysSprints budget old a new b) where
  abbrev rounds : List (List Event)
  rounds = (plays p (start_state made) core).0

  abbrev end : Network
  end = (plays p (start_state made) core).1

  leads : run (start_state made) (all_in rounds) ≡ Some end
  leads = rounds_are_a_run budget (start_state made) end rounds (plays p (start_state made) core).3

  -- the notes at the end
  pub noted-end : MayBeNotes p made (all_in rounds) end b
  noted-end =
      subst (λ (net : Network). MayBeNotes p made (all_in rounds) net b) (ran_after (start_state made) end (all_in rounds) leads)
      ((plays p (start_state made) core).7.1 made [] (notes made core))

  pub noted-some : length p.sizes ≤ variable_limit → AreSomeNotes b
  noted-some few = (p, made, all_in rounds, end, few, noted-end)

  -- what was played
  pub have-played : (certified : Bool) (played : PlayedOut) → budget ≤ budget_limit → is_some a ≡ certified → TellsOf new played.outcome → is_some played.log ≡ is_some b → MayBeLogBy b played.log → HavePlayedOut budget made certified played
  have-played certified played few asked tells logged log =
      let out = plays p (start_state made) core in
      record {
        run = record {
          rounds = rounds;
          end = end;
          how = out.2;
          are_rounds = out.3;
          stopped = out.4;
          told = told-of p end new played.outcome out.5 (let none = none-taken made in let c = out.6 in omega (arith, none, c, few)) tells;
        };
        due = record { busy = out.8; few = out.9 };
        asked = logged ∙ out.7.0 ∙ asked;
        kept = log p made (all_in rounds) end leads noted-end;
      }
