-- What token agents have found after a run under the budget of their messages.
use Rattle.std.proofs.Common.{◌≡◌, ℕ, List, [], ◌∷◌, map, length, Option, Some, refl, sym, ap, ◌∙◌, arith}
use Rattle.std.specs.List.{flat_map, range_with_len}
use Rattle.std.specs.Option.{option_map}
use Rattle.std.proofs.lemmas.List.{length-map}
use Rattle.std.proofs.lemmas.List.FromFn.{fill_by_all, length-map-range_with_len}
use Rattle.std.proofs.lemmas.Option.{slice_get-map}
use Rattle.dcop_base.specs.Problem.{Dcop}
use Rattle.dcop_base.specs.Whole.{IsProblem}
use Rattle.pseudotree.specs.DepthFirst.{dfs, path_in, search_of}
use Rattle.pseudotree.specs.Tree.{path_of}
use Rattle.pseudotree.specs.declared.agent.Place.{Place}
use Rattle.protocol_steps.specs.declared.event.Event.{Event}
use Rattle.protocol_steps.specs.declared.outcome.Outcome.{Outcome}
use Rattle.protocol_steps.specs.View.{View, place_of}
use Rattle.protocol_steps.specs.Network.{start_state}
use Rattle.protocol_steps.specs.Rounds.{RoundsAreARun}
use Rattle.run_laws.specs.TokenAgents.{place_found}
use Rattle.run_laws.specs.TokenLaws.{TokenRuns}
use Rattle.protocol_steps.specs.TreeAgents.{token_agents}
use Rattle.minimised_problem.specs.Found.{token_deliveries, HaveFound, places_found, path_on}
use Rattle.protocol_steps.specs.Outcomes.{HaveRun}
use Rattle.minimised_problem.proofs.SearchEndLaws.{run-ended, same-by}

map-map : {X Y : Type 0} (g : X → Y) (f : ℕ → X) (is : List ℕ) → map g (map f is) ≡ map (λ i. g (f i)) is
map-map g f [] = refl
map-map {X} {Y} g f (i ∷ is) = ap (λ (ys : List Y). g (f i) ∷ ys) (map-map g f is)

-- the paths that agents have found are those of the depth-first tree
pub found-paths : (p : Dcop) (places : List (Option Place)) → places ≡ places_found p → map path_on places ≡ dfs p
found-paths p places found =
    ap (map path_on) found
    ∙ map-map path_on (λ i. Some (place_found p i)) (range_with_len 0 (length p.sizes))
    ∙ sym (fill_by_all (path_of (dfs p)) (dfs p) (length p.sizes) [] (length-map-range_with_len (path_in (search_of p)) 0 (length p.sizes)) (λ k lt. refl))

-- token agents that have run under the budget of their messages have found the depth-first tree
pub run-found : (p : Dcop) → IsProblem p → TokenRuns → RoundsAreARun → (outcome : Outcome) → HaveRun (token_deliveries p) (token_agents p) outcome → HaveFound p outcome
run-found p whole law rounds outcome is =
    let events : List Event = flat_map (λ es. es) is.rounds in
    let holds = law.runs p whole events is.end (rounds (token_deliveries p) (start_state (token_agents p)) is.end is.rounds is.are_rounds) in
    let all = holds.whole (run-ended (token_deliveries p) is.end holds.pending is.how is.stopped holds.early) in record {
      places =
          is.told.places
          ∙ same-by (map place_of is.end.views) (λ i. Some (place_found p i)) (length p.sizes) (length-map is.end.views place_of ∙ holds.sized) (λ i lt.
          let at = all.places i lt in
          slice_get-map place_of is.end.views i ∙ ap (λ (o : Option View). option_map place_of o) at.1 ∙ ap (λ (o : Option Place). Some o) at.2);
      deliveries =
          let told = is.told.deliveries in
          let tokens = all.all_tokens in
          let dones = all.all_dones in
          let sum = holds.nothing_else in
          omega (arith, told, tokens, dones, sum);
    }
