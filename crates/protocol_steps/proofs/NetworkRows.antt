-- Worked rows: whole networks, run by the definitions.
use Rattle.std.proofs.Common.{◌≡◌, ℕ, Bool, true, false, List, [], ◌∷◌, map, Option, Some, None, refl}
use Rattle.dcop_base.specs.Table.{CostTable}
use Rattle.dcop_base.specs.declared.knowledge.Private.{Private}
use Rattle.pseudotree.specs.declared.agent.Place.{Place}
use Rattle.protocol_steps.specs.declared.message.Message.TheVariants.{Cost}
use Rattle.protocol_steps.specs.declared.event.Take.{Take}
use Rattle.protocol_steps.specs.declared.event.Event.{Event}
use Rattle.protocol_steps.specs.declared.standing.Standing.{Standing}
use Rattle.protocol_steps.specs.Token.{new_token}
use Rattle.protocol_steps.specs.Dpop.{new_dpop}
use Rattle.protocol_steps.specs.Adopt.{new_adopt}
use Rattle.protocol_steps.specs.View.{View, TokenKind, DpopKind, AdoptKind, value_of, ended_of, standing_of, table_of, place_of}
use Rattle.protocol_steps.specs.Step.{start_of, step_of}
use Rattle.protocol_steps.specs.Network.{Network, start_state, link}
use Rattle.protocol_steps.specs.Effect.{deliveries}
use Rattle.protocol_steps.specs.Run.{run}
use Rattle.protocol_steps.proofs.Rows.{of_two}

-- an event with one take
abbrev takes_one : ℕ → ℕ → ℕ → Event
takes_one agent from count =
    let t : Take = record { from = from; count = count } in
    record { agent = agent; takes = t ∷ [] }

-- what is read from the network in which a run ends
abbrev reading : {A : Type 0} → (Network → A) → Option Network → Option A
reading f None = None
reading f (Some net) = Some (f net)

-- each agent's value, whether it has ended, and its bounds and threshold
abbrev stands : Network → List (ℕ × Bool × Standing)
stands net = map (λ v. (value_of v, ended_of v, standing_of v)) net.views

-- each agent's value and whether it has ended, and all deliveries
abbrev outcome : Network → List (ℕ × Bool) × ℕ
outcome net = (map (λ v. (value_of v, ended_of v)) net.views, deliveries net)

-- two ADOPT agents x and y with one table
abbrev pair_table : CostTable
pair_table = of_two 0 1 (5 ∷ 3 ∷ 2 ∷ 7 ∷ [])

abbrev pub pair_x : View
pair_x = AdoptKind (new_adopt
    (record { me = 0; size = 2; neighbours = 1 ∷ []; neighbour_sizes = 2 ∷ []; tables = pair_table ∷ [] })
    (record { me = 0; path = []; path_sizes = []; children = 1 ∷ []; lower = 1 ∷ [] })
    0)

abbrev pub pair_y : View
pair_y = AdoptKind (new_adopt
    (record { me = 1; size = 2; neighbours = 0 ∷ []; neighbour_sizes = 2 ∷ []; tables = pair_table ∷ [] })
    (record { me = 1; path = 0 ∷ []; path_sizes = 2 ∷ []; children = []; lower = [] })
    0)

abbrev pair : List View
pair = pair_x ∷ pair_y ∷ []

abbrev pair_events : List Event
pair_events = takes_one 0 1 1 ∷ takes_one 1 0 4 ∷ takes_one 0 1 1 ∷ takes_one 1 0 2 ∷ takes_one 0 1 1 ∷ takes_one 1 0 3 ∷ []

pub pair_after_two : reading stands (run (start_state pair) (takes_one 0 1 1 ∷ takes_one 1 0 4 ∷ [])) ≡ Some ((0, false, record { lower = 0; upper = None; threshold = 0 }) ∷ (1, false, record { lower = 3; upper = Some 3; threshold = 3 }) ∷ [])
unfolding start_of step_of
pair_after_two = refl

pub pair_at_end : reading outcome (run (start_state pair) pair_events) ≡ Some ((1, true) ∷ (0, true) ∷ [], 12)
unfolding start_of step_of
pair_at_end = refl

-- a triangle a, b, c with a tail d at b, which are 0, 1, 2 and 3, and the same costs on each edge
abbrev costs : List ℕ
costs = 1 ∷ 2 ∷ 2 ∷ 0 ∷ []

abbrev own_a : Private
own_a = record { me = 0; size = 2; neighbours = 1 ∷ 2 ∷ []; neighbour_sizes = 2 ∷ 2 ∷ []; tables = of_two 0 1 costs ∷ of_two 0 2 costs ∷ [] }

abbrev own_b : Private
own_b = record { me = 1; size = 2; neighbours = 0 ∷ 2 ∷ 3 ∷ []; neighbour_sizes = 2 ∷ 2 ∷ 2 ∷ []; tables = of_two 0 1 costs ∷ of_two 1 2 costs ∷ of_two 1 3 costs ∷ [] }

abbrev own_c : Private
own_c = record { me = 2; size = 2; neighbours = 0 ∷ 1 ∷ []; neighbour_sizes = 2 ∷ 2 ∷ []; tables = of_two 0 2 costs ∷ of_two 1 2 costs ∷ [] }

abbrev own_d : Private
own_d = record { me = 3; size = 2; neighbours = 1 ∷ []; neighbour_sizes = 2 ∷ []; tables = of_two 1 3 costs ∷ [] }

-- the token agents find their places
abbrev tokens : List View
tokens = TokenKind (new_token own_a) ∷ TokenKind (new_token own_b) ∷ TokenKind (new_token own_c) ∷ TokenKind (new_token own_d) ∷ []

abbrev place_with : List ℕ → Place → Place
place_with sizes place = record place { path_sizes = sizes }

abbrev place_a : Place
place_a = record { me = 0; path = []; path_sizes = []; children = 1 ∷ []; lower = 1 ∷ 2 ∷ [] }

abbrev place_b : Place
place_b = record { me = 1; path = 0 ∷ []; path_sizes = []; children = 2 ∷ 3 ∷ []; lower = 2 ∷ 3 ∷ [] }

abbrev place_c : Place
place_c = record { me = 2; path = 0 ∷ 1 ∷ []; path_sizes = []; children = []; lower = [] }

abbrev place_d : Place
place_d = record { me = 3; path = 0 ∷ 1 ∷ []; path_sizes = []; children = []; lower = [] }

abbrev token_events : List Event
token_events = takes_one 1 0 1 ∷ takes_one 2 1 1 ∷ takes_one 1 2 1 ∷ takes_one 3 1 1 ∷ takes_one 1 3 1 ∷ takes_one 0 1 1 ∷ []

pub token_places : reading (λ net. map place_of net.views) (run (start_state tokens) token_events) ≡ Some (Some place_a ∷ Some place_b ∷ Some place_c ∷ Some place_d ∷ [])
unfolding start_of step_of
token_places = refl

-- DPOP over the tree of these places
abbrev dpops : List View
dpops =
    DpopKind (new_dpop own_a place_a)
    ∷ DpopKind (new_dpop own_b (place_with (2 ∷ []) place_b))
    ∷ DpopKind (new_dpop own_c (place_with (2 ∷ 2 ∷ []) place_c))
    ∷ DpopKind (new_dpop own_d (place_with (2 ∷ 2 ∷ []) place_d))
    ∷ []

abbrev both_tables : List Take
both_tables =
    let of_c : Take = record { from = 2; count = 1 } in
    let of_d : Take = record { from = 3; count = 1 } in
    of_c ∷ of_d ∷ []

abbrev dpop_events : List Event
dpop_events = record { agent = 1; takes = both_tables } ∷ takes_one 0 1 1 ∷ takes_one 1 0 1 ∷ takes_one 2 1 1 ∷ takes_one 3 1 1 ∷ []

abbrev util : List ℕ → List ℕ → List ℕ → Option CostTable
util scope sizes cells = Some (record { scope = scope; sizes = sizes; cells = cells })

pub dpop_tables : reading (λ net. map table_of net.views) (run (start_state dpops) dpop_events)
    ≡ Some (util [] [] (0 ∷ []) ∷ util (0 ∷ []) (2 ∷ []) (4 ∷ 0 ∷ []) ∷ util (0 ∷ 1 ∷ []) (2 ∷ 2 ∷ []) (2 ∷ 2 ∷ 2 ∷ 0 ∷ []) ∷ util (1 ∷ []) (2 ∷ []) (1 ∷ 0 ∷ []) ∷ [])
unfolding start_of step_of
dpop_tables = refl

pub dpop_at_end : reading outcome (run (start_state dpops) dpop_events) ≡ Some ((1, true) ∷ (1, true) ∷ (1, true) ∷ (1, true) ∷ [], 6)
unfolding start_of step_of
dpop_at_end = refl

-- ADOPT over the same tree: all that c sends to b, after it took twice of b and then once of a
abbrev adopts : List View
adopts =
    AdoptKind (new_adopt own_a place_a 0)
    ∷ AdoptKind (new_adopt own_b (place_with (2 ∷ []) place_b) 0)
    ∷ AdoptKind (new_adopt own_c (place_with (2 ∷ 2 ∷ []) place_c) 0)
    ∷ AdoptKind (new_adopt own_d (place_with (2 ∷ 2 ∷ []) place_d) 0)
    ∷ []

pub adopt_bounds : reading (λ net. link net.desks 2 1) (run (start_state adopts) (takes_one 2 1 2 ∷ takes_one 2 0 1 ∷ []))
    ≡ Some (Cost [] 0 None ∷ Cost ((1, 0) ∷ []) 1 None ∷ Cost ((0, 0) ∷ (1, 0) ∷ []) 2 (Some 2) ∷ [])
unfolding start_of step_of
adopt_bounds = refl
