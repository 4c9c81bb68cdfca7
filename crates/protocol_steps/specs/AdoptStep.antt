-- The ADOPT step: all messages of a batch, and then backTrack once.
use Rattle.std.specs.Prelude.{ℕ, ◌-◌, Bool, true, ◌&&◌, ◌||◌, not, List, [], ◌∷◌, ◌++◌, map, ◌==◌, nat_lt, if◌then◌else◌}
use Rattle.std.specs.List.{fold, flat_map, position, slice_set}
use Rattle.dcop_base.specs.Table.{has}
use Rattle.adopt_context.specs.Context.{put, is_value, or_zero}
use Rattle.adopt_context.specs.Bounds.{row_at, entry_at, upper_sum, capped}
use Rattle.adopt_context.specs.Allot.{lower_to, allot}
use Rattle.protocol_steps.specs.declared.message.Message.{Message}
use Rattle.protocol_steps.specs.declared.message.Message.TheVariants.{Value, Cost, Threshold, Terminate}
use Rattle.protocol_steps.specs.Agent.{Stepped}
use Rattle.protocol_steps.specs.Adopt.{AdoptView, is_root}
use Rattle.protocol_steps.specs.AdoptBounds.{delta, lower_of, best_lower, best_upper, lower_bound, upper_bound, restore}
use Rattle.protocol_steps.specs.AdoptMessage.{adopt_message}
use Rattle.protocol_steps.specs.AdoptRange.{is_parent}

-- the agent changes its value if it must: to the lowest value with the least UB(d) if its threshold
-- is UB, and otherwise to the lowest value with the least LB(d) if the LB(d) of its own value is
-- above its threshold (step 2 of backTrack)
abbrev pub choose : AdoptView → AdoptView
choose v =
    if is_value (upper_bound v) v.threshold then record v { value = best_upper v }
    else (if nat_lt v.threshold (lower_of v v.value) then record v { value = best_lower v } else v)

-- what is to be allotted: the threshold minus the cost of the value, and no more than the sum of the children's upper bounds
abbrev pub to_allot : AdoptView → ℕ
to_allot v = lower_to (v.threshold - delta v v.value) (capped (upper_sum (row_at v.rows v.value)))

-- what is to be allotted is divided among the children, as their shares for the value of the agent
-- (step 4 of backTrack)
abbrev pub allotted : AdoptView → AdoptView
allotted v = record v { rows = slice_set v.rows v.value (allot (to_allot v) (row_at v.rows v.value)) }

-- whether the agent may end: its threshold equals its upper bound, and it is the root or has taken TERMINATE
abbrev pub may_end : AdoptView → Bool
may_end v = is_value (upper_bound v) v.threshold && (is_root v || v.told)

-- the agent ends if it may (step 6 of backTrack)
abbrev pub settle : AdoptView → AdoptView
settle v = if may_end v then record v { phase = record v.phase { ended = true } } else v

-- the view after backTrack
abbrev pub closed : AdoptView → AdoptView
closed v = settle (allotted (choose (restore v)))

-- the share of a child for the agent's present value
abbrev pub share_of : AdoptView → ℕ → ℕ
share_of v j = (entry_at v.rows v.value (or_zero (position (λ child. child == j) v.place.children))).share

-- the messages to a child: THRESHOLD, and TERMINATE if the agent has ended
abbrev pub messages_to_child : AdoptView → ℕ → List Message
messages_to_child v j =
    Threshold (share_of v j) v.known ∷ (if v.phase.ended then Terminate (put v.known v.own.me v.value) ∷ [] else [])

-- the messages to a neighbour from a view after backTrack: VALUE to a lower neighbour; what
-- `messages_to_child` says to a child; COST to the parent, unless the agent has ended (steps 3, 5
-- and 6)
abbrev pub messages_for : AdoptView → ℕ → List Message
messages_for v j =
    (if has v.place.lower j then Value v.value ∷ [] else [])
    ++ (if has v.place.children j then messages_to_child v j else [])
    ++ (if is_parent v j && not v.phase.ended then Cost v.known (lower_bound v) (upper_bound v) ∷ [] else [])

-- what a view after backTrack sends, by ascending receivers
abbrev pub adopt_sends : AdoptView → List (ℕ × Message)
adopt_sends v = flat_map (λ j. map (λ m. (j, m)) (messages_for v j)) v.own.neighbours

-- backTrack, with which each start and each activation of an ADOPT agent ends: the view after it,
-- and what the agent sends
abbrev pub back_track : AdoptView → Stepped AdoptView
back_track v = record { view = closed v; sends = adopt_sends (closed v) }

-- the start: the agent takes the lowest value with the least LB(d), and then does backTrack
abbrev pub adopt_start : AdoptView → Stepped AdoptView
adopt_start v = back_track (record v { value = best_lower v; phase = record v.phase { started = true } })

-- one activation: the agent handles the messages of a batch in order, and then does backTrack
abbrev pub adopt_step : AdoptView → List (ℕ × Message) → Stepped AdoptView
adopt_step v ls = back_track (fold (λ w l. adopt_message w l.0 l.1) v ls)
