-- Laws on ADOPT agents.
use Rattle.std.specs.Prelude.{◌≡◌, ℕ, ◌+◌, ◌≤◌, true, List}
use Rattle.std.specs.List.{fold}
use Rattle.dcop_base.specs.declared.knowledge.Private.{Private}
use Rattle.dcop_base.specs.Limits.{amount_limit}
use Rattle.pseudotree.specs.declared.agent.Place.{Place}
use Rattle.adopt_context.specs.Context.{Context, part_of, names_all}
use Rattle.adopt_context.specs.Bounds.{Entry, row_at, entry_at, lower_sum}
use Rattle.adopt_context.specs.Allot.{share_sum}
use Rattle.protocol_steps.specs.declared.message.Message.{Message}
use Rattle.protocol_steps.specs.Adopt.{AdoptView, new_adopt, higher}
use Rattle.protocol_steps.specs.AdoptBounds.{delta, lower_bound, upper_bound}
use Rattle.protocol_steps.specs.AdoptStep.{adopt_start, adopt_step}
use Rattle.dcop_optimum.specs.Enclosing.{IsAtMost}

-- the context of an entry is part of what is known, and its share is between its bounds
pub record EntryHolds (known : Context) (e : Entry) : Type 0 where
  pub part : part_of e.context known ≡ true
  pub low : e.lower ≤ e.share
  pub high : IsAtMost e.share e.upper

-- the entries of an agent: what `EntryHolds` says is true of each one; the threshold is between the
-- agent's bounds; and it is the cost of the value plus the shares of the children if all higher
-- neighbours are known and the sum for the lower bound is not cut off at the cap
pub record EntriesHold (v : AdoptView) : Type 0 where
  pub entries : (d k : ℕ) → EntryHolds v.known (entry_at v.rows d k)
  pub low : lower_bound v ≤ v.threshold
  pub high : IsAtMost v.threshold (upper_bound v)
  pub whole : names_all v.known (higher v) ≡ true → delta v v.value + lower_sum (row_at v.rows v.value) ≤ amount_limit
      → v.threshold ≡ delta v v.value + share_sum (row_at v.rows v.value)

-- an agent after its start and activations on these batches
abbrev pub after_batches : AdoptView → List (List (ℕ × Message)) → AdoptView
after_batches made batches = fold (λ v ls. (adopt_step v ls).view) (adopt_start made).view batches

-- what `EntriesHold` says is true of every agent after its start and after every activation,
-- whatever it receives
abbrev pub AdoptEntries : Type 0
AdoptEntries = (own : Private) (place : Place) (error : ℕ) (batches : List (List (ℕ × Message))) → EntriesHold (after_batches (new_adopt own place error) batches)
