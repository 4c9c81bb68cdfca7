-- The law on the entries of every ADOPT agent, whatever it receives.
use Rattle.std.proofs.Common.{◌≡◌, ℕ, ◌≤◌, true, max, List, [], ◌∷◌, Option, refl, arith}
use Rattle.std.specs.List.{fold}
use Rattle.dcop_base.specs.declared.knowledge.Private.{Private}
use Rattle.pseudotree.specs.declared.agent.Place.{Place}
use Rattle.adopt_context.specs.Context.{Context, part_of}
use Rattle.adopt_context.specs.Bounds.{Entry}
use Rattle.protocol_steps.specs.declared.message.Message.{Message}
use Rattle.protocol_steps.specs.declared.message.Message.TheVariants.{Token, Done, Util, ValueAll, Value, Cost, Threshold, Terminate}
use Rattle.protocol_steps.specs.Adopt.{AdoptView, new_adopt}
use Rattle.adopt_context.specs.Merge.{lesser, is_at_most, merged}
use Rattle.protocol_steps.specs.AdoptStep.{adopt_start, adopt_step}
use Rattle.run_laws.specs.AdoptLaws.{EntryHolds, EntriesHold, after_batches, AdoptEntries}
use Rattle.run_laws.proofs.BoundLaws.{lowered_over, lowered_at_most, at_most_from}
use Rattle.adopt_context.proofs.KnownLaws.{union_part}
use Rattle.run_laws.proofs.Every.{every_from}
use Rattle.run_laws.proofs.AdoptAgentLaws.{IsKept, Brings}
use Rattle.run_laws.proofs.AdoptStepLaws.{IsDone, step_done, start_done}

-- bounds that are merged into an entry leave its share between the bounds
pub merged_holds : (x : Context) (e : Entry) (r : Context) (l : ℕ) (u : Option ℕ) → EntryHolds x e → part_of r x ≡ true → is_at_most (max e.lower l) (lesser e.upper u) ≡ true → EntryHolds x (merged e r l u)
merged_holds x e r l u a part may = record {
  part = union_part e.context r x a.part part;
  low = lowered_over (max e.share (max e.lower l)) (max e.lower l) (lesser e.upper u) (over e.share (max e.lower l)) (at_most_from (max e.lower l) (lesser e.upper u) may);
  high = lowered_at_most (max e.share (max e.lower l)) (lesser e.upper u);
}
  where
    over : (a b : ℕ) → b ≤ max a b
    over a b = omega arith

abbrev AnyEntry : Context → ℕ → ℕ → Entry → Type 0
AnyEntry x d k e = EntryHolds x e

abbrev AnyBounds : ℕ → ℕ → Context → ℕ → Option ℕ → Type 0
AnyBounds d k r l u = Unit {0}

keeps : IsKept AnyEntry AnyBounds
keeps = record {
  blank_has = λ x d k. record { part = refl; low = omega arith; high = tt };
  moved = λ x y d k e a part. record { part = part; low = a.low; high = a.high };
  merged_has = λ x d k e r l u a part may brings. merged_holds x e r l u a part may;
  reshared = λ x d k e s a low high. record { part = a.part; low = low; high = high };
  range = λ x d k e a. (a.low, a.high);
}

brings : (own : Private) (place : Place) (j : ℕ) (m : Message) → Brings AnyBounds own place j m
brings own place j (Cost c l u) = λ k d at here lt. tt
brings own place j (Token path) = tt
brings own place j (Done visited) = tt
brings own place j (Util scope cells) = tt
brings own place j (ValueAll values) = tt
brings own place j (Value d) = tt
brings own place j (Threshold t c) = tt
brings own place j (Terminate c) = tt

module _ (own : Private) (place : Place) (error : ℕ) where
  abbrev Whole : AdoptView → Type 0
  Whole v = IsDone own place error AnyEntry AnyBounds keeps v

  all_done : (batches : List (List (ℕ × Message))) (v : AdoptView) → Whole v → Whole (fold (λ w ls. (adopt_step w ls).view) v batches)
  all_done [] v a = a
  all_done (ls ∷ rest) v a =
      all_done rest (adopt_step v ls).view
      (step_done own place error AnyEntry AnyBounds keeps v ls a.mid (every_from (λ l. Brings AnyBounds own place l.0 l.1) ls (λ l. brings own place l.0 l.1)))

  entries_hold : (v : AdoptView) → Whole v → EntriesHold v
  entries_hold v a = record { entries = a.mid.entries; low = a.closed.held.low; high = a.closed.held.high; whole = a.closed.whole }

pub adopt_entries : AdoptEntries
adopt_entries own place error batches =
    entries_hold own place error (after_batches (new_adopt own place error) batches)
    (all_done own place error batches (adopt_start (new_adopt own place error)).view (start_done own place error AnyEntry AnyBounds keeps))
