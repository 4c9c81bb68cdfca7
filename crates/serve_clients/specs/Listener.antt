-- What a listener gives and takes back.
use Rattle.std.specs.Prelude.{◌≡◌, ℕ, ◌≤◌, List, [], ◌∷◌, ◌++◌, Option, Result, Ok, Err, option_map}
use Rattle.dcop_edge.specs.Faults.{Rose}
use Rattle.serve_clients.specs.declared.listen_fault.ListenFault.{ListenFault}
use Rattle.serve_clients.specs.declared.listen_fault.ListenFault.TheVariants as faults

-- if a call failed because the listener did, the listener's count of faults rose; if it succeeded
-- or ran out of memory, that count is unchanged
abbrev pub HasListenCause : {T : Type 0} → ℕ → ℕ → Result T ListenFault → Type 0
HasListenCause old new (Ok value) = new ≡ old
HasListenCause old new (Err faults.Failed) = (old ≤ new) × Rose old new
HasListenCause old new (Err faults.NoMemory) = new ≡ old

-- connections, if they are known, with this one before them
abbrev pub first_of : {C : Type 0} → C → Option (List C) → Option (List C)
first_of c told = option_map (λ cs. c ∷ cs) told

-- connections, if they are known, with this one after them
abbrev pub last_of : {C : Type 0} → Option (List C) → C → Option (List C)
last_of told c = option_map (λ cs. cs ++ c ∷ []) told
