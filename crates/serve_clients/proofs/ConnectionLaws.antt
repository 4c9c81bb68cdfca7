-- Connections that wait, and those that were given back.
use Rattle.std.proofs.Common.{◌≡◌, List, [], ◌∷◌, ◌++◌, Option, Some, None, Result, Ok, Err, OnErr, refl, sym, ap, append_assoc, append-nil}
use Rattle.serve_clients.specs.Listener.{first_of, last_of}
use Rattle.serve_clients.specs.Sessions.{all_before, all_behind, AreReturned}

pub all_before_none : {C : Type 0} (w : Option (List C)) → all_before [] w ≡ w
all_before_none None = refl
all_before_none (Some xs) = refl

pub all_before_more : {C : Type 0} (cs : List C) (c : C) (w : Option (List C)) → all_before cs (first_of c w) ≡ all_before (cs ++ c ∷ []) w
all_before_more cs c None = refl
all_before_more cs c (Some xs) = ap Some (sym (append_assoc cs (c ∷ []) xs))

pub all_behind_none : {C : Type 0} (w : Option (List C)) → all_behind w [] ≡ w
all_behind_none None = refl
all_behind_none (Some xs) = ap Some (append-nil xs)

pub all_behind_more : {C : Type 0} (w : Option (List C)) (c : C) (cs : List C) → all_behind (last_of w c) cs ≡ all_behind w (c ∷ cs)
all_behind_more None c cs = refl
all_behind_more (Some xs) c cs = ap Some (append_assoc xs (c ∷ []) cs)

-- if nothing was accepted, nothing is given back
pub none_returned : {C X E : Type 0} (result : Result X E) (waiting closed : Option (List C)) → OnErr result (AreReturned waiting waiting closed closed)
none_returned (Ok x) waiting closed = tt
none_returned (Err e) waiting closed = record { connections = []; taken = sym (all_before_none waiting); given = sym (all_behind_none closed) }
