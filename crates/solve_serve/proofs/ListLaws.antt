-- Frames, known bytes, and what a sink holds.
use Rattle.std.proofs.Common.{◌≡◌, ℕ, List, [], ◌∷◌, ◌++◌, All, Option, Some, None, refl, sym, ap, ◌∙◌, append_assoc, append-nil}
use Rattle.std.proofs.lemmas.List.Concat.{flat_map-append}
use Rattle.std.proofs.lemmas.List.Elements.{All-nil, All-head, All-tail, All-cons}
use Rattle.std.specs.Io.KnownBytes.{prepend_known}
use Rattle.dcop_edge.specs.Sink.{Adds}
use Rattle.wire_frames.specs.Frame.{framed, framed_all}

pub prepend_none : (left : Option (List ℕ)) → prepend_known [] left ≡ left
prepend_none None = refl
prepend_none (Some xs) = refl

pub prepend_twice : (xs ys : List ℕ) (left : Option (List ℕ)) → prepend_known xs (prepend_known ys left) ≡ prepend_known (xs ++ ys) left
prepend_twice xs ys None = refl
prepend_twice xs ys (Some zs) = ap Some (sym (append_assoc xs ys zs))

pub Adds-none : (held : Option (List ℕ)) → Adds held [] held
Adds-none None = tt
Adds-none (Some text) = sym (append-nil text)

pub framed_all-append : (ps qs : List (List ℕ)) → framed_all (ps ++ qs) ≡ framed_all ps ++ framed_all qs
framed_all-append ps qs = flat_map-append framed ps qs

-- the frames of two lists of payloads, one after the other
pub framed_front : (ps qs : List (List ℕ)) (rest : List ℕ) → framed_all (ps ++ qs) ++ rest ≡ framed_all ps ++ (framed_all qs ++ rest)
framed_front ps qs rest = ap (λ (x : List ℕ). x ++ rest) (framed_all-append ps qs) ∙ append_assoc (framed_all ps) (framed_all qs) rest

-- one more reply
pub framed_push : (replies : List (List ℕ)) (reply : List ℕ) → framed_all (replies ++ reply ∷ []) ≡ framed_all replies ++ framed reply
framed_push replies reply = framed_all-append replies (reply ∷ []) ∙ ap (λ (x : List ℕ). framed_all replies ++ x) (append-nil (framed reply))

-- what holds of a whole list holds of its front
pub All-front : (P : List ℕ → Type 0) (xs ys : List (List ℕ)) → All P (xs ++ ys) → All P xs
All-front P [] ys all = All-nil P
All-front P (x ∷ xs) ys all = All-cons P x xs (All-head P x (xs ++ ys) all) (All-front P xs ys (All-tail P x (xs ++ ys) all))

-- and what holds of a whole list holds of its back
pub All-back : (P : List ℕ → Type 0) (xs ys : List (List ℕ)) → All P (xs ++ ys) → All P ys
All-back P [] ys all = all
All-back P (x ∷ xs) ys all = All-back P xs ys (All-tail P x (xs ++ ys) all)
