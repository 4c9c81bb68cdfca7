-- Cutting bytes into frames, one frame after the other.
use Rattle.std.proofs.Common.{◌≡◌, ℕ, ◌+◌, ◌≤◌, List, [], ◌∷◌, ◌++◌, length, refl, sym, ap, ◌∙◌, append_assoc, arith, length-append}
use Rattle.std.proofs.lemmas.List.{append-nil}
use Rattle.std.proofs.lemmas.List.Concat.{flat_map-append}
use Rattle.std.proofs.lemmas.List.Elements.{All-push}
use Rattle.std.specs.Prelude.{min, Bool}
use Rattle.dcop_base.specs.Limits.{count_limit}
use Rattle.wire_frames.specs.Frame.{framed, framed_all, EndsAt}
use Rattle.wire_frames.specs.Reader.{Takes}
use Rattle.wire_frames.specs.Cut.{Holds}

-- one more payload
pub framed_all-push : (ps : List (List ℕ)) (p : List ℕ) → framed_all (ps ++ p ∷ []) ≡ framed_all ps ++ framed p
framed_all-push ps p = flat_map-append framed ps (p ∷ []) ∙ ap (λ (x : List ℕ). framed_all ps ++ x) (append-nil (framed p))

-- one more frame is held
pub holds_more : (limit : ℕ) (bytes : List ℕ) (before : List (List ℕ)) (rest : List ℕ) (mid : List (List ℕ)) (p behind : List ℕ) (after : List (List ℕ)) → Holds limit bytes before rest mid
    → length p ≤ limit → rest ≡ framed p ++ behind → after ≡ mid ++ p ∷ [] → Holds limit bytes before behind after
holds_more limit bytes before rest mid p behind after h le is more = record {
  payloads = h.payloads ++ p ∷ [];
  whole = h.whole ∙ ap (λ (x : List ℕ). framed_all h.payloads ++ x) is ∙ sym (append_assoc (framed_all h.payloads) (framed p) behind) ∙ ap (λ (x : List ℕ). x ++ behind) (sym (framed_all-push h.payloads p));
  within = All-push (λ q. length q ≤ limit) h.payloads p h.within le;
  held = more ∙ ap (λ (x : List (List ℕ)). x ++ p ∷ []) h.held ∙ append_assoc before h.payloads (p ∷ []);
}

-- a reader takes a piece where it is cut into frames behind the rest
pub taken : (limit place cut_at new_place : ℕ) (ready new_ready : List (List ℕ)) (rest piece new_rest : List ℕ) (was is : Bool) → Holds limit (rest ++ piece) ready new_rest new_ready
    → length new_rest + cut_at ≡ length rest + length piece → EndsAt limit new_rest is → new_place ≡ min (place + cut_at) count_limit
    → Takes (record { limit = limit; ready = ready; rest = rest; place = place; stuck = was }) piece (record { limit = limit; ready = new_ready; rest = new_rest; place = new_place; stuck = is })
taken limit place cut_at new_place ready new_ready rest piece new_rest was is h at ends moved =
    let long : length (framed_all h.payloads) ≡ cut_at = omega (arith, ap length h.whole, length-append rest piece, length-append (framed_all h.payloads) new_rest) in
    record {
      payloads = h.payloads;
      whole = h.whole;
      within = h.within;
      held = h.held;
      place = moved ∙ ap (λ (x : ℕ). min (place + x) count_limit) (sym long);
      limit = refl;
      ends = ends;
    }
