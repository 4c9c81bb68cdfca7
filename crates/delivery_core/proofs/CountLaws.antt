-- How many messages were taken, after an event.
use Rattle.std.proofs.Common.{◌≡◌, ℕ, ◌+◌, ◌<◌, List, length, get_or, Option, Some, min, sym, ap, ◌∙◌, arith}
use Rattle.std.specs.List.{slice_get, slice_set, sum_by}
use Rattle.std.proofs.lemmas.Option.{slice_get_within, get_or_from_slice_get}
use Rattle.std.proofs.lemmas.List.Sums.{sum_by-set, sum_by-append}
use Rattle.dcop_base.specs.Problem.{Dcop}
use Rattle.protocol_steps.specs.declared.event.Take.{Take}
use Rattle.protocol_steps.specs.declared.event.Event.{Event}
use Rattle.protocol_steps.specs.View.{View}
use Rattle.protocol_steps.specs.Step.{step_of}
use Rattle.protocol_steps.specs.Network.{Desk, Network, batch}
use Rattle.protocol_steps.specs.Effect.{desk_after, network_after, effect, effect_at, deliveries}
use Rattle.delivery_core.specs.State.{SeatView}
use Rattle.delivery_core.specs.Shown.{ShowsNetwork}
use Rattle.delivery_core.proofs.ShownLaws.{there_is, view_there}
use Rattle.delivery_core.proofs.ActLaws.{Seated}

abbrev pub counts : List Take → ℕ
counts ts = sum_by (λ t. t.count) ts

abbrev taken_by : Desk → ℕ
taken_by x = counts x.takes

pub deliveries_after : (p : Dcop) (net : Network) (seats : List SeatView) → ShowsNetwork p net seats → (e : Event) → Seated seats e → deliveries (effect net e) ≡ deliveries net + counts e.takes
deliveries_after p net seats s e h =
    let i : ℕ = e.agent in
    let lt : i < length seats = slice_get_within seats i h.seat h.here in
    let d = there_is net.desks i (omega (arith, lt, s.desks)) in
    let ls = batch net.desks i e.takes in
    let y : Desk = desk_after d.0 (step_of h.seat.view ls).sends e.takes in
    let is : network_after net e h.seat.view d.0 ls ≡ effect net e =
    ap (λ (v : Option View). effect_at net e v (Some d.0)) (sym (view_there p net seats s i (Some h.seat) h.here)) ∙ ap (λ (x : Option Desk). effect_at net e (slice_get net.views i) x) (sym d.1) in
    let set : sum_by taken_by (slice_set net.desks i y) + taken_by (get_or net.desks i d.0) ≡ sum_by taken_by net.desks + taken_by y = sum_by-set taken_by net.desks i y d.0 (omega (arith, lt, s.desks)) in
    let old : taken_by (get_or net.desks i d.0) ≡ taken_by d.0 = ap taken_by (get_or_from_slice_get net.desks i d.0 d.0 d.1) in
    let new : taken_by y ≡ taken_by d.0 + counts e.takes = sum_by-append (λ (t : Take). t.count) d.0.takes e.takes in
    let whole : sum_by taken_by (slice_set net.desks i y) ≡ deliveries net + counts e.takes = omega (arith, set, old, new) in
    sym (ap deliveries is) ∙ whole

pub counted : (D S d s r m : ℕ) → d ≡ min D m → s ≡ min S m → r ≡ min (d + s) m → r ≡ min (D + S) m
counted D S d s r m p q h = omega arith
