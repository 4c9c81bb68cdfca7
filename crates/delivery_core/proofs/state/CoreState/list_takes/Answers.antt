use Rattle.std.proofs.Common.{◌≡◌, ◌<◌, ℕ, Bool, false, List, length, slice_set, refl, sym, subst, ◌∙◌}
use Rattle.std.proofs.lemmas.Bool.{eqb-true}
use Rattle.std.proofs.lemmas.Option.{slice_get_read}
use Rattle.protocol_steps.specs.declared.event.Take.{Take}
use Rattle.delivery_core.specs.State.{SeatView, CoreView}
use Rattle.delivery_core.specs.Takes.{KnowsBusy}
use Rattle.delivery_core.proofs.CalmLaws.{one_calm, no_items}
use Rattle.delivery_core.proofs.state.CoreState.list_takes.Goals as goal

pub invariant_of-self : goal.invariant_of-self
invariant_of-self g c =
    let seats = c.self.inside.seats.items in
    let x : SeatView = c.index.result.now in
    let known : c.args.me < length seats = subst (λ (s : CoreView). c.args.me < length s.seats) (sym c.self.view_is) c.requires in
    let me : ℕ = c.me.inside.0 in
    let lt : me < length seats = subst (λ (k : ℕ). k < length seats) (sym c.me.view_is) known in
    let there = slice_get_read seats (length seats) me x refl lt c.index.ensures in
    let empty : length c.list_takes.new.takes.items ≡ 0 = sym c.list_takes.new.takes.ok.0 ∙ eqb-true c.list_takes.new.takes.len 0 (sym {A = Bool} c.is_empty.ensures ∙ c.if-is_empty.true) in
    let none = sym {A = List Take} c.in_ok-list_takes.ensures ∙ no_items {A = Take} c.list_takes.new.takes.items empty in
    let set : slice_set c.self.inside.arrivals me false ≡ c.settle.new.self = sym {A = List Bool} c.settle.ensures in
    subst (λ (busy : List Bool). KnowsBusy busy seats) set (one_calm c.self.inside.arrivals seats me x c.self.invariant there none)
