use Rattle.std.proofs.Common.{◌≡◌, ◌<◌, ℕ, List, Vec, Global, length, drop, sym, subst, arith}
use Rattle.std.specs.List.{All}
use Rattle.std.proofs.lemmas.List.{take_at}
use Rattle.shared_costs.proofs.rounds.places_of.Goals as goal

pub loop-place-preserved : goal.loop-place-preserved
loop-place-preserved c =
    let n = length c.args.tables.now in
    let new = c.push_place.new.lists in
    let old = c.loop-place.lists.items in
    let before = subst (λ (lists : List (Vec ℕ Global)). All (λ list. All (λ k. k < n) list.items) lists) (sym c.as_mut_slice.ensures.value) c.loop-place.invariant.places in
    let after = c.in_ok-push_place.ensures n c.loop-place-test.true before in
    let long : length new ≡ c.loop-place.lists.len = omega (arith, c.push_place.auto.lists, c.as_mut_slice.ensures.len) in
    record {
      many = c.loop-place.invariant.many;
      places = subst (λ (lists : List (Vec ℕ Global)). All (λ list. All (λ k. k < n) list.items) lists) (sym (take_at new (drop (length new) old) c.loop-place.lists.len long)) after;
    }
