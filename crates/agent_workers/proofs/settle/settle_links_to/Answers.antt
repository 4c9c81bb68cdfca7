use Rattle.std.proofs.Common.{ℕ, length, get_or, sym, subst, arith}
use Rattle.agent_workers.specs.Settled.{AreHomes}
use Rattle.worker_laws.specs.OneNode.{home as home_of}
use Rattle.std.proofs.lemmas.Option.{slice_get-get_or}
use Rattle.agent_workers.proofs.JoinLaws.{joined_still, sound_still, quiet_same}
use Rattle.agent_workers.proofs.SettleLaws.{place_more, places_all, place_still, place_past}
use Rattle.agent_workers.proofs.settle.settle_links_to.Goals as goal

pub settle_place-more-requires-clause-joined : goal.settle_place-more-requires-clause-joined
settle_place-more-requires-clause-joined g c =
    joined_still (λ b. (goal.Machine-dyn g (b.vtable, b.value)).meaning b.value) c.args.nodes c.args.cells.now c.loop-place.cells c.requires.joined (quiet_same (λ b. (goal.Machine-dyn g (b.vtable, b.value)).meaning b.value) c.args.cells.now c.loop-place.cells c.loop-place.invariant.quiet)

pub settle_place-more-requires-clause-sound : goal.settle_place-more-requires-clause-sound
settle_place-more-requires-clause-sound g c =
    sound_still (λ b. (goal.Machine-dyn g (b.vtable, b.value)).meaning b.value) c.args.cells.now c.loop-place.cells c.requires.sound c.loop-place.invariant.quiet

pub settle_place-more-requires-clause-place : goal.settle_place-more-requires-clause-place
settle_place-more-requires-clause-place g c =
    let test = c.loop-place-test.true in
    let degree = c.degree-place-end.ensures in
    place_still (λ b. (goal.Machine-dyn g (b.vtable, b.value)).meaning b.value) c.args.to c.loop-place.place c.args.cells.now c.loop-place.cells (get_or c.args.cells.now c.args.to c.index-cells-to.result) c.loop-place.invariant.quiet
    (slice_get-get_or c.args.cells.now c.args.to c.index-cells-to.result c.requires.inside) (omega (arith, test, degree))

pub loop-place-preserved : goal.loop-place-preserved
loop-place-preserved g c =
    let size = c.loop-place.invariant.quiet.size in
    let inside = c.requires.inside in
    place_more (λ b. (goal.Machine-dyn g (b.vtable, b.value)).meaning b.value) c.args.nodes c.args.to c.loop-place.place c.args.cells.now c.loop-place.cells c.settle_place-more.new.cells
    (joined_still (λ b. (goal.Machine-dyn g (b.vtable, b.value)).meaning b.value) c.args.nodes c.args.cells.now c.loop-place.cells c.requires.joined (quiet_same (λ b. (goal.Machine-dyn g (b.vtable, b.value)).meaning b.value) c.args.cells.now c.loop-place.cells c.loop-place.invariant.quiet))
    (omega (arith, size, inside)) c.loop-place.invariant c.settle_place-more.ensures.settled

pub returns : goal.returns
returns g c = let test = c.loop-place-test.false in let degree = c.degree-place-end.ensures in record {
  settled = places_all (λ b. (goal.Machine-dyn g (b.vtable, b.value)).meaning b.value) (home_of c.args.nodes (length c.args.cells.now)) c.args.to c.loop-place.place c.args.cells.now c.loop-place.cells
      (place_past (λ b. (goal.Machine-dyn g (b.vtable, b.value)).meaning b.value) c.args.to c.loop-place.place c.args.cells.now (get_or c.args.cells.now c.args.to c.index-cells-to.result)
      (slice_get-get_or c.args.cells.now c.args.to c.index-cells-to.result c.requires.inside) (omega (arith, test, degree)))
      c.loop-place.invariant;
}

pub settle_place-more-requires-clause-homes : goal.settle_place-more-requires-clause-homes
settle_place-more-requires-clause-homes g c = λ many. subst (λ (n : ℕ). AreHomes c.args.nodes n c.args.homes.now) (sym c.loop-place.invariant.quiet.size) (c.requires.homes many)
