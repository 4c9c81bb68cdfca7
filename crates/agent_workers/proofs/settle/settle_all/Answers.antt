use Rattle.std.proofs.Common.{ℕ, sym, subst}
use Rattle.agent_workers.specs.Settled.{AreHomes}
use Rattle.agent_workers.proofs.JoinLaws.{joined_still, sound_still, quiet_same}
use Rattle.agent_workers.proofs.SettleLaws.{agent_more}
use Rattle.agent_workers.proofs.settle.settle_all.Goals as goal

pub settle_links_to-work-requires-clause-joined : goal.settle_links_to-work-requires-clause-joined
settle_links_to-work-requires-clause-joined g c =
    joined_still (λ b. (goal.Machine-dyn g (b.vtable, b.value)).meaning b.value) c.args.nodes c.args.cells.now c.loop-to.cells c.requires.joined (quiet_same (λ b. (goal.Machine-dyn g (b.vtable, b.value)).meaning b.value) c.args.cells.now c.loop-to.cells c.loop-to.invariant.quiet)

pub settle_links_to-work-requires-clause-sound : goal.settle_links_to-work-requires-clause-sound
settle_links_to-work-requires-clause-sound g c =
    sound_still (λ b. (goal.Machine-dyn g (b.vtable, b.value)).meaning b.value) c.args.cells.now c.loop-to.cells c.requires.sound c.loop-to.invariant.quiet

pub loop-to-preserved : goal.loop-to-preserved
loop-to-preserved g c =
    agent_more (λ b. (goal.Machine-dyn g (b.vtable, b.value)).meaning b.value) c.args.nodes c.loop-to.to c.args.cells.now c.loop-to.cells c.settle_links_to-work.new.cells
    (joined_still (λ b. (goal.Machine-dyn g (b.vtable, b.value)).meaning b.value) c.args.nodes c.args.cells.now c.loop-to.cells c.requires.joined (quiet_same (λ b. (goal.Machine-dyn g (b.vtable, b.value)).meaning b.value) c.args.cells.now c.loop-to.cells c.loop-to.invariant.quiet))
    c.loop-to.invariant c.settle_links_to-work.ensures.settled

pub settle_links_to-work-requires-clause-homes : goal.settle_links_to-work-requires-clause-homes
settle_links_to-work-requires-clause-homes g c = λ many. subst (λ (n : ℕ). AreHomes c.args.nodes n c.homes_of-homes.result) (sym c.loop-to.invariant.quiet.size) (c.homes_of-homes.ensures many)
