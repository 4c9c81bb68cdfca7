use Rattle.std.proofs.Common.{nat_le, Bool, length, refl, subst}
use Rattle.std.specs.Prelude.{OnOk}
use Rattle.std.proofs.lemmas.Bool.{le-leb}
use Rattle.agent_workers.proofs.PlayLaws.{part_ready}
use Rattle.agent_workers.proofs.BreakLaws.{by_parts, part_call, parts_left}
use Rattle.agent_workers.specs.Watched.{IsPlayedInTurns}
use Rattle.agent_workers.proofs.TurnLaws.{turns_call}
use Rattle.agent_workers.proofs.SharedLaws.{parts_within, played_in_parts}
use Rattle.agent_workers.proofs.play.play_cells.Goals as goal

pub play_parts-requires-clause-accepts : goal.play_parts-requires-clause-accepts
play_parts-requires-clause-accepts g c κs within = record {
  each = λ before part after p whole is. (part_ready (λ b. (goal.Machine-dyn g (b.vtable, b.value)).meaning b.value) c.args.cells.now before part after p.now whole is c.requires.ready c.requires.few, record { shared = c.type_bounds.sync-G.shared });
}

pub returns-clause-ready : goal.returns-clause-ready
returns-clause-ready g c = let p = c.play_parts.ensures.parts in (by_parts (λ b. (goal.Machine-dyn g (b.vtable, b.value)).meaning b.value) _ (λ a x r ready few call. part_call (λ b. (goal.Machine-dyn g (b.vtable, b.value)).meaning b.value) a x call.argument.now call.after_call.now r call.argument_is call.left (call.call.0, (call.call.1.0, (call.call.1.1.0, call.call.1.1.1.0)))) c.args.size p.count c.args.cells.now c.play_parts.new.all c.play_parts.result c.requires.ready c.requires.few p.parts).ready

pub returns-clause-ok : goal.returns-clause-ok
returns-clause-ok g c = let p = c.play_parts.ensures.parts in (by_parts (λ b. (goal.Machine-dyn g (b.vtable, b.value)).meaning b.value) _ (λ a x r ready few call. part_call (λ b. (goal.Machine-dyn g (b.vtable, b.value)).meaning b.value) a x call.argument.now call.after_call.now r call.argument_is call.left (call.call.0, (call.call.1.0, (call.call.1.1.0, call.call.1.1.1.0)))) c.args.size p.count c.args.cells.now c.play_parts.new.all c.play_parts.result c.requires.ready c.requires.few p.parts).ok

pub returns-clause-err : goal.returns-clause-err
returns-clause-err g c = let p = c.play_parts.ensures.parts in (by_parts (λ b. (goal.Machine-dyn g (b.vtable, b.value)).meaning b.value) _ (λ a x r ready few call. part_call (λ b. (goal.Machine-dyn g (b.vtable, b.value)).meaning b.value) a x call.argument.now call.after_call.now r call.argument_is call.left (call.call.0, (call.call.1.0, (call.call.1.1.0, call.call.1.1.1.0)))) c.args.size p.count c.args.cells.now c.play_parts.new.all c.play_parts.result c.requires.ready c.requires.few p.parts).err

pub returns-clause-left : goal.returns-clause-left
returns-clause-left g c parts some within = let p = c.play_parts.ensures.parts in
    parts_left (λ b. (goal.Machine-dyn g (b.vtable, b.value)).meaning b.value) c.play_parts.result _ parts c.args.cells.now c.play_parts.new.all (parts_within _ c.args.size p.count parts c.args.cells.now c.play_parts.new.all c.play_parts.result p.parts some within) (by_parts (λ b. (goal.Machine-dyn g (b.vtable, b.value)).meaning b.value) _ (λ a x r ready few call. part_call (λ b. (goal.Machine-dyn g (b.vtable, b.value)).meaning b.value) a x call.argument.now call.after_call.now r call.argument_is call.left (call.call.0, (call.call.1.0, (call.call.1.1.0, call.call.1.1.1.0)))) c.args.size p.count c.args.cells.now c.play_parts.new.all c.play_parts.result c.requires.ready c.requires.few p.parts)

pub returns-clause-turns : goal.returns-clause-turns
returns-clause-turns g c few =
    let call = c.play_parts.ensures.whole few in
    subst (λ (b : Bool). OnOk c.play_parts.result (IsPlayedInTurns (λ b. (goal.Machine-dyn g (b.vtable, b.value)).meaning b.value) b c.args.cells.now c.play_parts.new.all)) (le-leb (length c.args.cells.now) c.args.size few)
    (turns_call (λ b. (goal.Machine-dyn g (b.vtable, b.value)).meaning b.value) (nat_le (length c.args.cells.now) c.args.size) c.args.cells.now c.play_parts.new.all call.argument.now call.after_call.now c.play_parts.result call.argument_is call.left call.call.1.1.1.1)

pub returns-clause-parts : goal.returns-clause-parts
returns-clause-parts g c = let p = c.play_parts.ensures.parts in
    played_in_parts (λ b. (goal.Machine-dyn g (b.vtable, b.value)).meaning b.value) _ (nat_le (length c.args.cells.now) c.args.size) c.args.size p.count c.args.cells.now c.play_parts.new.all c.play_parts.result refl
    (λ a x r call. turns_call (λ b. (goal.Machine-dyn g (b.vtable, b.value)).meaning b.value) (nat_le (length c.args.cells.now) c.args.size) a x call.argument.now call.after_call.now r call.argument_is call.left call.call.1.1.1.1) p.parts
