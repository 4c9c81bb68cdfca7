use Rattle.std.proofs.Common.{◌∙◌, ◌++◌, ◌∷◌, [], Err, sym, ap, subst}
use Rattle.node_exchange.specs.declared.fault.PassFault.TheVariants.{NoMemory}
use Rattle.node_exchange.specs.Faults.{IsByteFault, IsNoDifference, dial_fault}
use Rattle.node_exchange.specs.Honest.{AreHonest}
use Rattle.node_exchange.specs.Turned.{load, AreTurnedWith, lost_by}
use Rattle.node_exchange.proofs.LetterLaws.{all_same, all_same_then}
use Rattle.node_exchange.proofs.ReceiveLaws.{still_apart}
use Rattle.node_exchange.proofs.PassLaws.{err_on, nothing_on, fault_still, turned_two, first_joined, first_all, turned_honest, back_frames, back_letters, turn_come}
use Rattle.node_exchange.proofs.TurnLaws.{with_none, with_pair, gone_pair, gone_dial, first_none, first_whole, carried_on, turned_any}
use Rattle.node_exchange.proofs.LoadLaws.{same_load}
use Rattle.node_exchange.proofs.WholeLaws.{last_two}
use Rattle.node_exchange.proofs.pass.pass_pair.Goals as goal

pub returns-in_err-there-clause-same : goal.returns-in_err-there-clause-same
returns-in_err-there-clause-same g c = all_same c.args.passings.now

pub returns-in_err-back-clause-same : goal.returns-in_err-back-clause-same
returns-in_err-back-clause-same g c = all_same c.args.passings.now

pub returns-in_err-came-clause-same : goal.returns-in_err-came-clause-same
returns-in_err-came-clause-same g c = all_same c.args.passings.now

pub returns-in_err-there-clause-loads : goal.returns-in_err-there-clause-loads
returns-in_err-there-clause-loads g c =
    carried_on g.D.W.Wire.told g.D.W.Wire.is_joined c.from_residual.result _ _ c.args.wires.now.items c.args.wires.now.items c.from_residual.ensures.1
    (first_none g.D.W.Wire.told g.D.W.Wire.is_joined _ _ c.args.wires.now.items c.args.wires.now.items (with_none g.D.W.Wire.told g.D.W.Wire.is_joined _ c.args.wires.now.items))

pub returns-in_err-back-clause-loads : goal.returns-in_err-back-clause-loads
returns-in_err-back-clause-loads g c =
    carried_on g.D.W.Wire.told g.D.W.Wire.is_joined c.from_residual-in_err-back.result _ _ c.args.wires.now.items c.args.wires.now.items c.from_residual-in_err-back.ensures.1
    (first_none g.D.W.Wire.told g.D.W.Wire.is_joined _ _ c.args.wires.now.items c.args.wires.now.items (with_none g.D.W.Wire.told g.D.W.Wire.is_joined _ c.args.wires.now.items))

pub returns-in_err-came-clause-loads : goal.returns-in_err-came-clause-loads
returns-in_err-came-clause-loads g c =
    carried_on g.D.W.Wire.told g.D.W.Wire.is_joined c.from_residual-in_err-came.result _ _ c.args.wires.now.items c.remove-ends.new.self.items c.from_residual-in_err-came.ensures.1
    (first_none g.D.W.Wire.told g.D.W.Wire.is_joined _ _ c.args.wires.now.items c.remove-ends.new.self.items
    (subst (λ ps. AreTurnedWith g.D.W.Wire.told g.D.W.Wire.is_joined (lost_by {T = Unit {0}} (Err (dial_fault c.in_err-came.field-0.0))) [] c.args.wires.now.items ps) (sym c.remove-ends.ensures.items) (gone_dial g.D.W.Wire.told g.D.W.Wire.is_joined c.in_err-came.field-0.0 c.args.wires.now.items c.requires.wires)))

pub returns-in_err-push-clause-loads : goal.returns-in_err-push-clause-loads
returns-in_err-push-clause-loads g c =
    carried_on g.D.W.Wire.told g.D.W.Wire.is_joined c.from_residual-in_err-push.result NoMemory _ c.args.wires.now.items c.push.new.self.items c.from_residual-in_err-push.ensures.1
    (first_none g.D.W.Wire.told g.D.W.Wire.is_joined _ _ c.args.wires.now.items c.push.new.self.items
    (subst (λ ps. AreTurnedWith g.D.W.Wire.told g.D.W.Wire.is_joined 1 [] c.args.wires.now.items ps) (sym (c.in_err-push.ensures.items ∙ c.remove-ends.ensures.items)) (gone_pair g.D.W.Wire.told g.D.W.Wire.is_joined c.args.wires.now.items c.requires.wires)))

pub returns-in_err-take_in-clause-loads : goal.returns-in_err-take_in-clause-loads
returns-in_err-take_in-clause-loads g c =
    carried_on g.D.W.Wire.told g.D.W.Wire.is_joined c.from_residual-in_err-take_in.result _ _ c.args.wires.now.items c.push.new.self.items c.from_residual-in_err-take_in.ensures.1
    (first_whole g.D.W.Wire.told g.D.W.Wire.is_joined _ _ c.args.wires.now.items c.push.new.self.items
    (subst (λ ps. AreTurnedWith g.D.W.Wire.told g.D.W.Wire.is_joined 0 (load c.args.first c.args.second c.args.passings.now ∷ []) c.args.wires.now.items ps) (sym (c.in_ok-push.ensures.items ∙ ap (λ ps. ps ++ (c.in_ok-came.came.first, c.in_ok-came.came.second) ∷ []) c.remove-ends.ensures.items))
    (with_pair g.D.W.Wire.told g.D.W.Wire.is_joined _ c.args.wires.now.items c.remove-ends.result (c.in_ok-came.came.first, c.in_ok-came.came.second) c.requires.wires c.remove-ends.ensures.value
    (same_load g.D.W.Wire.told g.D.W.Wire.is_joined c.args.first c.args.second c.args.passings.now c.in_ok-there.there c.in_ok-back.back c.remove-ends.result (c.in_ok-came.came.first, c.in_ok-came.came.second) c.in_ok-there.ensures.frames c.in_ok-back.ensures.frames c.in_ok-came.ensures.later))))

pub returns-in_err-take_in-2-clause-loads : goal.returns-in_err-take_in-2-clause-loads
returns-in_err-take_in-2-clause-loads g c =
    carried_on g.D.W.Wire.told g.D.W.Wire.is_joined c.from_residual-in_err-take_in-2.result _ _ c.args.wires.now.items c.push.new.self.items c.from_residual-in_err-take_in-2.ensures.1
    (first_whole g.D.W.Wire.told g.D.W.Wire.is_joined _ _ c.args.wires.now.items c.push.new.self.items
    (subst (λ ps. AreTurnedWith g.D.W.Wire.told g.D.W.Wire.is_joined 0 (load c.args.first c.args.second c.args.passings.now ∷ []) c.args.wires.now.items ps) (sym (c.in_ok-push.ensures.items ∙ ap (λ ps. ps ++ (c.in_ok-came.came.first, c.in_ok-came.came.second) ∷ []) c.remove-ends.ensures.items))
    (with_pair g.D.W.Wire.told g.D.W.Wire.is_joined _ c.args.wires.now.items c.remove-ends.result (c.in_ok-came.came.first, c.in_ok-came.came.second) c.requires.wires c.remove-ends.ensures.value
    (same_load g.D.W.Wire.told g.D.W.Wire.is_joined c.args.first c.args.second c.args.passings.now c.in_ok-there.there c.in_ok-back.back c.remove-ends.result (c.in_ok-came.came.first, c.in_ok-came.came.second) c.in_ok-there.ensures.frames c.in_ok-back.ensures.frames c.in_ok-came.ensures.later))))

pub returns-clause-loads : goal.returns-clause-loads
returns-clause-loads g c =
    subst (λ ps. AreTurnedWith g.D.W.Wire.told g.D.W.Wire.is_joined 0 (load c.args.first c.args.second c.args.passings.now ∷ []) c.args.wires.now.items ps) (sym (c.in_ok-push.ensures.items ∙ ap (λ ps. ps ++ (c.in_ok-came.came.first, c.in_ok-came.came.second) ∷ []) c.remove-ends.ensures.items))
    (with_pair g.D.W.Wire.told g.D.W.Wire.is_joined _ c.args.wires.now.items c.remove-ends.result (c.in_ok-came.came.first, c.in_ok-came.came.second) c.requires.wires c.remove-ends.ensures.value
    (same_load g.D.W.Wire.told g.D.W.Wire.is_joined c.args.first c.args.second c.args.passings.now c.in_ok-there.there c.in_ok-back.back c.remove-ends.result (c.in_ok-came.came.first, c.in_ok-came.came.second) c.in_ok-there.ensures.frames c.in_ok-back.ensures.frames c.in_ok-came.ensures.later))

pub returns-in_err-there-clause-wires : goal.returns-in_err-there-clause-wires
returns-in_err-there-clause-wires g c = turned_any g.D.W.Wire.told g.D.W.Wire.is_joined c.from_residual.result _ c.args.wires.now.items c.args.wires.now.items (returns-in_err-there-clause-loads g c)

pub returns-in_err-back-clause-wires : goal.returns-in_err-back-clause-wires
returns-in_err-back-clause-wires g c = turned_any g.D.W.Wire.told g.D.W.Wire.is_joined c.from_residual-in_err-back.result _ c.args.wires.now.items c.args.wires.now.items (returns-in_err-back-clause-loads g c)

pub returns-in_err-came-clause-wires : goal.returns-in_err-came-clause-wires
returns-in_err-came-clause-wires g c = turned_any g.D.W.Wire.told g.D.W.Wire.is_joined c.from_residual-in_err-came.result _ c.args.wires.now.items c.remove-ends.new.self.items (returns-in_err-came-clause-loads g c)

pub returns-in_err-push-clause-wires : goal.returns-in_err-push-clause-wires
returns-in_err-push-clause-wires g c = turned_any g.D.W.Wire.told g.D.W.Wire.is_joined c.from_residual-in_err-push.result _ c.args.wires.now.items c.push.new.self.items (returns-in_err-push-clause-loads g c)

pub returns-in_err-take_in-clause-wires : goal.returns-in_err-take_in-clause-wires
returns-in_err-take_in-clause-wires g c = turned_any g.D.W.Wire.told g.D.W.Wire.is_joined c.from_residual-in_err-take_in.result _ c.args.wires.now.items c.push.new.self.items (returns-in_err-take_in-clause-loads g c)

pub returns-in_err-take_in-2-clause-wires : goal.returns-in_err-take_in-2-clause-wires
returns-in_err-take_in-2-clause-wires g c = turned_any g.D.W.Wire.told g.D.W.Wire.is_joined c.from_residual-in_err-take_in-2.result _ c.args.wires.now.items c.push.new.self.items (returns-in_err-take_in-2-clause-loads g c)

pub returns-clause-wires : goal.returns-clause-wires
returns-clause-wires g c = (load c.args.first c.args.second c.args.passings.now ∷ [], returns-clause-loads g c)

pub returns-in_err-take_in-clause-differs : goal.returns-in_err-take_in-clause-differs
returns-in_err-take_in-clause-differs g c = λ nodes two.
    err_on c.from_residual-in_err-take_in.result _ (IsByteFault nodes c.args.passings.now) c.from_residual-in_err-take_in.ensures.1 (c.in_err-take_in.ensures.differs nodes two)

pub take_in-requires-2 : goal.take_in-requires-2
take_in-requires-2 g c = record { apart = still_apart c.args.passings.now c.take_in.new.passings c.take_in.ensures.same c.requires.across.1.apart }

pub returns-in_err-take_in-2-clause-same : goal.returns-in_err-take_in-2-clause-same
returns-in_err-take_in-2-clause-same g c = all_same_then c.args.passings.now c.take_in.new.passings c.take_in-2.new.passings c.take_in.ensures.same c.take_in-2.ensures.same

pub returns-in_err-take_in-2-clause-differs : goal.returns-in_err-take_in-2-clause-differs
returns-in_err-take_in-2-clause-differs g c = λ nodes two.
    err_on c.from_residual-in_err-take_in-2.result _ (IsByteFault nodes c.args.passings.now) c.from_residual-in_err-take_in-2.ensures.1
    (fault_still nodes c.args.passings.now c.take_in.new.passings _ c.take_in.ensures.same (c.in_err-take_in-2.ensures.differs nodes (turned_two nodes c.args.first c.args.second two)))

pub returns-in_err-take_in-2-clause-honest : goal.returns-in_err-take_in-2-clause-honest
returns-in_err-take_in-2-clause-honest g c = λ h come.
    let joined = first_joined g.D.W.Wire.told g.D.W.Wire.is_joined c.args.wires.now.items c.remove-ends.result h c.requires.wires c.remove-ends.ensures.value in
    let all = first_all g.D.W.Wire.told g.D.W.Wire.is_joined c.args.wires.now.items c.remove-ends.result h c.requires.wires c.remove-ends.ensures.value in
    let carried = c.in_ok-came.ensures.honest joined all in
    let one = c.in_ok-take_in.ensures.honest (c.as_slice.ensures ∙ carried.there ∙ c.in_ok-there.ensures.frames) c.in_ok-there.ensures.letters in
    let two = c.in_err-take_in-2.ensures.honest (back_frames c.args.first c.args.second c.args.passings.now c.take_in.new.passings c.in_ok-back.back c.as_slice-2.result.now c.take_in.ensures.same (c.as_slice-2.ensures ∙ carried.back) c.in_ok-back.ensures.frames)
    (back_letters c.args.first c.args.second c.args.passings.now c.take_in.new.passings c.take_in.ensures.same c.in_ok-back.ensures.letters) in
    (nothing_on c.from_residual-in_err-take_in-2.result _ _ c.from_residual-in_err-take_in-2.ensures.1, err_on c.from_residual-in_err-take_in-2.result _ IsNoDifference c.from_residual-in_err-take_in-2.ensures.1 two.1)

pub returns-in_err-take_in-clause-carried : goal.returns-in_err-take_in-clause-carried
returns-in_err-take_in-clause-carried g c = λ all come.
    let two = c.in_ok-came.ensures.carried (last_two g.D.W.Wire.told g.D.W.Wire.is_joined c.push.new.self.items c.remove-ends.new.self.items c.in_ok-came.came.first c.in_ok-came.came.second c.in_ok-push.ensures.items all) in
    let came = c.in_err-take_in.ensures.honest (c.as_slice.ensures ∙ two.0 ∙ c.in_ok-there.ensures.frames) c.in_ok-there.ensures.letters in
    (nothing_on c.from_residual-in_err-take_in.result _ _ c.from_residual-in_err-take_in.ensures.1, err_on c.from_residual-in_err-take_in.result _ IsNoDifference c.from_residual-in_err-take_in.ensures.1 came.1)

pub returns-in_err-take_in-2-clause-carried : goal.returns-in_err-take_in-2-clause-carried
returns-in_err-take_in-2-clause-carried g c = λ all come.
    let two = c.in_ok-came.ensures.carried (last_two g.D.W.Wire.told g.D.W.Wire.is_joined c.push.new.self.items c.remove-ends.new.self.items c.in_ok-came.came.first c.in_ok-came.came.second c.in_ok-push.ensures.items all) in
    let came = c.in_err-take_in-2.ensures.honest (back_frames c.args.first c.args.second c.args.passings.now c.take_in.new.passings c.in_ok-back.back c.as_slice-2.result.now c.take_in.ensures.same (c.as_slice-2.ensures ∙ two.1) c.in_ok-back.ensures.frames)
    (back_letters c.args.first c.args.second c.args.passings.now c.take_in.new.passings c.take_in.ensures.same c.in_ok-back.ensures.letters) in
    (nothing_on c.from_residual-in_err-take_in-2.result _ _ c.from_residual-in_err-take_in-2.ensures.1, err_on c.from_residual-in_err-take_in-2.result _ IsNoDifference c.from_residual-in_err-take_in-2.ensures.1 came.1)

pub returns-clause-same : goal.returns-clause-same
returns-clause-same g c = all_same_then c.args.passings.now c.take_in.new.passings c.take_in-2.new.passings c.take_in.ensures.same c.take_in-2.ensures.same

pub returns-clause-honest : goal.returns-clause-honest
returns-clause-honest g c = λ h come.
    let joined = first_joined g.D.W.Wire.told g.D.W.Wire.is_joined c.args.wires.now.items c.remove-ends.result h c.requires.wires c.remove-ends.ensures.value in
    let all = first_all g.D.W.Wire.told g.D.W.Wire.is_joined c.args.wires.now.items c.remove-ends.result h c.requires.wires c.remove-ends.ensures.value in
    let carried = c.in_ok-came.ensures.honest joined all in
    let one = c.in_ok-take_in.ensures.honest (c.as_slice.ensures ∙ carried.there ∙ c.in_ok-there.ensures.frames) c.in_ok-there.ensures.letters in
    let two = c.in_ok-take_in-2.ensures.honest (back_frames c.args.first c.args.second c.args.passings.now c.take_in.new.passings c.in_ok-back.back c.as_slice-2.result.now c.take_in.ensures.same (c.as_slice-2.ensures ∙ carried.back) c.in_ok-back.ensures.frames)
    (back_letters c.args.first c.args.second c.args.passings.now c.take_in.new.passings c.take_in.ensures.same c.in_ok-back.ensures.letters) in (
      (
        subst (λ ps. AreHonest g.D.W.Wire.told g.D.W.Wire.is_joined ps) (sym (c.in_ok-push.ensures.items ∙ ap (λ ps. ps ++ (c.in_ok-came.came.first, c.in_ok-came.came.second) ∷ []) c.remove-ends.ensures.items))
            (turned_honest g.D.W.Wire.told g.D.W.Wire.is_joined c.args.wires.now.items c.in_ok-came.came.first c.in_ok-came.came.second h carried.joined carried.all),
        turn_come c.args.first c.args.second c.requires.across.0 c.args.passings.now c.take_in.new.passings c.take_in-2.new.passings c.requires.order c.requires.across.1 come c.take_in.ensures.same one.0 two.0,
      ),
      tt,
    )

pub returns-clause-carried : goal.returns-clause-carried
returns-clause-carried g c = λ all come.
    let two = c.in_ok-came.ensures.carried (last_two g.D.W.Wire.told g.D.W.Wire.is_joined c.push.new.self.items c.remove-ends.new.self.items c.in_ok-came.came.first c.in_ok-came.came.second c.in_ok-push.ensures.items all) in
    let one = c.in_ok-take_in.ensures.honest (c.as_slice.ensures ∙ two.0 ∙ c.in_ok-there.ensures.frames) c.in_ok-there.ensures.letters in
    let other = c.in_ok-take_in-2.ensures.honest (back_frames c.args.first c.args.second c.args.passings.now c.take_in.new.passings c.in_ok-back.back c.as_slice-2.result.now c.take_in.ensures.same (c.as_slice-2.ensures ∙ two.1) c.in_ok-back.ensures.frames)
    (back_letters c.args.first c.args.second c.args.passings.now c.take_in.new.passings c.take_in.ensures.same c.in_ok-back.ensures.letters) in
    (turn_come c.args.first c.args.second c.requires.across.0 c.args.passings.now c.take_in.new.passings c.take_in-2.new.passings c.requires.order c.requires.across.1 come c.take_in.ensures.same one.0 other.0, tt)
