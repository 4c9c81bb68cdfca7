use Rattle.std.proofs.Common.{refl, sym, ◌∙◌}
use Rattle.std.proofs.lemmas.Bool.{true≢false}
use Rattle.node_exchange.specs.Passings.{letters_of}
use Rattle.node_exchange.proofs.LetterLaws.{frames_are, letters_on_links}
use Rattle.node_exchange.proofs.ReceiveLaws.{still_strange, other_still}
use Rattle.node_exchange.proofs.intake.receive.Goals as goal

pub returns-then-branch-clause-honest : goal.returns-then-branch-clause-honest
returns-then-branch-clause-honest c = λ is good. (
  refl,
  (c.in_ok-deliver_all.ensures.only (letters_of c.args.from_node c.args.to_node c.args.passings.now) good (letters_on_links c.args.from_node c.args.to_node c.args.passings.now)
      (is ∙ frames_are c.args.from_node c.args.to_node c.args.passings.now)).1,
)

pub other_byte-requires : goal.other_byte-requires
other_byte-requires c = record {
  strange = still_strange c.args.from_node c.args.to_node c.args.bytes.now c.args.passings.now c.deliver_all.new.passings c.deliver_all.ensures.same
      (λ ls good on is. true≢false (sym (c.in_ok-deliver_all.ensures.only ls good on is).0 ∙ c.if-branch.false));
}

pub returns-clause-differs : goal.returns-clause-differs
returns-clause-differs c = other_still c.args.from_node c.args.to_node c.args.bytes.now c.in_ok-other.other.place c.in_ok-other.other.sent c.in_ok-other.other.taken c.args.passings.now c.deliver_all.new.passings c.deliver_all.ensures.same c.in_ok-other.ensures

pub returns-clause-honest : goal.returns-clause-honest
returns-clause-honest c = λ is good.
    absurd (true≢false (sym (c.in_ok-deliver_all.ensures.only (letters_of c.args.from_node c.args.to_node c.args.passings.now) good (letters_on_links c.args.from_node c.args.to_node c.args.passings.now)
    (is ∙ frames_are c.args.from_node c.args.to_node c.args.passings.now)).0 ∙ c.if-branch.false))
