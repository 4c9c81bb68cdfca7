use Rattle.std.proofs.Common.{ℕ, Bool, List, length, subst}
use Rattle.memchr.specs.Find.{IsFirst, Passes, is_byte}
use Rattle.letter_queues.specs.Flags.{IsSet}
use Rattle.letter_queues.proofs.FlagLaws.{first_set}
use Rattle.letter_queues.proofs.arrivals.Arrivals.next_busy.Goals as goal

pub returns : goal.returns
returns c =
    let first = subst (λ (bytes : List ℕ). IsFirst (Passes (is_byte 1) bytes) c.args.from (length bytes) c.first_busy.result) c.as_slice.ensures.value c.first_busy.ensures in
    subst (λ (flags : List Bool). IsFirst (IsSet flags) c.args.from (length flags) c.first_busy.result) c.self.view_is (first_set c.self.inside.busy.items c.args.from c.first_busy.result first)
