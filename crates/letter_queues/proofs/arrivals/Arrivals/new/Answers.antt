use Rattle.std.proofs.Common.{ℕ, List, map, ap, ◌∙◌}
use Rattle.memchr.specs.Find.{is_byte}
use Rattle.letter_queues.proofs.FlagLaws.{flags_all}
use Rattle.letter_queues.proofs.arrivals.Arrivals.new.Goals as goal

pub returns : goal.returns
returns c = ap (λ (bytes : List ℕ). map (is_byte 1) bytes) (c.in_ok-busy.ensures.items_if_clones_equal (λ y h. h)) ∙ flags_all c.args.agents 1
