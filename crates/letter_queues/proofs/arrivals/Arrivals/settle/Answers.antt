use Rattle.std.proofs.Common.{◌≡◌, ℕ, Bool, false, List, map, length, sym, ap, ◌∙◌, arith}
use Rattle.std.specs.List.{slice_set}
use Rattle.std.proofs.lemmas.List.{map-set}
use Rattle.memchr.specs.Find.{is_byte}
use Rattle.letter_queues.proofs.ListLaws.{written_back}
use Rattle.letter_queues.proofs.arrivals.Arrivals.settle.Goals as goal

pub returns : goal.returns
returns c =
    let vec = c.self.inside.busy in
    let size : length c.set_byte.new.bytes ≡ vec.len = omega arith in
    let back = written_back vec.len c.set_byte.new.bytes vec.items size (sym vec.ok.0) in
    let new = back ∙ c.set_byte.ensures ∙ ap (λ (bytes : List ℕ). slice_set bytes c.args.agent 0) c.as_mut_slice.ensures.value in
    ap (λ (bytes : List ℕ). map (is_byte 1) bytes) new ∙ map-set (is_byte 1) vec.items c.args.agent 0 ∙ ap (λ (flags : List Bool). slice_set flags c.args.agent false) c.self.view_is
