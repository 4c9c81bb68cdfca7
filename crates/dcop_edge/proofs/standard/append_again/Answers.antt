use Rattle.std.proofs.Common.{◌≡◌, ℕ, ◌+◌, ◌-◌, List, replicate, vec_len, ◌∙◌, ap, length, take, drop}
use Rattle.dcop_edge.proofs.GivesLaws.{kept-behind, held-in-front, written-back}
use Rattle.dcop_edge.proofs.standard.append_again.Goals as goal

pub returns-clause-found : goal.returns-clause-found
returns-clause-found g c =
    let held = c.args.bytes.now.items in
    let at = length c.as_slice-held.result.now in
    let at_end : at ≡ length held = ap length c.as_slice-held.ensures.value in
    let filled = c.read_tail-found.new.bytes in
    let zeros = replicate (at + c.args.most - vec_len c.args.bytes.now) 0 in
    let front : take at filled ≡ held =
    c.read_tail-found.ensures.held
    ∙ ap (λ (l : List ℕ). take at l) (c.as_mut_slice.ensures.value ∙ c.in_ok-resize.ensures.items)
    ∙ held-in-front at c.args.most held zeros at_end in
    let whole : length filled ≡ vec_len c.resize.new.self = c.read_tail-found.ensures.size ∙ c.as_mut_slice.ensures.len in
    let cut = c.truncate.ensures.items
    ∙ ap (λ (l : List ℕ). take (at + c.unwrap_or.result) l) (written-back (vec_len c.resize.new.self) filled (drop (length filled) c.resize.new.self.items) whole) in
    kept-behind c.read_tail-found.result c.unwrap_or.result c.args.most at (length c.as_mut_slice.result.now) held filled c.truncate.new.self.items
    c.unwrap_or.ensures at_end c.read_tail-found.ensures.within c.read_tail-found.ensures.size
    (c.as_mut_slice.ensures.len ∙ c.in_ok-resize.ensures.len) front cut
