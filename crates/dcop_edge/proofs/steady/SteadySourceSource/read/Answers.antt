use Rattle.std.proofs.Common.{◌≡◌, ℕ, ◌+◌, ◌-◌, List, take, drop, length, min, sym, ap, ◌∙◌, drop-drop}
use Rattle.std.proofs.lemmas.List.{take_rest}
use Rattle.dcop_edge.specs.Memory.{SteadyState}
use Rattle.dcop_edge.proofs.GivesLaws.{Gives-front}
use Rattle.dcop_edge.proofs.steady.SteadySourceSource.read.Goals as goal

pub returns-clause-given : goal.returns-clause-given
returns-clause-given c =
    let bytes = c.self.inside.bytes.items in
    let given = c.self.inside.given in
    let view : drop given bytes ≡ c.args.self.now.left = ap (λ (s : SteadyState). s.left) c.self.view_is in
    let count = c.fill_front-count.result in
    let copied = c.fill_front-count.ensures in
    let slice : take (length c.deref.result.now - given) (drop given c.deref.result.now) ≡ c.args.self.now.left =
    take_rest c.deref.result.now given ∙ ap (drop given) c.deref.ensures.value ∙ view in
    let rest : drop (given + count) bytes ≡ drop count c.args.self.now.left =
    sym (drop-drop count given bytes) ∙ ap (drop count) view in
    Gives-front c.args.self.now.left (drop (given + count) bytes) c.args.into.now c.fill_front-count.new.into count
    (copied.count ∙ ap (λ (l : List ℕ). min (length l) (length c.args.into.now)) slice)
    (copied.front ∙ ap (take count) slice) copied.behind rest
