use Rattle.std.proofs.Common.{◌≡◌, ℕ, ◌+◌, ◌-◌, List, ◌++◌, take, drop, length, min, sym, ap, ◌∙◌, drop-drop}
use Rattle.std.proofs.lemmas.List.{take_rest}
use Rattle.dcop_edge.specs.Memory.{SteadyState}
use Rattle.dcop_edge.proofs.GivesLaws.{Gives-behind}
use Rattle.dcop_edge.proofs.steady.SteadySourceSource.read_behind.Goals as goal

pub returns-in-Ok-clause-given : goal.returns-in-Ok-clause-given
returns-in-Ok-clause-given c =
    let bytes = c.self.inside.bytes.items in
    let given = c.self.inside.given in
    let view : drop given bytes ≡ c.args.self.now.left = ap (λ (s : SteadyState). s.left) c.self.view_is in
    let count = c.min-count.result in
    let held = c.args.bytes.now.items in
    let slice : take (length c.deref.result.now - given) (drop given c.deref.result.now) ≡ c.args.self.now.left =
    take_rest c.deref.result.now given ∙ ap (drop given) c.deref.ensures.value ∙ view in
    let rest : drop (given + count) bytes ≡ drop count c.args.self.now.left =
    sym (drop-drop count given bytes) ∙ ap (drop count) view in
    Gives-behind c.args.self.now.left (drop (given + count) bytes) held c.extend_from_slice.new.self.items c.args.most count
    (c.min-count.ensures ∙ ap (λ (l : List ℕ). min (length l) c.args.most) slice)
    (c.in-Ok.ensures.items ∙ ap (λ (l : List ℕ). held ++ take count l) slice)
    rest
