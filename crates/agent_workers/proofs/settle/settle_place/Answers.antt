use Rattle.std.proofs.Common.{get_or, ◌∙◌}
use Rattle.std.proofs.lemmas.Option.{slice_get-get_or}
use Rattle.agent_workers.proofs.SettleLaws.{peer_inside, peer_other, peer_can, peer_did, peer_far}
use Rattle.agent_workers.proofs.settle.settle_place.Goals as goal

pub share_node-requires-clause-inside : goal.share_node-requires-clause-inside
share_node-requires-clause-inside g c = (
  c.requires.inside,
  peer_inside (λ b. (goal.Machine-dyn g (b.vtable, b.value)).meaning b.value) c.args.nodes c.args.to c.args.place c.from.inside.0 c.args.cells.now (get_or c.args.cells.now c.args.to c.index-cells-to.result) c.requires.joined
      (slice_get-get_or c.args.cells.now c.args.to c.index-cells-to.result c.requires.inside)
      (c.requires.place (get_or c.args.cells.now c.args.to c.index-cells-to.result) (slice_get-get_or c.args.cells.now c.args.to c.index-cells-to.result c.requires.inside))
      (c.from.view_is ∙ c.neighbour.ensures c.from.inside.0),
)

pub returns-then-not-share_node : goal.returns-then-not-share_node
returns-then-not-share_node g c = record {
  settled = peer_far (λ b. (goal.Machine-dyn g (b.vtable, b.value)).meaning b.value) c.args.nodes c.args.to c.args.place c.from.inside.0 c.args.cells.now (get_or c.args.cells.now c.args.to c.index-cells-to.result) c.requires.joined
      (slice_get-get_or c.args.cells.now c.args.to c.index-cells-to.result c.requires.inside)
      (c.requires.place (get_or c.args.cells.now c.args.to c.index-cells-to.result) (slice_get-get_or c.args.cells.now c.args.to c.index-cells-to.result c.requires.inside))
      (c.from.view_is ∙ c.neighbour.ensures c.from.inside.0)
      (c.share_node.ensures.apart c.if-not-share_node.true);
}

pub settle_at-requires-clause-inside : goal.settle_at-requires-clause-inside
settle_at-requires-clause-inside g c = (
  c.requires.inside,
  peer_inside (λ b. (goal.Machine-dyn g (b.vtable, b.value)).meaning b.value) c.args.nodes c.args.to c.args.place c.from.inside.0 c.args.cells.now (get_or c.args.cells.now c.args.to c.index-cells-to.result) c.requires.joined
      (slice_get-get_or c.args.cells.now c.args.to c.index-cells-to.result c.requires.inside)
      (c.requires.place (get_or c.args.cells.now c.args.to c.index-cells-to.result) (slice_get-get_or c.args.cells.now c.args.to c.index-cells-to.result c.requires.inside))
      (c.from.view_is ∙ c.neighbour.ensures c.from.inside.0),
  peer_other (λ b. (goal.Machine-dyn g (b.vtable, b.value)).meaning b.value) c.args.nodes c.args.to c.args.place c.from.inside.0 c.args.cells.now (get_or c.args.cells.now c.args.to c.index-cells-to.result) c.requires.joined
      (slice_get-get_or c.args.cells.now c.args.to c.index-cells-to.result c.requires.inside)
      (c.requires.place (get_or c.args.cells.now c.args.to c.index-cells-to.result) (slice_get-get_or c.args.cells.now c.args.to c.index-cells-to.result c.requires.inside))
      (c.from.view_is ∙ c.neighbour.ensures c.from.inside.0),
)

pub settle_at-requires-clause-can : goal.settle_at-requires-clause-can
settle_at-requires-clause-can g c = peer_can (λ b. (goal.Machine-dyn g (b.vtable, b.value)).meaning b.value) c.args.nodes c.args.to c.args.place c.from.inside.0 c.args.cells.now (get_or c.args.cells.now c.args.to c.index-cells-to.result) c.requires.joined
    (slice_get-get_or c.args.cells.now c.args.to c.index-cells-to.result c.requires.inside)
    (c.requires.place (get_or c.args.cells.now c.args.to c.index-cells-to.result) (slice_get-get_or c.args.cells.now c.args.to c.index-cells-to.result c.requires.inside))
    (c.from.view_is ∙ c.neighbour.ensures c.from.inside.0)
    c.requires.sound (c.share_node.ensures.together c.if-not-share_node.false)

pub returns : goal.returns
returns g c = record {
  settled = peer_did (λ b. (goal.Machine-dyn g (b.vtable, b.value)).meaning b.value) c.args.nodes c.args.to c.args.place c.from.inside.0 c.args.cells.now (get_or c.args.cells.now c.args.to c.index-cells-to.result) c.requires.joined
      (slice_get-get_or c.args.cells.now c.args.to c.index-cells-to.result c.requires.inside)
      (c.requires.place (get_or c.args.cells.now c.args.to c.index-cells-to.result) (slice_get-get_or c.args.cells.now c.args.to c.index-cells-to.result c.requires.inside))
      (c.from.view_is ∙ c.neighbour.ensures c.from.inside.0)
      c.settle_at.new.cells (c.share_node.ensures.together c.if-not-share_node.false)
      (record { size = c.settle_at.ensures.size; did = c.settle_at.ensures.did; rest = c.settle_at.ensures.rest });
}
