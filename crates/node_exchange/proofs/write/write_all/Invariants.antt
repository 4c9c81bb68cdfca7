use Rattle.std.proofs.Common.{◌≡◌, ◌++◌, take}
use Rattle.std.specs.List.{All, flat_map}
use Rattle.wire_frames.specs.Frame.{framed}
use Rattle.node_exchange.specs.Letters.{letter, IsLetter}
use Rattle.node_exchange.specs.Payloads.{payload_code}
use Rattle.node_exchange.proofs.write.write_all.Given as goal

abbrev pub invariant-loop-envelope : goal.invariant-loop-envelope
invariant-loop-envelope l = record {
  frames : l.bytes.items ≡ l.initial.bytes.items ++ flat_map (λ e. framed (payload_code l.from l.to e)) (take l.envelope-index l.drained);
  good : All (λ e. IsLetter (letter l.from l.to e)) (take l.envelope-index l.drained);
}
