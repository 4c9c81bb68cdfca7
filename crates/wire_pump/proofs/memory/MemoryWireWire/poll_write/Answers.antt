use Rattle.std.proofs.Common.{sym, refl, ◌∙◌, vec_len}
use Rattle.std.proofs.lemmas.Bool.{eqb-true}
use Rattle.wire_pump.proofs.AlterLaws.{nil_of, sends_all}
use Rattle.wire_pump.proofs.memory.MemoryWireWire.poll_write.Goals as goal

pub returns-then-is_empty-clause-sends : goal.returns-then-is_empty-clause-sends
returns-then-is_empty-clause-sends c =
    sends_all c.args.self.now (record { wire = c.poll_write.new.self; calls = c.come.new.self; alters = c.args.self.now.alters; written = c.args.self.now.written }) c.args.bytes.now c.poll_write.result
    c.poll_write.ensures.written (nil_of c.args.self.now.alters.items (sym c.args.self.now.alters.ok.0 ∙ eqb-true (vec_len c.args.self.now.alters) 0 (sym c.if-is_empty.ensures))) refl
