-- What a wire over a socket tells: its counts and not its bytes; and what such wires and dialers do
-- not promise.
use Rattle.std.specs.Prelude.{⊤, None, IsSome}
use Rattle.wire_pump.specs.Wire.{Told}
use Rattle.tcp_wire.specs.declared.wire.TcpWire.{TcpWire}
use Rattle.tcp_wire.specs.declared.dialer.TcpDialer.{TcpDialer}

abbrev pub tcp_told : TcpWire → Told
tcp_told w = record {
  sent = None;
  received = None;
  sent_count = w.sent_count;
  received_count = w.received_count;
  write_waits = w.write_waits;
  read_waits = w.read_waits;
  faults = w.faults;
}

-- no two wires over sockets are joined
abbrev pub tcp_joined : TcpWire → TcpWire → Type 0
tcp_joined a b = ⊥

-- any two wires over sockets are apart: looking at both changes neither
abbrev pub tcp_apart : TcpWire → TcpWire → Type 0
tcp_apart a b = ⊤

-- no dialer of sockets promises that its wires are joined
abbrev pub tcp_honest : TcpDialer → Type 0
tcp_honest d = ⊥

-- a dialer has kept the event loop of `tokio`
abbrev pub keeps_loop : TcpDialer → Type 0
keeps_loop d = IsSome d.runtime
