use Rattle.std.proofs.Common.{◌≡◌, ◌+◌, ◌≤◌, vec_len, vec_capacity}
use Rattle.std.specs.Int.{w64}
use Rattle.dcop_base.specs.Limits.{amount_limit}
use Rattle.message_code.proofs.ListLaws.{HasTaken}
use Rattle.message_code.proofs.list.so_many_amounts.Given as goal

abbrev pub invariant-loop : goal.invariant-loop
invariant-loop l = record {
  taken : HasTaken w64 (amount_limit + 1) l.bytes l.amounts.items l.counter l.rest;
  counted : vec_len l.amounts ≡ l.counter;
  room : l.count ≤ vec_capacity l.amounts;
}
