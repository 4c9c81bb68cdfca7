use Rattle.std.proofs.Common.{◌≡◌, ◌≤◌, vec_len, vec_capacity}
use Rattle.std.specs.Int.{w32}
use Rattle.dcop_base.specs.Limits.{variable_limit}
use Rattle.message_code.proofs.ListLaws.{HasTaken}
use Rattle.message_code.proofs.list.so_many_variables.Given as goal

abbrev pub invariant-loop : goal.invariant-loop
invariant-loop l = record {
  taken : HasTaken w32 variable_limit l.bytes l.variables.items l.counter l.rest;
  counted : vec_len l.variables ≡ l.counter;
  room : l.count ≤ vec_capacity l.variables;
}
