use Rattle.std.proofs.Common.{◌≡◌, ℕ, ◌-◌, List, take, drop, length, length-drop, arith}
use Rattle.std.proofs.lemmas.List.{take_all}
use Rattle.letter_queues.proofs.FlagLaws.{none_from, first_from}
use Rattle.letter_queues.proofs.arrivals.first_busy.Goals as goal

-- the list from a place to its end
rest_is : (bytes : List ℕ) (from : ℕ) → take (length bytes - from) (drop from bytes) ≡ drop from bytes
rest_is bytes from = take_all (length bytes - from) (drop from bytes) (omega (arith, length-drop from bytes))

pub returns-in-Some : goal.returns-in-Some
returns-in-Some c =
    let bytes = c.args.bytes.now in
    first_from bytes (take (length bytes - c.args.from) (drop c.args.from bytes)) c.args.from c.in-Some.ahead c.memchr.result (rest_is bytes c.args.from) c.in-Some.is c.memchr.ensures

pub returns-in-None : goal.returns-in-None
returns-in-None c =
    let bytes = c.args.bytes.now in
    none_from bytes (take (length bytes - c.args.from) (drop c.args.from bytes)) c.args.from c.memchr.result (rest_is bytes c.args.from) c.in-None.is c.memchr.ensures
