-- Opening the payloads of letters.
use Rattle.std.specs.Prelude.{◌≡◌, ℕ, List, ◌++◌, map}
use Rattle.std.specs.List.{All}
use Rattle.node_exchange.specs.declared.payload.Addressed.{Addressed}
use Rattle.node_exchange.specs.Letters.{letter_code, IsLetter}

-- the letters are those that were opened and then the rest, whose payloads the reader still holds
pub record AreOpened (ls opened : List Addressed) (ready : List (List ℕ)) : Type 0 where
  pub rest : List Addressed
  pub whole : ls ≡ opened ++ rest
  pub ready_is : ready ≡ map letter_code rest
  pub good : All IsLetter rest
