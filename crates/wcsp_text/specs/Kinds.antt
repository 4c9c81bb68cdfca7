-- The numbers that a user sees for the kinds of a refused WCSP text.
use Rattle.std.specs.Prelude.{ℕ}
use Rattle.wcsp_text.specs.declared.fault.WcspKind.{WcspKind}
use Rattle.wcsp_text.specs.declared.fault.WcspKind.TheVariants as kinds

-- the number of a kind; 6 is not used
abbrev pub number_of_kind : WcspKind → ℕ
number_of_kind kinds.BadNumber = 1
number_of_kind kinds.NoEnd = 2
number_of_kind kinds.Index = 3
number_of_kind kinds.Value = 4
number_of_kind kinds.Arity = 5
number_of_kind (kinds.Problem number) = 7
number_of_kind kinds.AfterEnd = 8

-- the number of the problem's fault if a text is refused for one, and 0 otherwise
abbrev pub number_of_problem : WcspKind → ℕ
number_of_problem (kinds.Problem number) = number
number_of_problem _ = 0
