-- The totals of a row, and what holds of the flat lists of bounds.
use Rattle.std.specs.Prelude.{◌≡◌, ℕ, ◌*◌, ◌≤◌, List, map, length, Option, Some, None, IfSome, ◌==◌, if◌then◌else◌}
use Rattle.std.specs.List.{All, sum_by}
use Rattle.dcop_base.specs.Limits.{amount_limit}
use Rattle.adopt_context.specs.Context.{Context, or_zero}
use Rattle.adopt_context.specs.Bounds.{Entry, lower_sum}
use Rattle.adopt_bounds.specs.Rows.{entries_of, rows_of}
use Rattle.adopt_bounds.specs.declared.totals.Totals.{Totals}

-- 1 if a bound is none, and otherwise 0
abbrev pub missing_of : Option ℕ → ℕ
missing_of None = 1
missing_of (Some u) = 0

-- the totals of a row: the sum of its lower bounds, the sum of its upper bounds that are there, and the number of those that are none
abbrev pub totals_of : List Entry → Totals
totals_of es = record {
  lower = lower_sum es;
  upper = sum_by (λ e. or_zero e.upper) es;
  missing = sum_by (λ e. missing_of e.upper) es;
}

-- the sum of the upper bounds, given the totals; none if one of the bounds is none
abbrev pub upper_of : Totals → Option ℕ
upper_of t = if t.missing == 0 then Some t.upper else None

-- there are as many bounds, shares and contexts as entries, and all amounts are within the cap
pub record AreEntryParts (count : ℕ) (lower : List ℕ) (upper : List (Option ℕ)) (share : List ℕ) (contexts : List Context) : Type 0 where
  pub lower_count : length lower ≡ count
  pub upper_count : length upper ≡ count
  pub share_count : length share ≡ count
  pub context_count : length contexts ≡ count
  pub lower_within : All (λ l. l ≤ amount_limit) lower
  pub upper_within : All (λ u. IfSome u (λ x. x ≤ amount_limit)) upper
  pub share_within : All (λ s. s ≤ amount_limit) share

-- flat lists of bounds, with the right totals for each row; a row has `width` entries
pub record AreBounds (width : ℕ) (lower : List ℕ) (upper : List (Option ℕ)) (share : List ℕ) (contexts : List Context) (totals : List Totals) : Type 0 where
  pub parts : AreEntryParts (length totals * width) lower upper share contexts
  pub right : totals ≡ map totals_of (rows_of (length totals) width (entries_of lower upper share contexts))
