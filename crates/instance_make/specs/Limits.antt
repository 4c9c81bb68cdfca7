-- The limits of problems that are made from a seed.
use Rattle.std.specs.Prelude.{ℕ, ◌≤◌}
use Rattle.dcop_base.specs.Limits.{variable_limit, made_size_limit, made_degree_limit, made_cost_limit}

-- such a problem can be made: the numbers of variables and values and the degree are at least 1,
-- and nothing is above its limit
pub record CanMake (vars size degree top : ℕ) : Type 0 where
  pub some : 1 ≤ vars
  pub few : vars ≤ variable_limit
  pub valued : 1 ≤ size
  pub small : size ≤ made_size_limit
  pub tied : 1 ≤ degree
  pub sparse : degree ≤ made_degree_limit
  pub cheap : top ≤ made_cost_limit
