-- The problem that is made is whole.
use Rattle.std.proofs.Common.{◌≡◌, ℕ, ◌+◌, ◌*◌, ◌-◌, ◌≤◌, List, [], length, replicate, sym, subst, ◌∙◌, arith}
use Rattle.std.proofs.Math.Nat.{mul-le-mul_left, mul-le-mul_right}
use Rattle.std.specs.List.{All}
use Rattle.std.proofs.lemmas.List.{length-replicate}
use Rattle.std.proofs.lemmas.List.Elements.{All-replicate}
use Rattle.dcop_base.specs.Table.{CostTable}
use Rattle.dcop_base.specs.Problem.{Dcop}
use Rattle.dcop_base.specs.Graph.{AreJoints}
use Rattle.dcop_base.specs.Limits.{size_limit}
use Rattle.dcop_base.specs.Whole.{IsProblem, IsTableOf}
use Rattle.instance_make.specs.Limits.{CanMake}
use Rattle.instance_make.specs.Generator.{drawn_tables, draws_behind, made_problem}
use Rattle.instance_make.proofs.WholeLaws.{IsDrawnOf, tables-of, tables-many, draws-within, draws-few, sums-few}
use Rattle.instance_make.proofs.TiedLaws.{no-joints}

product-few : (a b c d : ℕ) → a ≤ c → b ≤ d → a * b ≤ c * d
product-few a b c d x y =
    let left : a * b ≤ c * b = mul-le-mul_right b x in
    let right : c * b ≤ c * d = mul-le-mul_left c y in
    omega (arith, left, right)

pub made-whole : (seed vars size degree top : ℕ) → CanMake vars size degree top → IsProblem (made_problem seed vars size degree top)
made-whole seed vars size degree top can =
    let draws : List ℕ = draws_behind degree (vars - 1) in
    let tables : List CostTable = drawn_tables size top seed draws in
    let count : length (replicate vars size) ≡ vars = length-replicate vars size in
    let all : All (IsDrawnOf (replicate vars size)) tables = tables-of vars size top seed draws (draws-within degree vars can.some) can.valued can.small can.cheap in
    let few = draws-few degree (vars - 1) in
    let most : (vars - 1) * degree ≤ 999 * 8 = product-few (vars - 1) degree 999 8 (omega (arith, can.few)) can.sparse in
    let many = tables-many size top seed draws in
    let sums = sums-few (replicate vars size) tables all (omega (arith, few, most, many)) in
    record {
      some = omega (arith, count, can.some);
      few = omega (arith, count, can.few);
      sizes = All-replicate (λ (s : ℕ). (1 ≤ s) × (s ≤ size_limit)) vars size (can.valued, omega (arith, can.small));
      tables = λ k d h. (all k d h).of;
      cells = omega (arith, sums.0);
      sums = omega (arith, sums.1);
      joints = subst (λ (n : ℕ). AreJoints n tables []) (sym count) (no-joints vars size degree top seed can.tied);
    }

-- also where it is given in parts
pub made-parts : (seed vars size degree top : ℕ) (sizes : List ℕ) (tables : List CostTable) (joints : List (ℕ × ℕ)) → CanMake vars size degree top
    → sizes ≡ replicate vars size → tables ≡ drawn_tables size top seed (draws_behind degree (vars - 1)) → joints ≡ []
    → IsProblem (record { sizes = sizes; tables = tables; joints = joints })
made-parts seed vars size degree top sizes tables joints can s t j = rw (s, t, j) (made-whole seed vars size degree top can)
