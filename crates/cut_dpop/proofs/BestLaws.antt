-- The best turn so far, and the answer of a cut.
use Rattle.std.proofs.Common.{◌≡◌, ℕ, ◌+◌, ◌<◌, ◌≤◌, List, sym, subst, inl, inr, arith}
use Rattle.std.specs.List.{slice_index}
use Rattle.std.proofs.lemmas.Bool.{cases_lt}
use Rattle.std.proofs.lemmas.List.Elements.{All-map}
use Rattle.dcop_base.specs.Table.{cell_place}
use Rattle.dcop_base.specs.Problem.{Dcop}
use Rattle.dcop_base.specs.Whole.{IsProblem}
use Rattle.dcop_base.proofs.TableLaws.{cell_place-lt}
use Rattle.cost_table.proofs.RunLaws.{product-some}
use Rattle.dcop_optimum.specs.Optimum.{IsOptimum, IsBefore}
use Rattle.dcop_optimum.proofs.OptimumLaws.{optimum_same}
use Rattle.dcop_optimum.proofs.PlaceLaws.{place_before}
use Rattle.pseudotree.specs.Place.{sizes_of}
use Rattle.protocol_steps.proofs.ValueLaws.{choice_at}
use Rattle.run_laws.specs.Slice.{AreCut, AreCutValues, slice_of}
use Rattle.run_laws.specs.Turns.{turn_count}
use Rattle.run_laws.specs.Kept.{IsCutAnswer}
use Rattle.run_laws.proofs.TurnLaws.{stands_at, choice_is}
use Rattle.cut_dpop.specs.declared.turn.Played.{Played}
use Rattle.cut_dpop.specs.Played.{turn_of, IsTurnPlayed, IsBestOf}

-- each cut has a turn
pub some-turn : (p : Dcop) (cut : List ℕ) → IsProblem p → AreCut p cut → 1 ≤ turn_count p cut
some-turn p cut problem is = product-some (sizes_of p cut) (All-map (λ s. 1 ≤ s) (slice_index p.sizes) cut (λ k d lt. (problem.sizes _ 0 (is.within k d lt)).0))

-- the turn with a number has one value for each cut variable
pub turn-within : (p : Dcop) (cut : List ℕ) (number : ℕ) → number < turn_count p cut → AreCutValues p cut (turn_of p cut number)
turn-within p cut number lt =
    let stands = stands_at (sizes_of p cut) number lt in
    subst (AreCutValues p cut) (sym (choice_is (sizes_of p cut) number stands)) stands.within

module _ (p : Dcop) (paths : List (List ℕ)) (cut : List ℕ) where
  -- what a turn costs at best
  pub played-cost : (k : ℕ) (b : Played) → IsTurnPlayed p paths cut k b → IsOptimum (slice_of p cut (turn_of p cut k)) b.cost
  played-cost k b h = subst (IsOptimum (slice_of p cut (turn_of p cut k))) (sym h.cost_is) h.first.optimal

  cost-same : (k i c : ℕ) (b : Played) → IsTurnPlayed p paths cut k b → i ≡ k → IsOptimum (slice_of p cut (turn_of p cut i)) c → b.cost ≡ c
  cost-same k i c b h e at =
      optimum_same (slice_of p cut (turn_of p cut k)) b.cost c (played-cost k b h) (subst (λ (n : ℕ). IsOptimum (slice_of p cut (turn_of p cut n)) c) e at)

  pub best-first : (b : Played) → IsTurnPlayed p paths cut 0 b → IsBestOf p paths cut 1 b
  best-first b h = record {
    number = 0;
    within = omega arith;
    played = h;
    lowest = λ k c lt at. (let same = cost-same 0 k c b h (omega (arith, lt)) at in omega (arith, same));
    first = λ k c lt at. absurd (omega (arith, lt));
  }

  -- a cheaper turn is taken
  pub best-take : (k : ℕ) (b n : Played) → IsBestOf p paths cut k b → IsTurnPlayed p paths cut k n → n.cost < b.cost → IsBestOf p paths cut (k + 1) n
  best-take k b n best h less = record {
    number = k;
    within = omega arith;
    played = h;
    lowest = λ i c lt at. elim (cases_lt i k) [
      | inl under ↦ (let low = best.lowest i c under at in omega (arith, low, less))
      | inr past ↦ (let same = cost-same k i c n h (omega (arith, lt, past)) at in omega (arith, same))
    ];
    first = λ i c lt at. (let low = best.lowest i c lt at in omega (arith, low, less));
  }

  -- another one is not
  pub best-keep : (k : ℕ) (b n : Played) → IsBestOf p paths cut k b → IsTurnPlayed p paths cut k n → b.cost ≤ n.cost → IsBestOf p paths cut (k + 1) b
  best-keep k b n best h le =
      let within = best.within in record {
        number = best.number;
        within = omega (arith, within);
        played = best.played;
        lowest = λ i c lt at. elim (cases_lt i k) [
          | inl under ↦ best.lowest i c under at
          | inr past ↦ (let same = cost-same k i c n h (omega (arith, lt, past)) at in omega (arith, same, le))
        ];
        first = best.first;
      }

  -- the best of all turns is the answer
  pub best-answer : (b : Played) → IsBestOf p paths cut (turn_count p cut) b → IsCutAnswer p paths cut b.cost b.values
  best-answer b best =
      let ss = sizes_of p cut in
      let number = best.number in
      let stands = stands_at ss number best.within in
      let is = choice_is ss number stands in
      let turn_at : (other : List ℕ) → AreCutValues p cut other → turn_of p cut (cell_place ss other) ≡ other = λ other w. choice_at ss other w in
      let moved : (other : List ℕ) (c : ℕ) → AreCutValues p cut other → IsOptimum (slice_of p cut other) c → IsOptimum (slice_of p cut (turn_of p cut (cell_place ss other))) c =
      λ other c w at. subst (λ (t : List ℕ). IsOptimum (slice_of p cut t) c) (sym (turn_at other w)) at in record {
        turn = turn_of p cut number;
        kept = record {
          within = turn-within p cut number best.within;
          cost = played-cost number b best.played;
          lowest = λ other c w at. best.lowest (cell_place ss other) c (cell_place-lt ss other w) (moved other c w at);
          first = λ other c w before at. (let place = place_before ss other stands.values w stands.within (subst (λ (t : List ℕ). IsBefore other t) is before) in
              let at_number = stands.is in
              best.first (cell_place ss other) c (omega (arith, place, at_number)) (moved other c w at));
        };
        others = best.played.others;
        first = best.played.first;
        values_are = best.played.values_are;
      }
