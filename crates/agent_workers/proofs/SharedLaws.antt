-- Rounds in parts, each played in turns.
use Rattle.std.proofs.Common.{◌≡◌, ℕ, zero, suc, max, ◌*◌, ◌<◌, ◌≤◌, Bool, ◌==◌, nat_le, Result, Ok, Err, List, [], ◌∷◌, ◌++◌, map, length, refl, sym, ap, subst, ◌∙◌, arith, length-append, lt_of_mul-lt-mul_right}
use Rattle.std.specs.Prelude.{OnOk}
use Rattle.std.specs.Int.{div_ceil}
use Rattle.std.proofs.Math.Nat.{suc-mul, mul_comm, mul-le-mul_right}
use Rattle.std.proofs.lemmas.Bool.{le-leb, lt-leb, ne_eqb}
use Rattle.std.proofs.lemmas.Grind.{div_ceil_times}
use Rattle.std.proofs.lemmas.List.{map-append}
use Rattle.std.specs.declared.dyn_box.DynBox.{DynBox}
use Rattle.std.specs.declared.alloc.Global.{Global}
use Rattle.protocol_steps.specs.View.{View}
use Rattle.worker_laws.specs.Cells.{CellState}
use Rattle.worker_laws.specs.OneNode.{home, IsSettling}
use Rattle.agent_cells.specs.declared.cell.Cell.{Cell}
use Rattle.agent_cells.specs.declared.fault.VisitFault.{VisitFault}
use Rattle.agent_cells.specs.declared.fault.VisitFault.TheVariants.{NoMemory, StampEnd}
use Rattle.agent_workers.specs.Joined.{states_of, EachBecomes}
use Rattle.agent_workers.specs.Settled.{StaysQuiet}
use Rattle.agent_workers.specs.Parts.{both_of, ByParts}
use Rattle.agent_workers.specs.Watched.{IsPlayedInTurns}
use Rattle.agent_workers.specs.Shared.{ArePartsPlayed, ArePlayedInParts, IsSharedRound, AreSharedRounds}

-- both parts have gone well if both together have
both_parts : {A B : Type 0} (q r : Result ℕ VisitFault) (n : ℕ) → Ok n ≡ both_of q r → OnOk q A → OnOk r B → A × B
both_parts (Ok m) (Ok k) n e a b = (a, b)
both_parts (Ok m) (Err f) n e a b = let no : Ok n ≡ Err f = e in absurd (cc)
both_parts (Err f) (Ok k) n e a b = let no : Ok n ≡ Err f = e in absurd (cc)
both_parts (Err NoMemory) (Err f) n e a b = let no : Ok n ≡ Err NoMemory = e in absurd (cc)
both_parts (Err StampEnd) (Err f) n e a b = let no : Ok n ≡ Err f = e in absurd (cc)

module _ {T : Type 0} where
  -- a list has all elements of its parts, so a single part is the whole list
  pub alone_is : (P : List T → Result ℕ VisitFault → List T → Type 0) (size count : ℕ) (a c : List T) (r : Result ℕ VisitFault) → ByParts P size count a r c → nat_le (length a) size ≡ (count == 0)
  alone_is P size zero a c r p = le-leb (length a) size p.0
  alone_is P size (suc count) a c r p =
      let whole = ap length p.6 ∙ length-append p.0 p.1 in
      let long = p.10 in
      let some = p.11 in
      lt-leb (length a) size (omega (arith, whole, long, some)) ∙ sym (ne_eqb (suc count) 0 (λ (no : suc count ≡ 0). absurd (omega (arith, no))))

-- the parts but the last are full, and the last is not empty
long_by : {T : Type 0} (P : List T → Result ℕ VisitFault → List T → Type 0) (size count : ℕ) (a c : List T) (r : Result ℕ VisitFault) → ByParts P size count a r c → 0 < count → count * size < length a
long_by P size zero a c r p some = absurd (omega (arith, some))
long_by P size (suc zero) a c r p some =
    let whole = ap length p.6 ∙ length-append p.0 p.1 in
    let long = p.10 in
    let rest = p.11 in
    let one : suc zero * size ≡ size = omega arith in
    omega (arith, whole, long, rest, one)
long_by P size (suc (suc count)) a c r p some =
    let whole = ap length p.6 ∙ length-append p.0 p.1 in
    let long = p.10 in
    let rest = long_by P size (suc count) p.1 p.3 p.5 p.12 (omega arith) in
    let grow = suc-mul (suc count) size in
    omega (arith, whole, long, rest, grow)

pub parts_within : {T : Type 0} (P : List T → Result ℕ VisitFault → List T → Type 0) (size count parts : ℕ) (a c : List T) (r : Result ℕ VisitFault) → ByParts P size count a r c → 0 < parts → length a ≤ parts * size → suc count ≤ parts
parts_within P size zero parts a c r p some within = omega (arith, some)
parts_within P size (suc count) parts a c r p some within =
    let long = long_by P size (suc count) a c r p (omega arith) in
    let few : suc count < parts = lt_of_mul-lt-mul_right size (omega (arith, long, within)) in
    omega (arith, few)

-- all cells fit into as many parts as there are workers
pub workers_hold : (workers size all half : ℕ) → 0 < workers → half ≡ max (div_ceil all workers) 1 → half ≤ size → all ≤ workers * size
workers_hold workers size all half some is le =
    let whole = (div_ceil_times all workers some).0 in
    let up : div_ceil all workers ≤ size = omega (arith, is, le) in
    let wide = mul-le-mul_right workers up in
    let turn : size * workers ≡ workers * size = mul_comm size workers in
    omega (arith, whole, wide, turn)

-- a round has at most as many parts as workers
fewer_parts : (more workers size all half : ℕ) → 0 < workers → (0 < more → more * size < all) → half ≡ max (div_ceil all workers) 1 → half ≤ size → more < workers
fewer_parts zero workers size all half some long is le = some
fewer_parts (suc more) workers size all half some long is le =
    let whole = (div_ceil_times all workers some).0 in
    let up : div_ceil all workers ≤ size = omega (arith, is, le) in
    let wide = mul-le-mul_right workers up in
    let turn : size * workers ≡ workers * size = mul_comm size workers in
    let here = long (omega arith) in
    lt_of_mul-lt-mul_right size (omega (arith, whole, wide, turn, here))

module _ {X : Type 0} {F : X → Type 0} (M : DynBox X Global F → View) where
  -- parts that calls have played
  pub parts_called : (P : List (Cell X F) → Result ℕ VisitFault → List (Cell X F) → Type 0) (alone : Bool) → ((a c : List (Cell X F)) (r : Result ℕ VisitFault) → P a r c → OnOk r (IsPlayedInTurns M alone a c))
      → (size count : ℕ) (a c : List (Cell X F)) (r : Result ℕ VisitFault) → ByParts P size count a r c → OnOk r (ArePartsPlayed M alone size count a c)
  parts_called P alone each size count a c (Err f) p = tt
  parts_called P alone each size zero a c (Ok n) p = (p.0, each a c (Ok n) p.1)
  parts_called P alone each size (suc count) a c (Ok n) p =
      let both = both_parts {A = IsPlayedInTurns M alone p.0 p.2} {B = ArePartsPlayed M alone size count p.1 p.3} p.4 p.5 n p.8 (each p.0 p.2 p.4 p.9) (parts_called P alone each size count p.1 p.3 p.5 p.12) in
      (p.0, p.1, p.2, p.3, p.6, p.7, p.10, p.11, both.0, both.1)

  pub played_in_parts : (P : List (Cell X F) → Result ℕ VisitFault → List (Cell X F) → Type 0) (alone : Bool) (size count : ℕ) (a c : List (Cell X F)) (r : Result ℕ VisitFault) → alone ≡ nat_le (length a) size
      → ((x y : List (Cell X F)) (q : Result ℕ VisitFault) → P x q y → OnOk q (IsPlayedInTurns M alone x y)) → ByParts P size count a r c → OnOk r (ArePlayedInParts M size a c)
  played_in_parts P alone size count a c (Err f) is each p = tt
  played_in_parts P alone size count a c (Ok n) is each p = record {
    more = count;
    parts = subst (λ (b : Bool). ArePartsPlayed M b size count a c) (is ∙ alone_is P size count a c (Ok n) p) (parts_called P alone each size count a c (Ok n) p);
  }

  -- the parts but the last are full, and the last is not empty
  long_parts : (alone : Bool) (size more : ℕ) (a c : List (Cell X F)) → ArePartsPlayed M alone size more a c → 0 < more → more * size < length a
  long_parts alone size zero a c p some = absurd (omega (arith, some))
  long_parts alone size (suc zero) a c p some =
      let whole = ap length p.4 ∙ length-append p.0 p.1 in
      let long = p.6 in
      let rest = p.7 in
      let one : suc zero * size ≡ size = omega arith in
      omega (arith, whole, long, rest, one)
  long_parts alone size (suc (suc more)) a c p some =
      let whole = ap length p.4 ∙ length-append p.0 p.1 in
      let long = p.6 in
      let rest = long_parts alone size (suc more) p.1 p.3 p.9 (omega arith) in
      let grow = suc-mul (suc more) size in
      omega (arith, whole, long, rest, grow)

  pub shared_round : (workers half size : ℕ) (node : ℕ → ℕ) (before mid after : List (Cell X F)) (r : Result ℕ VisitFault) → 0 < workers → EachBecomes (StaysQuiet M) before mid → IsSettling node (states_of M before) (states_of M mid)
      → half ≡ max (div_ceil (length before) workers) 1 → half ≤ size → OnOk r (ArePlayedInParts M size mid after) → OnOk r (IsSharedRound M workers node before after)
  shared_round workers half size node before mid after (Err f) some quiet settling is le p = tt
  shared_round workers half size node before mid after (Ok n) some quiet settling is le p = record {
    middle = mid;
    quiet = quiet;
    settling = settling;
    size = size;
    played = p;
    few = fewer_parts p.more workers size (length before) half some (λ lt. subst (λ (n : ℕ). p.more * size < n) quiet.size (long_parts (p.more == 0) size p.more mid after p.parts lt)) is le;
  }

  -- one round more
  pub shared_push : (workers most : ℕ) (a b c : List (Cell X F)) (rounds : List (List (Cell X F))) → most ≤ workers → AreSharedRounds M workers a rounds b → IsSharedRound M most (home 1 (length b)) b c → AreSharedRounds M workers a (rounds ++ c ∷ []) c
  shared_push workers most a b c [] le same round =
      subst (λ (cells : List (Cell X F)). AreSharedRounds M workers cells (c ∷ []) c) same
      (record { middle = round.middle; quiet = round.quiet; settling = round.settling; size = round.size; played = round.played; few = let few = round.few in omega (arith, few, le) }, refl)
  shared_push workers most a b c (next ∷ rounds) le are round = (are.0, shared_push workers most next b c rounds le are.1 round)

  -- rounds so far, whose states are these
  pub record SharedSoFar (workers : ℕ) (states : List (List CellState)) (started now : List (Cell X F)) : Type 0 where
    pub rounds : List (List (Cell X F))
    pub shared : AreSharedRounds M workers started rounds now
    pub same : map (states_of M) rounds ≡ states

  pub so_far_none : (workers : ℕ) (cells : List (Cell X F)) → SharedSoFar workers [] cells cells
  so_far_none workers cells = record { rounds = []; shared = refl; same = refl }

  pub so_far_more : (workers most : ℕ) (states : List (List CellState)) (started now next : List (Cell X F)) → most ≤ workers → SharedSoFar workers states started now → IsSharedRound M most (home 1 (length now)) now next
      → SharedSoFar workers (states ++ states_of M next ∷ []) started next
  so_far_more workers most states started now next le s round = record {
    rounds = s.rounds ++ next ∷ [];
    shared = shared_push workers most started now next s.rounds le s.shared round;
    same = map-append (states_of M) s.rounds (next ∷ []) ∙ ap (λ (zs : List (List CellState)). zs ++ states_of M next ∷ []) s.same;
  }
