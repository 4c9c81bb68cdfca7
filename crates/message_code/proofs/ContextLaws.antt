-- Contexts, pair by pair.
use Rattle.std.proofs.Common.{◌≡◌, ℕ, suc, ◌+◌, ◌-◌, ◌<◌, ◌≤◌, false, List, [], ◌∷◌, ◌++◌, length, refl, sym, ap, subst, ◌∙◌, append_assoc, arith, length-append}
use Rattle.std.specs.Prelude.{◌==◌, nat_lt}
use Rattle.std.specs.List.{flat_map}
use Rattle.std.specs.Int.{w16, w32}
use Rattle.std.proofs.lemmas.List.{append-nil}
use Rattle.std.proofs.lemmas.List.Concat.{flat_map-append, flat_map-cons}
use Rattle.std.proofs.lemmas.List.Elements.{All-push, All-head, All-tail}
use Rattle.dcop_base.specs.Limits.{variable_limit, size_limit}
use Rattle.adopt_context.specs.Context.{Context, AscendsFrom, put}
use Rattle.protocol_steps.specs.Ranges.{IsContext}
use Rattle.message_code.specs.declared.stop.Stop.{Stop}
use Rattle.message_code.specs.Code.{pair_code, variable_code, value_code}
use Rattle.message_code.specs.Form.{Form, number, pair, pairs, first_fault}
use Rattle.message_code.specs.Reading.{Stopped}
use Rattle.message_code.proofs.NumberLaws.{wide16, wide32, number_passes}
use Rattle.message_code.proofs.PartLaws.{stopped_first, stopped_behind}

-- the least variable that may follow these pairs
abbrev pub next_least : ℕ → Context → ℕ
next_least b [] = b
next_least b (p ∷ ps) = next_least (p.0 + 1) ps

next_least_ge : (b : ℕ) (ps : Context) → AscendsFrom b ps → b ≤ next_least b ps
next_least_ge b [] h = omega arith
next_least_ge b (p ∷ ps) h = omega (arith, h.0, next_least_ge (p.0 + 1) ps h.1)

pub next_least_push : (b : ℕ) (ps : Context) (v a : ℕ) → next_least b (ps ++ (v, a) ∷ []) ≡ v + 1
next_least_push b [] v a = refl
next_least_push b (p ∷ ps) v a = next_least_push (p.0 + 1) ps v a

pub ascends_push : (b : ℕ) (ps : Context) (v a : ℕ) → AscendsFrom b ps → next_least b ps ≤ v → AscendsFrom b (ps ++ (v, a) ∷ [])
ascends_push b [] v a h le = (le, tt)
ascends_push b (p ∷ ps) v a h le = (h.0, ascends_push (p.0 + 1) ps v a h.1 le)

eq_false : (a b : ℕ) → b < a → (a == b) ≡ false
eq_false a b h = grind arith

lt_false : (a b : ℕ) → b ≤ a → nat_lt a b ≡ false
lt_false a b h = grind arith

-- a pair with a greater variable is put behind the others
pub put_push : (b : ℕ) (ps : Context) (v a : ℕ) → AscendsFrom b ps → next_least b ps ≤ v → put ps v a ≡ ps ++ (v, a) ∷ []
put_push b [] v a h le = refl
put_push b (p ∷ ps) v a h le =
    let above : p.0 < v = omega (arith, next_least_ge (p.0 + 1) ps h.1) in
    rw (eq_false v p.0 above, lt_false v p.0 (omega arith)) (ap (λ (x : Context). p ∷ x) (put_push (p.0 + 1) ps v a h.1 le))

-- a pair in its ranges is passed
pub pair_passes : (least : ℕ) (p : ℕ × ℕ) (next : ℕ → Form) (before : ℕ) (rest : List ℕ) → least ≤ p.0 → p.0 < variable_limit → p.1 < size_limit
    → first_fault (pair least next) before (pair_code p ++ rest) ≡ first_fault (next p.0) (before + 6) rest
pair_passes least p next before rest ge lt small =
    ap (first_fault (pair least next) before) (append_assoc (variable_code p.0) (value_code p.1) rest)
    ∙ number_passes w32 _ wide32 least variable_limit p.0 (λ v. number w16 0 size_limit (λ a. next v)) before (value_code p.1 ++ rest) (omega arith) ge lt
    ∙ number_passes w16 _ wide16 0 size_limit p.1 (λ a. next p.0) (before + 4) rest (omega arith) (omega arith) small
    ∙ ap (λ (x : ℕ). first_fault (next p.0) x rest) (omega arith)

-- pairs in their ranges are passed
pub pairs_pass : (b : ℕ) (ps : Context) (m k : ℕ) (next : Form) (before : ℕ) (rest : List ℕ) → AscendsFrom b ps → IsContext ps → m ≡ length ps + k
    → first_fault (pairs m b next) before (flat_map pair_code ps ++ rest) ≡ first_fault (pairs k (next_least b ps) next) (before + length (flat_map pair_code ps)) rest
pairs_pass b [] m k next before rest up range e =
    let same : m ≡ k = omega arith in
    let at : before ≡ before + 0 = omega arith in
    ap (λ (x : ℕ). first_fault (pairs x b next) before rest) same ∙ ap (λ (x : ℕ). first_fault (pairs k b next) x rest) at
pairs_pass b (p ∷ ps) m k next before rest up range e =
    let more : m ≡ suc (length ps + k) = omega arith in
    let here = All-head (λ (q : ℕ × ℕ). (q.0 < variable_limit) × (q.1 < size_limit)) p ps range in
    let apart : flat_map pair_code (p ∷ ps) ++ rest ≡ pair_code p ++ (flat_map pair_code ps ++ rest) = ap (λ (x : List ℕ). x ++ rest) (flat_map-cons pair_code p ps) ∙ append_assoc (pair_code p) (flat_map pair_code ps) rest in
    let six : length (pair_code p) ≡ 6 = refl in
    let at : before + 6 + length (flat_map pair_code ps) ≡ before + length (flat_map pair_code (p ∷ ps)) = omega (arith, six, ap length (flat_map-cons pair_code p ps), length-append (pair_code p) (flat_map pair_code ps)) in
    ap (λ (x : ℕ). first_fault (pairs x b next) before (flat_map pair_code (p ∷ ps) ++ rest)) more
    ∙ ap (first_fault (pairs (suc (length ps + k)) b next) before) apart
    ∙ pair_passes b p (λ v. pairs (length ps + k) (v + 1) next) before (flat_map pair_code ps ++ rest) up.0 here.0 here.1
    ∙ pairs_pass (p.0 + 1) ps (length ps + k) k next (before + 6) rest up.1 (All-tail (λ (q : ℕ × ℕ). (q.0 < variable_limit) × (q.1 < size_limit)) p ps range) refl
    ∙ ap (λ (x : ℕ). first_fault (pairs k (next_least (p.0 + 1) ps) next) x rest) at

-- so many pairs are read from the front
pub record HasPairs (bytes : List ℕ) (context : Context) (count least : ℕ) (rest : List ℕ) : Type 0 where
  pub whole : bytes ≡ flat_map pair_code context ++ rest
  pub told : length context ≡ count
  pub from : least ≡ next_least 0 context
  pub ascends : AscendsFrom 0 context
  pub range : IsContext context

pub pairs_more : (bytes : List ℕ) (context : Context) (count least : ℕ) (rest : List ℕ) (v a : ℕ) (behind : List ℕ) (after : Context) → HasPairs bytes context count least rest
    → (least ≤ v) × (v < variable_limit) × (a < size_limit) → rest ≡ pair_code (v, a) ++ behind → after ≡ put context v a → HasPairs bytes after (count + 1) (v + 1) behind
pairs_more bytes context count least rest v a behind after h range is made =
    let from : next_least 0 context ≤ v = let l = h.from in omega (arith, range.0) in
    let pushed : after ≡ context ++ (v, a) ∷ [] = made ∙ put_push 0 context v a h.ascends from in
    let code : flat_map pair_code (context ++ (v, a) ∷ []) ≡ flat_map pair_code context ++ pair_code (v, a) = flat_map-append pair_code context ((v, a) ∷ []) ∙ ap (λ (x : List ℕ). flat_map pair_code context ++ x) (append-nil (pair_code (v, a))) in
    subst (λ (x : Context). HasPairs bytes x (count + 1) (v + 1) behind) (sym pushed) (record {
      whole = h.whole ∙ ap (λ (x : List ℕ). flat_map pair_code context ++ x) is ∙ sym (append_assoc (flat_map pair_code context) (pair_code (v, a)) behind) ∙ ap (λ (x : List ℕ). x ++ behind) (sym code);
      told = let t = h.told in omega (arith, length-append context ((v, a) ∷ []));
      from = sym (next_least_push 0 context v a);
      ascends = ascends_push 0 context v a h.ascends from;
      range = All-push (λ (q : ℕ × ℕ). (q.0 < variable_limit) × (q.1 < size_limit)) context (v, a) h.range (range.1, range.2);
    })

-- where one more pair is not read, so many are not
pub pairs_stop : (bytes : List ℕ) (context : Context) (count i least : ℕ) (rest : List ℕ) (stop : Stop) → HasPairs bytes context i least rest → i < count → Stopped (pair least) rest stop → Stopped (pairs count 0) bytes stop
pairs_stop bytes context count i least rest stop h lt stopped =
    let left : count ≡ length context + suc (count - (i + 1)) = let told = h.told in omega arith in
    let here : Stopped (pair (next_least 0 context)) rest stop = subst (λ (x : ℕ). Stopped (pair x) rest stop) h.from stopped in
    let one : Stopped (λ (next : Form). pairs (suc (count - (i + 1))) (next_least 0 context) next) rest stop = stopped_first (pair (next_least 0 context)) (λ next v. pairs (count - (i + 1)) (v + 1) next) rest stop here in
    stopped_behind (pairs count 0) (pairs (suc (count - (i + 1))) (next_least 0 context)) bytes (flat_map pair_code context) rest stop h.whole
    (λ next before. pairs_pass 0 context count (suc (count - (i + 1))) next before rest h.ascends h.range left) one

-- ascending variables below a limit are no more than it
pub few_pairs : (b : ℕ) (ps : Context) → AscendsFrom b ps → IsContext ps → b ≤ variable_limit → b + length ps ≤ variable_limit
few_pairs b [] up range le = omega arith
few_pairs b (p ∷ ps) up range le =
    let here = All-head (λ (q : ℕ × ℕ). (q.0 < variable_limit) × (q.1 < size_limit)) p ps range in
    omega (arith, up.0, here.0, few_pairs (p.0 + 1) ps up.1 (All-tail (λ (q : ℕ × ℕ). (q.0 < variable_limit) × (q.1 < size_limit)) p ps range) (omega (arith, here.0)))
