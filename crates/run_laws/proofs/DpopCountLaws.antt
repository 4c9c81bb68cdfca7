-- How many messages were taken in a run of DPOP, by kind.
use Rattle.std.proofs.Common.{◌≡◌, ℕ, zero, suc, ◌+◌, ◌<◌, ◌≤◌, Bool, true, false, ◌&&◌, eqb, List, ◌++◌, length, take, Option, Some, refl, sym, ap, ap₂, ◌∙◌, inl, inr, arith}
use Rattle.std.specs.List.{count_by}
use Rattle.std.proofs.lemmas.Bool.{cases_eq, false≢true, eq-eqb, ne_eqb, and_right, or_left, or_right}
use Rattle.dcop_base.specs.Problem.{Dcop}
use Rattle.dcop_base.specs.Whole.{IsProblem}
use Rattle.pseudotree.specs.Tree.{parent_of, is_variable}
use Rattle.pseudotree.specs.Pseudotree.{IsPseudotree, IsLinked}
use Rattle.pseudotree.specs.Width.{IsNarrow}
use Rattle.pseudotree.proofs.GatherLaws.{variable_is}
use Rattle.adopt_context.specs.Context.{Context}
use Rattle.protocol_steps.specs.declared.message.Message.{Message}
use Rattle.protocol_steps.specs.declared.message.Message.TheVariants.{Util, ValueAll}
use Rattle.protocol_steps.specs.Network.{Network}
use Rattle.protocol_steps.specs.Delivered.{taken_on}
use Rattle.protocol_steps.proofs.TallyLaws.{tally, tally_same, tally_more}
use Rattle.protocol_steps.proofs.DeliveredLaws.{delivered_are}
use Rattle.run_laws.specs.DpopRun.{is_util, is_value_all, utils, values}
use Rattle.run_laws.proofs.ListLaws.{mark}
use Rattle.run_laws.proofs.Plan.{Plan, util_of_plan, values_for_child}
use Rattle.run_laws.proofs.Marks.{Marks, told, one_if, joined, ended, past}
use Rattle.run_laws.proofs.LetterLaws.{not_both, one_more}
use Rattle.run_laws.proofs.DpopRunSteps.{IsAt}
use Rattle.run_laws.proofs.DpopStartLaws.{tally_none}

tally_add : (f g : ℕ → ℕ) (n : ℕ) → tally f n + tally g n ≡ tally (λ j. f j + g j) n
tally_add f g zero = refl
tally_add f g (suc n) = let rest = tally_add f g n in omega (arith, rest)

-- sums over pairs, in either order
tally_swap : (f : ℕ → ℕ → ℕ) (m n : ℕ) → tally (λ i. tally (f i) n) m ≡ tally (λ j. tally (λ i. f i j) m) n
tally_swap f zero n = sym (tally_none n)
tally_swap f (suc m) n = ap (λ (k : ℕ). k + tally (f m) n) (tally_swap f m n) ∙ tally_add (λ j. tally (λ i. f i j) m) (f m) n

one_if_few : (b : Bool) → one_if b ≤ 1
one_if_few true = omega arith
one_if_few false = omega arith

tally_few : (f : ℕ → Bool) (n : ℕ) → tally (λ c. one_if (f c)) n ≤ n
tally_few f zero = omega arith
tally_few f (suc n) = let rest = tally_few f n in let last = one_if_few (f n) in omega (arith, rest, last)

-- a count where one number is missing, or two
pub tally_miss : (f : ℕ → Bool) (n a : ℕ) → a < n → f a ≡ false → tally (λ c. one_if (f c)) n + 1 ≤ n
tally_miss f zero a lt out = absurd (omega (arith, lt))
tally_miss f (suc n) a lt out = elim (cases_eq a n) [
  | inl same ↦
      let rest = tally_few f n in
      let last : one_if (f n) ≡ 0 = ap (λ (k : ℕ). one_if (f k)) (sym same) ∙ ap one_if out in omega (arith, rest, last)
  | inr other ↦
      let rest = tally_miss f n a (omega (arith, lt, other)) out in
      let last = one_if_few (f n) in omega (arith, rest, last)
]

pub tally_miss_two : (f : ℕ → Bool) (n a b : ℕ) → a < n → b < n → (a ≡ b → ⊥) → f a ≡ false → f b ≡ false → tally (λ c. one_if (f c)) n + 2 ≤ n
tally_miss_two f zero a b la lb ne out out' = absurd (omega (arith, la))
tally_miss_two f (suc n) a b la lb ne out out' = elim (cases_eq a n) [
  | inl same ↦
      let apart : (b ≡ n → ⊥) = λ e. ne (same ∙ sym e) in
      let rest = tally_miss f n b (omega (arith, lb, apart)) out' in
      let last : one_if (f n) ≡ 0 = ap (λ (k : ℕ). one_if (f k)) (sym same) ∙ ap one_if out in omega (arith, rest, last)
  | inr other ↦ elim (cases_eq b n) [
    | inl same ↦
        let rest = tally_miss f n a (omega (arith, la, other)) out in
        let last : one_if (f n) ≡ 0 = ap (λ (k : ℕ). one_if (f k)) (sym same) ∙ ap one_if out' in omega (arith, rest, last)
    | inr apart ↦
        let rest = tally_miss_two f n a b (omega (arith, la, other)) (omega (arith, lb, apart)) ne out out' in
        let last = one_if_few (f n) in omega (arith, rest, last)
  ]
]

tally_ones : (f : ℕ → ℕ) (n : ℕ) → ((c : ℕ) → c < n → f c ≡ 1) → tally f n ≡ n
tally_ones f zero ones = refl
tally_ones f (suc n) ones = let rest = tally_ones f n (λ c lt. ones c (omega (arith, lt))) in let last = ones n (omega arith) in omega (arith, rest, last)

-- a count where only one number is missing
pub tally_all : (f : ℕ → Bool) (n a : ℕ) → a < n → f a ≡ false → ((c : ℕ) → c < n → (c ≡ a → ⊥) → f c ≡ true) → tally (λ c. one_if (f c)) n + 1 ≡ n
tally_all f n a lt out others =
    sym (one_more f n a lt out)
    ∙ tally_ones (λ c. one_if (mark f a c)) n (λ c known. ap one_if (either c known))
  where
    either : (c : ℕ) → c < n → mark f a c ≡ true
    either c known = elim (cases_eq c a) [
      | inl same ↦ or_left (eqb c a) (f c) (eq-eqb c a same)
      | inr ne ↦ or_right (eqb c a) (f c) (others c known ne)
    ]

-- a mark is counted at the one parent
single : (o : Option ℕ) (b : Bool) (n : ℕ) → (b ≡ true → (w : ℕ) × (o ≡ Some w) × (w < n)) → tally (λ i. one_if (is_variable i o && b)) n ≡ one_if b
single o false n known = tally_same (λ i. one_if (is_variable i o && false)) (λ i. 0) n (λ i lt. ap one_if (and_right (is_variable i o) false refl)) ∙ tally_none n
single o true n known =
    let w = known refl in
    let at : one_if (is_variable w.0 o && true) ≡ 0 + 1 = ap (λ (b : Bool). one_if (b && true)) (ap (is_variable w.0) w.1 ∙ eq-eqb w.0 w.0 refl) in
    tally_more (λ i. 0) (λ i. one_if (is_variable i o && true)) n w.0 1 w.2 at
    (λ i ne. ap (λ (b : Bool). one_if (b && true)) (ap (is_variable i) w.1 ∙ ne_eqb w.0 i (λ e. ne (sym e))))
    ∙ ap (λ (k : ℕ). k + 1) (tally_none n)

count_utils : (x y : Bool) (scope cells : List ℕ) (c : Context) → count_by is_util (told x (Util scope cells) ++ told y (ValueAll c)) ≡ one_if x
count_utils true true scope cells c = refl
count_utils true false scope cells c = refl
count_utils false true scope cells c = refl
count_utils false false scope cells c = refl

count_values : (x y : Bool) (scope cells : List ℕ) (c : Context) → count_by is_value_all (told x (Util scope cells) ++ told y (ValueAll c)) ≡ one_if y
count_values true true scope cells c = refl
count_values true false scope cells c = refl
count_values false true scope cells c = refl
count_values false false scope cells c = refl

-- what was taken is the first part of what was sent
taken_first : (a b u d J E : Bool) (U V : Message) → (a ≡ true → b ≡ true → ⊥) → (u ≡ true → J ≡ true) → (b ≡ true → d ≡ true → E ≡ true)
    → take (length (told (a && u) U ++ told (b && d) V)) (told (a && J) U ++ told (b && E) V) ≡ told (a && u) U ++ told (b && d) V
taken_first true true u d J E U V apart up down = absurd (apart refl refl)
taken_first true false true d true E U V apart up down = refl
taken_first true false true d false E U V apart up down = absurd (false≢true (up refl))
taken_first true false false d J E U V apart up down = refl
taken_first false true u true J true U V apart up down = refl
taken_first false true u true J false U V apart up down = absurd (false≢true (down refl refl))
taken_first false true u false J E U V apart up down = refl
taken_first false false u d J E U V apart up down = refl

module _ (p : Dcop) (paths : List (List ℕ)) (problem : IsProblem p) (pseudo : IsPseudotree p paths) (linked : IsLinked p paths) (narrow : IsNarrow p paths) (plan : Plan p paths) where
  module _ (net : Network) (s : Marks) (is : IsAt p paths problem pseudo linked narrow plan net s) where
    taken_are : (i j : ℕ) → i < length paths → j < length paths → taken_on net.desks i j ≡ past plan s i j
    taken_are i j lt known =
        ap₂ (λ (k : ℕ) (ms : List Message). take k ms) (is.taken_is i j lt) (is.sent_is i j known)
        ∙ taken_first (is_variable i (parent_of paths j)) (is_variable j (parent_of paths i)) (s.up j) (s.down i) (joined plan s j) (ended plan s j) (util_of_plan plan j) (values_for_child p paths plan.value i)
        (λ a b. not_both p paths problem pseudo linked narrow plan j i (variable_is i (parent_of paths j) a) (variable_is j (parent_of paths i) b))
        (is.fit.up_joined j) (λ b d. is.fit.down_ended i j d (variable_is j (parent_of paths i) b))

    pub utils_are : utils net ≡ tally (λ c. one_if (s.up c)) (length paths)
    utils_are =
        let n : ℕ = length paths in
        delivered_are n net (past plan s) is.size taken_are is_util
        ∙ tally_same (λ i. tally (λ j. count_by is_util (past plan s i j)) n) (λ i. tally (λ j. one_if (is_variable i (parent_of paths j) && s.up j)) n) n
        (λ i lt. tally_same (λ j. count_by is_util (past plan s i j)) (λ j. one_if (is_variable i (parent_of paths j) && s.up j)) n
        (λ j known. count_utils (is_variable i (parent_of paths j) && s.up j) (is_variable j (parent_of paths i) && s.down i) _ _ _))
        ∙ tally_swap (λ i j. one_if (is_variable i (parent_of paths j) && s.up j)) n n
        ∙ tally_same (λ j. tally (λ i. one_if (is_variable i (parent_of paths j) && s.up j)) n) (λ c. one_if (s.up c)) n
        (λ j known. single (parent_of paths j) (s.up j) n (λ h. let w = is.fit.up_known j h in (w.0, w.1, (pseudo.tree.nested j w.0 w.1).0)))

    pub values_are : values net ≡ tally (λ c. one_if (s.down c)) (length paths)
    values_are =
        let n : ℕ = length paths in
        delivered_are n net (past plan s) is.size taken_are is_value_all
        ∙ tally_same (λ i. tally (λ j. count_by is_value_all (past plan s i j)) n) (λ c. one_if (s.down c)) n
        (λ i lt. tally_same (λ j. count_by is_value_all (past plan s i j)) (λ j. one_if (is_variable j (parent_of paths i) && s.down i)) n
        (λ j known. count_values (is_variable i (parent_of paths j) && s.up j) (is_variable j (parent_of paths i) && s.down i) _ _ _)
        ∙ single (parent_of paths i) (s.down i) n (λ h. let w = is.fit.down_known i h in (w.0, w.1, (pseudo.tree.nested i w.0 w.1).0)))
