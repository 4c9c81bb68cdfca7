-- A report with a log holds exactly where it has no difference.
use Rattle.std.proofs.Common.{◌≡◌, ℕ, ◌+◌, ◌≤◌, Bool, true, false, eqb, ltb, min, if◌then◌else◌, List, [], ◌∷◌, length, Option, Some, None, refl, sym, ap, subst, ◌∙◌, inl, inr, arith}
use Rattle.std.specs.List.{slice_get}
use Rattle.std.specs.Option.{option_map, option_or}
use Rattle.std.proofs.lemmas.Bool.{cases_Bool, cond-true, cond-false, eqb-true, eq-eqb, ltb-false, le-ltb}
use Rattle.std.proofs.lemmas.List.{length-map}
use Rattle.std.proofs.lemmas.Option.{none-some}
use Rattle.dcop_base.specs.Limits.{count_limit}
use Rattle.dcop_base.specs.Problem.{Dcop, cost}
use Rattle.dcop_base.specs.Whole.{IsProblem}
use Rattle.pseudotree.specs.DepthFirst.{dfs}
use Rattle.pseudotree.specs.Tree.{IsRoot}
use Rattle.protocol_steps.specs.declared.standing.Standing.{Standing}
use Rattle.protocol_steps.specs.Adopt.{AdoptView}
use Rattle.protocol_steps.specs.View.{AdoptKind, value_of, standing_of}
use Rattle.protocol_steps.specs.Network.{Network, start_state}
use Rattle.protocol_steps.specs.Effect.{has_ended, deliveries}
use Rattle.run_laws.specs.TokenLaws.{TokenRuns}
use Rattle.run_laws.specs.AdoptRunLaws.{AdoptBoundsEnclose}
use Rattle.run_laws.specs.AdoptEnd.{values_of}
use Rattle.run_log.specs.declared.log.LogEvent.{LogEvent}
use Rattle.run_log.specs.Logs.{events_of}
use Rattle.run_log.specs.LogStamps.{StampDifference, start_stamps, stamp_difference}
use Rattle.problem_text.specs.File.{TextFile}
use Rattle.certificate_text.specs.declared.report.Report.{Report}
use Rattle.certificate_text.specs.declared.report.Ending.{Ending}
use Rattle.certificate_text.specs.declared.report.Ending.TheVariants.{Solved, Spent}
use Rattle.certificate_text.specs.declared.verdict.Differs.{Differs}
use Rattle.certificate_text.specs.declared.verdict.Differs.TheVariants.{Cost, Lower, Upper, Error, Deliveries, Status, Stamp, Value}
use Rattle.minimised_problem.specs.Goal.{problem_solved}
use Rattle.minimised_problem.specs.Gap.{gap_of}
use Rattle.minimised_problem.proofs.SolvedLaws.{solved_problem, solved_sizes}
use Rattle.minimised_problem.specs.LogEnds.{TellsEnd, IsRootAgent, least_known, lower_for, upper_for}
use Rattle.minimised_problem.specs.LogHolds.{agents_for, HoldsLog}
use Rattle.minimised_problem.specs.Differences.{fault_in, stamp_in, played, standing_at, root_standing, status_difference, unless_right, count_difference, value_difference, error_difference, bound_difference, end_difference}
use Rattle.minimised_problem.specs.LogLaws.{DifferencesAreExact}
use Rattle.minimised_problem.proofs.RootLaws.{root-zero}
use Rattle.minimised_problem.proofs.PlayedLaws.{or_none, or_parts, lawful-leads, run-lawful}

-- each test alone: it tells nothing exactly where its condition is met
unless_none : (differs : ℕ → ℕ → Differs) (left right : ℕ) → unless_right differs left right ≡ None → left ≡ right
unless_none differs left right none =
    elim (cases_Bool (eqb left right)) [
      | inl same ↦ eqb-true left right same
      | inr other ↦ absurd (none-some (differs left right) (sym none ∙ cond-false (eqb left right) None (Some (differs left right)) other))
    ]

none_unless : (differs : ℕ → ℕ → Differs) (left right : ℕ) → left ≡ right → unless_right differs left right ≡ None
none_unless differs left right same = cond-true (eqb left right) None (Some (differs left right)) (eq-eqb left right same)

count_none : (left right : ℕ) → count_difference left right ≡ None → left ≡ right
count_none left right none =
    elim (cases_Bool (eqb left right)) [
      | inl same ↦ eqb-true left right same
      | inr other ↦ absurd (none-some (Deliveries left (min right count_limit)) (sym none ∙ cond-false (eqb left right) None (Some (Deliveries left (min right count_limit))) other))
    ]

none_count : (left right : ℕ) → left ≡ right → count_difference left right ≡ None
none_count left right same = cond-true (eqb left right) None (Some (Deliveries left (min right count_limit))) (eq-eqb left right same)

stamp-none : (o : Option StampDifference) → option_map (λ (d : StampDifference). Stamp d.event d.left d.right) o ≡ None → o ≡ None
stamp-none None none = refl
stamp-none (Some d) none = absurd (none-some (Stamp d.event d.left d.right) (sym none))

status-same : (b : Bool) (s : Ending) → status_difference b s ≡ None → s ≡ (if b then Solved else Spent)
status-same true Solved none = refl
status-same true Spent none = absurd (none-some (Status Spent) (sym none))
status-same false Solved none = absurd (none-some (Status Solved) (sym none))
status-same false Spent none = refl

status-none : (b : Bool) (s : Ending) → s ≡ (if b then Solved else Spent) → status_difference b s ≡ None
status-none true Solved same = refl
status-none true Spent same = absurd (cc)
status-none false Solved same = absurd (cc)
status-none false Spent same = refl

values-same : (i : ℕ) (vs ws : List ℕ) → length vs ≡ length ws → value_difference i vs ws ≡ None → vs ≡ ws
values-same i [] [] size none = refl
values-same i [] (w ∷ ws) size none = absurd (omega (arith, size))
values-same i (v ∷ vs) [] size none = absurd (omega (arith, size))
values-same i (v ∷ vs) (w ∷ ws) size none =
    elim (cases_Bool (eqb v w)) [
      | inl same ↦
          let rest : value_difference (i + 1) vs ws ≡ None = sym (cond-true (eqb v w) (value_difference (i + 1) vs ws) (Some (Value i)) same) ∙ none in
          ap (λ (x : ℕ). x ∷ vs) (eqb-true v w same) ∙ ap (λ (xs : List ℕ). w ∷ xs) (values-same (i + 1) vs ws (omega (arith, size)) rest)
      | inr other ↦ absurd (none-some (Value i) (sym none ∙ cond-false (eqb v w) (value_difference (i + 1) vs ws) (Some (Value i)) other))
    ]

values-none : (i : ℕ) (vs : List ℕ) → value_difference i vs vs ≡ None
values-none i [] = refl
values-none i (v ∷ vs) = cond-true (eqb v v) (value_difference (i + 1) vs vs) (Some (Value i)) (eq-eqb v v refl) ∙ values-none (i + 1) vs

error-small : (s : Ending) (error gap : ℕ) → error_difference s error gap ≡ None → s ≡ Solved → gap ≤ error
error-small Solved error gap none is =
    elim (cases_Bool (ltb error gap)) [
      | inl over ↦ absurd (none-some (Error error gap) (sym none ∙ cond-true (ltb error gap) (Some (Error error gap)) None over))
      | inr within ↦ ltb-false error gap within
    ]
error-small Spent error gap none is = absurd (cc)

error-none : (s : Ending) (error gap : ℕ) → (s ≡ Solved → gap ≤ error) → error_difference s error gap ≡ None
error-none Solved error gap small = cond-false (ltb error gap) (Some (Error error gap)) None (le-ltb error gap (small refl))
error-none Spent error gap small = refl

-- the bounds by the root's standing
abbrev lower_by : TextFile → Report → Standing → ℕ
lower_by f r s = lower_for f.goal f.problem s.lower (least_known (cost (problem_solved f) r.values) s.upper)

abbrev upper_by : TextFile → Report → Standing → ℕ
upper_by f r s = upper_for f.goal f.problem s.lower (least_known (cost (problem_solved f) r.values) s.upper)

module _ (f : TextFile) (end : Network) (r : Report) (v : AdoptView) (at : slice_get end.views 0 ≡ Some (AdoptKind v)) where
  stands : root_standing end ≡ standing_of (AdoptKind v)
  stands = ap standing_at at

  abbrev behind : Option Differs
  behind = bound_difference f (root_standing end) r

  abbrev errs : Option Differs
  errs = error_difference r.status r.error (gap_of f.goal r)

  -- without a difference the report tells the end, and its gap is small where it is solved
  pub end-told : IsRoot (dfs (problem_solved f)) 0 → length r.values ≡ length (values_of end) → end_difference f end r ≡ None → TellsEnd f end r × (r.status ≡ Solved → gap_of f.goal r ≤ r.error)
  end-told root size none =
      let one = or_parts (status_difference (has_ended end) r.status) (option_or (count_difference r.deliveries (deliveries end)) (option_or (value_difference 0 r.values (values_of end)) behind)) none in
      let two = or_parts (count_difference r.deliveries (deliveries end)) (option_or (value_difference 0 r.values (values_of end)) behind) one.1 in
      let three = or_parts (value_difference 0 r.values (values_of end)) behind two.1 in
      let four = or_parts (unless_right (λ left right. Cost left right) r.cost (cost f.problem r.values)) (option_or (unless_right (λ left right. Lower left right) r.lower (lower_by f r (root_standing end))) (option_or (unless_right (λ left right. Upper left right) r.upper (upper_by f r (root_standing end))) errs)) three.1 in
      let five = or_parts (unless_right (λ left right. Lower left right) r.lower (lower_by f r (root_standing end))) (option_or (unless_right (λ left right. Upper left right) r.upper (upper_by f r (root_standing end))) errs) four.1 in
      let six = or_parts (unless_right (λ left right. Upper left right) r.upper (upper_by f r (root_standing end))) errs five.1 in (
        record {
          top = v;
          is_top = record { root = 0; above_all = root; is = at };
          status = status-same (has_ended end) r.status one.0;
          delivered = count_none r.deliveries (deliveries end) two.0;
          values = values-same 0 r.values (values_of end) size three.0;
          sum = unless_none (λ left right. Cost left right) r.cost (cost f.problem r.values) four.0;
          lower = unless_none (λ left right. Lower left right) r.lower (lower_by f r (root_standing end)) five.0 ∙ ap (lower_by f r) stands;
          upper = unless_none (λ left right. Upper left right) r.upper (upper_by f r (root_standing end)) six.0 ∙ ap (upper_by f r) stands;
        },
        error-small r.status r.error (gap_of f.goal r) six.1,
      )

  -- and back
  pub told-end : r.status ≡ (if has_ended end then Solved else Spent) → r.deliveries ≡ deliveries end → r.values ≡ values_of end → r.cost ≡ cost f.problem r.values → r.lower ≡ lower_by f r (standing_of (AdoptKind v)) → r.upper ≡ upper_by f r (standing_of (AdoptKind v))
      → (r.status ≡ Solved → gap_of f.goal r ≤ r.error) → end_difference f end r ≡ None
  told-end status delivered values sum lower upper near =
      let upper-none = none_unless (λ left right. Upper left right) r.upper (upper_by f r (root_standing end)) (upper ∙ sym (ap (upper_by f r) stands)) in
      let lower-none = none_unless (λ left right. Lower left right) r.lower (lower_by f r (root_standing end)) (lower ∙ sym (ap (lower_by f r) stands)) in
      let six = or_none (unless_right (λ left right. Upper left right) r.upper (upper_by f r (root_standing end))) errs upper-none (error-none r.status r.error (gap_of f.goal r) near) in
      let five = or_none (unless_right (λ left right. Lower left right) r.lower (lower_by f r (root_standing end))) (option_or (unless_right (λ left right. Upper left right) r.upper (upper_by f r (root_standing end))) errs) lower-none six in
      let four : behind ≡ None = or_none (unless_right (λ left right. Cost left right) r.cost (cost f.problem r.values)) (option_or (unless_right (λ left right. Lower left right) r.lower (lower_by f r (root_standing end))) (option_or (unless_right (λ left right. Upper left right) r.upper (upper_by f r (root_standing end))) errs)) (none_unless (λ left right. Cost left right) r.cost (cost f.problem r.values) sum) five in
      let same : value_difference 0 r.values (values_of end) ≡ None = subst (λ (vs : List ℕ). value_difference 0 r.values vs ≡ None) values (values-none 0 r.values) in
      let three = or_none (value_difference 0 r.values (values_of end)) behind same four in
      let two = or_none (count_difference r.deliveries (deliveries end)) (option_or (value_difference 0 r.values (values_of end)) behind) (none_count r.deliveries (deliveries end) delivered) three in
      or_none (status_difference (has_ended end) r.status) (option_or (count_difference r.deliveries (deliveries end)) (option_or (value_difference 0 r.values (values_of end)) behind)) (status-none (has_ended end) r.status status) two

module _ (tokens : TokenRuns) (bounds : AdoptBoundsEnclose) (f : TextFile) (r : Report) (log : List LogEvent) (whole : IsProblem f.problem) where
  abbrev goal_problem : Dcop
  goal_problem = problem_solved f

  abbrev first : Network
  first = start_state (agents_for f r.error)

  goal_whole : IsProblem goal_problem
  goal_whole = solved_problem f.goal f.problem whole

  root : IsRoot (dfs goal_problem) 0
  root = root-zero goal_problem goal_whole

  pub no-difference : length r.values ≡ length f.problem.sizes → option_or (fault_in 1 first log) (option_or (stamp_in first log) (end_difference f (played first log) r)) ≡ None → HoldsLog f r log
  no-difference size none =
      let one = or_parts (fault_in 1 first log) (option_or (stamp_in first log) (end_difference f (played first log) r)) none in
      let two = or_parts (stamp_in first log) (end_difference f (played first log) r) one.1 in
      let leads = lawful-leads 1 first log one.0 in
      let right = stamp-none (stamp_difference 1 (Some first) (start_stamps first) None log) two.0 in
      let holds = bounds goal_problem (dfs goal_problem) r.error goal_whole (tokens.pseudotree goal_problem goal_whole) (events_of log) (played first log) leads in
      let agent = holds.agents 0 (let some = goal_whole.some in omega (arith, some)) in
      let long : length (values_of (played first log)) ≡ length goal_problem.sizes = length-map (played first log).views value_of ∙ holds.sized in
      let wide : length goal_problem.sizes ≡ length f.problem.sizes = ap (λ (ss : List ℕ). length ss) (solved_sizes f.goal f.problem) in
      let told = end-told f (played first log) r agent.0 agent.1 root (size ∙ sym wide ∙ sym long) two.1 in
      record {
        end = played first log;
        run = record { leads = leads; right = right };
        told = told.0;
        near = told.1;
      }

  -- the root's agent stands in place 0
  top-at : (end : Network) (v : AdoptView) → IsRootAgent goal_problem end v → slice_get end.views 0 ≡ Some (AdoptKind v)
  top-at end v is =
      let same = (tokens.pseudotree goal_problem goal_whole).tree.one_root is.root 0 is.above_all root in
      subst (λ (i : ℕ). slice_get end.views i ≡ Some (AdoptKind v)) same is.is

  pub holds-none : HoldsLog f r log → option_or (fault_in 1 first log) (option_or (stamp_in first log) (end_difference f (played first log) r)) ≡ None
  holds-none is =
      let lawful = run-lawful 1 first is.end log is.run.leads in
      let told = is.told in
      let end : end_difference f is.end r ≡ None = told-end f is.end r told.top (top-at is.end told.top told.is_top) told.status told.delivered told.values told.sum told.lower told.upper is.near in
      let same : end_difference f (played first log) r ≡ None = subst (λ (net : Network). end_difference f net r ≡ None) (sym lawful.1) end in
      let stamps : stamp_in first log ≡ None = ap (option_map (λ (d : StampDifference). Stamp d.event d.left d.right)) is.run.right in
      or_none (fault_in 1 first log) (option_or (stamp_in first log) (end_difference f (played first log) r)) lawful.0 (or_none (stamp_in first log) (end_difference f (played first log) r) stamps same)

pub differences_are_exact : TokenRuns → AdoptBoundsEnclose → DifferencesAreExact
differences_are_exact tokens bounds = record {
  holds = λ f r log whole size none. no-difference tokens bounds f r log whole size none;
  none = λ f r log whole is. holds-none tokens bounds f r log whole is;
}
