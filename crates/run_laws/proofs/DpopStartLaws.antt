-- The start of DPOP agents: the leaves join, and the others wait.
use Rattle.std.proofs.Common.{◌≡◌, ℕ, zero, suc, ◌+◌, ◌<◌, Bool, true, false, List, [], ◌∷◌, ◌++◌, map, length, replicate, Option, Some, None, zero-add, refl, sym, ap, ap₂, subst, ◌∙◌, arith}
use Rattle.std.specs.List.{slice_get, sum_by, range_with_len}
use Rattle.std.specs.Option.{option_map}
use Rattle.std.proofs.lemmas.Bool.{false≢true}
use Rattle.std.proofs.lemmas.Option.{slice_get-map, slice_get-get_or}
use Rattle.std.proofs.lemmas.List.{length-map}
use Rattle.std.proofs.lemmas.List.FromFn.{length-range_with_len, get_or-range_with_len}
use Rattle.std.proofs.lemmas.List.Sums.{sum_by-cons}
use Rattle.dcop_base.specs.Table.{CostTable}
use Rattle.dcop_base.specs.Problem.{Dcop}
use Rattle.dcop_base.specs.Knowledge.{private_of}
use Rattle.dcop_base.specs.Whole.{IsProblem}
use Rattle.pseudotree.specs.Tree.{parent_of, children_of, is_variable}
use Rattle.pseudotree.specs.Pseudotree.{IsPseudotree, IsLinked}
use Rattle.pseudotree.specs.Width.{IsNarrow}
use Rattle.protocol_steps.specs.declared.message.Message.{Message}
use Rattle.protocol_steps.specs.declared.event.Take.{Take}
use Rattle.protocol_steps.specs.Agent.{Stepped}
use Rattle.protocol_steps.specs.Dpop.{DpopView, new_dpop}
use Rattle.protocol_steps.specs.DpopJoin.{join}
use Rattle.protocol_steps.specs.DpopStep.{dpop_start}
use Rattle.protocol_steps.specs.View.{View, DpopKind}
use Rattle.protocol_steps.specs.Step.{as_kind, start_of}
use Rattle.protocol_steps.specs.Network.{Desk, Network, start_state, messages_to}
use Rattle.protocol_steps.specs.Links.{IsBegun}
use Rattle.protocol_steps.proofs.LinkLaws.{links_grow}
use Rattle.protocol_steps.proofs.TallyLaws.{tally}
use Rattle.protocol_steps.specs.TreeAgents.{place_at, dpop_agents}
use Rattle.run_laws.proofs.Plan.{view_with, kept_if, Plan, util_of_plan, values_for_child}
use Rattle.run_laws.proofs.Marks.{Marks, ended_by, joined, past}
use Rattle.run_laws.proofs.DpopAgentLaws.{join_is}
use Rattle.run_laws.proofs.LetterLaws.{told_none, IsShown, shown}
use Rattle.run_laws.proofs.DpopRunSteps.{IsAt}

-- nothing was taken yet
abbrev pub at_start : Marks
at_start = record { up = λ c. false; down = λ c. false }

none_kept : (table : ℕ → CostTable) (xs : List ℕ) → replicate (length xs) None ≡ map (kept_if table (λ c. false)) xs
none_kept table [] = refl
none_kept table (x ∷ xs) = ap (λ (ys : List (Option CostTable)). None ∷ ys) (none_kept table xs)

one_start : (v : DpopView) → start_of (DpopKind v) ≡ as_kind DpopKind (dpop_start v)
unfolding start_of
one_start v = refl

pub tally_none : (n : ℕ) → tally (λ c. 0) n ≡ 0
tally_none zero = refl
tally_none (suc n) = let rest = tally_none n in omega (arith, rest)

abbrev begun_desk : View → Desk
begun_desk v = record { sent = (start_of v).sends; takes = [] }

nothing_yet : (vs : List View) → sum_by (λ (x : Desk). sum_by (λ (t : Take). t.count) x.takes) (map begun_desk vs) ≡ 0
nothing_yet [] = refl
nothing_yet (v ∷ vs) =
    sum_by-cons (λ (y : Desk). sum_by (λ (t : Take). t.count) y.takes) (begun_desk v) (map begun_desk vs)
    ∙ zero-add (sum_by (λ (y : Desk). sum_by (λ (t : Take). t.count) y.takes) (map begun_desk vs)) ∙ nothing_yet vs

module _ (p : Dcop) (paths : List (List ℕ)) (problem : IsProblem p) (pseudo : IsPseudotree p paths) (linked : IsLinked p paths) (narrow : IsNarrow p paths) (plan : Plan p paths) where
  abbrev new_one : ℕ → DpopView
  new_one i = new_dpop (private_of p i) (place_at p paths i)

  abbrev start : Network
  start = start_state (dpop_agents p paths)

  started : (i : ℕ) → i < length paths → IsShown p paths problem pseudo linked narrow plan at_start i (dpop_start (new_one i))
  started i lt =
      subst (λ (x : Stepped DpopView). IsShown p paths problem pseudo linked narrow plan at_start i x)
      (sym (ap (λ (kept : List (Option CostTable)). join (view_with p paths i false kept None 0)) (none_kept plan.table (children_of paths i))
      ∙ join_is p paths problem pseudo linked narrow plan i lt (λ c. false)))
      (shown p paths problem pseudo linked narrow plan at_start i refl)

  pub made_at : (i : ℕ) → i < length paths → slice_get (dpop_agents p paths) i ≡ Some (DpopKind (new_one i))
  made_at i lt =
      let count = pseudo.sized in
      let long = length-range_with_len 0 (length p.sizes) in
      slice_get-map (λ (k : ℕ). DpopKind (new_one k)) (range_with_len 0 (length p.sizes)) i
      ∙ ap (option_map (λ (k : ℕ). DpopKind (new_one k)))
      (slice_get-get_or (range_with_len 0 (length p.sizes)) i 0 (omega (arith, lt, count, long))
      ∙ ap (λ (k : ℕ). Some k) (get_or-range_with_len 0 (length p.sizes) i 0 (omega (arith, lt, count)) ∙ zero-add i))

  agents : length (dpop_agents p paths) ≡ length paths
  agents = length-map (range_with_len 0 (length p.sizes)) (λ (k : ℕ). DpopKind (new_one k)) ∙ length-range_with_len 0 (length p.sizes) ∙ sym pseudo.sized

  begun : IsBegun (dpop_agents p paths)
  begun = links_grow.begun (dpop_agents p paths)

  none_past : (i j : ℕ) → past plan at_start i j ≡ []
  none_past i j =
      ap₂ (λ (xs : List Message) (ys : List Message). xs ++ ys)
      (told_none (is_variable i (parent_of paths j)) false (util_of_plan plan j) refl)
      (told_none (is_variable j (parent_of paths i)) false (values_for_child p paths plan.value i) refl)

  ended_none : (o : Option ℕ) (b : Bool) → ended_by o b false ≡ true → b ≡ true
  ended_none None b h = h
  ended_none (Some u) b h = absurd (false≢true h)

  pub starts : IsAt p paths problem pseudo linked narrow plan start at_start
  starts = record {
    size = length-map (dpop_agents p paths) begun_desk ∙ agents;
    count = length-map (dpop_agents p paths) (λ (v : View). (start_of v).view) ∙ agents;
    views = λ i lt.
        slice_get-map (λ (v : View). (start_of v).view) (dpop_agents p paths) i
        ∙ ap (option_map (λ (v : View). (start_of v).view)) (made_at i lt)
        ∙ ap (λ (x : Stepped View). Some x.view) (one_start (new_one i))
        ∙ ap (λ (v : DpopView). Some (DpopKind v)) (started i lt).view_is;
    sent_is = λ i j known.
        begun.sent i j (DpopKind (new_one j)) (made_at j known)
        ∙ ap (λ (x : Stepped View). messages_to i x.sends) (one_start (new_one j))
        ∙ (started j known).sent_is i;
    taken_is = λ i j lt. begun.taken i j ∙ sym (ap (λ (ms : List Message). length ms) (none_past i j));
    delivered = let none = tally_none (length paths) in nothing_yet (dpop_agents p paths) ∙ sym (ap₂ (λ (a : ℕ) (b : ℕ). a + b) none none);
    fit = record {
      up_joined = λ c h. absurd (false≢true h);
      up_known = λ c h. absurd (false≢true h);
      down_ended = λ c u h is. absurd (false≢true h);
      down_known = λ c h. absurd (false≢true h);
      ended_joined = λ i h. ended_none (parent_of paths i) (joined plan at_start i) h;
    };
  }
