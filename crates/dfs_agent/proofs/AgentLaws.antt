-- What a token agent keeps in its steps, and how its messages, batches and starts make up those of a machine.
use Rattle.std.proofs.Common.{◌≡◌, ℕ, ◌+◌, ◌<◌, ◌≤◌, Bool, true, false, ◌&&◌, nat_le, List, [], ◌∷◌, ◌++◌, length, drop, get_or, Option, Some, not, take, refl, sym, ap, subst, ◌∙◌, arith}
use Rattle.std.specs.Prelude.{slice_get}
use Rattle.std.specs.List.{All, Contains, concat, filter, flat_map, fold}
use Rattle.std.proofs.lemmas.Bool.{leb-true, false≢true}
use Rattle.std.proofs.lemmas.List.{at_drop_more, at_drop_all, append-nil, length-append}
use Rattle.std.proofs.lemmas.List.Folds.{concat-append}
use Rattle.std.proofs.lemmas.List.Elements.{All-nil, All-append, All-same}
use Rattle.std.proofs.lemmas.Option.{none-some}
use Rattle.dcop_base.specs.Table.{has}
use Rattle.pseudotree.specs.declared.agent.Place.{Place}
use Rattle.dcop_base.specs.declared.knowledge.Private.{Private}
use Rattle.dcop_base.specs.Limits.{variable_limit}
use Rattle.adopt_context.specs.Context.{is_value}
use Rattle.protocol_steps.specs.declared.message.Message.{Message}
use Rattle.protocol_steps.specs.Agent.{Phase, Stepped, next_letter}
use Rattle.protocol_steps.specs.Token.{TokenView}
use Rattle.protocol_steps.specs.TokenStep.{most_others, takes_done, token_message, token_start, token_step}
use Rattle.protocol_steps.specs.View.{TokenKind}
use Rattle.protocol_steps.specs.Step.{start_of, step_of}
use Rattle.protocol_steps.specs.Machine.{IsStart, IsStep, IsToNeighbour}
use Rattle.protocol_steps.specs.Laws.{IsParentBeside}
use Rattle.protocol_steps.proofs.ParcelLaws.{parcels_go_to_neighbours}
use Rattle.dfs_agent.specs.declared.stage.Stage.{Stage}
use Rattle.dfs_agent.specs.declared.stage.Stage.TheVariants.{Waiting, Closed, Open, Ended, Failed}
use Rattle.dfs_agent.specs.Stage.{searching, phase_at, path_at, view_at}
use Rattle.dfs_agent.specs.Sound.{AreOthers, IsSound}
use Rattle.dfs_agent.specs.Search.{sent, Gives}

concat_push : (kept : List (List ℕ)) (visited : List ℕ) → concat (kept ++ (visited ∷ [])) ≡ concat kept ++ visited
concat_push kept visited = concat-append kept (visited ∷ []) ∙ ap (λ xs. concat kept ++ xs) (append-nil visited)

-- one more subtree, of so many variables that they may be kept
more_others : (kept : List (List ℕ)) (visited : List ℕ) → AreOthers (concat kept) → length (concat kept) + length visited ≤ most_others → All (λ v. v < variable_limit) visited → AreOthers (concat (kept ++ (visited ∷ [])))
more_others kept visited others few below =
    subst AreOthers (sym (concat_push kept visited)) (record {
      few = rw (length-append (concat kept) visited) few;
      below = All-append (λ v. v < variable_limit) (concat kept) visited others.below below;
    })

few_kept : (a b : Bool) (n : ℕ) → (true && a && b && nat_le n most_others) ≡ true → n ≤ most_others
few_kept true true n h = leb-true n most_others h
few_kept true false n h = absurd (false≢true h)
few_kept false b n h = absurd (false≢true h)

-- an agent that keeps a subtree stays sound
pub keeps_sound : (own : Private) (stage : Stage) (path : List ℕ) (kept new : List (List ℕ)) (from : ℕ) (visited : List ℕ) → IsSound own stage path kept → takes_done (view_at own stage path kept) from visited ≡ true → All (λ v. v < variable_limit) visited → new ≡ kept ++ (visited ∷ []) → IsSound own stage path new
keeps_sound own Waiting path kept new from visited s h below e = absurd (false≢true h)
keeps_sound own Closed path kept new from visited s h below e = absurd (false≢true h)
keeps_sound own (Open child) path kept new from visited s h below e =
    subst (λ (xss : List (List ℕ)). IsSound own (Open child) path xss) (sym e) (record {
      known = s.known;
      beside = s.beside;
      above = s.above;
      below = more_others kept visited s.below (few_kept (is_value (Some child) from) (is_value (slice_get visited 0) from) (length (concat kept) + length visited) h) below;
      placed = refl;
    })
keeps_sound own (Ended place) path kept new from visited s h below e = absurd (false≢true h)
keeps_sound own Failed path kept new from visited s h below e = absurd (false≢true h)

-- an agent that searches has its path itself
pub path_kept : (stage : Stage) (path : List ℕ) → phase_at stage ≡ searching → path_at stage path ≡ path
path_kept Waiting path h = refl
path_kept Closed path h = refl
path_kept (Open child) path h = refl
path_kept (Ended place) path h = absurd (false≢true (sym (ap (λ (p : Phase). p.ended) h)))
path_kept Failed path h = absurd (false≢true (sym (ap (λ (p : Phase). p.failed) h)))

-- an agent that ends with its place stays sound
pub ends_sound : (own : Private) (stage : Stage) (path : List ℕ) (kept : List (List ℕ)) (place : Place) (vars children lower : List ℕ) → phase_at stage ≡ searching → IsSound own stage (path_at stage path) kept
    → place ≡ (record { me = own.me; path = vars; path_sizes = []; children = children; lower = lower }) → vars ≡ path
    → children ≡ flat_map (λ subtree. take 1 subtree) kept → lower ≡ filter (λ u. not (has path u)) own.neighbours → IsSound own (Ended place) place.path kept
ends_sound own stage path kept place vars children lower h s e v c l =
    let same : path_at stage path ≡ vars = path_kept stage path h ∙ sym v in
    let below = ap (λ (us : List ℕ). filter (λ u. not (has us u)) own.neighbours) (sym v) in
    let full : List ℕ → List ℕ → Place = λ cs ls. record { me = own.me; path = vars; path_sizes = []; children = cs; lower = ls } in
    let found : full children lower ≡ full (flat_map (λ subtree. take 1 subtree) kept) (filter (λ u. not (has vars u)) own.neighbours) =
    ap (λ (cs : List ℕ). full cs lower) c ∙ ap (λ (ls : List ℕ). full (flat_map (λ subtree. take 1 subtree) kept) ls) (l ∙ below) in
    subst (λ (p : Place). IsSound own (Ended p) p.path kept) (sym e) (record {
      known = s.known;
      beside = subst (λ (us : List ℕ). IsParentBeside own.neighbours us) same s.beside;
      above = subst (λ (us : List ℕ). AreOthers us) same s.above;
      below = s.below;
      placed = ap (λ (p : Place). Some p) found;
    })

-- an agent that fails stays sound
pub fails_sound : (own : Private) (stage : Stage) (path : List ℕ) (kept : List (List ℕ)) → IsSound own stage path kept → IsSound own Failed [] kept
fails_sound own stage path kept s = record {
  known = s.known;
  beside = λ parent h. absurd (none-some parent h);
  above = record { few = omega arith; below = All-nil (λ v. v < variable_limit) };
  below = s.below;
  placed = refl;
}

-- what is handled so far leads, with the letters that are left, to the step on all letters
pub record Leads (start : TokenView) (all : List (ℕ × Message)) (view : TokenView) (sends rest : List (ℕ × Message)) : Type 0 where
  pub leads : fold (next_letter token_message) (record { view = view; sends = sends }) rest ≡ token_step start all

pub leads_on : (start : TokenView) (all : List (ℕ × Message)) (k : ℕ) (letter : ℕ × Message) (view after : TokenView) (sends more : List (ℕ × Message)) (parcel : Option (ℕ × Message)) → k < length all → letter ≡ get_or all k letter → Leads start all view sends (drop k all) → Gives (token_message view letter.0 letter.1) after parcel → more ≡ sends ++ sent parcel → Leads start all after more (drop (k + 1) all)
leads_on start all k letter view after sends more parcel lt e l g m =
    let F : List (ℕ × Message) → Stepped TokenView = fold (next_letter token_message) (record { view = view; sends = sends }) in
    let first = sym (at_drop_more F all k letter lt) ∙ l.leads in
    let now = ap (λ x. F (x ∷ drop (k + 1) all)) e ∙ first in
    let views = ap (λ w. let s : Stepped TokenView = record { view = w; sends = more } in fold (next_letter token_message) s (drop (k + 1) all)) g.viewed in
    let lists = ap (λ ps. let s : Stepped TokenView = record { view = (token_message view letter.0 letter.1).view; sends = ps } in fold (next_letter token_message) s (drop (k + 1) all)) (m ∙ ap (λ ps. sends ++ ps) g.sent) in
    record { leads = views ∙ lists ∙ now }

-- when no letter is left
pub led_to : (start : TokenView) (all : List (ℕ × Message)) (k : ℕ) (view : TokenView) (sends : List (ℕ × Message)) → length all ≤ k → Leads start all view sends (drop k all) → (view ≡ (token_step start all).view) × (sends ≡ (token_step start all).sends)
led_to start all k view sends le l =
    let F : List (ℕ × Message) → Stepped TokenView = fold (next_letter token_message) (record { view = view; sends = sends }) in
    let end = sym (at_drop_all F all k le) ∙ l.leads in
    (ap (λ s. s.view) end, ap (λ s. s.sends) end)

-- a letter of a batch comes from a neighbour
pub near_at : (own now : Private) (ls : List (ℕ × Message)) (k : ℕ) (l : ℕ × Message) → now ≡ own → k < length ls → l ≡ get_or ls k l → All (λ (x : ℕ × Message). Contains own.neighbours x.0) ls → Contains now.neighbours l.0
near_at own now ls k l same lt e near =
    let here = near k l lt in
    subst (λ (o : Private). Contains o.neighbours l.0) (sym same) (subst (λ (x : ℕ × Message). Contains own.neighbours x.0) (sym e) here)

-- the start of a token agent is that of a machine, and reaches neighbours
pub is_start : (v w : TokenView) (ps : List (ℕ × Message)) → w ≡ (token_start v).view → ps ≡ (token_start v).sends → IsStart (TokenKind v) (TokenKind w) ps
unfolding start_of
is_start v w ps e m = record { viewed = ap (λ (x : TokenView). TokenKind x) e; sent = m }

pub start_reaches : (v : TokenView) (ps : List (ℕ × Message)) → IsParentBeside v.own.neighbours v.path → ps ≡ (token_start v).sends → All (IsToNeighbour (TokenKind v)) ps
unfolding start_of
start_reaches v ps beside m = All-same (IsToNeighbour (TokenKind v)) ps (token_start v).sends m (parcels_go_to_neighbours.started (TokenKind v) beside).receivers

-- a batch of a token agent is a step of a machine, and reaches neighbours
pub is_step : (v w : TokenView) (ls ps : List (ℕ × Message)) → w ≡ (token_step v ls).view → ps ≡ (token_step v ls).sends → IsStep (TokenKind v) ls (TokenKind w) ps
unfolding step_of
is_step v w ls ps e m = record { viewed = ap (λ (x : TokenView). TokenKind x) e; sent = m }

pub step_reaches : (v : TokenView) (ls ps : List (ℕ × Message)) → IsParentBeside v.own.neighbours v.path → All (IsToNeighbour (TokenKind v)) ls → ps ≡ (token_step v ls).sends → All (IsToNeighbour (TokenKind v)) ps
unfolding step_of
step_reaches v ls ps beside near m = All-same (IsToNeighbour (TokenKind v)) ps (token_step v ls).sends m (parcels_go_to_neighbours.stepped (TokenKind v) ls beside near).receivers
