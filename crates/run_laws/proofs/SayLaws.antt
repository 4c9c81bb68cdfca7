-- What an ADOPT agent in its place sends, and what a message brings to its receiver.
use Rattle.std.proofs.Common.{◌≡◌, ℕ, ◌<◌, ◌⊎◌, true, cond, not, ◌==◌, ◌&&◌, map, List, [], ◌∷◌, ◌++◌, length, get_or, Some, sym, ap, subst, ◌∙◌, inl, inr}
use Rattle.std.proofs.lemmas.Bool.{eqb-true}
use Rattle.std.proofs.lemmas.Option.{same_Some}
use Rattle.std.proofs.lemmas.List.Quantifiers.{position-Some}
use Rattle.dcop_base.specs.Table.{has}
use Rattle.dcop_base.specs.Problem.{Dcop}
use Rattle.dcop_base.specs.Knowledge.{private_of}
use Rattle.dcop_base.specs.Whole.{IsProblem}
use Rattle.pseudotree.specs.Tree.{parent_of, children_of, is_above}
use Rattle.pseudotree.specs.Pseudotree.{IsPseudotree}
use Rattle.pseudotree.proofs.SpreadLaws.{above_child, above_parent}
use Rattle.adopt_context.specs.Context.{Context, value_in, put}
use Rattle.adopt_context.specs.Bounds.{Entry, entry_at}
use Rattle.protocol_steps.specs.declared.message.Message.{Message}
use Rattle.protocol_steps.specs.declared.message.Message.TheVariants.{Token, Done, Util, ValueAll, Value, Cost, Threshold, Terminate}
use Rattle.protocol_steps.specs.Adopt.{AdoptView}
use Rattle.protocol_steps.specs.AdoptBounds.{lower_bound, upper_bound}
use Rattle.protocol_steps.specs.AdoptCost.{without}
use Rattle.protocol_steps.specs.AdoptRange.{is_parent}
use Rattle.protocol_steps.specs.AdoptStep.{messages_to_child, messages_for, adopt_sends}
use Rattle.protocol_steps.specs.Network.{message_to, messages_to}
use Rattle.dcop_optimum.proofs.LineLaws.{within_cases, within_self, within_above, not_both}
use Rattle.dcop_optimum.proofs.JoinLaws.{children_parent}
use Rattle.protocol_steps.specs.TreeAgents.{place_at}
use Rattle.run_laws.specs.AdoptAgents.{IsValueAbove, EntryEncloses, IsSent}
use Rattle.adopt_context.proofs.KnownLaws.{put_here, put_else}
use Rattle.run_laws.proofs.KnownLaws.{value_without}
use Rattle.run_laws.proofs.Every.{Every, all_every, every_append, every_if, every_map, every_flat_map, every_from}
use Rattle.run_laws.proofs.AdoptAgentLaws.{Brings}
use Rattle.run_laws.proofs.EncloseLaws.{GivenAbove, IsBounded, bounded_when, encloses_from}
use Rattle.run_laws.proofs.PlacedLaws.{Under, child, IsBrought, Mid, known_above, agent_bounded}

-- what agent j may send: the context of a COST gives proper ancestors values of theirs, and its bounds bound the subtree under it
abbrev pub Says : Dcop → List (List ℕ) → ℕ → Message → Type 0
Says p paths j (Cost c l u) = Every (IsValueAbove p paths j) c × IsBounded p paths j (GivenAbove p paths j (value_in c)) l u
Says p paths j message = Unit {0}

pub says_sent : (p : Dcop) (paths : List (List ℕ)) (j : ℕ) (m : Message) → Says p paths j m → IsSent p paths j m
says_sent p paths j (Cost c l u) h = (all_every (IsValueAbove p paths j) c h.0, encloses_from p paths j (value_in c) l u h.1)
says_sent p paths j (Token path) h = tt
says_sent p paths j (Done visited) h = tt
says_sent p paths j (Util scope cells) h = tt
says_sent p paths j (ValueAll values) h = tt
says_sent p paths j (Value d) h = tt
says_sent p paths j (Threshold t c) h = tt
says_sent p paths j (Terminate c) h = tt

-- what is sent to one agent
pub said_to : (P : Message → Type 0) (i : ℕ) (sends : List (ℕ × Message)) → Every (λ s. P s.1) sends → Every P (messages_to i sends)
said_to P i [] h = tt
said_to P i (s ∷ ss) h = every_append P (message_to i s) (messages_to i ss) (every_if P (s.0 == i) (s.1 ∷ []) (λ e. (h.0, tt))) (said_to P i ss h.1)

module _ (p : Dcop) (paths : List (List ℕ)) (problem : IsProblem p) (pseudo : IsPseudotree p paths) (error i : ℕ) (in_tree : i < length p.sizes) where
  abbrev here : AdoptView → Type 0
  here v = Mid p paths problem pseudo error i in_tree v

  -- what stands above a child is i, or above i
  pub above_cases : (c v : ℕ) → parent_of paths c ≡ Some i → is_above paths v c ≡ true → (v ≡ i) ⊎ ((v ≡ i → ⊥) × (is_above paths v i ≡ true))
  above_cases c v parent h =
      elim (within_cases paths v i (above_parent paths pseudo.tree c i v parent h)) [
        | inl same ↦ inl (sym same)
        | inr above ↦ inr ((λ (same : v ≡ i). not_both paths pseudo.tree i i (subst (λ (u : ℕ). is_above paths u i ≡ true) same above) (within_self paths i)), above)
      ]

  -- an assignment that agrees with a COST's context agrees with the rest of it under the value that it gives i
  under_given : (c : ℕ) (x : Context) (d : ℕ) (values : List ℕ) → parent_of paths c ≡ Some i → value_in x i ≡ Some d → Under p paths problem pseudo error i in_tree d (without i x) values → GivenAbove p paths c (value_in x) values
  under_given c x d values parent at h v b above e =
      elim (above_cases c v parent above) [
        | inl same ↦ ap (λ (u : ℕ). get_or values u 0) same ∙ h.0 ∙ same_Some d b (sym at ∙ ap (value_in x) (sym same) ∙ e)
        | inr upper ↦ h.1 v b upper.1 (value_without x i v upper.0 ∙ e)
      ]

  pub says_brings : (j : ℕ) (m : Message) → Says p paths j m → Brings (IsBrought p paths problem pseudo error i in_tree) (private_of p i) (place_at p paths i) j m
  says_brings j (Cost c l u) h = λ k d at given lt.
      let found = position-Some (λ x. x == j) (children_of paths i) k 0 at in
      let same : child p paths problem pseudo error i in_tree k ≡ j = eqb-true (child p paths problem pseudo error i in_tree k) j found.1 in
      let parent : parent_of paths j ≡ Some i = ap (parent_of paths) (sym same) ∙ children_parent paths i k 0 found.0 in
      subst (λ (x : ℕ). IsBounded p paths x (Under p paths problem pseudo error i in_tree d (without i c)) l u) (sym same)
      (bounded_when p paths j (GivenAbove p paths j (value_in c)) (Under p paths problem pseudo error i in_tree d (without i c)) l u (λ values k. under_given j c d values parent given k) h.1)
  says_brings j (Token path) h = tt
  says_brings j (Done visited) h = tt
  says_brings j (Util scope cells) h = tt
  says_brings j (ValueAll values) h = tt
  says_brings j (Value d) h = tt
  says_brings j (Threshold t c) h = tt
  says_brings j (Terminate c) h = tt

  module _ (v : AdoptView) (mid : here v) where
    abbrev S : Message → Type 0
    S m = Says p paths i m

    messages_said : (j : ℕ) → Every S (messages_for v j)
    messages_said j =
        let first : List Message = cond (has v.place.lower j) (Value v.value ∷ []) [] in
        let second : List Message = cond (has v.place.children j) (messages_to_child v j) [] in
        let third : List Message = cond (is_parent v j && not v.phase.ended) (Cost v.known (lower_bound v) (upper_bound v) ∷ []) [] in
        every_append S (first ++ second) third
        (every_append S first second
        (every_if S (has v.place.lower j) (Value v.value ∷ []) (λ e. (tt, tt)))
        (every_if S (has v.place.children j) (messages_to_child v j) (λ e. (tt, every_if S v.phase.ended (Terminate (put v.known v.own.me v.value) ∷ []) (λ e. (tt, tt))))))
        (every_if S (is_parent v j && not v.phase.ended) (Cost v.known (lower_bound v) (upper_bound v) ∷ []) (λ e. ((known_above p paths problem pseudo error i in_tree v mid, agent_bounded p paths problem pseudo error i in_tree v mid), tt)))

    -- all that an agent sends
    pub sends_said : Every (λ s. S s.1) (adopt_sends v)
    sends_said =
        every_flat_map (λ (s : ℕ × Message). S s.1) (λ j. map (λ m. (j, m)) (messages_for v j)) v.own.neighbours
        (every_from (λ j. Every (λ s. S s.1) (map (λ m. (j, m)) (messages_for v j))) v.own.neighbours
        (λ j. every_map (λ (s : ℕ × Message). S s.1) (λ m. (j, m)) (messages_for v j) (messages_said j)))

    -- each entry encloses its child
    pub entry_encloses : (d k : ℕ) → k < length (children_of paths i) → EntryEncloses p paths i d k (entry_at v.rows d k)
    entry_encloses d k lt =
        let e : Entry = entry_at v.rows d k in
        let c : ℕ = child p paths problem pseudo error i in_tree k in
        let parent : parent_of paths c ≡ Some i = children_parent paths i k 0 lt in
        encloses_from p paths c (value_in (put e.context i d)) e.lower e.upper
        (bounded_when p paths c (Under p paths problem pseudo error i in_tree d e.context) (GivenAbove p paths c (value_in (put e.context i d))) e.lower e.upper
        (λ values given. (
          given i d (above_child paths pseudo.tree c i i parent (within_self paths i)) (put_here e.context i d),
          λ u x above at.
              given u x (above_child paths pseudo.tree c i u parent (within_above paths u i above))
              (put_else e.context i d u (λ (same : i ≡ u). not_both paths pseudo.tree i i (subst (λ (w : ℕ). is_above paths w i ≡ true) (sym same) above) (within_self paths i)) ∙ at),
        ))
        (mid.entries d k).bounded)
