-- The threshold of an ADOPT agent stays below what its parent has handed down, where its subtree has room.
use Rattle.std.proofs.Common.{◌≡◌, ℕ, ◌+◌, ◌≤◌, ◌<◌, Bool, true, false, cond, not, ◌&&◌, ◌==◌, nat_lt, if◌then◌else◌, max, List, [], ◌∷◌, length, Option, Some, None, refl, sym, ap, subst, ◌∙◌, arith}
use Rattle.std.specs.List.{fold}
use Rattle.std.proofs.lemmas.Bool.{cond-false, cond_both, false≢true}
use Rattle.dcop_base.specs.Table.{has}
use Rattle.dcop_base.specs.Problem.{Dcop, IsAssignment}
use Rattle.dcop_base.specs.Whole.{IsProblem}
use Rattle.pseudotree.specs.Pseudotree.{IsPseudotree}
use Rattle.adopt_context.specs.Context.{Context, value_in, put, is_value, compatible}
use Rattle.adopt_context.specs.Bounds.{Entry, entry_at, cap}
use Rattle.adopt_context.specs.Allot.{lower_to}
use Rattle.protocol_steps.specs.Adopt.{AdoptView, is_root}
use Rattle.protocol_steps.specs.AdoptBounds.{lower_of, best_lower, best_upper, lower_bound, upper_bound, restore, at_context}
use Rattle.protocol_steps.specs.declared.message.Message.{Message}
use Rattle.protocol_steps.specs.declared.message.Message.TheVariants.{Token, Done, Util, ValueAll, Value, Cost, Threshold, Terminate}
use Rattle.protocol_steps.specs.AdoptRange.{in_range, fits, is_parent}
use Rattle.protocol_steps.specs.AdoptCost.{with_entry, may_store, stored, learned, learn, take_cost, without}
use Rattle.adopt_context.specs.Merge.{merged}
use Rattle.protocol_steps.specs.AdoptMessage.{take_threshold, take_end, takes_value, takes_from_parent, adopt_message}
use Rattle.dcop_base.specs.Knowledge.{private_of}
use Rattle.pseudotree.specs.declared.agent.Place.{Place}
use Rattle.protocol_steps.specs.TreeAgents.{place_at}
use Rattle.run_laws.proofs.Every.{Every}
use Rattle.run_laws.proofs.DigestLaws.{handled, message_still}
use Rattle.run_laws.proofs.AdoptAgentLaws.{place_of, Brings, batch_mid, restored_mid}
use Rattle.protocol_steps.specs.AdoptStep.{choose, allotted, may_end, closed}
use Rattle.run_laws.proofs.BoundLaws.{lowered_below}
use Rattle.run_laws.proofs.EncloseLaws.{below, GivenAbove}
use Rattle.run_laws.proofs.PlacedLaws.{IsFair, IsBrought, keeps_fair, Mid, agent_bounded}

module _ (p : Dcop) (paths : List (List ℕ)) (problem : IsProblem p) (pseudo : IsPseudotree p paths) (error i : ℕ) (in_tree : i < length p.sizes) where
  -- some assignment with what is known costs at most t below
  pub record HasRoom (v : AdoptView) (t : ℕ) : Type 0 where
    pub values : List ℕ
    pub assignment : IsAssignment p values
    pub given : GivenAbove p paths i (value_in v.known) values
    pub costs : below p paths i values ≤ t

  -- then restoring lifts no threshold above t, but the root's
  pub restored_below : (v : AdoptView) (t : ℕ) → Mid p paths problem pseudo error i in_tree v → is_root v ≡ false → HasRoom v t → v.threshold ≤ t → (restore v).threshold ≤ t
  restored_below v t mid inner room low =
      let lower : ℕ = lower_bound v in
      let raised : ℕ = cond (is_root v) (cap (lower + v.error)) (max v.threshold lower) in
      let is : raised ≡ max v.threshold lower = cond-false (is_root v) (cap (lower + v.error)) (max v.threshold lower) inner in
      let bound = (agent_bounded p paths problem pseudo error i in_tree v mid).low room.values room.assignment room.given in
      let costs = room.costs in
      let cut : lower_to raised (upper_bound v) ≤ raised = lowered_below raised (upper_bound v) in
      within (lower_to raised (upper_bound v)) raised v.threshold lower (below p paths i room.values) t cut is bound costs low
    where
      within : (a b c d e t : ℕ) → a ≤ b → b ≡ max c d → d ≤ e → e ≤ t → c ≤ t → a ≤ t
      within a b c d e t h k l m n = omega (arith, h, k, l, m, n)

  -- where the subtree has room under the last threshold received, the threshold of an agent that has taken TERMINATE is at most that
  abbrev pub Ceiling : AdoptView → Type 0
  Ceiling v = v.told ≡ true → HasRoom v v.last → v.threshold ≤ v.last

  abbrev Here : AdoptView → Type 0
  Here v = Mid p paths problem pseudo error i in_tree v

  unrestored : (v : AdoptView) → Here (restore v) → Here v
  unrestored v a = record { own_is = a.own_is; place_is = a.place_is; error_is = a.error_is; value_low = a.value_low; fits_known = a.fits_known; rows_long = a.rows_long; wide = a.wide; entries = a.entries }

  restored_ceiling : (v : AdoptView) → is_root v ≡ false → (v.told ≡ true → HasRoom v v.last → v.threshold ≤ v.last) → Here (restore v) → Ceiling (restore v)
  restored_ceiling v inner low mid told room =
      let before : HasRoom v v.last = record { values = room.values; assignment = room.assignment; given = room.given; costs = room.costs } in
      restored_below v v.last (unrestored v mid) inner before (low told before)

  untold : (b q f : Bool) → ((not b && q) && f) ≡ true → b ≡ true → ⊥
  untold true q f h told = false≢true h
  untold false q f h told = false≢true told

  stored_ceiling : (v : AdoptView) (d k : ℕ) (r : Context) (l : ℕ) (u : Option ℕ) → is_root v ≡ false → Ceiling v → Here (stored v d k r l u) → Ceiling (stored v d k r l u)
  stored_ceiling v d k r l u inner low =
      let e : Entry = merged (entry_at v.rows d k) r l u in
      cond_both (may_store v d k r l u) (restore (with_entry v d k e)) v (λ w. Here w → Ceiling w)
      (λ _ mid. restored_ceiling (with_entry v d k e) inner (λ told room. low told (record { values = room.values; assignment = room.assignment; given = room.given; costs = room.costs })) mid)
      (λ _ mid. low)

  learn_ceiling : (v : AdoptView) (r : Context) → is_root v ≡ false → Ceiling v → (is_root (learn v r) ≡ false) × Ceiling (learn v r)
  learn_ceiling v r inner low =
      cond_both v.told v (restore (at_context v (fold (learned v) v.known r))) (λ w. (is_root w ≡ false) × Ceiling w)
      (λ _. (inner, low)) (λ open_still. (inner, λ told room. absurd (false≢true (sym open_still ∙ told))))

  cost_ceiling : (v : AdoptView) (k d : Option ℕ) (r : Context) (l : ℕ) (u : Option ℕ) → is_root v ≡ false → Ceiling v → Here (take_cost v k d r l u) → Ceiling (take_cost v k d r l u)
  cost_ceiling v None d r l u inner low mid = low
  cost_ceiling v (Some k) None r l u inner low mid = low
  cost_ceiling v (Some k) (Some d) r l u inner low mid =
      cond_both (nat_lt d v.own.size && fits v r) (stored (learn v r) d k r l u) v (λ w. Here w → Ceiling w)
      (λ _ now. let next = learn_ceiling v r inner low in stored_ceiling (learn v r) d k r l u next.0 next.1 now)
      (λ _ now. low)
      mid

  -- each message keeps it
  pub message_ceiling : (v : AdoptView) (j : ℕ) (m : Message) → is_root v ≡ false → Ceiling v → Here (adopt_message v j m) → Ceiling (adopt_message v j m)
  message_ceiling v j (Value d) inner low mid =
      cond_both (takes_value v j d) (restore (at_context v (put v.known j d))) v (λ w. Here w → Ceiling w)
      (λ takes now told room. absurd (untold v.told (has v.own.neighbours j) (in_range v j d) takes told)) (λ _ now. low) mid
  message_ceiling v j (Threshold t c) inner low mid =
      cond_both (takes_from_parent v j c) (take_threshold v t c) v (λ w. Here w → Ceiling w)
      (λ takes now. cond_both (compatible c v.known) (restore (record v { last = t; threshold = t })) (record v { last = t }) Ceiling
      (λ _ told room. absurd (untold v.told (is_parent v j) (fits v c) takes told)) (λ _ told room. absurd (untold v.told (is_parent v j) (fits v c) takes told)))
      (λ _ now. low) mid
  message_ceiling v j (Terminate c) inner low mid =
      cond_both (takes_from_parent v j c) (take_end v c) v (λ w. Here w → Ceiling w)
      (λ takes now. restored_ceiling (record (at_context v c) { threshold = v.last; told = true }) inner (λ told room. same v.last) now)
      (λ _ now. low) mid
    where
      same : (n : ℕ) → n ≤ n
      same n = omega arith
  message_ceiling v j (Cost c l u) inner low mid = cost_ceiling v (place_of v.place j) (value_in c v.own.me) (without v.own.me c) l u inner low mid
  message_ceiling v j (Token path) inner low mid = low
  message_ceiling v j (Done visited) inner low mid = low
  message_ceiling v j (Util scope cells) inner low mid = low
  message_ceiling v j (ValueAll values) inner low mid = low

  abbrev Brought : ℕ × Message → Type 0
  Brought l = Brings (IsBrought p paths problem pseudo error i in_tree) (private_of p i) (place_at p paths i) l.0 l.1

  pub batch_ceiling : (ls : List (ℕ × Message)) (v : AdoptView) → Here v → Every Brought ls → is_root v ≡ false → Ceiling v → Ceiling (handled v ls)
  batch_ceiling [] v mid all inner low = low
  batch_ceiling (l ∷ ls) v mid all inner low =
      let w : AdoptView = adopt_message v l.0 l.1 in
      let one : Here w =
      batch_mid (private_of p i) (place_at p paths i) error (IsFair p paths problem pseudo error i in_tree) (IsBrought p paths problem pseudo error i in_tree) (keeps_fair p paths problem pseudo error i in_tree)
      (l ∷ []) v mid (all.0, tt) in
      batch_ceiling ls w one all.1 (ap (λ (q : Place). length q.path == 0) (message_still v l.0 l.1).place ∙ inner) (message_ceiling v l.0 l.1 inner low one)

  same_ceiling : (v w : AdoptView) → w.told ≡ v.told → w.last ≡ v.last → w.known ≡ v.known → w.threshold ≡ v.threshold → Ceiling v → Ceiling w
  same_ceiling v w a b c d low told room =
      let before : HasRoom v v.last = record {
        values = room.values;
        assignment = room.assignment;
        given = subst (λ (x : Context). GivenAbove p paths i (value_in x) room.values) c room.given;
        costs = subst (λ (n : ℕ). below p paths i room.values ≤ n) b room.costs;
      } in
      let le = low (sym a ∙ told) before in
      omega (arith, le, b, d)

  -- backTrack keeps it
  pub closed_ceiling : (v : AdoptView) → Here v → is_root v ≡ false → Ceiling v → Ceiling (closed v)
  closed_ceiling v mid inner low =
      let w : AdoptView = restore v in
      let start : Ceiling w = restored_ceiling v inner low (restored_mid (private_of p i) (place_at p paths i) error (IsFair p paths problem pseudo error i in_tree) (IsBrought p paths problem pseudo error i in_tree) (keeps_fair p paths problem pseudo error i in_tree) v mid) in
      let chosen : Ceiling (choose w) =
      cond_both (is_value (upper_bound w) w.threshold) (record w { value = best_upper w }) (if nat_lt w.threshold (lower_of w w.value) then record w { value = best_lower w } else w) Ceiling
      (λ _. same_ceiling w (record w { value = best_upper w }) refl refl refl refl start)
      (λ _. cond_both (nat_lt w.threshold (lower_of w w.value)) (record w { value = best_lower w }) w Ceiling (λ _. same_ceiling w (record w { value = best_lower w }) refl refl refl refl start) (λ _. start)) in
      let u : AdoptView = allotted (choose w) in
      let shared : Ceiling u = same_ceiling (choose w) u refl refl refl refl chosen in
      cond_both (may_end u) (record u { phase = record u.phase { ended = true } }) u Ceiling (λ _. same_ceiling u (record u { phase = record u.phase { ended = true } }) refl refl refl refl shared) (λ _. shared)
