-- One ADOPT agent: what messages and backTrack keep of its entries.
use Rattle.std.proofs.Common.{◌≡◌, ℕ, zero, suc, ◌-◌, ◌≤◌, ◌<◌, true, not, ◌&&◌, ◌||◌, ◌==◌, nat_lt, if◌then◌else◌, max, List, [], ◌∷◌, map, length, get_or, set, replicate, Option, Some, None, refl, sym, ap, subst, ◌∙◌, arith}
use Rattle.std.specs.Prelude.{is_some}
use Rattle.std.specs.List.{fold, position}
use Rattle.std.proofs.lemmas.Bool.{cond_both, and_parts, ltb-true}
use Rattle.std.proofs.lemmas.List.{length-map, length-set}
use Rattle.dcop_base.specs.Table.{has}
use Rattle.dcop_base.specs.declared.knowledge.Private.{Private}
use Rattle.pseudotree.specs.declared.agent.Place.{Place}
use Rattle.adopt_context.specs.Context.{Context, value_in, put, is_value, part_of, compatible}
use Rattle.adopt_context.specs.Bounds.{Entry, blank, row_at, entry_at, is_below}
use Rattle.adopt_context.specs.Allot.{kept, allot}
use Rattle.protocol_steps.specs.declared.message.Message.{Message}
use Rattle.protocol_steps.specs.declared.message.Message.TheVariants.{Token, Done, Util, ValueAll, Value, Cost, Threshold, Terminate}
use Rattle.protocol_steps.specs.Agent.{last_of}
use Rattle.protocol_steps.specs.Adopt.{AdoptView, new_adopt}
use Rattle.protocol_steps.specs.AdoptBounds.{lower_of, upper_of, best_lower, best_upper, upper_bound, restore, at_context}
use Rattle.protocol_steps.specs.AdoptRange.{in_range, fits}
use Rattle.protocol_steps.specs.AdoptCost.{with_entry, may_store, stored, learned, learn, take_cost, without}
use Rattle.adopt_context.specs.Merge.{lesser, is_at_most, merged}
use Rattle.protocol_steps.specs.AdoptMessage.{take_threshold, take_end, takes_value, takes_from_parent, adopt_message}
use Rattle.protocol_steps.specs.AdoptStep.{choose, to_allot, allotted, may_end, settle, closed}
use Rattle.dcop_optimum.specs.Enclosing.{IsAtMost}
use Rattle.run_laws.proofs.BoundLaws.{lowest_within}
use Rattle.adopt_context.proofs.KnownLaws.{put_all}
use Rattle.adopt_context.proofs.RowLaws.{reset_row, reset_at, set_each, entry_each}
use Rattle.run_laws.proofs.RowLaws.{InRange, IsReshared, allot_at, allot_length}
use Rattle.run_laws.proofs.Every.{Every}

long : {X : Type 0} (n : ℕ) (x : X) → length (replicate n x) ≡ n
long zero x = refl
long (suc n) x = ap suc (long n x)

replicate_at : {X : Type 0} (n : ℕ) (x none : X) (j : ℕ) → j < n → get_or (replicate n x) j none ≡ x
replicate_at zero x none j lt = absurd (omega (arith, lt))
replicate_at (suc n) x none zero lt = refl
replicate_at (suc n) x none (suc j) lt = replicate_at n x none j (omega (arith, lt))

each_replicate : {X : Type 0} (P : X → Type 0) (n : ℕ) (x none : X) → P x → P none → (j : ℕ) → P (get_or (replicate n x) j none)
each_replicate P zero x none a b j = b
each_replicate P (suc n) x none a b zero = a
each_replicate P (suc n) x none a b (suc j) = each_replicate P n x none a b j

-- a property Q of entries, under what is known, at an own value and a child's place, that stays where bounds with the property M are stored
pub record IsKept (Q : Context → ℕ → ℕ → Entry → Type 0) (M : ℕ → ℕ → Context → ℕ → Option ℕ → Type 0) : Type 0 where
  pub blank_has : (x : Context) (d k : ℕ) → Q x d k blank
  pub moved : (x y : Context) (d k : ℕ) (e : Entry) → Q x d k e → part_of e.context y ≡ true → Q y d k e
  pub merged_has : (x : Context) (d k : ℕ) (e : Entry) (r : Context) (l : ℕ) (u : Option ℕ) → Q x d k e → part_of r x ≡ true
      → is_at_most (max e.lower l) (lesser e.upper u) ≡ true → M d k r l u → Q x d k (merged e r l u)
  pub reshared : (x : Context) (d k : ℕ) (e : Entry) (s : ℕ) → Q x d k e → e.lower ≤ s → IsAtMost s e.upper → Q x d k (record e { share = s })
  pub range : (x : Context) (d k : ℕ) (e : Entry) → Q x d k e → InRange e

-- the place of a child
abbrev pub place_of : Place → ℕ → Option ℕ
place_of place j = position (λ child. child == j) place.children

-- what a message brings: of a COST, that its bounds have the property M
abbrev pub Brings : (ℕ → ℕ → Context → ℕ → Option ℕ → Type 0) → Private → Place → ℕ → Message → Type 0
Brings M own place j (Cost c l u) = (k d : ℕ) → place_of place j ≡ Some k → value_in c own.me ≡ Some d → d < own.size → M d k (without own.me c) l u
Brings M own place j message = Unit {0}

module _ (own : Private) (place : Place) (error : ℕ) (Q : Context → ℕ → ℕ → Entry → Type 0) (M : ℕ → ℕ → Context → ℕ → Option ℕ → Type 0) (keeps : IsKept Q M) where
  -- what holds of an agent between messages
  pub record IsMid (v : AdoptView) : Type 0 where
    pub own_is : v.own ≡ own
    pub place_is : v.place ≡ place
    pub error_is : v.error ≡ error
    pub value_low : v.value ≤ v.own.size - 1
    pub fits_known : fits v v.known ≡ true
    pub rows_long : length v.rows ≡ v.own.size
    pub wide : (d : ℕ) → d < v.own.size → length (row_at v.rows d) ≡ length v.place.children
    pub entries : (d k : ℕ) → Q v.known d k (entry_at v.rows d k)

  pub moved_mid : (v : AdoptView) (y : Context) → IsMid v → fits v y ≡ true → IsMid (at_context v y)
  moved_mid v y a h = record {
    own_is = a.own_is;
    place_is = a.place_is;
    error_is = a.error_is;
    value_low = a.value_low;
    fits_known = h;
    rows_long = length-map v.rows (λ row. map (kept y) row) ∙ a.rows_long;
    wide = λ d lt. ap length (reset_row y v.rows d) ∙ length-map (row_at v.rows d) (kept y) ∙ a.wide d lt;
    entries = λ d k.
        let e : Entry = entry_at v.rows d k in
        subst (λ (x : Entry). Q y d k x) (sym (reset_at y v.rows d k))
        (cond_both (part_of e.context y) e blank (λ x. Q y d k x) (λ part. keeps.moved v.known y d k e (a.entries d k) part) (λ _. keeps.blank_has y d k));
  }

  pub restored_mid : (v : AdoptView) → IsMid v → IsMid (restore v)
  restored_mid v a = record {
    own_is = a.own_is;
    place_is = a.place_is;
    error_is = a.error_is;
    value_low = a.value_low;
    fits_known = a.fits_known;
    rows_long = a.rows_long;
    wide = a.wide;
    entries = a.entries;
  }

  written_mid : (v : AdoptView) (d k : ℕ) (e : Entry) → IsMid v → Q v.known d k e → IsMid (with_entry v d k e)
  written_mid v d k e a new = record {
    own_is = a.own_is;
    place_is = a.place_is;
    error_is = a.error_is;
    value_low = a.value_low;
    fits_known = a.fits_known;
    rows_long = length-set v.rows d (set (row_at v.rows d) k e) ∙ a.rows_long;
    wide = set_each [] (λ i row. i < v.own.size → length row ≡ length v.place.children) v.rows d (set (row_at v.rows d) k e) (λ lt. length-set (row_at v.rows d) k e ∙ a.wide d lt) a.wide;
    entries = entry_each (λ i j x. Q v.known i j x) v.rows d k e new a.entries;
  }

  stored_mid : (v : AdoptView) (d k : ℕ) (r : Context) (l : ℕ) (u : Option ℕ) → IsMid v → M d k r l u → IsMid (stored v d k r l u)
  stored_mid v d k r l u a brings =
      let e : Entry = entry_at v.rows d k in
      cond_both (may_store v d k r l u) (restore (with_entry v d k (merged e r l u))) v IsMid
      (λ may.
      let parts = and_parts (part_of r v.known) (is_at_most (max e.lower l) (lesser e.upper u)) may in
      restored_mid (with_entry v d k (merged e r l u)) (written_mid v d k (merged e r l u) a (keeps.merged_has v.known d k e r l u (a.entries d k) parts.0 parts.1 brings)))
      (λ _. a)

  learned_fits : (v : AdoptView) (r x : Context) → fits v x ≡ true → fits v r ≡ true → fits v (fold (learned v) x r) ≡ true
  learned_fits v [] x h more = h
  learned_fits v (p ∷ ps) x h more =
      let parts = and_parts (in_range v p.0 p.1) (fits v ps) more in
      learned_fits v ps (learned v x p)
      (cond_both (not (has v.own.neighbours p.0) || not (is_some (value_in x p.0))) (put x p.0 p.1) x (λ c. fits v c ≡ true) (λ _. put_all (in_range v) x p.0 p.1 h parts.0) (λ _. h))
      parts.1

  pub learn_mid : (v : AdoptView) (r : Context) → IsMid v → fits v r ≡ true → IsMid (learn v r)
  learn_mid v r a h =
      let y : Context = fold (learned v) v.known r in
      cond_both v.told v (restore (at_context v y)) IsMid (λ _. a) (λ _. restored_mid (at_context v y) (moved_mid v y a (learned_fits v r v.known a.fits_known h)))

  take_mid : (v : AdoptView) (k d : Option ℕ) (r : Context) (l : ℕ) (u : Option ℕ) → IsMid v → ((i e : ℕ) → k ≡ Some i → d ≡ Some e → e < v.own.size → M e i r l u) → IsMid (take_cost v k d r l u)
  take_mid v None d r l u a brings = a
  take_mid v (Some k) None r l u a brings = a
  take_mid v (Some k) (Some d) r l u a brings =
      cond_both (nat_lt d v.own.size && fits v r) (stored (learn v r) d k r l u) v IsMid
      (λ takes.
      let parts = and_parts (nat_lt d v.own.size) (fits v r) takes in
      stored_mid (learn v r) d k r l u (learn_mid v r a parts.1) (brings k d refl refl (ltb-true d v.own.size parts.0)))
      (λ _. a)

  threshold_mid : (v : AdoptView) (t : ℕ) (c : Context) → IsMid v → IsMid (take_threshold v t c)
  threshold_mid v t c a =
      let heard : IsMid (record v { last = t }) =
      record { own_is = a.own_is; place_is = a.place_is; error_is = a.error_is; value_low = a.value_low; fits_known = a.fits_known; rows_long = a.rows_long; wide = a.wide; entries = a.entries } in
      cond_both (compatible c v.known) (restore (record v { last = t; threshold = t })) (record v { last = t }) IsMid
      (λ _. record { own_is = a.own_is; place_is = a.place_is; error_is = a.error_is; value_low = a.value_low; fits_known = a.fits_known; rows_long = a.rows_long; wide = a.wide; entries = a.entries })
      (λ _. heard)

  end_mid : (v : AdoptView) (c : Context) → IsMid v → fits v c ≡ true → IsMid (take_end v c)
  end_mid v c a h =
      let b = moved_mid v c a h in
      record { own_is = b.own_is; place_is = b.place_is; error_is = b.error_is; value_low = b.value_low; fits_known = b.fits_known; rows_long = b.rows_long; wide = b.wide; entries = b.entries }

  -- each message keeps it
  pub message_mid : (v : AdoptView) (j : ℕ) (m : Message) → IsMid v → Brings M v.own v.place j m → IsMid (adopt_message v j m)
  message_mid v j (Value d) a brings =
      cond_both (takes_value v j d) (restore (at_context v (put v.known j d))) v IsMid
      (λ takes.
      let parts = and_parts (not v.told && has v.own.neighbours j) (in_range v j d) takes in
      restored_mid (at_context v (put v.known j d)) (moved_mid v (put v.known j d) a (put_all (in_range v) v.known j d a.fits_known parts.1)))
      (λ _. a)
  message_mid v j (Threshold t c) a brings = cond_both (takes_from_parent v j c) (take_threshold v t c) v IsMid (λ _. threshold_mid v t c a) (λ _. a)
  message_mid v j (Terminate c) a brings =
      cond_both (takes_from_parent v j c) (take_end v c) v IsMid (λ takes. end_mid v c a (and_parts (not v.told && is_value (last_of v.place.path) j) (fits v c) takes).1) (λ _. a)
  message_mid v j (Cost c l u) a brings = take_mid v (place_of v.place j) (value_in c v.own.me) (without v.own.me c) l u a brings
  message_mid v j (Token path) a brings = a
  message_mid v j (Done visited) a brings = a
  message_mid v j (Util scope cells) a brings = a
  message_mid v j (ValueAll values) a brings = a

  pub batch_mid : (ls : List (ℕ × Message)) (v : AdoptView) → IsMid v → Every (λ l. Brings M own place l.0 l.1) ls → IsMid (fold (λ w l. adopt_message w l.0 l.1) v ls)
  batch_mid [] v a all = a
  batch_mid (l ∷ ls) v a all =
      batch_mid ls (adopt_message v l.0 l.1)
      (message_mid v l.0 l.1 a (subst (λ (o : Private). Brings M o v.place l.0 l.1) (sym a.own_is) (subst (λ (q : Place). Brings M own q l.0 l.1) (sym a.place_is) all.0)))
      all.1

  -- another value
  pub valued_mid : (v : AdoptView) (d : ℕ) → IsMid v → d ≤ v.own.size - 1 → IsMid (record v { value = d })
  valued_mid v d a h = record {
    own_is = a.own_is;
    place_is = a.place_is;
    error_is = a.error_is;
    value_low = h;
    fits_known = a.fits_known;
    rows_long = a.rows_long;
    wide = a.wide;
    entries = a.entries;
  }

  pub choose_mid : (v : AdoptView) → IsMid v → IsMid (choose v)
  choose_mid v a =
      cond_both (is_value (upper_bound v) v.threshold) (record v { value = best_upper v }) (if nat_lt v.threshold (lower_of v v.value) then record v { value = best_lower v } else v) IsMid
      (λ _. valued_mid v (best_upper v) a (lowest_within is_below (upper_of v) (v.own.size - 1)))
      (λ _. cond_both (nat_lt v.threshold (lower_of v v.value)) (record v { value = best_lower v }) v IsMid (λ _. valued_mid v (best_lower v) a (lowest_within nat_lt (lower_of v) (v.own.size - 1))) (λ _. a))

  allotted_mid : (v : AdoptView) → IsMid v → IsMid (allotted v)
  allotted_mid v a =
      let row : List Entry = row_at v.rows v.value in
      let new : List Entry = allot (to_allot v) row in
      record {
        own_is = a.own_is;
        place_is = a.place_is;
        error_is = a.error_is;
        value_low = a.value_low;
        fits_known = a.fits_known;
        rows_long = length-set v.rows v.value new ∙ a.rows_long;
        wide = set_each [] (λ i row. i < v.own.size → length row ≡ length v.place.children) v.rows v.value new (λ lt. allot_length (to_allot v) row ∙ a.wide v.value lt) a.wide;
        entries =
            set_each [] (λ i row. (j : ℕ) → Q v.known i j (get_or row j blank)) v.rows v.value new
            (λ j.
            let e : Entry = get_or row j blank in
            let f : IsReshared e (get_or new j blank) = allot_at (to_allot v) row (λ k. keeps.range v.known v.value k (get_or row k blank) (a.entries v.value k)) j in
            subst (λ (x : Entry). Q v.known v.value j x) (sym f.is) (keeps.reshared v.known v.value j e f.share (a.entries v.value j) f.low f.high))
            a.entries;
      }

  settle_mid : (v : AdoptView) → IsMid v → IsMid (settle v)
  settle_mid v a =
      cond_both (may_end v) (record v { phase = record v.phase { ended = true } }) v IsMid
      (λ _. record { own_is = a.own_is; place_is = a.place_is; error_is = a.error_is; value_low = a.value_low; fits_known = a.fits_known; rows_long = a.rows_long; wide = a.wide; entries = a.entries })
      (λ _. a)

  -- backTrack keeps it
  pub closed_mid : (v : AdoptView) → IsMid v → IsMid (closed v)
  closed_mid v a = settle_mid (allotted (choose (restore v))) (allotted_mid (choose (restore v)) (choose_mid (restore v) (restored_mid v a)))

  -- and so does the start, of a new agent
  pub new_mid : IsMid (new_adopt own place error)
  new_mid = record {
    own_is = refl;
    place_is = refl;
    error_is = refl;
    value_low = omega arith;
    fits_known = refl;
    rows_long = long own.size (replicate (length place.children) blank);
    wide = λ d lt. ap length (replicate_at own.size (replicate (length place.children) blank) [] d lt) ∙ long (length place.children) blank;
    entries = λ d k.
        subst (λ (e : Entry). Q [] d k e)
        (sym (each_replicate (λ row. get_or row k blank ≡ blank) own.size (replicate (length place.children) blank) [] (each_replicate (λ e. e ≡ blank) (length place.children) blank blank refl refl k) refl d))
        (keeps.blank_has [] d k);
  }
