-- One variable's search: it ends, or the token goes to a child and comes back.
use Rattle.std.proofs.Common.{◌≡◌, ℕ, ◌+◌, ◌<◌, ◌≤◌, Bool, true, false, ◌||◌, ◌&&◌, not, cond, eqb, nat_le, if◌then◌else◌, List, [], ◌∷◌, ◌++◌, length, Option, Some, None, refl, sym, ap, subst, ◌∙◌, inl, inr, arith}
use Rattle.std.specs.Prelude.{◌⊎◌}
use Rattle.std.specs.List.{concat, slice_get, range_with_len}
use Rattle.std.proofs.lemmas.Bool.{cases_Bool, cases_eq, and_parts, or_left, eq-eqb, ne_eqb, not-true, not-false, not_from_true, not_from_false, le-leb, true≢false}
use Rattle.std.proofs.lemmas.List.{length-append, length-map, append_assoc, append-nil, map-append}
use Rattle.std.proofs.lemmas.List.Folds.{list_any-append}
use Rattle.dcop_base.specs.Table.{has, has_repeat}
use Rattle.dcop_base.specs.Problem.{Dcop}
use Rattle.dcop_base.specs.Graph.{are_neighbours, neighbours, share_table, are_joined}
use Rattle.dcop_base.proofs.JointLaws.{are_neighbours-sym}
use Rattle.pseudotree.specs.DepthFirst.{Visit, is_seen, next_of}
use Rattle.pseudotree.proofs.NestLaws.{filter_has}
use Rattle.pseudotree.proofs.SpreadLaws.{any_in_range}
use Rattle.pseudotree.proofs.TreeLaws.{last_push}
use Rattle.protocol_steps.specs.declared.message.Message.TheVariants.{Token, Done}
use Rattle.protocol_steps.specs.Agent.{Stepped, quiet, last_of}
use Rattle.protocol_steps.specs.Token.{TokenView, next_child}
use Rattle.adopt_context.specs.Context.{is_value}
use Rattle.protocol_steps.specs.TokenStep.{done_for, pass_on, look, open_with, takes_token, takes_done, token_message}
use Rattle.run_laws.proofs.Serial.{Serial, put, flight_of, stepped, tick, IsLive, Leads}
use Rattle.run_laws.proofs.SerialLaws.{leads_then, leads_none, leads_one}
use Rattle.run_laws.proofs.Visits.{vars, fresh, open_view, ended_view, Grown, Nested, Found, Call, Visited}
use Rattle.run_laws.proofs.MemberLaws.{in_left, in_right, in_cases, in_one, only, or_none, out_parts, out_both, repeat-push, at_most, all_there}
use Rattle.run_laws.proofs.VisitLaws.{ascend-filter, filter_in, find_some, find_none, find_first, find_same, seen_is, path_new, grown_has, grown_path, grown_then, found_later, nested_more, concat-push}

five : (a b c d e : Bool) → a ≡ true → b ≡ true → c ≡ true → d ≡ true → e ≡ true → (a && b && c && d && e) ≡ true
five a b c d e p q r s t = rw (p, q, r, s, t) refl

four : (a b c d : Bool) → a ≡ true → b ≡ true → c ≡ true → d ≡ true → (a && b && c && d) ≡ true
four a b c d p q r s = rw (p, q, r, s) refl

-- an agent's view after it was set
pub put_same : (V : ℕ → TokenView) (i : ℕ) (x : TokenView) → put V i x i ≡ x
put_same V i x = ap (λ (b : Bool). cond b x (V i)) (eq-eqb i i refl)

pub put_other : (V : ℕ → TokenView) (i u : ℕ) (x : TokenView) → (u ≡ i → ⊥) → put V i x u ≡ V u
put_other V i u x ne = ap (λ (b : Bool). cond b x (V u)) (ne_eqb u i ne)

-- variables of which one is seen and the other is not
pub differ : (xs : List ℕ) (u v : ℕ) → has xs u ≡ true → has xs v ≡ false → u ≡ v → ⊥
differ xs u v h k e = true≢false (sym h ∙ ap (λ (x : ℕ). has xs x) e ∙ k)

module _ (p : Dcop) where
  near_other : (u w : ℕ) → are_neighbours p u w ≡ true → u ≡ w → ⊥
  near_other u w near e =
      true≢false (sym (and_parts (not (eqb u w)) (share_table p.tables u w || are_joined p.joints u w) near).0 ∙ not_from_true (eqb u w) (eq-eqb u w e))

  pub neighbour_in : (v u : ℕ) → has (neighbours p v) u ≡ true → (are_neighbours p v u ≡ true) × (u < length p.sizes)
  neighbour_in v u h = filter_in (are_neighbours p v) (length p.sizes) u h

  pub in_neighbours : (v u : ℕ) → u < length p.sizes → are_neighbours p v u ≡ true → has (neighbours p v) u ≡ true
  in_neighbours v u lt near =
      filter_has (are_neighbours p v) (range_with_len 0 (length p.sizes)) u (any_in_range (λ y. eqb y u) (length p.sizes) u lt (eq-eqb u u refl)) near

  module _ (S : List Visit) (base path : List ℕ) (v : ℕ) (kept : List (List ℕ)) (V : ℕ → TokenView) (c : Call p S base path v kept V) where
    seen_v : has (vars S) v ≡ true
    seen_v = ap (λ (xs : List ℕ). has xs v) c.shape ∙ in_right base (v ∷ concat kept) v (or_left (eqb v v) (has (concat kept) v) (eq-eqb v v refl))

    -- at a neighbour, what the agent knows is what was seen
    known : (u : ℕ) → u < length p.sizes → are_neighbours p v u ≡ true → (has path u || has (concat kept) u) ≡ has (vars S) u
    known u lt near =
        ap (λ (b : Bool). b || has (concat kept) u) (sym (c.agree u lt near))
        ∙ ap (λ (b : Bool). has base u || (b || has (concat kept) u)) (sym (ne_eqb v u (near_other v u near)))
        ∙ sym (list_any-append (λ (y : ℕ). eqb y u) base (v ∷ concat kept))
        ∙ ap (λ (xs : List ℕ). has xs u) (sym c.shape)

    next_same : (a : Option ℕ) → next_child (open_view p v path kept a) ≡ next_of p S v
    next_same a =
        find_same (λ u. not (has path u || has (concat kept) u)) (λ u. not (is_seen S u)) (neighbours p v)
        (λ u h. let parts = neighbour_in v u h in ap not (known u parts.1 parts.0 ∙ sym (seen_is S u)))

    all_near : next_of p S v ≡ None → (u : ℕ) → u < length p.sizes → are_neighbours p v u ≡ true → has (vars S) u ≡ true
    all_near e u lt near =
        sym (seen_is S u) ∙ not-false (is_seen S u) (find_none (λ w. not (is_seen S w)) (neighbours p v) u e (in_neighbours v u lt near))

    -- all seen: there is no next one
    pub none_next : length p.sizes ≤ length S → next_of p S v ≡ None
    none_next many =
        elim (next_of p S v) as (λ (o : Option ℕ). next_of p S v ≡ o → o ≡ None) [
          | None ↦ λ e. refl
          | Some w ↦ λ e.
              let some = find_some (λ u. not (is_seen S u)) (neighbours p v) w e in
              let inside = (neighbour_in v w some.0).1 in
              let there : has (vars S) w ≡ true = all_there (vars S) (length p.sizes) c.distinct c.below (omega (arith, many, length-map S (λ (s : Visit). s.var))) w inside in
              absurd (true≢false (sym there ∙ sym (seen_is S w) ∙ not-true (is_seen S w) some.1))
        ] refl

    -- v has no next child: it ends
    pub finished : next_of p S v ≡ None → Visited p S S base path v kept V
    finished e = record {
      grown = record { more = []; is = sym (append-nil S) };
      count = 0;
      size = omega arith;
      new_kept = kept;
      shape = c.shape;
      distinct = c.distinct;
      below = c.below;
      closed = λ x u h out lt near. elim (cases_eq x v) [
        | inl same ↦ all_near e u lt (subst (λ (y : ℕ). are_neighbours p y u ≡ true) same near)
        | inr other ↦ c.closed x u h (out_both path (v ∷ []) x out (or_none (eqb v x) false (ne_eqb v x (λ q. other (sym q))) refl)) lt near
      ];
      nested = c.nested;
      views = put V v (ended_view p v path kept);
      leads = λ t d t2 d2 k te de ke.
          let t_same : t ≡ t2 = omega (arith, te) in
          let d_same : d ≡ d2 = omega (arith, de) in
          leads_none (length p.sizes) (stepped V t d v (look (open_view p v path kept None)))
          (record { views = put V v (ended_view p v path kept); flight = flight_of v (done_for (last_of path) (v ∷ concat kept)); tokens = t2; dones = d2 }) k (omega (arith, ke))
          (ap (λ (o : Option ℕ). stepped V t d v (pass_on (open_view p v path kept None) o)) (next_same None ∙ e)
          ∙ ap (λ (x : ℕ). let s : Serial = record { views = put V v (ended_view p v path kept); flight = flight_of v (done_for (last_of path) (v ∷ concat kept)); tokens = x; dones = d } in s) t_same
          ∙ ap (λ (x : ℕ). let s : Serial = record { views = put V v (ended_view p v path kept); flight = flight_of v (done_for (last_of path) (v ∷ concat kept)); tokens = t2; dones = x } in s) d_same);
      same = λ u h. elim h [
        | inl apart ↦ put_other V v u (ended_view p v path kept) apart.1
        | inr out ↦ put_other V v u (ended_view p v path kept) (λ q. differ (vars S) v u seen_v out (sym q))
      ];
      found = λ u h who. elim who [
        | inl same ↦ subst (λ (y : ℕ). Found p S y (put V v (ended_view p v path kept) y)) (sym same) found_v
        | inr out ↦ absurd (true≢false (sym h ∙ out))
      ];
    } where
      found_v : Found p S v (put V v (ended_view p v path kept) v)
      found_v = record {
        kept = kept;
        is = put_same V v (ended_view p v path kept) ∙ ap (λ (xs : List ℕ). ended_view p v xs kept) (sym c.placed);
        whole = λ w lt near.
            ap (λ (xs : List ℕ). has xs w || has (concat kept) w) c.placed ∙ known w lt near ∙ all_near e w lt near;
        nested = subst (λ (xs : List ℕ). Nested p S v xs kept) (sym c.placed) c.nested;
      }

    -- v goes on to a child w
    module _ (few : length p.sizes ≤ 1000) (w : ℕ) (e : next_of p S v ≡ Some w) where
      abbrev visit_w : Visit
      visit_w = record { var = w; path = path ++ (v ∷ []) }

      abbrev seen_w : List Visit
      seen_w = S ++ (visit_w ∷ [])

      abbrev waiting_v : TokenView
      waiting_v = open_view p v path kept (Some w)

      abbrev V_w : ℕ → TokenView
      V_w = put V v waiting_v

      found_w : (has (neighbours p v) w ≡ true) × (not (is_seen S w) ≡ true)
      found_w = find_some (λ u. not (is_seen S u)) (neighbours p v) w e

      near : are_neighbours p v w ≡ true
      near = (neighbour_in v w found_w.0).0

      inside : w < length p.sizes
      inside = (neighbour_in v w found_w.0).1

      free : has (vars S) w ≡ false
      free = sym (seen_is S w) ∙ not-true (is_seen S w) found_w.1

      least : (u : ℕ) → u < w → u < length p.sizes → are_neighbours p v u ≡ true → has (vars S) u ≡ true
      least u lt known_u near_u =
          sym (seen_is S u)
          ∙ not-false (is_seen S u)
          (find_first (λ x. not (is_seen S x)) (neighbours p v) w u (ascend-filter (are_neighbours p v) 0 (length p.sizes)) e (in_neighbours v u known_u near_u) lt)

      other : v ≡ w → ⊥
      other = differ (vars S) v w seen_v free

      first_grown : Grown S seen_w
      first_grown = record { more = visit_w ∷ []; is = refl }

      vars_w : vars seen_w ≡ vars S ++ (w ∷ [])
      vars_w = map-append (λ (s : Visit). s.var) S (visit_w ∷ [])

      in_w : (u : ℕ) → has (vars seen_w) u ≡ true → (has (vars S) u ≡ true) ⊎ (w ≡ u)
      in_w u h = elim (in_cases (vars S) (w ∷ []) u (sym (ap (λ (xs : List ℕ). has xs u) vars_w) ∙ h)) [
        | inl old ↦ inl old
        | inr new ↦ inr (only w u new)
      ]

      path_seen : (u : ℕ) → has (path ++ (v ∷ [])) u ≡ true → has (vars S) u ≡ true
      path_seen u h = elim (in_cases path (v ∷ []) u h) [
        | inl above ↦ ap (λ (xs : List ℕ). has xs u) c.shape ∙ in_left base (v ∷ concat kept) u (c.inside u above)
        | inr last ↦ subst (λ (y : ℕ). has (vars S) y ≡ true) (only v u last) seen_v
      ]

      path_free : has (path ++ (v ∷ [])) w ≡ false
      path_free = elim (cases_Bool (has (path ++ (v ∷ [])) w)) [
        | inl there ↦ absurd (true≢false (sym (path_seen w there) ∙ free))
        | inr out ↦ out
      ]

      path_apart : has_repeat ((path ++ (v ∷ [])) ++ (w ∷ [])) ≡ false
      path_apart = repeat-push (path ++ (v ∷ [])) w c.apart path_free

      pub child_call : Call p seen_w (vars S) (path ++ (v ∷ [])) w [] V_w
      child_call = record {
        shape = vars_w;
        distinct = ap has_repeat vars_w ∙ repeat-push (vars S) w c.distinct free;
        below = λ u h. elim (in_w u h) [
          | inl old ↦ c.below u old
          | inr same ↦ subst (λ (y : ℕ). y < length p.sizes) same inside
        ];
        apart = path_apart;
        inside = path_seen;
        agree = λ u lt beside. elim (cases_Bool (has (path ++ (v ∷ [])) u)) [
          | inl above ↦ path_seen u above ∙ sym above
          | inr out ↦ elim (cases_Bool (has (vars S) u)) [
            | inl there ↦ absurd (true≢false (sym (c.closed u w there out inside (are_neighbours-sym p w u beside)) ∙ free))
            | inr unseen ↦ unseen ∙ sym out
          ]
        ];
        closed = λ x u h out lt beside.
            let parts = out_parts (path ++ (v ∷ [])) (w ∷ []) x out in
            elim (in_w x h) [
              | inl old ↦ grown_has S seen_w first_grown u (c.closed x u old parts.0 lt beside)
              | inr same ↦ absurd (true≢false (sym (subst (λ (y : ℕ). has (w ∷ []) y ≡ true) same (in_one w)) ∙ parts.1))
            ];
        fresh_views = λ u h.
            let out = (out_parts (vars S) (w ∷ []) u (sym (ap (λ (xs : List ℕ). has xs u) vars_w) ∙ h)).0 in
            put_other V v u waiting_v (λ q. differ (vars S) v u seen_v out (sym q)) ∙ c.fresh_views u out;
        placed = path_new S visit_w free;
        nested = record {
          seen = λ x h. absurd (cc);
          tops = λ x h. absurd (cc);
          deep = λ x h. absurd (cc);
          ascend = tt;
          lower = λ x u h. absurd (cc);
        };
      }

      -- w takes the token
      short_path : length (path ++ (v ∷ [])) ≤ 999
      short_path =
          let all = at_most ((path ++ (v ∷ [])) ++ (w ∷ [])) (length p.sizes) path_apart (λ u h. elim (in_cases (path ++ (v ∷ [])) (w ∷ []) u h) [
            | inl above ↦ c.below u (path_seen u above)
            | inr last ↦ subst (λ (y : ℕ). y < length p.sizes) (only w u last) inside
          ]) in
          omega (arith, all, few, length-append (path ++ (v ∷ [])) (w ∷ []))

      opens : takes_token (fresh p w) v (path ++ (v ∷ [])) ≡ true
      opens =
          five true (is_value (last_of (path ++ (v ∷ []))) v) (nat_le (length (path ++ (v ∷ []))) 999) (not (has_repeat (path ++ (v ∷ [])))) (not (has (path ++ (v ∷ [])) w))
          refl
          (ap (λ (o : Option ℕ). is_value o v) (last_push path v) ∙ eq-eqb v v refl)
          (le-leb (length (path ++ (v ∷ []))) 999 short_path)
          (not_from_false (has_repeat (path ++ (v ∷ []))) c.apart)
          (not_from_false (has (path ++ (v ∷ [])) w) path_free)

      fresh_w : V_w w ≡ fresh p w
      fresh_w = put_other V v w waiting_v (λ q. other (sym q)) ∙ c.fresh_views w free

      abbrev sent_token : ℕ → ℕ → Serial
      sent_token t d = record { views = V_w; flight = Some (record { from = v; to = w; message = Token (path ++ (v ∷ [])) }); tokens = t; dones = d }

      looks : (t d : ℕ) → stepped V t d v (look (open_view p v path kept None)) ≡ sent_token t d
      looks t d = ap (λ (o : Option ℕ). stepped V t d v (pass_on (open_view p v path kept None) o)) (next_same None ∙ e)

      abbrev w_looks : ℕ → ℕ → Serial
      w_looks t d = stepped V_w t d w (look (open_view p w (path ++ (v ∷ [])) [] None))

      token_taken : (t d : ℕ) → tick (sent_token t d) ≡ w_looks (t + 1) d
      token_taken t d =
          let same : d + 0 ≡ d = omega arith in
          ap (λ (x : TokenView). stepped V_w (t + 1) (d + 0) w (token_message x v (Token (path ++ (v ∷ []))))) fresh_w
          ∙ ap (λ (b : Bool). stepped V_w (t + 1) (d + 0) w (if b then open_with (fresh p w) (path ++ (v ∷ [])) else quiet (fresh p w))) opens
          ∙ ap (λ (k : ℕ). w_looks (t + 1) k) same

      token_live : (t d : ℕ) → IsLive (length p.sizes) (sent_token t d)
      token_live t d = record {
        flight = record { from = v; to = w; message = Token (path ++ (v ∷ [])) };
        is = refl;
        from = c.below v seen_v;
        to = inside;
        awake = ap (λ (x : TokenView). x.phase.ended) fresh_w;
      }

      down : (t d : ℕ) → Leads (length p.sizes) (stepped V t d v (look (open_view p v path kept None))) (w_looks (t + 1) d) 1
      down t d =
          subst (λ (s : Serial). Leads (length p.sizes) s (w_looks (t + 1) d) 1) (sym (looks t d))
          (leads_one (length p.sizes) (sent_token t d) (w_looks (t + 1) d) (token_live t d) (token_taken t d))

      -- the child has ended, and v takes its DONE
      module _ (R : List Visit) (inner : Visited p seen_w R (vars S) (path ++ (v ∷ [])) w [] V_w) where
        abbrev child : List ℕ
        child = w ∷ concat inner.new_kept

        abbrev kept_now : List (List ℕ)
        kept_now = kept ++ (child ∷ [])

        grown_R : Grown S R
        grown_R = grown_then S seen_w R first_grown inner.grown

        there_w : has (vars seen_w) w ≡ true
        there_w = ap (λ (xs : List ℕ). has xs w) vars_w ∙ in_right (vars S) (w ∷ []) w (in_one w)

        view_v : inner.views v ≡ waiting_v
        view_v = inner.same v (inl (grown_has S seen_w first_grown v seen_v, other)) ∙ put_same V v waiting_v

        rest_shape : vars R ≡ base ++ (v ∷ concat kept_now)
        rest_shape =
            inner.shape
            ∙ ap (λ (xs : List ℕ). xs ++ child) c.shape
            ∙ append_assoc base (v ∷ concat kept) child
            ∙ ap (λ (xs : List ℕ). base ++ (v ∷ xs)) (sym (concat-push kept child))

        few_kept : length (concat kept) + length child ≤ 999
        few_kept =
            let all = at_most (vars R) (length p.sizes) inner.distinct inner.below in
            let long : length (vars R) ≡ length (base ++ (v ∷ concat kept)) + length child =
            ap (λ (xs : List ℕ). length xs) (inner.shape ∙ ap (λ (xs : List ℕ). xs ++ child) c.shape) ∙ length-append (base ++ (v ∷ concat kept)) child in
            omega (arith, all, few, long, length-append base (v ∷ concat kept))

        takes : takes_done waiting_v w child ≡ true
        takes =
            four true (is_value (Some w) w) (is_value (slice_get child 0) w) (nat_le (length (concat kept) + length child) 999)
            refl (eq-eqb w w refl) (eq-eqb w w refl) (le-leb (length (concat kept) + length child) 999 few_kept)

        abbrev sent_done : ℕ → ℕ → Serial
        sent_done t d = record { views = inner.views; flight = Some (record { from = w; to = v; message = Done child }); tokens = t; dones = d }

        abbrev w_ended : ℕ → ℕ → Serial
        w_ended t d = record { views = inner.views; flight = flight_of w (done_for (last_of (path ++ (v ∷ []))) child); tokens = t; dones = d }

        ends : (t d : ℕ) → w_ended t d ≡ sent_done t d
        ends t d = ap (λ (o : Option ℕ). let s : Serial = record { views = inner.views; flight = flight_of w (done_for o child); tokens = t; dones = d } in s) (last_push path v)

        abbrev v_looks : ℕ → ℕ → Serial
        v_looks t d = stepped inner.views t d v (look (open_view p v path kept_now None))

        passed : (o : Option ℕ) → pass_on (open_view p v path kept_now (Some w)) o ≡ pass_on (open_view p v path kept_now None) o
        passed None = refl
        passed (Some u) = refl

        done_taken : (t d : ℕ) → tick (sent_done t d) ≡ v_looks t (d + 1)
        done_taken t d =
            let same : t + 0 ≡ t = omega arith in
            ap (λ (x : TokenView). stepped inner.views (t + 0) (d + 1) v (token_message x w (Done child))) view_v
            ∙ ap (λ (b : Bool). stepped inner.views (t + 0) (d + 1) v (if b then look (open_view p v path kept_now (Some w)) else quiet waiting_v)) takes
            ∙ ap (λ (s : Stepped TokenView). stepped inner.views (t + 0) (d + 1) v s) (passed (next_child (open_view p v path kept_now (Some w))))
            ∙ ap (λ (k : ℕ). v_looks k (d + 1)) same

        done_live : (t d : ℕ) → IsLive (length p.sizes) (sent_done t d)
        done_live t d = record {
          flight = record { from = w; to = v; message = Done child };
          is = refl;
          from = inside;
          to = c.below v seen_v;
          awake = ap (λ (x : TokenView). x.phase.ended) view_v;
        }

        up : (t d : ℕ) → Leads (length p.sizes) (w_ended t d) (v_looks t (d + 1)) 1
        up t d =
            subst (λ (s : Serial). Leads (length p.sizes) s (v_looks t (d + 1)) 1) (sym (ends t d))
            (leads_one (length p.sizes) (sent_done t d) (v_looks t (d + 1)) (done_live t d) (done_taken t d))

        pub rest_call : Call p R base path v kept_now inner.views
        rest_call = record {
          shape = rest_shape;
          distinct = inner.distinct;
          below = inner.below;
          apart = c.apart;
          inside = c.inside;
          agree = c.agree;
          closed = inner.closed;
          fresh_views = λ u h.
              let out : has (vars S) u ≡ false = unseen u h in
              inner.same u (inr h) ∙ put_other V v u waiting_v (λ q. differ (vars S) v u seen_v out (sym q)) ∙ c.fresh_views u out;
          placed = grown_path S R grown_R v seen_v ∙ c.placed;
          nested =
              nested_more p S R v path kept grown_R c.nested w inner.new_kept inner.nested free inside near least
              (grown_has seen_w R inner.grown w there_w)
              (grown_path seen_w R inner.grown w there_w ∙ path_new S visit_w free);
        } where
          unseen : (u : ℕ) → has (vars R) u ≡ false → has (vars S) u ≡ false
          unseen u h = elim (cases_Bool (has (vars S) u)) [
            | inl there ↦ absurd (true≢false (sym (grown_has S R grown_R u there) ∙ h))
            | inr out ↦ out
          ]

        -- and then v goes on
        module _ (Q : List Visit) (outer : Visited p R Q base path v kept_now inner.views) where
          leads_all : (t d t2 d2 k : ℕ) → t2 ≡ t + (inner.count + outer.count + 1) → d2 ≡ d + (inner.count + outer.count + 1) → k ≡ (inner.count + outer.count + 1) + (inner.count + outer.count + 1)
              → Leads (length p.sizes) (stepped V t d v (look (open_view p v path kept None)))
              (record { views = outer.views; flight = flight_of v (done_for (last_of path) (v ∷ concat outer.new_kept)); tokens = t2; dones = d2 }) k
          leads_all t d t2 d2 k te de ke =
              let end : Serial = record { views = outer.views; flight = flight_of v (done_for (last_of path) (v ∷ concat outer.new_kept)); tokens = t2; dones = d2 } in
              let t1 : ℕ = t + 1 + inner.count in
              let d1 : ℕ = d + inner.count in
              let last = outer.leads t1 (d1 + 1) t2 d2 (outer.count + outer.count) (omega (arith, te)) (omega (arith, de)) refl in
              let third = leads_then (length p.sizes) (w_ended t1 d1) (v_looks t1 (d1 + 1)) end 1 (outer.count + outer.count) (outer.count + outer.count + 1) (omega arith) (up t1 d1) last in
              let second = leads_then (length p.sizes) (w_looks (t + 1) d) (w_ended t1 d1) end (inner.count + inner.count) (outer.count + outer.count + 1) (inner.count + inner.count + (outer.count + outer.count + 1)) refl
              (inner.leads (t + 1) d t1 d1 (inner.count + inner.count) refl refl refl) third in
              leads_then (length p.sizes) (stepped V t d v (look (open_view p v path kept None))) (w_looks (t + 1) d) end 1 (inner.count + inner.count + (outer.count + outer.count + 1)) k (omega (arith, ke)) (down t d) second

          same_all : (u : ℕ) → ((has (vars S) u ≡ true) × (u ≡ v → ⊥)) ⊎ (has (vars Q) u ≡ false) → outer.views u ≡ V u
          same_all u (inl h) =
              outer.same u (inl (grown_has S R grown_R u h.0, h.1))
              ∙ inner.same u (inl (grown_has S seen_w first_grown u h.0, differ (vars S) u w h.0 free))
              ∙ put_other V v u waiting_v h.1
          same_all u (inr h) =
              let out : has (vars R) u ≡ false = elim (cases_Bool (has (vars R) u)) [
                | inl there ↦ absurd (true≢false (sym (grown_has R Q outer.grown u there) ∙ h))
                | inr free_u ↦ free_u
              ] in
              outer.same u (inr h) ∙ inner.same u (inr out)
              ∙ put_other V v u waiting_v (λ q. differ (vars R) v u (grown_has S R grown_R v seen_v) out (sym q))

          found_inner : (u : ℕ) → has (vars R) u ≡ true → has (vars S) u ≡ false → Found p R u (inner.views u)
          found_inner u h out = inner.found u h (elim (cases_eq u w) [
            | inl same ↦ inl same
            | inr apart ↦
                inr (ap (λ (xs : List ℕ). has xs u) vars_w ∙ out_both (vars S) (w ∷ []) u out (or_none (eqb w u) false (ne_eqb w u (λ q. apart (sym q))) refl))
          ])

          found_all : (u : ℕ) → has (vars Q) u ≡ true → (u ≡ v) ⊎ (has (vars S) u ≡ false) → Found p Q u (outer.views u)
          found_all u h (inl same) = outer.found u h (inl same)
          found_all u h (inr out) = elim (cases_Bool (has (vars R) u)) [
            | inl before ↦
                subst (λ (x : TokenView). Found p Q u x) (sym (outer.same u (inl (before, λ q. differ (vars S) v u seen_v out (sym q)))))
                (found_later p R Q u (inner.views u) outer.grown before (found_inner u before out))
            | inr now ↦ outer.found u h (inr now)
          ]

          pub joined : Visited p S Q base path v kept V
          joined = record {
            grown = grown_then S R Q grown_R outer.grown;
            count = inner.count + outer.count + 1;
            size = let one : length seen_w ≡ length S + 1 = length-append S (visit_w ∷ []) in omega (arith, one, inner.size, outer.size);
            new_kept = outer.new_kept;
            shape = outer.shape;
            distinct = outer.distinct;
            below = outer.below;
            closed = outer.closed;
            nested = outer.nested;
            views = outer.views;
            leads = leads_all;
            same = same_all;
            found = found_all;
          }
