-- An exchange between nodes: all links drained, passed on and fed.
use Rattle.std.proofs.Common.{◌≡◌, ◌≢◌, ℕ, suc, ◌*◌, ◌<◌, ◌≤◌, Bool, List, [], ◌∷◌, ◌++◌, length, map, take, drop, Some, None, refl, sym, ap, subst, ◌∙◌, inl, inr, arith}
use Rattle.std.specs.List.{All, Contains, slice_get, flat_map}
use Rattle.std.proofs.Math.Nat.{mul-lt-mul_of_pos_right, div-lt_iff_lt-mul}
use Rattle.std.proofs.lemmas.Bool.{cases_Bool}
use Rattle.std.proofs.lemmas.Option.{slice_get_within, get_or_from_slice_get}
use Rattle.std.proofs.lemmas.List.Elements.{All-nil, All-cons, All-append}
use Rattle.std.specs.declared.dyn_box.DynBox.{DynBox}
use Rattle.std.specs.declared.alloc.Global.{Global}
use Rattle.dcop_base.specs.Table.{has}
use Rattle.protocol_steps.specs.declared.message.Message.{Message}
use Rattle.protocol_steps.specs.View.{View}
use Rattle.protocol_steps.proofs.PrivateLaws.{contains_from_has}
use Rattle.fifo_links.specs.declared.ends.LinkTail.{LinkTail}
use Rattle.fifo_links.specs.declared.ends.LinkHead.{LinkHead}
use Rattle.fifo_links.specs.Link.{sent_on, taken_from, SameHead, SameTail}
use Rattle.worker_laws.specs.Cells.{CellState, Lane, peers, lane, EachAre}
use Rattle.worker_laws.specs.Visits.{IsQuiet}
use Rattle.worker_laws.specs.OneNode.{home}
use Rattle.worker_laws.proofs.LaneLaws.{lane_none}
use Rattle.worker_laws.proofs.EachLaws.{there, each_on, each_back, each_long}
use Rattle.worker_laws.specs.Wires.{Passage, Wire, IsSame, HasHeld, HaveHeld, AreApart, HasPassed}
use Rattle.worker_laws.specs.Exchanges.{IsExchange}
use Rattle.worker_laws.specs.Links.{IsLinkExchanged, LeadsNone, SayNothing}
use Rattle.worker_laws.proofs.LinkLaws.{links_are_exchanged}
use Rattle.link_records.specs.Keeping.{passage_of, keeps}
use Rattle.agent_cells.specs.declared.cell.Cell.{Cell}
use Rattle.agent_cells.specs.Settled.{TailJoins, HeadJoins}
use Rattle.agent_cells.specs.State.{state_of, tails_in, heads_in, IsCell}
use Rattle.agent_cells.proofs.CellLaws.{written}
use Rattle.agent_workers.specs.Joined.{states_of, EachIs, EachBecomes, AreCellsJoined}
use Rattle.agent_workers.specs.Settled.{StaysQuiet}
use Rattle.agent_workers.proofs.ListLaws.{map_back, each_are, one_at}
use Rattle.agent_workers.proofs.JoinLaws.{stood, quiet_same, joined_still, each_stays_then}
use Rattle.node_exchange.specs.Passings.{Passing, SamePassing, AreAcross, NothingCame, AllCame, emptied as emptied_of}
use Rattle.node_exchange.specs.declared.fault.PassFault.{PassFault}
use Rattle.node_exchange.specs.declared.fault.PassFault.TheVariants.{Failed, Bytes, NoMemory}
use Rattle.node_exchange.specs.Faults.{IsByteBetween, IsByteFault, IsNoDifference as passes_no_difference}
use Rattle.node_exchange.proofs.LetterLaws.{all_same}
use Rattle.tcp_links.specs.declared.plan.InnerEnds.{InnerEnds}
use Rattle.tcp_links.specs.declared.plan.NodePlan.{NodePlan}
use Rattle.tcp_links.specs.Plans.{AreOrdered, IsBetween, pair_count, IsPlan}
use Rattle.tcp_links.specs.Drains.{HasDrained}
use Rattle.tcp_links.specs.Feeds.{AllWaits}
use Rattle.tcp_links.specs.Kept.{IsLinkKept, IsToNote, AreToNote, AreLinksKept}
use Rattle.tcp_links.specs.Faults.{node_fault, IsOtherFault}
use Rattle.tcp_links.specs.Woven.{IsPassingOf, IsLinkIdle, AreLinksIdle, AreLinksOf, AreEmptied, IsWoven, AreWoven, CanDrainAll, CanFeed, CanFeedAll, AreStill, SentWasDrained, FedWasTaken, SentIsDrained, FedIsTaken, HaveCaughtUp, HasDrainedLink, HaveDrained, HasFedLink, HaveFed}
use Rattle.tcp_links.specs.Broken.{IsPartExchange, IsLostExchange}
use Rattle.tcp_links.specs.Over.{IsDrainedOf, HasExchanged, IsExchangeFault}
use Rattle.tcp_links.specs.Carried.{drained_at as drained_from, AreTaken}
use Rattle.tcp_links.proofs.CarriedLaws.{drained_one, links_drained}
use Rattle.tcp_links.proofs.OrderLaws.{ordered_passed}
use Rattle.tcp_links.proofs.DrainLaws.{tail_still}
use Rattle.tcp_links.proofs.FeedLaws.{head_still, heads_still}
use Rattle.tcp_links.proofs.KeptLaws.{kept_on, link_exchanged}
use Rattle.tcp_links.proofs.WeaveLaws.{feed_still}

-- what is so of each element, by its place
all_at : {A : Type 0} (P : A → Type 0) (xs : List A) → All P xs → (k : ℕ) (x : A) → slice_get xs k ≡ Some x → P x
all_at P xs h k x e = subst P (get_or_from_slice_get xs k x x e) (h k x (slice_get_within xs k x e))

all_from : {A : Type 0} (P : A → Type 0) (xs : List A) → ((k : ℕ) (x : A) → slice_get xs k ≡ Some x → P x) → All P xs
all_from P [] h = All-nil P
all_from P (x ∷ xs) h = All-cons P x xs (h 0 x refl) (all_from P xs (λ k y e. h (suc k) y e))

each_from : {A B : Type 0} (R : A → B → Type 0) (xs : List A) (ys : List B) → length ys ≡ length xs → ((k : ℕ) (x : A) (y : B) → slice_get xs k ≡ Some x → slice_get ys k ≡ Some y → R x y) → EachAre R xs ys
each_from R [] [] long h = tt
each_from R [] (y ∷ ys) long h = absurd (omega (arith, long))
each_from R (x ∷ xs) [] long h = absurd (omega (arith, long))
each_from R (x ∷ xs) (y ∷ ys) long h = (h 0 x y refl refl, each_from R xs ys (omega (arith, long)) (λ k a b e f. h (suc k) a b e f))

-- a list written back twice, each time over one of its length
pub twice_written : {A : Type 0} (n : ℕ) (xs ys zs us vs : List A) → n ≡ length xs → length ys ≡ length zs → zs ≡ xs → length us ≡ length vs → vs ≡ take n (ys ++ drop (length ys) xs)
    → take n (us ++ drop (length us) (take n (ys ++ drop (length ys) xs))) ≡ us
twice_written n xs ys zs us vs len size same long is =
    let once : take n (ys ++ drop (length ys) xs) ≡ ys = written n xs ys zs len size same in
    written n (take n (ys ++ drop (length ys) xs)) us vs (len ∙ ap length (sym same) ∙ sym size ∙ ap length (sym once)) long is

-- an agent is in one of the nodes
home_below : (nodes agents i : ℕ) → 0 < nodes → i < agents → home nodes agents i < nodes
home_below nodes agents i some lt =
    let less : i * nodes < agents * nodes = mul-lt-mul_of_pos_right lt some in
    let any : 0 < agents = omega (arith, lt) in
    let turned : i * nodes < nodes * agents = omega (arith, less) in
    (div-lt_iff_lt-mul {k = agents} {x = i * nodes} {y = nodes} any).1 turned

-- a link on which an exchange was kept
pub passed_keeps : (w : Wire) (ds es : List (ℕ × Message)) → HasPassed w (keeps w ds es)
passed_keeps w [] [] = record { passage = None; receiver = refl; sender = refl; passages = refl }
passed_keeps w [] (e ∷ es) = record { passage = Some (record { drained = []; arrived = e ∷ es }); receiver = refl; sender = refl; passages = refl }
passed_keeps w (d ∷ ds) es = record { passage = Some (record { drained = d ∷ ds; arrived = es }); receiver = refl; sender = refl; passages = refl }

same_kept : (ds es : List (ℕ × Message)) → es ≡ ds → All IsSame (passage_of ds es)
same_kept [] [] same = All-nil IsSame
same_kept [] (e ∷ es) same = All-cons IsSame (record { drained = []; arrived = e ∷ es }) [] same (All-nil IsSame)
same_kept (d ∷ ds) es same = All-cons IsSame (record { drained = d ∷ ds; arrived = es }) [] same (All-nil IsSame)

held_keeps : (w : Wire) (ds es : List (ℕ × Message)) → es ≡ ds → HasHeld w → HasHeld (keeps w ds es)
held_keeps w ds es same held = All-append IsSame w.passages (passage_of ds es) held (same_kept ds es same)

-- a fault of passing as one of the exchange
pub no_difference : (round : ℕ) (f : PassFault) → passes_no_difference f → IsOtherFault (node_fault round f)
no_difference round Failed h = tt
no_difference round (Bytes from_node to_node place sent taken) h = absurd h
no_difference round NoMemory h = tt

-- the link of which something was drained
record PassesOn (node : ℕ → ℕ) (ws : List Wire) (k : ℕ) (p : Passing) : Type 0 where
  wire : Wire
  is : slice_get ws k ≡ Some wire
  leads : IsPassingOf node wire p
  fresh : p.arrived ≡ []

-- a list that was written back is as long as before
pub long_written : {A : Type 0} (n : ℕ) (xs ys zs : List A) → n ≡ length xs → length ys ≡ length zs → zs ≡ xs → n ≡ length (take n (ys ++ drop (length ys) xs))
long_written n xs ys zs len size same = len ∙ ap length (sym same) ∙ sym size ∙ ap length (sym (written n xs ys zs len size same))

-- what is so of links without anything passed is so of the same lists
pub idle_slices : (node : ℕ → ℕ) (ws ks : List Wire) (ps qs : List Passing) → ks ≡ ws → qs ≡ ps → AreLinksIdle node ws ps → AreLinksIdle node ks qs
idle_slices node ws ks ps qs k q h = subst (λ (us : List Wire). AreLinksIdle node us qs) (sym k) (subst (λ (us : List Passing). AreLinksIdle node ws us) (sym q) h)

pub note_slices : (ws ks : List Wire) (ds es : List InnerEnds) (ps qs : List Passing) → ks ≡ ws → es ≡ ds → qs ≡ ps → AreToNote ws ds ps → AreToNote ks es qs
note_slices ws ks ds es ps qs k e q h =
    subst (λ (us : List Wire). AreToNote us es qs) (sym k) (subst (λ (us : List InnerEnds). AreToNote ws us qs) (sym e) (subst (λ (us : List Passing). AreToNote ws ds us) (sym q) h))

pub links_slices : (ws ks : List Wire) (ps qs : List Passing) → ks ≡ ws → qs ≡ ps → AreLinksOf ws ps → AreLinksOf ks qs
links_slices ws ks ps qs k q h = subst (λ (us : List Wire). AreLinksOf us qs) (sym k) (subst (λ (us : List Passing). AreLinksOf ws us) (sym q) h)

pub emptied_slices : (ws ks : List Wire) (ps qs rs : List Passing) → ks ≡ ws → qs ≡ ps → AreEmptied (length ks) qs rs → AreEmptied (length ws) ps rs
emptied_slices ws ks ps qs rs k q h = subst (λ (us : List Wire). AreEmptied (length us) ps rs) k (subst (λ (us : List Passing). AreEmptied (length ks) us rs) q h)

module _ {X : Type 0} {F : X → Type 0} (M : DynBox X Global F → View) where
  -- woven links have noted all
  pub woven_kept : (nodes agents : ℕ) (ws : List Wire) (es : List InnerEnds) (cells : List (Cell X F)) → AreWoven M nodes agents ws es cells → AreLinksKept ws es
  woven_kept nodes agents ws es cells woven = each_from IsLinkKept ws es woven.ends (λ k w e at_w at_e.
      let between = all_at (IsBetween agents nodes) ws woven.between k w at_w in
      let sender = between.sender in
      let receiver = between.receiver in
      let size = woven.size in
      let from = there cells w.sender (omega (arith, sender, size)) in
      let to = there cells w.receiver (omega (arith, receiver, size)) in
      (woven.woven k w e from.0 to.0 at_w at_e from.1 to.1).kept)

  -- woven links can be drained
  pub can_drain : (nodes agents : ℕ) (ws : List Wire) (es : List InnerEnds) (cells : List (Cell X F)) → AreWoven M nodes agents ws es cells → EachIs (λ c. IsCell M c) cells → CanDrainAll M ws es cells
  can_drain nodes agents ws es cells woven sound = record {
    inside = λ k w e.
        let sender = (all_at (IsBetween agents nodes) ws woven.between k w e).sender in
        let size = woven.size in
        omega (arith, sender, size);
    each = λ k w e from at_w at_e f.
        let receiver = (all_at (IsBetween agents nodes) ws woven.between k w at_w).receiver in
        let size = woven.size in
        let to = there cells w.receiver (omega (arith, receiver, size)) in
        let on = woven.woven k w e from to.0 at_w at_e f to.1 in
        record { cell = sound.each w.sender from f; joined = on.drains; peer = on.sends };
  }

  module _ (nodes agents : ℕ) (ws : List Wire) (es ds : List InnerEnds) (cells mid : List (Cell X F)) (ps : List Passing)
      (woven : AreWoven M nodes agents ws es cells) (quiet : EachBecomes (StaysQuiet M) cells mid) (drained : HaveDrained M (home nodes agents) (length ws) cells ws es ds ps) where
    passes_on : (k : ℕ) (p : Passing) → slice_get ps k ≡ Some p → PassesOn (home nodes agents) ws k p
    passes_on k p e =
        let inside = slice_get_within ps k p e in
        let counted = drained.counted in
        let w = there ws k (omega (arith, inside, counted)) in
        let on = drained.passing k w.0 p w.1 e in
        record { wire = w.0; is = w.1; leads = on.0; fresh = on.1 }

    pub nothing_came : NothingCame ps
    nothing_came k p e = (passes_on k p e).fresh

    pub are_across : 0 < nodes → AreAcross nodes ps
    are_across some = record {
      inside = λ k p e.
          let w = passes_on k p e in
          let between = all_at (IsBetween agents nodes) ws woven.between k w.wire w.is in (
            subst (λ (n : ℕ). n < nodes) (sym w.leads.from_node) (home_below nodes agents w.wire.sender some between.sender),
            subst (λ (n : ℕ). n < nodes) (sym w.leads.to_node) (home_below nodes agents w.wire.receiver some between.receiver),
          );
      across = λ k p e same.
          let w = passes_on k p e in
          let between = all_at (IsBetween agents nodes) ws woven.between k w.wire w.is in
          between.apart (sym w.leads.from_node ∙ same ∙ w.leads.to_node);
      apart = λ k l p q e f from to.
          let v = passes_on k p e in
          let w = passes_on l q f in
          woven.apart k l v.wire w.wire v.is w.is (sym v.leads.to ∙ to ∙ w.leads.to) (sym v.leads.from ∙ from ∙ w.leads.from);
    }

    -- a link that was drained, by the cells and the ends that stood there before
    record DrainedAt (k : ℕ) (w : Wire) : Type 0 where
      old : InnerEnds
      new : InnerEnds
      passing : Passing
      from : Cell X F
      to : Cell X F
      old_is : slice_get es k ≡ Some old
      new_is : slice_get ds k ≡ Some new
      passing_is : slice_get ps k ≡ Some passing
      from_is : slice_get cells w.sender ≡ Some from
      to_is : slice_get cells w.receiver ≡ Some to
      was : IsWoven M from to w old
      link : HasDrainedLink M from w old new passing.drained

    drained_at : (k : ℕ) (w : Wire) → slice_get ws k ≡ Some w → DrainedAt k w
    drained_at k w e =
        let inside = slice_get_within ws k w e in
        let between = all_at (IsBetween agents nodes) ws woven.between k w e in
        let sender = between.sender in
        let receiver = between.receiver in
        let size = woven.size in
        let long = woven.ends in
        let longer = drained.size in
        let counted = drained.counted in
        let old = there es k (omega (arith, inside, long)) in
        let new = there ds k (omega (arith, inside, long, longer)) in
        let passing = there ps k (omega (arith, inside, counted)) in
        let from = there cells w.sender (omega (arith, sender, size)) in
        let to = there cells w.receiver (omega (arith, receiver, size)) in
        record {
          old = old.0;
          new = new.0;
          passing = passing.0;
          from = from.0;
          to = to.0;
          old_is = old.1;
          new_is = new.1;
          passing_is = passing.1;
          from_is = from.1;
          to_is = to.1;
          was = woven.woven k w old.0 from.0 to.0 e old.1 from.1 to.1;
          link = drained.drained k w from.0 old.0 new.0 passing.0 inside e from.1 old.1 new.1 passing.1;
        }

    -- what was drained is to be noted
    pub to_note : (qs : List Passing) → EachAre SamePassing ps qs → AreToNote ws ds qs
    to_note qs same k w d q at_w at_d at_q =
        let on = drained_at k w at_w in
        let ends : on.new ≡ d = one_at ds k on.new d on.new_is at_d in
        let came = each_on SamePassing ps qs same k on.passing on.passing_is in
        let is : came.0 ≡ q = one_at qs k came.0 q came.1 at_q in
        subst (λ (x : InnerEnds). IsToNote w x q) ends (subst (λ (x : Passing). IsToNote w on.new x) is (record {
          drained =
              ap (λ (xs : List (ℕ × Message)). flat_map (λ (p : Passage). p.drained) w.passages ++ xs) came.2.drained
              ∙ ap (λ (xs : List (ℕ × Message)). xs ++ on.passing.drained) on.was.kept.drained
              ∙ ap (λ (xs : List (ℕ × Message)). taken_from on.old.drain ++ xs) on.link.more.added
              ∙ sym on.link.more.taken;
          arrived = on.was.kept.arrived ∙ ap sent_on (sym on.link.feed);
        }))

    -- where the receiver had taken all, it still has
    pub still_taken : (still : List Bool) → FedIsTaken M still ws es cells → FedIsTaken M still ws ds mid
    still_taken still fed = record {
      each = λ k w d to e f g marked none.
          let on = drained_at k w e in
          let old = stood M (StaysQuiet M) cells mid quiet w.receiver to g in
          let ends : on.new ≡ d = one_at ds k on.new d on.new_is f in
          ap (lane w.sender) old.2.quiet.taken
          ∙ fed.each k w on.old old.0 e on.old_is old.1 marked (sym on.link.waits ∙ ap (λ (x : InnerEnds). x.waits) ends ∙ none)
          ∙ ap sent_on (sym on.link.feed) ∙ ap (λ (x : InnerEnds). sent_on x.feed) ends;
    }

    -- each passing leads from its link's sender to its receiver
    pub links_of : (qs : List Passing) → EachAre SamePassing ps qs → AreLinksOf ws qs
    links_of qs same = record {
      each = λ k w q e f.
          let inside = slice_get_within ws k w e in
          let counted = drained.counted in
          let p = there ps k (omega (arith, inside, counted)) in
          let came = each_on SamePassing ps qs same k p.0 p.1 in
          let is : came.0 ≡ q = one_at qs k came.0 q came.1 f in
          let led = (drained.passing k w p.0 e p.1).0 in
          (ap (λ (x : Passing). x.from) (sym is) ∙ came.2.from ∙ led.from, ap (λ (x : Passing). x.to) (sym is) ∙ came.2.to ∙ led.to);
    }

    pub can_feed : EachIs (λ c. IsCell M c) cells → CanFeedAll M ws ds mid
    can_feed sound = record {
      apart = woven.apart;
      inside = λ k w e.
          let between = all_at (IsBetween agents nodes) ws woven.between k w e in
          let receiver = between.receiver in
          let size = woven.size in
          let long = quiet.size in
          omega (arith, receiver, size, long);
      each = λ k w d to e f g.
          let on = drained_at k w e in
          let old = stood M (StaysQuiet M) cells mid quiet w.receiver to g in
          let same : on.to ≡ old.0 = one_at cells w.receiver on.to old.0 on.to_is old.1 in
          let ends : on.new ≡ d = one_at ds k on.new d on.new_is f in
          let feeds : HeadJoins (heads_in on.to) w.sender on.new.feed = subst (λ (t : LinkTail (ℕ × Message)). HeadJoins (heads_in on.to) w.sender t) (sym on.link.feed) on.was.feeds in
          let stays : StaysQuiet M on.to to = subst (λ (c : Cell X F). StaysQuiet M c to) (sym same) old.2 in
          subst (λ (n : InnerEnds). CanFeed M to w n) ends
          (feed_still M on.to to w on.new stays (record { cell = sound.each w.receiver on.to on.to_is; joined = feeds; peer = on.was.takes }));
    }

    pub all_drained : EachAre (IsDrainedOf (home nodes agents) (states_of M cells)) ws ps
    all_drained = each_from (IsDrainedOf (home nodes agents) (states_of M cells)) ws ps drained.counted (λ k w p e f. record {
      link = (drained.passing k w p e f).0;
      drained = λ s at.
          let on = drained_at k w e in
          let c = map_back (state_of M) cells w.sender s at in
          let same : on.from ≡ c.0 = one_at cells w.sender on.from c.0 on.from_is c.1 in
          let passing : p ≡ on.passing = one_at ps k p on.passing f on.passing_is in
          ap (λ (x : Passing). flat_map (λ (q : Passage). q.drained) w.passages ++ x.drained) passing
          ∙ ap (λ (xs : List (ℕ × Message)). xs ++ on.passing.drained) on.was.kept.drained
          ∙ ap (λ (xs : List (ℕ × Message)). taken_from on.old.drain ++ xs) on.link.more.added
          ∙ sym on.link.more.taken ∙ on.link.all ∙ ap (λ (x : Cell X F). lane w.receiver (state_of M x).sent) same ∙ ap (λ (x : CellState). lane w.receiver x.sent) c.2;
    })

    -- what the exchange drained of each link is what was taken of it
    pub taken_one : AreTaken es ds (drained_from (ps ∷ []))
    taken_one = λ k a b p q.
        let w = each_back IsLinkKept ws es (woven_kept nodes agents ws es cells woven) k a p in
        let x = each_on (IsDrainedOf (home nodes agents) (states_of M cells)) ws ps all_drained k w.0 w.1 in
        let note = to_note ps (all_same ps) k w.0 b x.0 w.1 q x.1 in
        ap (λ (us : List (ℕ × Message)). taken_from a.drain ++ us) (drained_one ps k x.0 x.1) ∙ ap (λ (us : List (ℕ × Message)). us ++ x.0.drained) (sym w.2.drained) ∙ note.drained

    pub passings_are : EachAre (IsPassingOf (home nodes agents)) ws ps
    passings_are = links_drained (home nodes agents) (states_of M cells) ws ps all_drained

    -- a fault of passing, before any link has passed anything
    pub fault_on : {W : Type 0} (round : ℕ) (p : NodePlan W) (left : List Wire) (last : List (Cell X F)) (f : PassFault) → p.nodes ≡ nodes → p.agents ≡ agents → p.kept.items ≡ ws
        → IsLostExchange p.kept.items left (states_of M cells) (states_of M last) → IsPartExchange p.kept.items left (states_of M cells) (states_of M last)
        → IsByteFault nodes ps f → IsExchangeFault M round p cells left last (node_fault round f)
    fault_on round p left last Failed n a k lost part h = lost
    fault_on round p left last (Bytes from_node to_node place sent taken) n a k lost part h = (
      record {
        passings = ps;
        drained = subst (λ (vs : List Wire). EachAre (IsDrainedOf (home p.nodes p.agents) (states_of M cells)) vs ps) (sym k)
            (subst (λ (x : ℕ). EachAre (IsDrainedOf (home x p.agents) (states_of M cells)) ws ps) (sym n)
            (subst (λ (x : ℕ). EachAre (IsDrainedOf (home nodes x) (states_of M cells)) ws ps) (sym a) all_drained));
        fault = (refl, subst (λ (x : ℕ). IsByteBetween x ps from_node to_node place sent taken) (sym n) h);
      },
      lost,
    )
    fault_on round p left last NoMemory n a k lost part h = part

    module _ (qs : List Passing) (vs : List Wire) (fs : List InnerEnds) (last : List (Cell X F))
        (same : EachAre SamePassing ps qs) (stays : EachBecomes (StaysQuiet M) mid last) (fed : HaveFed M (length ws) last ws vs ds fs qs) where
      all_quiet : EachBecomes (StaysQuiet M) cells last
      all_quiet = each_stays_then M cells mid last quiet stays

      -- a link that was drained and fed, by the cells and the ends that stood there before and stand there now
      record FedAt (k : ℕ) (v : Wire) : Type 0 where
        wire : Wire
        wire_is : slice_get ws k ≡ Some wire
        on : DrainedAt k wire
        ends : InnerEnds
        came : Passing
        taker : Cell X F
        ends_is : slice_get fs k ≡ Some ends
        came_is : slice_get qs k ≡ Some came
        taker_is : slice_get last wire.receiver ≡ Some taker
        link : HasFedLink M taker wire v on.new ends came
        kept : IsLinkKept v ends
        sender : v.sender ≡ wire.sender
        receiver : v.receiver ≡ wire.receiver

      fed_at : (k : ℕ) (v : Wire) → slice_get vs k ≡ Some v → FedAt k v
      fed_at k v e =
          let inside = slice_get_within vs k v e in
          let wires = fed.wires in
          let lt : k < length ws = omega (arith, inside, wires) in
          let w = there ws k lt in
          let on = drained_at k w.0 w.1 in
          let size = fed.size in
          let in_ds = slice_get_within ds k on.new on.new_is in
          let ends = there fs k (omega (arith, in_ds, size)) in
          let came = each_on SamePassing ps qs same k on.passing on.passing_is in
          let long = all_quiet.size in
          let in_cells = slice_get_within cells w.0.receiver on.to on.to_is in
          let taker = there last w.0.receiver (omega (arith, in_cells, long)) in
          let link = fed.fed k w.0 v taker.0 on.new ends.0 came.0 lt w.1 e taker.1 on.new_is ends.1 came.1 in
          let more : HasDrained on.old.drain [] ends.0.drain came.0.drained =
          subst (λ (xs : List (ℕ × Message)). HasDrained on.old.drain [] ends.0.drain xs) (sym came.2.drained)
          (subst (λ (h : LinkHead (ℕ × Message)). HasDrained on.old.drain [] h on.passing.drained) (sym link.drain) on.link.more) in
          let sent : sent_on ends.0.feed ≡ sent_on on.old.feed ++ came.0.arrived = link.fed ∙ ap (λ (t : LinkTail (ℕ × Message)). sent_on t ++ came.0.arrived) on.link.feed in
          record {
            wire = w.0;
            wire_is = w.1;
            on = on;
            ends = ends.0;
            came = came.0;
            taker = taker.0;
            ends_is = ends.1;
            came_is = came.1;
            taker_is = taker.1;
            link = link;
            kept = subst (λ (u : Wire). IsLinkKept u ends.0) (sym link.kept) (kept_on w.0 on.old ends.0 came.0.drained came.0.arrived on.was.kept more sent);
            sender = ap (λ (u : Wire). u.sender) link.kept;
            receiver = ap (λ (u : Wire). u.receiver) link.kept;
          }

      apart_on : AreApart vs
      apart_on k l v w e f r s =
          let a = fed_at k v e in
          let b = fed_at l w f in
          woven.apart k l a.wire b.wire a.wire_is b.wire_is (sym a.receiver ∙ r ∙ b.receiver) (sym a.sender ∙ s ∙ b.sender)

      between_on : All (IsBetween agents nodes) vs
      between_on = all_from (IsBetween agents nodes) vs (λ k v e.
          let l = fed_at k v e in
          let old = all_at (IsBetween agents nodes) ws woven.between k l.wire l.wire_is in
          record {
            sender = subst (λ (n : ℕ). n < agents) (sym l.sender) old.sender;
            receiver = subst (λ (n : ℕ). n < agents) (sym l.receiver) old.receiver;
            apart = λ near. old.apart (ap (home nodes agents) (sym l.sender) ∙ near ∙ ap (home nodes agents) l.receiver);
          })

      -- the ends of a link that was drained and fed belong to the cells
      woven_at : (k : ℕ) (v : Wire) (from to : Cell X F) → (l : FedAt k v) → slice_get last v.sender ≡ Some from → slice_get last v.receiver ≡ Some to → IsWoven M from to v l.ends
      woven_at k v from to l at_from at_to =
          let on = l.on in
          let s : StaysQuiet M on.from from = all_quiet.each l.wire.sender on.from from on.from_is (ap (slice_get last) (sym l.sender) ∙ at_from) in
          let t : StaysQuiet M on.to to = all_quiet.each l.wire.receiver on.to to on.to_is (ap (slice_get last) (sym l.receiver) ∙ at_to) in
          let head : SameHead on.old.drain l.ends.drain = subst (λ (h : LinkHead (ℕ × Message)). SameHead on.old.drain h) (sym l.link.drain) on.link.end in
          let tail : SameTail on.old.feed l.ends.feed = subst (λ (h : LinkTail (ℕ × Message)). SameTail h l.ends.feed) on.link.feed l.link.end in
          let drains = tail_still (tails_in on.from) (tails_in from) l.wire.receiver on.old.drain l.ends.drain on.was.drains s.links.tails head in
          let feeds = heads_still (heads_in on.to) (heads_in to) l.wire.sender l.ends.feed (head_still (heads_in on.to) l.wire.sender on.old.feed l.ends.feed on.was.feeds tail) t.links.heads in
          record {
            drains = subst (λ (n : ℕ). TailJoins (tails_in from) n l.ends.drain) (sym l.receiver) drains;
            feeds = subst (λ (n : ℕ). HeadJoins (heads_in to) n l.ends.feed) (sym l.sender) feeds;
            sends = subst (λ (n : ℕ). Contains (peers (state_of M from).sent) n) (sym l.receiver) (subst (λ (ls : List Lane). Contains (peers ls) l.wire.receiver) (sym s.quiet.sent) on.was.sends);
            takes = subst (λ (n : ℕ). Contains (peers (state_of M to).taken) n) (sym l.sender) (subst (λ (ls : List Lane). Contains (peers ls) l.wire.sender) (sym t.quiet.taken) on.was.takes);
            kept = l.kept;
          }

      -- feeding leaves what was drained as it is
      pub drain_stays : (k : ℕ) (d f : InnerEnds) → slice_get ds k ≡ Some d → slice_get fs k ≡ Some f → f.drain ≡ d.drain
      drain_stays k d f at_d at_f =
          let inside = slice_get_within fs k f at_f in
          let sizes = fed.size ∙ drained.size ∙ woven.ends ∙ sym fed.wires in
          let v = there vs k (omega (arith, inside, sizes)) in
          let l = fed_at k v.0 v.1 in
          ap (λ (x : InnerEnds). x.drain) (sym (one_at fs k l.ends f l.ends_is at_f)) ∙ l.link.drain ∙ ap (λ (x : InnerEnds). x.drain) (one_at ds k l.on.new d l.on.new_is at_d)

      -- the exchange left nothing undrained, and it told right where nothing waits
      pub caught_up : (seen : List ℕ) → seen ≡ map (λ c. length (state_of M c).journal) last → HaveCaughtUp M seen vs fs last
      caught_up seen noted = record {
        noted = noted;
        sent = λ k v f from e at_f at_from.
            let l = fed_at k v e in
            let on = l.on in
            let ends : l.ends ≡ f = one_at fs k l.ends f l.ends_is at_f in
            let s : StaysQuiet M on.from from = all_quiet.each l.wire.sender on.from from on.from_is (ap (slice_get last) (sym l.sender) ∙ at_from) in
            ap (λ (x : InnerEnds). taken_from x.drain) (sym ends) ∙ ap (λ (h : LinkHead (ℕ × Message)). taken_from h) l.link.drain ∙ on.link.all ∙ ap (lane l.wire.receiver) (sym s.quiet.sent)
            ∙ ap (λ (n : ℕ). lane n (state_of M from).sent) (sym l.receiver);
        fed = λ k v f to e at_f at_to none.
            let l = fed_at k v e in
            let ends : l.ends ≡ f = one_at fs k l.ends f l.ends_is at_f in
            let taker : l.taker ≡ to = one_at last l.wire.receiver l.taker to l.taker_is (ap (slice_get last) (sym l.receiver) ∙ at_to) in
            ap (λ (n : ℕ). lane n (state_of M to).taken) l.sender ∙ ap (λ (c : Cell X F). lane l.wire.sender (state_of M c).taken) (sym taker)
            ∙ l.link.none (ap (λ (x : InnerEnds). x.waits) ends ∙ none) ∙ ap (λ (x : InnerEnds). sent_on x.feed) ends;
      }

      -- and its links hold nothing any more
      pub idle_on : (rs : List Passing) → AreEmptied (length ws) qs rs → AreLinksIdle (home nodes agents) vs rs
      idle_on rs emptied = record {
        size = emptied.size ∙ sym (each_long SamePassing ps qs same) ∙ drained.counted ∙ sym fed.wires;
        each = λ k v r e f.
            let l = fed_at k v e in
            let lt = slice_get_within ws k l.wire l.wire_is in
            let is = emptied.emptied k l.came r lt l.came_is f in
            let came = each_on SamePassing ps qs same k l.on.passing l.on.passing_is in
            let one : came.0 ≡ l.came = one_at qs k came.0 l.came came.1 l.came_is in
            let led = (drained.passing k l.wire l.on.passing l.wire_is l.on.passing_is).0 in
            let now : IsLinkIdle (home nodes agents) l.wire (emptied_of came.0) = record {
              link = record { from = came.2.from ∙ led.from; to = came.2.to ∙ led.to; from_node = came.2.from_node ∙ led.from_node; to_node = came.2.to_node ∙ led.to_node };
              drained = refl;
              arrived = refl;
            } in
            let on : IsLinkIdle (home nodes agents) l.wire r = subst (λ (p : Passing). IsLinkIdle (home nodes agents) l.wire p) (sym is) (subst (λ (p : Passing). IsLinkIdle (home nodes agents) l.wire (emptied_of p)) one now) in
            record {
              link = record {
                from = on.link.from ∙ sym l.sender;
                to = on.link.to ∙ sym l.receiver;
                from_node = on.link.from_node ∙ ap (home nodes agents) (sym l.sender);
                to_node = on.link.to_node ∙ ap (home nodes agents) (sym l.receiver);
              };
              drained = on.drained;
              arrived = on.arrived;
            };
      }

      pub woven_on : AreWoven M nodes agents vs fs last
      woven_on = record {
        size = all_quiet.size ∙ woven.size;
        ends = fed.size ∙ drained.size ∙ woven.ends ∙ sym fed.wires;
        between = between_on;
        apart = apart_on;
        woven = λ k v f from to e at_f at_from at_to.
            let l = fed_at k v e in
            subst (λ (x : InnerEnds). IsWoven M from to v x) (one_at fs k l.ends f l.ends_is at_f) (woven_at k v from to l at_from at_to);
        every = λ i j from at peer far.
            let old = stood M (StaysQuiet M) cells last all_quiet i from at in
            let x = woven.every i j old.0 old.1 (subst (λ (ls : List Lane). Contains (peers ls) j) old.2.quiet.sent peer) far in
            let inside = slice_get_within ws x.0 x.1 x.2 in
            let wires = fed.wires in
            let v = there vs x.0 (omega (arith, inside, wires)) in
            let l = fed_at x.0 v.0 v.1 in
            let is : l.wire ≡ x.1 = one_at ws x.0 l.wire x.1 l.wire_is x.2 in
            (x.0, v.0, v.1, l.sender ∙ ap (λ (u : Wire). u.sender) is ∙ x.3, l.receiver ∙ ap (λ (u : Wire). u.receiver) is ∙ x.4);
      }

      link_on : (k : ℕ) (v : Wire) (to from : CellState) → slice_get vs k ≡ Some v → slice_get (states_of M last) v.receiver ≡ Some to → slice_get (states_of M last) v.sender ≡ Some from → IsLinkExchanged v to from
      link_on k v to from e at_to at_from =
          let l = fed_at k v e in
          let on = l.on in
          let t = map_back (state_of M) last v.receiver to at_to in
          let f = map_back (state_of M) last v.sender from at_from in
          let s : StaysQuiet M on.from f.0 = all_quiet.each l.wire.sender on.from f.0 on.from_is (ap (slice_get last) (sym l.sender) ∙ f.1) in
          let taker : l.taker ≡ t.0 = one_at last l.wire.receiver l.taker t.0 l.taker_is (ap (slice_get last) (sym l.receiver) ∙ t.1) in
          let all : taken_from l.ends.drain ≡ lane v.receiver from.sent =
          ap (λ (h : LinkHead (ℕ × Message)). taken_from h) l.link.drain ∙ on.link.all ∙ ap (lane l.wire.receiver) (sym s.quiet.sent)
          ∙ ap (λ (n : ℕ). lane n (state_of M f.0).sent) (sym l.receiver) ∙ ap (λ (x : CellState). lane v.receiver x.sent) f.2 in
          let waits : AllWaits to v.sender l.ends.feed =
          subst (λ (n : ℕ). AllWaits to n l.ends.feed) (sym l.sender)
          (subst (λ (x : CellState). AllWaits x l.wire.sender l.ends.feed) t.2 (subst (λ (c : Cell X F). AllWaits (state_of M c) l.wire.sender l.ends.feed) taker l.link.waits)) in
          link_exchanged v l.ends to from l.kept all waits

      -- cells that are peers in different nodes have a link
      peers_linked : (i j : ℕ) (from : CellState) → slice_get (states_of M last) j ≡ Some from → home nodes agents j ≢ home nodes agents i → LeadsNone vs i j → Contains (peers from.sent) i → ⊥
      peers_linked i j from at far none peer =
          let c = map_back (state_of M) last j from at in
          let x = woven_on.every j i c.0 c.1 (subst (λ (s : CellState). Contains (peers s.sent) i) (sym c.2) peer) far in
          none x.0 x.1 x.2 x.4 x.3

      say_nothing : AreCellsJoined M nodes last → SayNothing (home nodes agents) vs (states_of M last)
      say_nothing joined i j to from at_to at_from far none =
          let back : home nodes agents j ≢ home nodes agents i = λ near. far (sym near) in
          let a = map_back (state_of M) last i to at_to in
          let b = map_back (state_of M) last j from at_from in (
            elim (cases_Bool (has (peers from.sent) i)) [
              | inl peer ↦ absurd (peers_linked i j from at_from back none (contains_from_has (peers from.sent) i peer))
              | inr out ↦ lane_none i from.sent out
            ],
            elim (cases_Bool (has (peers to.taken) j)) [
              | inl peer ↦
                  let taken : Contains (peers (state_of M a.0).taken) j = subst (λ (s : CellState). Contains (peers s.taken) j) (sym a.2) (contains_from_has (peers to.taken) j peer) in
                  let met : Contains (peers (state_of M b.0).taken) i = joined.back i j a.0 b.0 a.1 b.1 taken in
                  let sent : Contains (peers (state_of M b.0).sent) i = subst (λ (ns : List ℕ). Contains ns i) (sym (joined.wired j b.0 b.1).both) met in
                  absurd (peers_linked i j from at_from back none (subst (λ (s : CellState). Contains (peers s.sent) i) b.2 sent))
              | inr out ↦ lane_none j to.taken out
            ],
          )

      pub exchange_on : AreCellsJoined M nodes cells → IsExchange (home nodes agents) ws vs (states_of M cells) (states_of M last)
      exchange_on joined = record {
        passed = each_from HasPassed ws vs fed.wires (λ k w v e f.
            let l = fed_at k v f in
            let is : l.wire ≡ w = one_at ws k l.wire w l.wire_is e in
            subst (λ (u : Wire). HasPassed u v) is (subst (λ (u : Wire). HasPassed l.wire u) (sym l.link.kept) (passed_keeps l.wire l.came.drained l.came.arrived)));
        quiet = each_are IsQuiet (state_of M) (state_of M) cells last all_quiet.size (λ i a b e f. (all_quiet.each i a b e f).quiet);
        exchanged = links_are_exchanged (home nodes agents) vs (states_of M last) apart_on link_on (say_nothing (joined_still M nodes cells last joined (quiet_same M cells last all_quiet)));
      }

      pub held_on : AllCame qs → HaveHeld ws → HaveHeld vs
      held_on all held = all_from HasHeld vs (λ k v e.
          let l = fed_at k v e in
          subst HasHeld (sym l.link.kept) (held_keeps l.wire l.came.drained l.came.arrived (all k l.came l.came_is) (all_at HasHeld ws held k l.wire l.wire_is)))

  -- a plan after an exchange
  pub has_exchanged : {W : Type 0} (p q : NodePlan W) (cells last : List (Cell X F)) (vs : List Wire) (fs : List InnerEnds) (rs : List Passing) → IsPlan p → q.agents ≡ p.agents → q.nodes ≡ p.nodes → length q.wires.items ≡ length p.wires.items
      → q.kept.items ≡ vs → q.ends.items ≡ fs → q.passings.items ≡ rs → AreLinksIdle (home p.nodes p.agents) vs rs → HaveCaughtUp M q.seen.items vs fs last
      → AreWoven M p.nodes p.agents vs fs last → IsExchange (home p.nodes p.agents) p.kept.items vs (states_of M cells) (states_of M last) → HasExchanged M p cells q last
  has_exchanged p q cells last vs fs rs plan agents nodes wires kept ends passings idle told woven exchange =
      let own : AreWoven M q.nodes q.agents vs fs last =
      subst (λ (n : ℕ). AreWoven M n q.agents vs fs last) (sym nodes) (subst (λ (n : ℕ). AreWoven M p.nodes n vs fs last) (sym agents) woven) in
      let over : AreWoven M q.nodes q.agents q.kept.items q.ends.items last =
      subst (λ (ws : List Wire). AreWoven M q.nodes q.agents ws q.ends.items last) (sym kept) (subst (λ (es : List InnerEnds). AreWoven M q.nodes q.agents vs es last) (sym ends) own) in
      let caught : HaveCaughtUp M q.seen.items q.kept.items q.ends.items last =
      subst (λ (ws : List Wire). HaveCaughtUp M q.seen.items ws q.ends.items last) (sym kept) (subst (λ (es : List InnerEnds). HaveCaughtUp M q.seen.items vs es last) (sym ends) told) in
      let none : AreLinksIdle (home q.nodes q.agents) vs rs = subst (λ (n : ℕ). AreLinksIdle (home n q.agents) vs rs) (sym nodes) (subst (λ (n : ℕ). AreLinksIdle (home p.nodes n) vs rs) (sym agents) idle) in
      record {
        over = record {
          plan = record {
            agents = subst (λ (n : ℕ). (0 < n) × (n ≤ 1000)) (sym agents) plan.agents;
            nodes = subst (λ (n : ℕ). (0 < n) × (n ≤ 8)) (sym nodes) plan.nodes;
            wires = wires ∙ plan.wires ∙ ap pair_count (sym nodes);
            ends = over.ends;
            between = over.between;
            apart = over.apart;
            ordered = subst (λ (ws : List Wire). AreOrdered ws) (sym kept) (ordered_passed p.kept.items vs exchange.passed plan.ordered);
          };
          nodes = nodes;
          agents = agents;
          woven = over;
          ready = record {
            idle = idle_slices (home q.nodes q.agents) vs q.kept.items rs q.passings.items kept passings none;
            sent = record { each = λ k w e from at_w at_e f _. caught.sent k w e from at_w at_e f };
            fed = record { each = λ k w e to at_w at_e f _ no. caught.fed k w e to at_w at_e f no };
          };
        };
        told = caught;
        exchange = subst (λ (ws : List Wire). IsExchange (home p.nodes p.agents) p.kept.items ws (states_of M cells) (states_of M last)) (sym kept) exchange;
      }

  -- the same of lists that are the same
  pub drained_slices : (node : ℕ → ℕ) (cells : List (Cell X F)) (ws ks : List Wire) (es fs ds : List InnerEnds) (ps : List Passing) → ks ≡ ws → fs ≡ es → HaveDrained M node (length ks) cells ks fs ds ps
      → HaveDrained M node (length ws) cells ws es ds ps
  drained_slices node cells ws ks es fs ds ps k f h =
      subst (λ (us : List Wire). HaveDrained M node (length us) cells us es ds ps) k (subst (λ (us : List InnerEnds). HaveDrained M node (length ks) cells ks us ds ps) f h)

  pub can_drain_slices : (cells : List (Cell X F)) (ws ks : List Wire) (es fs : List InnerEnds) → ks ≡ ws → fs ≡ es → CanDrainAll M ws es cells → CanDrainAll M ks fs cells
  can_drain_slices cells ws ks es fs k f h =
      subst (λ (us : List Wire). CanDrainAll M us fs cells) (sym k) (subst (λ (us : List InnerEnds). CanDrainAll M ws us cells) (sym f) h)

  pub sent_slices : (cells : List (Cell X F)) (still : List Bool) (ws ks : List Wire) (es fs : List InnerEnds) → ks ≡ ws → fs ≡ es → SentIsDrained M still ws es cells → SentIsDrained M still ks fs cells
  sent_slices cells still ws ks es fs k f h =
      subst (λ (us : List Wire). SentIsDrained M still us fs cells) (sym k) (subst (λ (us : List InnerEnds). SentIsDrained M still ws us cells) (sym f) h)

  pub taken_slices : (cells : List (Cell X F)) (still : List Bool) (ws ks : List Wire) (es fs : List InnerEnds) → ks ≡ ws → fs ≡ es → FedIsTaken M still ws es cells → FedIsTaken M still ks fs cells
  taken_slices cells still ws ks es fs k f h =
      subst (λ (us : List Wire). FedIsTaken M still us fs cells) (sym k) (subst (λ (us : List InnerEnds). FedIsTaken M still ws us cells) (sym f) h)

  -- what was told of cells by their journals is so of those that are marked as still
  pub sent_where_still : (cells : List (Cell X F)) (seen ss : List ℕ) (still : List Bool) (ws : List Wire) (es : List InnerEnds) → ss ≡ seen → AreStill M ss still cells → SentWasDrained M seen ws es cells → SentIsDrained M still ws es cells
  sent_where_still cells seen ss still ws es s marks h = record {
    each = λ k w e from at_w at_e is marked. h.each k w e from at_w at_e is (ap (λ (ns : List ℕ). slice_get ns w.sender) (sym s) ∙ marks.each w.sender from is marked);
  }

  pub taken_where_still : (cells : List (Cell X F)) (seen ss : List ℕ) (still : List Bool) (ws : List Wire) (es : List InnerEnds) → ss ≡ seen → AreStill M ss still cells → FedWasTaken M seen ws es cells → FedIsTaken M still ws es cells
  taken_where_still cells seen ss still ws es s marks h = record {
    each = λ k w e to at_w at_e is marked none. h.each k w e to at_w at_e is (ap (λ (ns : List ℕ). slice_get ns w.receiver) (sym s) ∙ marks.each w.receiver to is marked) none;
  }

  pub can_feed_slices : (cells : List (Cell X F)) (ws ks : List Wire) (es fs : List InnerEnds) → ks ≡ ws → fs ≡ es → CanFeedAll M ws es cells → CanFeedAll M ks fs cells
  can_feed_slices cells ws ks es fs k f h =
      subst (λ (us : List Wire). CanFeedAll M us fs cells) (sym k) (subst (λ (us : List InnerEnds). CanFeedAll M ws us cells) (sym f) h)

  pub fed_slices : (cells : List (Cell X F)) (ws ks vs : List Wire) (es fs gs : List InnerEnds) (ps qs : List Passing) → ks ≡ ws → fs ≡ es → qs ≡ ps → HaveFed M (length ks) cells ks vs fs gs qs
      → HaveFed M (length ws) cells ws vs es gs ps
  fed_slices cells ws ks vs es fs gs ps qs k f q h =
      subst (λ (us : List Wire). HaveFed M (length us) cells us vs es gs ps) k
      (subst (λ (us : List InnerEnds). HaveFed M (length ks) cells ks vs us gs ps) f (subst (λ (us : List Passing). HaveFed M (length ks) cells ks vs fs gs us) q h))
