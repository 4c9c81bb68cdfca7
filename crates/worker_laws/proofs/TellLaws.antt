-- A cell tells of its agent's activations since the start.
use Rattle.std.proofs.Common.{◌≡◌, ℕ, ◌≤◌, ◌<◌, false, List, [], ◌∷◌, ◌++◌, length, Option, Some, None, refl, sym, ap, ap₂, subst, ◌∙◌, arith}
use Rattle.std.specs.List.{slice_get, fold, All}
use Rattle.std.specs.List.Sorted.{IsStrictlyIncreasing}
use Rattle.std.proofs.lemmas.Bool.{false_from_ne_true}
use Rattle.std.proofs.lemmas.List.{append-nil, map-append}
use Rattle.std.proofs.lemmas.List.Concat.{flat_map-append}
use Rattle.std.proofs.lemmas.List.Sums.{fold-append}
use Rattle.dcop_base.specs.Table.{has}
use Rattle.protocol_steps.specs.declared.message.Message.{Message}
use Rattle.protocol_steps.specs.declared.event.Entry.{Entry}
use Rattle.protocol_steps.specs.Token.{new_token}
use Rattle.protocol_steps.specs.View.{View, TokenKind}
use Rattle.protocol_steps.specs.Stamps.{Gain, Deed, Posted, Account, account_of, do_one}
use Rattle.protocol_steps.specs.Deeds.{AreDeeds, envelope_to, posted_to, gain_from, gained_from}
use Rattle.protocol_steps.specs.JournalStamps.{AreStarts}
use Rattle.protocol_steps.proofs.PrivateLaws.{contains_from_has}
use Rattle.worker_laws.specs.Cells.{CellState, Lane, peers, lane, IsWired}
use Rattle.worker_laws.specs.Visits.{IsStarted, IsQuiet}
use Rattle.worker_laws.specs.Acts.{AreActs, moment, moved, entry_of, journal_of, IsLater}
use Rattle.worker_laws.proofs.LaneLaws.{peers_grown, lane_grown}
use Rattle.worker_laws.proofs.ActLaws.{behind, behind_all, acts_behind, deeds_append, acts_take_none, acts_send_none, acts_deeds}
use Rattle.worker_laws.proofs.SortLaws.{OfAgent}
use Rattle.worker_laws.proofs.TakeLaws.{deed_agent, deed_stamp}

-- some agent, where there is none
abbrev nobody : View
nobody = TokenKind (new_token (record { me = 0; size = 0; neighbours = []; neighbour_sizes = []; tables = [] }))

abbrev pub account_at : Option View → Account
account_at None = record { view = nobody; stamp = 0; posted = []; gains = [] }
account_at (Some v) = account_of v

-- the account of agent i after its start
abbrev pub first : List View → ℕ → Account
first made i = account_at (slice_get made i)

none_taken : (o : Option View) → (account_at o).gains ≡ []
none_taken None = refl
none_taken (Some v) = refl

pub first_stamp : (o : Option View) → (account_at o).stamp ≡ 0
first_stamp None = refl
first_stamp (Some v) = refl

pub starts : (made : List View) → AreStarts made (first made)
starts made = record { started = λ i v e. ap account_at e; idle = λ i. none_taken (slice_get made i) }

-- all of one agent, and more of it
pub of_append : (i : ℕ) (ds es : List Deed) → OfAgent deed_agent deed_stamp i ds → OfAgent deed_agent deed_stamp i es → OfAgent deed_agent deed_stamp i (ds ++ es)
of_append i [] es h k = k
of_append i (d ∷ ds) es h k = (h.0, of_append i ds es h.1 k)

acts_of : (me i : ℕ) (among : List ℕ) (x : Account) (ds : List Deed) → me ≡ i → AreActs me among x ds → OfAgent deed_agent deed_stamp i ds
acts_of me i among x [] same h = tt
acts_of me i among x (d ∷ ds) same h = (h.0.own ∙ same, acts_of me i among (do_one x d) ds same h.1)

-- who is no agent is no peer
pub no_peer : (n j : ℕ) (among : List ℕ) → All (λ k. k < n) among → n ≤ j → has among j ≡ false
no_peer n j among below le =
    false_from_ne_true (has among j) (λ h.
    let at = contains_from_has among j h in
    let low : j < n = subst (λ (k : ℕ). k < n) at.2 (below at.0 j at.1) in
    omega (arith, low, le))

-- the cell of agent i tells these activations since the start
pub record Tells (made : List View) (i : ℕ) (ds : List Deed) (c : CellState) : Type 0 where
  pub wired : IsWired (length made) i c
  pub allowed : AreDeeds (length made) (first made i) ds
  pub agent : OfAgent deed_agent deed_stamp i ds
  pub viewed : c.view ≡ (fold do_one (first made i) ds).view
  pub stamped : c.stamp ≡ (fold do_one (first made i) ds).stamp
  pub noted : c.journal ≡ journal_of ds
  pub sent : (j : ℕ) → lane j c.sent ≡ posted_to j (fold do_one (first made i) ds).posted
  pub taken : (j : ℕ) → lane j c.taken ≡ gained_from j (fold do_one (first made i) ds).gains

-- at the start it tells none
pub tells_start : (made : List View) (i : ℕ) (v : View) (c : CellState) → slice_get made i ≡ Some v → IsWired (length made) i c → IsStarted v c → Tells made i [] c
tells_start made i v c e wired s =
    let is : account_of v ≡ first made i = sym (ap account_at e) in
    record {
      wired = wired;
      allowed = tt;
      agent = tt;
      viewed = s.viewed ∙ ap (λ (x : Account). x.view) is;
      stamped = s.stamped ∙ ap (λ (x : Account). x.stamp) is;
      noted = s.noted;
      sent = λ j. s.sent j ∙ ap (λ (x : Account). posted_to j x.posted) is;
      taken = λ j. s.taken j ∙ ap (λ (x : Account). gained_from j x.gains) is;
    }

-- quiet changes nothing of it
pub tells_quiet : (made : List View) (i : ℕ) (ds : List Deed) (b c : CellState) → Tells made i ds b → IsQuiet b c → Tells made i ds c
tells_quiet made i ds b c t q = record {
  wired = record {
    me = q.me ∙ t.wired.me;
    both = ap peers q.sent ∙ t.wired.both ∙ sym (ap peers q.taken);
    ascend = subst (λ (ls : List Lane). IsStrictlyIncreasing (peers ls)) (sym q.taken) t.wired.ascend;
    below = subst (λ (ls : List Lane). All (λ k. k < length made) (peers ls)) (sym q.taken) t.wired.below;
  };
  allowed = t.allowed;
  agent = t.agent;
  viewed = q.viewed ∙ t.viewed;
  stamped = q.stamped ∙ t.stamped;
  noted = q.noted ∙ t.noted;
  sent = λ j. ap (lane j) q.sent ∙ t.sent j;
  taken = λ j. ap (lane j) q.taken ∙ t.taken j;
}

-- the account of an agent is that of its cell, behind what it sent and took
pub account_is : (made : List View) (i : ℕ) (ds : List Deed) (c : CellState) → Tells made i ds c
    → behind (fold do_one (first made i) ds).posted (fold do_one (first made i) ds).gains (moment c) ≡ fold do_one (first made i) ds
account_is made i ds c t =
    let x : Account = fold do_one (first made i) ds in
    ap (λ (v : View). let y : Account = record { view = v; stamp = c.stamp; posted = x.posted ++ []; gains = x.gains ++ [] } in y) t.viewed
    ∙ ap (λ (k : ℕ). let y : Account = record { view = x.view; stamp = k; posted = x.posted ++ []; gains = x.gains ++ [] } in y) t.stamped
    ∙ ap₂ (λ (ps : List Posted) (gs : List Gain). let y : Account = record { view = x.view; stamp = x.stamp; posted = ps; gains = gs } in y) (append-nil x.posted) (append-nil x.gains)

module _ (made : List View) (i : ℕ) (ds : List Deed) (b : CellState) (t : Tells made i ds b) (in_made : i < length made) where
  -- what its account is after more activations
  pub account_then : (es : List Deed) → fold do_one (fold do_one (first made i) ds) es ≡ behind (fold do_one (first made i) ds).posted (fold do_one (first made i) ds).gains (moved b es)
  account_then es =
      ap (λ (x : Account). fold do_one x es) (sym (account_is made i ds b t))
      ∙ behind_all (fold do_one (first made i) ds).posted (fold do_one (first made i) ds).gains (moment b) es

  -- and that it allows them
  pub allows : (es : List Deed) → AreActs b.me (peers b.taken) (moment b) es → AreDeeds (length made) (fold do_one (first made i) ds) es
  allows es acts =
      let x : Account = fold do_one (first made i) ds in
      let lt : b.me < length made = subst (λ (k : ℕ). k < length made) (sym t.wired.me) in_made in
      acts_deeds (length made) b.me (peers b.taken) x es lt t.wired.below
      (subst (λ (y : Account). AreActs b.me (peers b.taken) y es) (account_is made i ds b t) (acts_behind b.me (peers b.taken) x.posted x.gains (moment b) es acts))

  -- more activations
  pub tells_later : (es : List Deed) (c : CellState) → IsLater b es c → Tells made i (ds ++ es) c
  tells_later es c l =
      let x : Account = fold do_one (first made i) ds in
      let whole : fold do_one (first made i) (ds ++ es) ≡ behind x.posted x.gains (moved b es) = fold-append do_one (first made i) ds es ∙ account_then es in
      let sent_to : ℕ → List (ℕ × Message) = λ (j : ℕ). posted_to j (moved b es).posted in
      let taken_of : ℕ → List (ℕ × Message) = λ (j : ℕ). gained_from j (moved b es).gains in
      record {
        wired = record {
          me = l.me ∙ t.wired.me;
          both = ap peers l.sent ∙ peers_grown sent_to b.sent ∙ t.wired.both ∙ sym (ap peers l.taken ∙ peers_grown taken_of b.taken);
          ascend = subst IsStrictlyIncreasing (sym (ap peers l.taken ∙ peers_grown taken_of b.taken)) t.wired.ascend;
          below = subst (λ (ks : List ℕ). All (λ k. k < length made) ks) (sym (ap peers l.taken ∙ peers_grown taken_of b.taken)) t.wired.below;
        };
        allowed = deeds_append (length made) (first made i) ds es t.allowed (allows es l.acts);
        agent = of_append i ds es t.agent (acts_of b.me i (peers b.taken) (moment b) es t.wired.me l.acts);
        viewed = l.viewed ∙ ap (λ (y : Account). y.view) (sym whole);
        stamped = l.stamped ∙ ap (λ (y : Account). y.stamp) (sym whole);
        noted = l.noted ∙ ap (λ (fs : List Entry). fs ++ journal_of es) t.noted ∙ sym (map-append entry_of ds es);
        sent = λ j.
            ap (lane j) l.sent
            ∙ lane_grown j sent_to b.sent (subst IsStrictlyIncreasing (sym t.wired.both) t.wired.ascend)
            (λ out. acts_send_none b.me j (peers b.taken) (moment b) es l.acts (ap (λ (ks : List ℕ). has ks j) (sym t.wired.both) ∙ out) refl)
            ∙ ap (λ (ms : List (ℕ × Message)). ms ++ sent_to j) (t.sent j)
            ∙ sym (flat_map-append (envelope_to j) x.posted (moved b es).posted)
            ∙ ap (λ (y : Account). posted_to j y.posted) (sym whole);
        taken = λ j.
            ap (lane j) l.taken
            ∙ lane_grown j taken_of b.taken t.wired.ascend (λ out. acts_take_none b.me j (peers b.taken) (moment b) es l.acts out refl)
            ∙ ap (λ (ms : List (ℕ × Message)). ms ++ taken_of j) (t.taken j)
            ∙ sym (flat_map-append (gain_from j) x.gains (moved b es).gains)
            ∙ ap (λ (y : Account). gained_from j y.gains) (sym whole);
      }
