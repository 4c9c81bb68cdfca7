-- What stands on the links, after the starts and after each lawful event.
use Rattle.std.proofs.Common.{◌≡◌, ℕ, ◌+◌, ◌==◌, if◌then◌else◌, List, [], Option, Some, None, refl, sym, ap, subst, ◌∙◌, inl, inr, arith}
use Rattle.std.specs.List.{slice_get, slice_set}
use Rattle.std.specs.Option.{option_map}
use Rattle.std.proofs.lemmas.Bool.{cases_eq, ne_eqb, eq-eqb}
use Rattle.std.proofs.lemmas.Option.{slice_get-map}
use Rattle.std.proofs.lemmas.List.Sums.{sum_by-append}
use Rattle.protocol_steps.specs.declared.message.Message.{Message}
use Rattle.protocol_steps.specs.declared.event.Take.{Take}
use Rattle.protocol_steps.specs.declared.event.Event.{Event}
use Rattle.protocol_steps.specs.View.{View}
use Rattle.protocol_steps.specs.Step.{start_of}
use Rattle.protocol_steps.specs.Network.{Desk, Network, messages_to, sent_at, takes_at, taken_from}
use Rattle.protocol_steps.specs.Effect.{desk_after}
use Rattle.protocol_steps.specs.Links.{taken_at, taken_in_event, step_in, IsEffect, IsBegun, LinksGrow}
use Rattle.protocol_steps.proofs.EventLaws.{Happens, happens_from, link_after, get_same, get_other}

-- the desk of an agent that has just started
abbrev begun_desk : View → Desk
begun_desk v = record { sent = (start_of v).sends; takes = [] }

nothing_taken : (j : ℕ) (o : Option View) → taken_from j (takes_at (option_map begun_desk o)) ≡ 0
nothing_taken j None = refl
nothing_taken j (Some v) = refl

begun : (made : List View) → IsBegun made
begun made = record {
  sent = λ i j v there.
      ap (λ (o : Option Desk). messages_to i (sent_at o)) (slice_get-map begun_desk made j)
      ∙ ap (λ (o : Option View). messages_to i (sent_at (option_map begun_desk o))) there;
  taken = λ i j. ap (λ (o : Option Desk). taken_from j (takes_at o)) (slice_get-map begun_desk made i) ∙ nothing_taken j (slice_get made i);
}

-- the number taken on each link, after an event
taken_after : (net one : Network) (e : Event) → Happens net e one → (i j : ℕ) → taken_at one.desks i j ≡ taken_at net.desks i j + taken_in_event e.agent i j e.takes
taken_after net one e h i j =
    let sends : List (ℕ × Message) = (step_in net e h.view).sends in
    let y : Desk = desk_after h.desk sends e.takes in
    subst (λ (z : Network). taken_at z.desks i j ≡ taken_at net.desks i j + taken_in_event e.agent i j e.takes) h.after (elim (cases_eq e.agent i) [
      | inl same ↦
          rw (eq-eqb e.agent i same)
          (ap (λ (o : Option Desk). taken_from j (takes_at o)) (subst (λ (k : ℕ). slice_get (slice_set net.desks e.agent y) k ≡ Some y) same (get_same net.desks e.agent h.desk y h.desks))
          ∙ sum_by-append (λ (t : Take). if t.from == j then t.count else 0) h.desk.takes e.takes
          ∙ ap (λ (o : Option Desk). taken_from j (takes_at o) + taken_from j e.takes) (sym (subst (λ (k : ℕ). slice_get net.desks k ≡ Some h.desk) same h.desks)))
      | inr other ↦
          rw (ne_eqb e.agent i other)
          (ap (λ (o : Option Desk). taken_from j (takes_at o)) (get_other net.desks e.agent i y other) ∙ plus_none (taken_at net.desks i j))
    ])
  where
    plus_none : (k : ℕ) → k ≡ k + 0
    plus_none k = omega arith

effect_of : (net one : Network) (e : Event) → Happens net e one → IsEffect net e one
effect_of net one e h = record {
  view = h.view;
  before = h.views;
  stepped = subst (λ (z : Network). slice_get z.views e.agent ≡ Some (step_in net e h.view).view) h.after (get_same net.views e.agent h.view (step_in net e h.view).view h.views);
  others = λ i ne. subst (λ (z : Network). slice_get z.views i ≡ slice_get net.views i) h.after (get_other net.views e.agent i (step_in net e h.view).view ne);
  sent = λ i j. link_after net one e h i j;
  taken = λ i j. taken_after net one e h i j;
}

pub links_grow : LinksGrow
links_grow = record { begun = begun; happens = λ net after e h. effect_of net after e (happens_from net after e h) }
