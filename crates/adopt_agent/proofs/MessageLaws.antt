-- What each message does to an agent.
use Rattle.std.proofs.Common.{◌≡◌, ℕ, Bool, true, false, not, ◌&&◌, ◌||◌, List, [], ◌∷◌, refl, sym, ap, subst, ◌∙◌}
use Rattle.std.specs.Prelude.{is_some, Result, OnOk}
use Rattle.std.specs.List.{fold}
use Rattle.std.proofs.lemmas.Bool.{cond_both, cond-true, and_parts, false≢true}
use Rattle.dcop_base.specs.Table.{has}
use Rattle.dcop_base.specs.declared.knowledge.Private.{Private}
use Rattle.pseudotree.specs.declared.agent.Place.{Place}
use Rattle.adopt_context.specs.Context.{Context, value_in, put, compatible}
use Rattle.adopt_context.specs.Bounds.{Entry}
use Rattle.adopt_context.proofs.KnownLaws.{put_all}
use Rattle.protocol_steps.specs.declared.message.Message.{Message}
use Rattle.protocol_steps.specs.declared.message.Message.TheVariants.{Value, Threshold, Terminate}
use Rattle.protocol_steps.specs.Adopt.{AdoptView}
use Rattle.protocol_steps.specs.AdoptBounds.{restore, at_context}
use Rattle.protocol_steps.specs.AdoptRange.{in_range, fits, is_parent}
use Rattle.protocol_steps.specs.AdoptCost.{learned}
use Rattle.protocol_steps.specs.AdoptMessage.{adopt_message, take_threshold, take_end, takes_value, takes_from_parent}
use Rattle.adopt_agent.specs.declared.stage.Stage.{Stage}
use Rattle.adopt_agent.specs.Stage.{view_at}

-- of three tests that pass together, the last
third : (a b c : Bool) → (a && b && c) ≡ true → c ≡ true
third true true true h = refl
third true true false h = absurd (false≢true h)
third true false c h = absurd (false≢true h)
third false b c h = absurd (false≢true h)

-- three tests of which two pass
pub three_and : (a b c d : Bool) → a ≡ true → b ≡ true → d ≡ c → d ≡ (a && b && c)
three_and true true c d one two same = same
three_and true false c d one two same = absurd (false≢true two)
three_and false b c d one two same = absurd (false≢true one)

-- the value of a higher neighbour fits
pub value_fits : (v : AdoptView) (j d : ℕ) (x : Context) → fits v v.known ≡ true → takes_value v j d ≡ true → x ≡ put v.known j d → fits v x ≡ true
value_fits v j d x known takes is =
    subst (λ (c : Context). fits v c ≡ true) (sym is) (put_all (in_range v) v.known j d known (third (not v.told) (has v.own.neighbours j) (in_range v j d) takes))

pub value_taken : (v after : AdoptView) (j d : ℕ) (x : Context) → takes_value v j d ≡ true → x ≡ put v.known j d → after ≡ restore (at_context v x) → after ≡ adopt_message v j (Value d)
value_taken v after j d x takes known is =
    is ∙ ap (λ (c : Context). restore (at_context v c)) known
    ∙ sym (cond-true (takes_value v j d) (restore (at_context v (put v.known j d))) v takes)

-- the context of TERMINATE fits
pub end_fits : (v : AdoptView) (j : ℕ) (c x : Context) → takes_from_parent v j c ≡ true → x ≡ c → fits v x ≡ true
end_fits v j c x takes is = subst (λ (y : Context). fits v y ≡ true) (sym is) (third (not v.told) (is_parent v j) (fits v c) takes)

module _ (own : Private) (place : Place) (error : ℕ) (stage : Stage) (known : Context) (value threshold last : ℕ) (told : Bool) (rows : List (List Entry)) where
  pub end_taken : (v after : AdoptView) (j : ℕ) (c x : Context) → view_at own place error stage known value threshold last told rows ≡ v → takes_from_parent v j c ≡ true → x ≡ c → after ≡ restore (at_context (view_at own place error stage known value last last true rows) x) → after ≡ adopt_message v j (Terminate c)
  end_taken v after j c x view takes same is =
      is ∙ ap (λ (y : Context). restore (at_context (view_at own place error stage known value last last true rows) y)) same
      ∙ ap (λ (w : AdoptView). take_end w c) view ∙ sym (cond-true (takes_from_parent v j c) (take_end v c) v takes)

  pub threshold_taken : (v after : AdoptView) (j t : ℕ) (c : Context) → view_at own place error stage known value threshold last told rows ≡ v → takes_from_parent v j c ≡ true → compatible c known ≡ true → after ≡ restore (view_at own place error stage known value t t told rows) → after ≡ adopt_message v j (Threshold t c)
  threshold_taken v after j t c view takes fit is =
      is ∙ sym (cond-true (compatible c known) (restore (view_at own place error stage known value t t told rows)) (view_at own place error stage known value threshold t told rows) fit)
      ∙ ap (λ (w : AdoptView). take_threshold w t c) view ∙ sym (cond-true (takes_from_parent v j c) (take_threshold v t c) v takes)

-- what is learned fits
pub learned_fits : (v : AdoptView) (r x : Context) → fits v x ≡ true → fits v r ≡ true → fits v (fold (learned v) x r) ≡ true
learned_fits v [] x h more = h
learned_fits v (p ∷ ps) x h more =
    let parts = and_parts (in_range v p.0 p.1) (fits v ps) more in
    learned_fits v ps (learned v x p)
    (cond_both (not (has v.own.neighbours p.0) || not (is_some (value_in x p.0))) (put x p.0 p.1) x (λ c. fits v c ≡ true) (λ _. put_all (in_range v) x p.0 p.1 h parts.0) (λ _. h))
    parts.1

-- two tests of which one passes
pub two_and : (a b d : Bool) → a ≡ true → d ≡ b → d ≡ (a && b)
two_and true b d one same = same
two_and false b d one same = absurd (false≢true one)

-- VALUE, as it stands in a letter
pub value_handled : {T E : Type 0} (v after : AdoptView) (r : Result T E) (from d : ℕ) (m : Message) (l : ℕ × Message) → m ≡ Value d → (from, m) ≡ l → OnOk r (after ≡ adopt_message v from (Value d)) → OnOk r (after ≡ adopt_message v l.0 l.1)
value_handled v after r from d m l is view ok =
    subst (λ (x : ℕ × Message). OnOk r (after ≡ adopt_message v x.0 x.1)) view
    (subst (λ (x : Message). OnOk r (after ≡ adopt_message v from x)) (sym is) ok)
