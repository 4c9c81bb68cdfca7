-- A parent and its child in a run of ADOPT: what was sent and taken between them.
use Rattle.std.proofs.Common.{◌≡◌, ℕ, zero, suc, take-add, ◌+◌, ◌≤◌, Bool, true, false, ◌||◌, drop, take, List, [], ◌∷◌, ◌++◌, length, refl, sym, ap, ap₂, subst, ◌∙◌, inl, inr, arith}
use Rattle.std.specs.List.{list_any, fold}
use Rattle.std.proofs.lemmas.Bool.{cases_lt, or_parts, or_left, or_right, true≢false, false≢true, false_from_ne_true}
use Rattle.std.proofs.lemmas.List.{take-append-le, take_all, length-append}
use Rattle.std.proofs.lemmas.List.Sums.{fold-append}
use Rattle.dcop_base.specs.Problem.{Dcop}
use Rattle.pseudotree.specs.declared.agent.Place.{Place}
use Rattle.adopt_context.specs.Context.{Context, put}
use Rattle.protocol_steps.specs.declared.message.Message.{Message}
use Rattle.protocol_steps.specs.declared.message.Message.TheVariants.{Token, Done, Util, ValueAll, Value, Cost, Threshold, Terminate}
use Rattle.protocol_steps.specs.Adopt.{AdoptView}
use Rattle.protocol_steps.specs.AdoptStep.{share_of}
use Rattle.protocol_steps.specs.TreeAgents.{place_at}
use Rattle.run_laws.proofs.DigestLaws.{Digest, Open, Ending, digest_by, digest, heard, ended_with, fits_place, digest_step}
use Rattle.run_laws.proofs.SendLaws.{is_value_message, is_cost, is_terminate, some_fresh, none_more, last_words, more_words}

-- a digest that is still open
abbrev is_open : Digest → Bool
is_open (Open t) = true
is_open (Ending t c) = false

heard_open : (f : Bool) (g : Digest) (t : ℕ) → is_open g ≡ true → is_open (heard f g t) ≡ true
heard_open true (Open last) t h = refl
heard_open true (Ending last c) t h = h
heard_open false g t h = h

step_open : (place : Place) (g : Digest) (m : Message) → is_terminate m ≡ false → is_open g ≡ true → is_open (digest_step place g m) ≡ true
step_open place g (Threshold t c) no_end h = heard_open (fits_place place c) g t h
step_open place g (Terminate c) no_end h = absurd (true≢false no_end)
step_open place g (Value d) no_end h = h
step_open place g (Cost c l u) no_end h = h
step_open place g (Token path) no_end h = h
step_open place g (Done visited) no_end h = h
step_open place g (Util scope cells) no_end h = h
step_open place g (ValueAll values) no_end h = h

-- without a TERMINATE the digest stays open
pub fold_open : (place : Place) (ms : List Message) (g : Digest) → list_any is_terminate ms ≡ false → is_open g ≡ true → is_open (fold (digest_step place) g ms) ≡ true
fold_open place [] g none h = h
fold_open place (m ∷ ms) g none h =
    let parts = or_parts (is_terminate m) (list_any is_terminate ms) none in
    fold_open place ms (digest_step place g m) parts.1 (step_open place g m parts.0 h)

none_in_take : (q : Message → Bool) (n : ℕ) (ms : List Message) → list_any q ms ≡ false → list_any q (take n ms) ≡ false
none_in_take q zero ms h = refl
none_in_take q (suc n) [] h = refl
none_in_take q (suc n) (m ∷ ms) h =
    let parts = or_parts (q m) (list_any q ms) h in
    ap (λ (b : Bool). b || list_any q (take n ms)) parts.0 ∙ none_in_take q n ms parts.1

told_not_open : (b : Bool) (last : ℕ) (x : Context) → b ≡ true → is_open (digest_by b last x) ≡ false
told_not_open true last x h = refl
told_not_open false last x h = absurd (false≢true h)

-- so an agent that has taken TERMINATE took one
pub told_took : (place : Place) (y : AdoptView) (n : ℕ) (down : List Message) → digest y ≡ fold (digest_step place) (Open 0) (take n down) → y.told ≡ true → list_any is_terminate down ≡ false → ⊥
told_took place y n down at told none =
    true≢false (sym (fold_open place (take n down) (Open 0) (none_in_take is_terminate n down none) refl) ∙ ap is_open (sym at) ∙ told_not_open y.told y.last y.known told)

-- the last three messages are a VALUE, a THRESHOLD and the only TERMINATE
pub record IsLast (down : List Message) (d t : ℕ) (x c : Context) : Type 0 where
  pub before : List Message
  pub are : down ≡ before ++ (Value d ∷ Threshold t x ∷ Terminate c ∷ [])
  pub none : list_any is_terminate before ≡ false

-- an open digest after THRESHOLD(t) that fits and TERMINATE(c)
ends_open : (place : Place) (g : Digest) (d t : ℕ) (x c : Context) → is_open g ≡ true → fits_place place x ≡ true → fits_place place c ≡ true
    → fold (digest_step place) g (Value d ∷ Threshold t x ∷ Terminate c ∷ []) ≡ Ending t c
ends_open place (Open last) d t x c h fx fc =
    ap₂ (λ (a : Bool) (b : Bool). ended_with b (heard a (Open last) t) c) fx fc
ends_open place (Ending last y) d t x c h fx fc = absurd (false≢true h)

-- all of them make the digest that of the end
pub whole_digest : (place : Place) (down : List Message) (d t : ℕ) (x c : Context) → IsLast down d t x c → fits_place place x ≡ true → fits_place place c ≡ true
    → fold (digest_step place) (Open 0) down ≡ Ending t c
whole_digest place down d t x c h fx fc =
    ap (λ (ms : List Message). fold (digest_step place) (Open 0) ms) h.are
    ∙ fold-append (digest_step place) (Open 0) h.before (Value d ∷ Threshold t x ∷ Terminate c ∷ [])
    ∙ ends_open place (fold (digest_step place) (Open 0) h.before) d t x c (fold_open place h.before (Open 0) h.none refl) fx fc

-- fewer of them leave it open
fewer_open : (before : List Message) (n : ℕ) (a b m : Message) → list_any is_terminate before ≡ false → is_terminate a ≡ false → is_terminate b ≡ false → n ≤ length before + 2
    → list_any is_terminate (take n (before ++ (a ∷ b ∷ m ∷ []))) ≡ false
fewer_open [] zero a b m none ha hb le = refl
fewer_open [] (suc zero) a b m none ha hb le = ap (λ (x : Bool). x || false) ha
fewer_open [] (suc (suc zero)) a b m none ha hb le = ap₂ (λ (x : Bool) (y : Bool). x || (y || false)) ha hb
fewer_open [] (suc (suc (suc n))) a b m none ha hb le = absurd (omega (arith, le))
fewer_open (x ∷ xs) zero a b m none ha hb le = refl
fewer_open (x ∷ xs) (suc n) a b m none ha hb le =
    let parts = or_parts (is_terminate x) (list_any is_terminate xs) none in
    ap (λ (y : Bool). y || list_any is_terminate (take n (xs ++ (a ∷ b ∷ m ∷ [])))) parts.0 ∙ fewer_open xs n a b m parts.1 ha hb (omega (arith, le))

-- an agent that has taken TERMINATE took all of them, and its digest is that of the end
pub told_by : (place : Place) (y : AdoptView) (n : ℕ) (down : List Message) (d t : ℕ) (x c : Context) → n ≤ length down → IsLast down d t x c → fits_place place x ≡ true → fits_place place c ≡ true
    → digest y ≡ fold (digest_step place) (Open 0) (take n down) → y.told ≡ true → (y.last ≡ t) × (y.known ≡ c)
told_by place y n down d t x c le h fx fc at told =
    elim (cases_lt n (length down)) [
      | inl less ↦
          let long : length down ≡ length h.before + 3 = ap length h.are ∙ length-append h.before (Value d ∷ Threshold t x ∷ Terminate c ∷ []) in
          let none = fewer_open h.before n (Value d) (Threshold t x) (Terminate c) h.none refl refl (omega (arith, less, long)) in
          absurd (true≢false (sym (fold_open place (take n down) (Open 0) (subst (λ (ms : List Message). list_any is_terminate (take n ms) ≡ false) (sym h.are) none) refl) ∙ ap is_open (sym at) ∙ told_not_open y.told y.last y.known told))
      | inr all ↦
          let whole : take n down ≡ down = take_all n down all in
          let done : Ending y.last y.known ≡ Ending t c =
          ap (λ (b : Bool). digest_by b y.last y.known) (sym told) ∙ at ∙ ap (λ (ms : List Message). fold (digest_step place) (Open 0) ms) whole ∙ whole_digest place down d t x c h fx fc in
          (ap last_in done, ap known_in done)
    ]
  where
    last_in : Digest → ℕ
    last_in (Open t) = t
    last_in (Ending t c) = t

    known_in : Digest → Context
    known_in (Open t) = []
    known_in (Ending t c) = c

-- what holds between a parent, variable i with the view x, and its child c with the view y: what was sent down and up, and how much of it was taken
pub record IsPair (p : Dcop) (paths : List (List ℕ)) (i c : ℕ) (x y : AdoptView) (down up : List Message) (td tu : ℕ) : Type 0 where
  pub within : td ≤ length down
  pub within_up : tu ≤ length up
  pub digested : digest y ≡ fold (digest_step (place_at p paths c)) (Open 0) (take td down)
  pub no_end : x.phase.ended ≡ false → list_any is_terminate down ≡ false
  pub last : x.phase.ended ≡ true → IsLast down x.value (share_of x c) x.known (put x.known i x.value)
  pub alive : x.phase.ended ≡ false → (list_any is_value_message (drop td down) || list_any is_cost (drop tu up)) ≡ true

-- the parent sends more, and takes more
pub parent_moves : (p : Dcop) (paths : List (List ℕ)) (i c : ℕ) (x x' y : AdoptView) (down up more : List Message) (td tu tu' : ℕ) → IsPair p paths i c x y down up td tu
    → x.phase.ended ≡ false → tu' ≤ length up → x'.own.me ≡ i
    → (x'.phase.ended ≡ true → more ≡ last_words x' c) → (x'.phase.ended ≡ false → more ≡ more_words x' c)
    → IsPair p paths i c x' y (down ++ more) up td tu'
parent_moves p paths i c x x' y down up more td tu tu' a before taken me ending staying = record {
  within = let le = a.within in let long = length-append down more in omega (arith, le, long);
  within_up = taken;
  digested = a.digested ∙ ap (λ (ms : List Message). fold (digest_step (place_at p paths c)) (Open 0) ms) (sym (take-append-le td down more a.within));
  no_end = λ h. none_more is_terminate down more (a.no_end before) (ap (list_any is_terminate) (staying h));
  last = λ h. record {
    before = down;
    are = ap (λ (ms : List Message). down ++ ms) (ending h) ∙ ap (λ (n : ℕ). down ++ (Value x'.value ∷ Threshold (share_of x' c) x'.known ∷ Terminate (put x'.known n x'.value) ∷ [])) me;
    none = a.no_end before;
  };
  alive = λ h. or_left (list_any is_value_message (drop td (down ++ more))) (list_any is_cost (drop tu' up)) (some_fresh is_value_message td down more a.within (ap (list_any is_value_message) (staying h)));
}

-- the child sends more, and takes more
pub child_moves : (p : Dcop) (paths : List (List ℕ)) (i c : ℕ) (x y y' : AdoptView) (down up more : List Message) (td tu n : ℕ) → IsPair p paths i c x y down up td tu
    → td + n ≤ length down → digest y' ≡ fold (digest_step (place_at p paths c)) (digest y) (take n (drop td down))
    → (y'.phase.ended ≡ true → y'.told ≡ true) → (y'.phase.ended ≡ false → list_any is_cost more ≡ true)
    → IsPair p paths i c x y' down (up ++ more) (td + n) tu
child_moves p paths i c x y y' down up more td tu n a fits at ended_told costs =
    let place : Place = place_at p paths c in
    let now : digest y' ≡ fold (digest_step place) (Open 0) (take (td + n) down) =
    at ∙ ap (λ (g : Digest). fold (digest_step place) g (take n (drop td down))) a.digested
    ∙ sym (fold-append (digest_step place) (Open 0) (take td down) (take n (drop td down)))
    ∙ ap (λ (ms : List Message). fold (digest_step place) (Open 0) ms) (sym (take-add td n down)) in
    record {
      within = fits;
      within_up = let le = a.within_up in let long = length-append up more in omega (arith, le, long);
      digested = now;
      no_end = a.no_end;
      last = a.last;
      alive = λ h.
          let going : y'.phase.ended ≡ false = false_from_ne_true y'.phase.ended (λ e. told_took place y' (td + n) down now (ended_told e) (a.no_end h)) in
          or_right (list_any is_value_message (drop (td + n) down)) (list_any is_cost (drop tu (up ++ more))) (some_fresh is_cost tu up more a.within_up (costs going));
    }

-- the starts of both
pub both_start : (p : Dcop) (paths : List (List ℕ)) (i c : ℕ) (x y : AdoptView) (down up : List Message) → digest y ≡ Open 0 → x.own.me ≡ i
    → (x.phase.ended ≡ true → down ≡ last_words x c) → (x.phase.ended ≡ false → down ≡ more_words x c) → IsPair p paths i c x y down up 0 0
both_start p paths i c x y down up at me ending staying = record {
  within = omega arith;
  within_up = omega arith;
  digested = at;
  no_end = λ h. ap (list_any is_terminate) (staying h);
  last = λ h. record {
    before = [];
    are = ending h ∙ ap (λ (n : ℕ). Value x.value ∷ Threshold (share_of x c) x.known ∷ Terminate (put x.known n x.value) ∷ []) me;
    none = refl;
  };
  alive = λ h. or_left (list_any is_value_message down) (list_any is_cost up) (ap (list_any is_value_message) (staying h));
}
