-- Collecting, head by head.
use Rattle.std.proofs.Common.{◌≡◌, ℕ, ◌+◌, ◌<◌, List, [], ◌∷◌, ◌++◌, map, length, take, drop, set, get_or, cond, ◌==◌, refl, ap, sym, ◌∙◌, append-nil, arith, length-drop}
use Rattle.std.specs.List.{fold}
use Rattle.std.proofs.Math.Dec.{eqb-suc-zero}
use Rattle.std.proofs.lemmas.Bool.{cond-false}
use Rattle.std.proofs.lemmas.List.{take_more, take_more_set, drop-set-lt, get_or-drop, map-append}
use Rattle.std.proofs.lemmas.List.Sums.{fold-append}
use Rattle.std.proofs.lemmas.Grind.{drop_more_same, flat_map-append}
use Rattle.std.proofs.Math.Seq.{take-length}
use Rattle.protocol_steps.specs.declared.message.Message.{Message}
use Rattle.protocol_steps.specs.declared.event.Take.{Take}
use Rattle.protocol_steps.specs.Stamps.{Gain, letters_of}
use Rattle.protocol_steps.specs.Deeds.{takes_of, greatest_of, greatest_from}
use Rattle.fifo_links.specs.Link.{taken_from, HasTaken, SameHead}
use Rattle.agent_cells.specs.Links.{Head}
use Rattle.agent_cells.specs.Collected.{Finding, some_from, some_of, gains_in, HasFound, HasCollected}

-- the letters and the takes of a gain that may be empty
letters-some : (j : ℕ) (es : List (ℕ × Message)) → letters_of (some_from j es) ≡ map (λ e. (j, e.1)) es
letters-some j [] = refl
letters-some j (e ∷ es) = append-nil _

takes-some : (j : ℕ) (es : List (ℕ × Message)) → takes_of (some_from j es) ≡ cond (length es == 0) [] (record { from = j; count = length es } ∷ [])
takes-some j [] = refl
takes-some j (e ∷ es) = sym (cond-false (length (e ∷ es) == 0) [] (record { from = j; count = length (e ∷ es) } ∷ []) (eqb-suc-zero (length es)))

-- what one call of `take_all` on empty room found
pub has_found : (before after : Head) (room found : List (ℕ × Message)) (count : ℕ) (letters more_letters : List (ℕ × Message)) (takes more_takes : List Take) (greatest more_greatest : ℕ)
    → after.0 ≡ before.0 → SameHead before.1 after.1 → room ≡ [] → HasTaken before.1 room count after.1 found
    → more_letters ≡ letters ++ map (λ e. (before.0, e.1)) found → more_takes ≡ takes ++ cond (length found == 0) [] (record { from = before.0; count = length found } ∷ [])
    → more_greatest ≡ greatest_from greatest found
    → HasFound before after letters more_letters takes more_takes greatest more_greatest
has_found before after room found count letters more_letters takes more_takes greatest more_greatest peer end nothing t ls ts g =
    let all : found ≡ t.items = t.added ∙ ap (λ xs. xs ++ t.items) nothing in
    record {
      finding = record {
        before = before;
        gain = record { from = before.0; envelopes = found };
        after = after;
        from = refl;
        same = record { peer = peer; end = end };
        taken = t.taken ∙ ap (λ xs. taken_from before.1 ++ xs) (sym all);
        most = let c = t.counted in let m = t.most in omega (arith, ap length all);
        known = let c = t.counted in let k = t.known in omega (arith, ap length all);
      };
      before_is = refl;
      after_is = refl;
      letters_are = ls ∙ ap (λ xs. letters ++ xs) (sym (letters-some before.0 found));
      takes_are = ts ∙ ap (λ xs. takes ++ xs) (sym (takes-some before.0 found));
      greatest_is = g;
    }

-- the first k heads were looked at, and the others have not changed
pub record IsCollecting (k : ℕ) (initial now : List Head) (letters : List (ℕ × Message)) (takes : List Take) (greatest : ℕ) : Type 0 where
  pub findings : List Finding
  pub before_is : take k initial ≡ map (λ f. f.before) findings
  pub after_is : take k now ≡ map (λ f. f.after) findings
  pub rest : drop k now ≡ drop k initial
  pub letters_are : letters ≡ letters_of (gains_in findings)
  pub takes_are : takes ≡ takes_of (gains_in findings)
  pub greatest_is : greatest ≡ greatest_of (gains_in findings)

pub collecting_none : (hs : List Head) (letters : List (ℕ × Message)) (takes : List Take) (greatest : ℕ) → letters ≡ [] → takes ≡ [] → greatest ≡ 0 → IsCollecting 0 hs hs letters takes greatest
collecting_none hs letters takes greatest l t g = record { findings = []; before_is = refl; after_is = refl; rest = refl; letters_are = l; takes_are = t; greatest_is = g }

gains-more : (fs : List Finding) (f : Finding) → gains_in (fs ++ f ∷ []) ≡ gains_in fs ++ some_of f.gain
gains-more fs f = flat_map-append (λ x. some_of x.gain) fs (f ∷ []) ∙ ap (λ gs. gains_in fs ++ gs) (append-nil (some_of f.gain))

greatest-some : (m j : ℕ) (es : List (ℕ × Message)) → fold (λ k g. greatest_from k g.envelopes) m (some_from j es) ≡ greatest_from m es
greatest-some m j [] = refl
greatest-some m j (e ∷ es) = refl

pub collecting_more : (k : ℕ) (initial now : List Head) (letters more_letters : List (ℕ × Message)) (takes more_takes : List Take) (greatest more_greatest : ℕ) (h after : Head)
    → IsCollecting k initial now letters takes greatest → k < length now → HasFound (get_or now k h) after letters more_letters takes more_takes greatest more_greatest
    → IsCollecting (k + 1) initial (set now k after) more_letters more_takes more_greatest
collecting_more k initial now letters more_letters takes more_takes greatest more_greatest h after c inside f =
    let lengths : length (drop k now) ≡ length (drop k initial) = ap length c.rest in
    let lt : k < length initial = omega (arith, length-drop k now, length-drop k initial) in
    let zero : k ≡ k + 0 = omega arith in
    let old : get_or initial k h ≡ get_or now k h = ap (λ n. get_or initial n h) zero ∙ sym (get_or-drop k initial 0 h) ∙ ap (λ xs. get_or xs 0 h) (sym c.rest) ∙ get_or-drop k now 0 h ∙ ap (λ n. get_or now n h) (sym zero) in
    let more : gains_in (c.findings ++ f.finding ∷ []) ≡ gains_in c.findings ++ some_of f.finding.gain = gains-more c.findings f.finding in
    record {
      findings = c.findings ++ f.finding ∷ [];
      before_is = take_more initial k h lt ∙ ap (λ x. take k initial ++ x ∷ []) (old ∙ f.before_is) ∙ ap (λ xs. xs ++ f.finding.before ∷ []) c.before_is
          ∙ sym (map-append (λ (x : Finding). x.before) c.findings (f.finding ∷ []));
      after_is = take_more_set now k after inside ∙ ap (λ x. take k now ++ x ∷ []) f.after_is ∙ ap (λ xs. xs ++ f.finding.after ∷ []) c.after_is
          ∙ sym (map-append (λ (x : Finding). x.after) c.findings (f.finding ∷ []));
      rest = drop-set-lt (k + 1) now k after (omega arith) ∙ drop_more_same now initial k c.rest;
      letters_are = f.letters_are ∙ ap (λ ls. ls ++ letters_of (some_of f.finding.gain)) c.letters_are
          ∙ sym (ap letters_of more ∙ flat_map-append (λ (g : Gain). map (λ e. (g.from, e.1)) g.envelopes) (gains_in c.findings) (some_of f.finding.gain));
      takes_are = f.takes_are ∙ ap (λ ts. ts ++ takes_of (some_of f.finding.gain)) c.takes_are
          ∙ sym (ap takes_of more ∙ map-append (λ (g : Gain). let t : Take = record { from = g.from; count = length g.envelopes } in t) (gains_in c.findings) (some_of f.finding.gain));
      greatest_is = f.greatest_is ∙ ap (λ m. greatest_from m f.finding.gain.envelopes) c.greatest_is
          ∙ sym (ap greatest_of more ∙ fold-append (λ m (g : Gain). greatest_from m g.envelopes) 0 (gains_in c.findings) (some_of f.finding.gain)
          ∙ greatest-some (greatest_of (gains_in c.findings)) f.finding.gain.from f.finding.gain.envelopes);
    }

pub collecting_all : (k : ℕ) (initial now : List Head) (letters : List (ℕ × Message)) (takes : List Take) (greatest : ℕ) → IsCollecting k initial now letters takes greatest
    → k ≡ length now → length now ≡ length initial → HasCollected initial now letters takes greatest
collecting_all k initial now letters takes greatest c end size = record {
  findings = c.findings;
  before_is = sym (ap (λ n. take n initial) (end ∙ size) ∙ take-length initial) ∙ c.before_is;
  after_is = sym (ap (λ n. take n now) end ∙ take-length now) ∙ c.after_is;
  letters_are = c.letters_are;
  takes_are = c.takes_are;
  greatest_is = c.greatest_is;
}
