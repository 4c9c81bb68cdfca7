-- Looks for the keys of requests, one request after the other.
use Rattle.std.proofs.Common.{◌≡◌, ℕ, ◌+◌, ◌≤◌, Bool, true, false, List, [], ◌∷◌, ◌++◌, length, Option, Some, None, is_some, Result, Ok, Err, IsErrAnd, refl, sym, ap, subst, ◌∙◌, arith, length-append}
use Rattle.dcop_base.specs.declared.memory.NoMemory.{NoMemory}
use Rattle.reply_cache.specs.Cache.{missed, misses_of}
use Rattle.reply_cache.specs.Steps.{Step, Looked, Made, Leads}
use Rattle.solve_serve.specs.Answers.{Tally, Tallies, steps_for, AreLooked, IsLookedOnce, IsReplied, Answering, IsAnswered}
use Rattle.solve_serve.specs.declared.stop.Stop.{Stop}
use Rattle.solve_serve.specs.declared.stop.Stop.TheVariants as stops

misses_of-append : (xs ys : List Bool) → misses_of (xs ++ ys) ≡ misses_of xs + misses_of ys
misses_of-append [] ys = omega arith
misses_of-append (true ∷ xs) ys = misses_of-append xs ys
misses_of-append (false ∷ xs) ys = let on = misses_of-append xs ys in omega (arith, on)

-- no more looks found nothing than were made
misses_of-few : (finds : List Bool) → misses_of finds ≤ length finds
misses_of-few [] = omega arith
misses_of-few (true ∷ finds) = let on = misses_of-few finds in omega (arith, on)
misses_of-few (false ∷ finds) = let on = misses_of-few finds in omega (arith, on)

steps_then : (keys more : List (List ℕ)) (finds others : List Bool) → length finds ≡ length keys → steps_for (keys ++ more) (finds ++ others) ≡ steps_for keys finds ++ steps_for more others
steps_then [] more [] others long = refl
steps_then [] more (found ∷ finds) others long = absurd (omega (arith, long))
steps_then (key ∷ keys) more [] others long = absurd (omega (arith, long))
steps_then (key ∷ keys) more (true ∷ finds) others long = ap (λ (ss : List Step). Looked key true ∷ ss) (steps_then keys more finds others (omega (arith, long)))
steps_then (key ∷ keys) more (false ∷ finds) others long = ap (λ (ss : List Step). Looked key false ∷ Made key ∷ ss) (steps_then keys more finds others (omega (arith, long)))

Tallies-none : (t : Tally) → Tallies [] t t
Tallies-none t = record { looks = omega arith; misses = omega arith; calls = omega arith }

Tallies-then : (finds others : List Bool) (t u v : Tally) → Tallies finds t u → Tallies others u v → Tallies (finds ++ others) t v
Tallies-then finds others t u v p q =
    let looks = length-append finds others in
    let misses = misses_of-append finds others in
    record {
      looks = omega (arith, p.looks, q.looks, looks);
      misses = omega (arith, p.misses, q.misses, misses);
      calls = omega (arith, p.calls, q.calls, misses);
    }

module _ {S : Type 0} (does : S → Step → S → Type 0) where
  leads_then : (steps others : List Step) (a b c : S) → Leads does steps a b → Leads does others b c → Leads does (steps ++ others) a c
  leads_then [] others a b c same on = subst (λ (d : S). Leads does others d c) same on
  leads_then (step ∷ steps) others a b c first on = (first.0, first.1, leads_then steps others first.0 b c first.2 on)

  -- no look
  pub looked_none : (a : S) (t : Tally) → AreLooked (λ steps. Leads does steps a a) [] t t
  looked_none a t = record { finds = []; each = refl; steps = refl; tally = Tallies-none t }

  -- looks after others
  pub looked_then : (keys more : List (List ℕ)) (a b c : S) (t u v : Tally) → AreLooked (λ steps. Leads does steps a b) keys t u → AreLooked (λ steps. Leads does steps b c) more u v
      → AreLooked (λ steps. Leads does steps a c) (keys ++ more) t v
  looked_then keys more a b c t u v p q = record {
    finds = p.finds ++ q.finds;
    each = length-append p.finds q.finds ∙ ap (λ (n : ℕ). n + length q.finds) p.each ∙ ap (λ (n : ℕ). length keys + n) q.each ∙ sym (length-append keys more);
    steps = subst (λ (ss : List Step). Leads does ss a c) (sym (steps_then keys more p.finds q.finds p.each)) (leads_then (steps_for keys p.finds) (steps_for more q.finds) a b c p.steps q.steps);
    tally = Tallies-then p.finds q.finds t u v p.tally q.tally;
  }

  -- no look after others, where the maker made no step
  pub looked_still : (keys : List (List ℕ)) (a b c : S) (t u : Tally) → AreLooked (λ steps. Leads does steps a b) keys t u → c ≡ b → AreLooked (λ steps. Leads does steps a c) keys t u
  looked_still keys a b c t u p same = subst (λ (d : S). AreLooked (λ steps. Leads does steps a d) keys t u) (sym same) p

  -- a look that found the reply
  pub looked_found : (key : List ℕ) (a b : S) (t u : Tally) → does a (Looked key true) b → u.looks ≡ t.looks + 1 → u.misses ≡ t.misses + missed true → u.calls ≡ t.calls
      → AreLooked (λ steps. Leads does steps a b) (key ∷ []) t u
  looked_found key a b t u step looks misses calls = record {
    finds = true ∷ [];
    each = refl;
    steps = (b, step, refl);
    tally = record { looks = looks; misses = misses; calls = omega (arith, calls) };
  }

  -- the same, where what was found is an option
  pub looked_had : (key reply : List ℕ) (found : Option (List ℕ)) (a b : S) (t u : Tally) → found ≡ Some reply → does a (Looked key (is_some found)) b → u.looks ≡ t.looks + 1 → u.misses ≡ t.misses + missed (is_some found) → u.calls ≡ t.calls
      → AreLooked (λ steps. Leads does steps a b) (key ∷ []) t u
  looked_had key reply None a b t u had step looks misses calls = absurd (cc had)
  looked_had key reply (Some kept) a b t u had step looks misses calls = looked_found key a b t u step looks misses calls

  -- a look that found nothing, and the reply was made
  pub looked_made : (key : List ℕ) (found : Bool) (a b c : S) (t u : Tally) → found ≡ false → does a (Looked key found) b → does b (Made key) c → u.looks ≡ t.looks + 1 → u.misses ≡ t.misses + missed found → u.calls ≡ t.calls + 1
      → AreLooked (λ steps. Leads does steps a c) (key ∷ []) t u
  looked_made key found a b c t u none look make looks misses calls =
      let miss : u.misses ≡ t.misses + 1 = subst (λ (f : Bool). u.misses ≡ t.misses + missed f) none misses in
      record {
        finds = false ∷ [];
        each = refl;
        steps = (b, subst (λ (f : Bool). does a (Looked key f) b) none look, (c, make, refl));
        tally = record { looks = looks; misses = miss; calls = calls };
      }

  -- memory ran out before the look
  pub refused_first : (key : List ℕ) (result : Result (List ℕ) NoMemory) (P : NoMemory → Type 0) (a b : S) (t u : Tally) → IsErrAnd result P → b ≡ a → u.looks ≡ t.looks → u.misses ≡ t.misses → u.calls ≡ t.calls
      → IsReplied (λ steps. Leads does steps a b) key result t u
  refused_first key (Ok reply) P a b t u is same looks misses calls = absurd is
  refused_first key (Err refused) P a b t u is same looks misses calls = record {
    more = [];
    once = omega arith;
    looked = record {
      finds = [];
      each = refl;
      steps = same;
      tally = record { looks = omega (arith, looks); misses = omega (arith, misses); calls = omega (arith, calls) };
    };
  }

-- memory ran out after the look
pub refused_then : (went : List Step → Type 0) (key : List ℕ) (result : Result (List ℕ) NoMemory) (P : NoMemory → Type 0) (t u : Tally) → IsErrAnd result P → AreLooked went (key ∷ []) t u → IsReplied went key result t u
refused_then went key (Ok reply) P t u is looked = absurd is
refused_then went key (Err refused) P t u is looked = record { more = key ∷ []; once = omega arith; looked = looked }

-- no reply is kept
pub none_found : (found : Option (List ℕ)) → ((reply : List ℕ) → found ≡ Some reply → ⊥) → is_some found ≡ false
none_found None none = refl
none_found (Some reply) none = absurd (none reply refl)

-- at most as many calls as looks
pub calls_few : (went : List Step → Type 0) (keys : List (List ℕ)) (t u : Tally) → AreLooked went keys t u → u.calls ≤ t.calls + length keys
calls_few went keys t u h =
    let few = misses_of-few h.finds in
    omega (arith, few, h.tally.calls, h.each)

-- no look was made
pub never : (went : List Step → Type 0) (t u : Tally) → AreLooked went [] t u → IsLookedOnce went t u
never went t u looked = record { more = []; once = omega arith; looked = looked }

-- a request was read and its reply had, but memory ran out before it was written
pub unanswered : (is_reply : List ℕ → List ℕ → Type 0) (went : List Step → Type 0) (request key : List ℕ) (result : Result (Unit {0}) Stop) (before after : Answering) → IsErrAnd result (λ e. e ≡ stops.Memory)
    → AreLooked went (key ∷ []) before.tally after.tally → after.held ≡ before.held → after.faults ≡ before.faults → IsAnswered is_reply went request result before after
unanswered is_reply went request key (Ok done) before after is looked held faults = absurd is
unanswered is_reply went request key (Err stop) before after is looked held faults =
    subst (λ (e : Stop). IsAnswered is_reply went request (Err e) before after) (sym is)
    (record { looked = record { more = key ∷ []; once = omega arith; looked = looked }; held = held; faults = faults })
