-- Ticks one after the other, and what they count.
use Rattle.std.proofs.Common.{◌≡◌, ℕ, zero, suc, ◌+◌, ◌-◌, ◌≤◌, Option, Some, None, sym, ap, subst, ◌∙◌, inl, inr, arith}
use Rattle.std.proofs.lemmas.Bool.{cases_lt}
use Rattle.protocol_steps.specs.declared.message.Message.{Message}
use Rattle.protocol_steps.specs.declared.message.Message.TheVariants.{Token, Done, Util, ValueAll, Value, Cost, Threshold, Terminate}
use Rattle.run_laws.specs.TokenRun.{is_token, is_done}
use Rattle.run_laws.proofs.Serial.{Flight, Serial, one_if, tick_at, tick, ticks, IsLive, Leads}

pub ticks_add : (a b c : ℕ) (s : Serial) → c ≡ a + b → ticks c s ≡ ticks b (ticks a s)
ticks_add zero b c s e = let same : c ≡ b = omega arith in ap (λ (k : ℕ). ticks k s) same
ticks_add (suc a) b zero s e = absurd (omega arith)
ticks_add (suc a) b (suc c) s e = ticks_add a b c (tick s) (omega arith)

pub leads_then : (n : ℕ) (s m e : Serial) (a b c : ℕ) → c ≡ a + b → Leads n s m a → Leads n m e b → Leads n s e c
leads_then n s m e a b c sum first second = record {
  is = ticks_add a b c s sum ∙ ap (λ (x : Serial). ticks b x) first.is ∙ second.is;
  live = λ k lt. elim (cases_lt k a) [
    | inl before ↦ first.live k before
    | inr after ↦
        let at : ticks k s ≡ ticks (k - a) m = ticks_add a (k - a) k s (omega arith) ∙ ap (λ (x : Serial). ticks (k - a) x) first.is in
        subst (λ (x : Serial). IsLive n x) (sym at) (second.live (k - a) (omega arith))
  ];
}

pub leads_none : (n : ℕ) (s e : Serial) (c : ℕ) → c ≡ 0 → s ≡ e → Leads n s e c
leads_none n s e zero z is = record { is = is; live = λ k lt. absurd (omega (arith, lt)) }
leads_none n s e (suc c) z is = absurd (omega arith)

pub leads_one : (n : ℕ) (s e : Serial) → IsLive n s → tick s ≡ e → Leads n s e 1
leads_one n s e now is = record {
  is = is;
  live = λ k lt. let first : 0 ≡ k = omega (arith, lt) in subst (λ (j : ℕ). IsLive n (ticks j s)) first now;
}

-- a message is counted once at most
one_kind : (m : Message) → one_if (is_token m) + one_if (is_done m) ≤ 1
one_kind (Token path) = omega arith
one_kind (Done visited) = omega arith
one_kind (Util scope cells) = omega arith
one_kind (ValueAll values) = omega arith
one_kind (Value d) = omega arith
one_kind (Cost c l u) = omega arith
one_kind (Threshold t c) = omega arith
one_kind (Terminate c) = omega arith

-- the counts do not fall, and rise by one at most
pub record Counted (s e : Serial) (k : ℕ) : Type 0 where
  pub tokens : s.tokens ≤ e.tokens
  pub dones : s.dones ≤ e.dones
  pub both : e.tokens + e.dones ≤ s.tokens + s.dones + k

counted_at : (s : Serial) (o : Option Flight) → Counted s (tick_at s o) 1
counted_at s None = record { tokens = omega arith; dones = omega arith; both = omega arith }
counted_at s (Some f) = record { tokens = omega arith; dones = omega arith; both = omega (arith, one_kind f.message) }

pub counted : (k : ℕ) (s : Serial) → Counted s (ticks k s) k
counted zero s = record { tokens = omega arith; dones = omega arith; both = omega arith }
counted (suc k) s =
    let first = counted_at s s.flight in
    let rest = counted k (tick s) in
    record {
      tokens = omega (arith, first.tokens, rest.tokens);
      dones = omega (arith, first.dones, rest.dones);
      both = omega (arith, first.both, rest.both);
    }
