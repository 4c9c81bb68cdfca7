-- What a pump gives, from pass to pass.
use Rattle.std.proofs.Common.{◌≡◌, ◌≤◌, ◌⊎◌, ℕ, List, [], ◌∷◌, ◌++◌, length, take, Option, Some, None, Result, Ok, Err, IfOk, is_err, true, false, refl, ap, sym, subst, ◌∙◌, inl, inr, append_assoc, append-nil, arith, length-append}
use Rattle.std.proofs.lemmas.List.{take_all, append_cancel_left}
use Rattle.dcop_edge.specs.Faults.{Rose}
use Rattle.wire_pump.specs.Wire.{Told, told_more, counted_more, Reach, Reaches}
use Rattle.wire_pump.specs.Ends.{Before, start_of, HasMoved, IsDone, CountsLater, IsLater, HasEnded, IsOpen, IsOpenOnly}
use Rattle.wire_pump.specs.Pump.{HasPassed, HasAll, EndsFrom, GivesFrom, EndsPump}
use Rattle.wire_pump.specs.Turn.{GoesOn}
use Rattle.wire_pump.specs.declared.ends.Lane.{Lane}
use Rattle.wire_pump.specs.declared.ends.Ends.{Ends}
use Rattle.wire_pump.specs.declared.pump.Pumped.{Pumped}
use Rattle.wire_pump.specs.declared.pump.PumpFail.{PumpFail}

-- what holds where a result is none of a fault
pub on_ok : {T E : Type 0} (r : Result T E) {P : Type 0} → IfOk r (λ x. P) → false ≡ is_err r → P
on_ok (Ok x) p e = p
on_ok (Err x) p e = let no : false ≡ true = e in absurd (cc)

-- where something is open, what holds there holds
pub armed : {W : Type 0} (e : Ends W) (P : Type 0) → IsOpen e → IsOpenOnly e P → P
armed e P (inl h) o = o.there_went h
armed e P (inr (inl h)) o = o.back_went h
armed e P (inr (inr (inl h))) o = o.there_came h
armed e P (inr (inr (inr h))) o = o.back_came h

take_done : (count : ℕ) (xs : List ℕ) → count ≡ length xs → take count xs ≡ xs
take_done count xs e = take_all count xs (omega (arith, e))

lane_passed : (before : Before) (from to : Told) (lane : Lane) → HasMoved before from to lane → IsDone lane → HasPassed before from to lane.bytes.items lane.buffer.items
lane_passed before from to lane m d = record {
  sent = m.sent ∙ ap (λ (xs : List ℕ). told_more before.sent xs) (take_done lane.went lane.bytes.items (d.sent ∙ lane.bytes.ok.0));
  received = m.received ∙ ap (λ (xs : List ℕ). told_more before.received xs) (take_done lane.came lane.buffer.items (d.received ∙ lane.buffer.ok.0));
  sent_count = m.sent_count ∙ ap (counted_more before.sent_count) (d.sent ∙ lane.bytes.ok.0);
  received_count = m.received_count ∙ ap (counted_more before.received_count) (d.received ∙ lane.buffer.ok.0);
  same_length = sym lane.buffer.ok.0 ∙ lane.room ∙ lane.bytes.ok.0;
}

counts_after : (a b c : Told) → CountsLater a b → CountsLater b c → CountsLater a c
counts_after a b c p q = record {
  write_waits = let p1 = p.write_waits in let q1 = q.write_waits in omega arith;
  read_waits = let p1 = p.read_waits in let q1 = q.read_waits in omega arith;
  faults = q.faults ∙ p.faults;
}

rose_before : (a b c x y z : ℕ) → b ≡ a → y ≡ x → Rose b c ⊎ Rose y z → Rose a c ⊎ Rose x z
rose_before a b c x y z e f (inl h) = inl (subst (λ (n : ℕ). Rose n c) e h)
rose_before a b c x y z e f (inr h) = inr (subst (λ (n : ℕ). Rose n z) f h)

le_before : (a b c : ℕ) → b ≡ a → b ≤ c → a ≤ c
le_before a b c e h = subst (λ (n : ℕ). n ≤ c) e h

told_nil : (before : Option (List ℕ)) → before ≡ told_more before []
told_nil None = refl
told_nil (Some text) = ap Some (sym (append-nil text))

counted_none : (count more : ℕ) → more ≡ 0 → count ≡ counted_more count more
counted_none count more none = omega (arith, none)

moved_none : (from to : Told) (lane : Lane) → lane.went ≡ 0 → lane.came ≡ 0 → HasMoved (start_of from to) from to lane
moved_none from to lane went came = record {
  sent = subst (λ (n : ℕ). from.sent ≡ told_more from.sent (take n lane.bytes.items)) (sym went) (told_nil from.sent);
  received = subst (λ (n : ℕ). to.received ≡ told_more to.received (take n lane.buffer.items)) (sym came) (told_nil to.received);
  sent_count = counted_none from.sent_count lane.went went;
  received_count = counted_none to.received_count lane.came came;
}

abbrev some_or_nil : Option (List ℕ) → List ℕ
some_or_nil None = []
some_or_nil (Some xs) = xs

nil_of : (xs : List ℕ) → length xs ≡ 0 → xs ≡ []
nil_of [] e = refl
nil_of (x ∷ xs) e = absurd (omega (arith, e))

prefix_whole : (text bytes got rest : List ℕ) → (text ++ got) ++ rest ≡ text ++ bytes → length got ≡ length bytes → got ≡ bytes
prefix_whole text bytes got rest e len =
    let same : got ++ rest ≡ bytes = append_cancel_left text (got ++ rest) bytes (sym (append_assoc text got rest) ∙ e) in
    let lens : length (got ++ rest) ≡ length bytes = ap (λ (xs : List ℕ). length xs) same in
    let none : rest ≡ [] = nil_of rest (omega (arith, lens, len, length-append got rest)) in
    sym (append-nil got) ∙ ap (λ (xs : List ℕ). got ++ xs) (sym none) ∙ same

-- over joined wires what came is what went
lane_equal : (first second from to : Told) (bytes got : List ℕ) → HasAll first second → HasPassed (start_of first second) from to bytes got → Reaches from to
    → (got ≡ bytes) × HasAll from to
lane_equal first second from to bytes got h p r =
    let sent : from.sent ≡ Some (h.text ++ bytes) = p.sent ∙ ap (λ (o : Option (List ℕ)). told_more o bytes) h.sent in
    let received : to.received ≡ Some (h.text ++ got) = p.received ∙ ap (λ (o : Option (List ℕ)). told_more o got) h.received in
    let all_sent : r.sent ≡ h.text ++ bytes = ap some_or_nil (sym r.is_sent ∙ sent) in
    let all_received : r.received ≡ h.text ++ got = ap some_or_nil (sym r.is_received ∙ received) in
    let front : (h.text ++ got) ++ r.front.0 ≡ h.text ++ bytes = ap (λ (xs : List ℕ). xs ++ r.front.0) (sym all_received) ∙ r.front.1 ∙ all_sent in
    let equal : got ≡ bytes = prefix_whole h.text bytes got r.front.0 front p.same_length in
    (equal, record { text = h.text ++ bytes; sent = sent; received = received ∙ ap (λ (xs : List ℕ). Some (h.text ++ xs)) equal })

module _ {W : Type 0} (told : W → Told) (is_joined : W → W → Type 0) where
  -- a later state in which all is done is an end
  pub ends_from : (e b : Ends W) (p : Pumped W) → IsLater told e b → HasEnded b → (is_joined e.first e.second → is_joined b.first b.second)
      → (is_joined e.first e.second → Reach (told b.first) (told b.second)) → p.first ≡ b.first → p.second ≡ b.second
      → p.at_second ≡ b.there.buffer.items → p.at_first ≡ b.back.buffer.items → EndsFrom told is_joined e p
  ends_from e b p later done joined reach first second at_second at_first =
      let there : (before : Before) → HasMoved before (told e.first) (told e.second) e.there → HasPassed before (told b.first) (told b.second) e.there.bytes.items b.there.buffer.items =
      λ before h. subst (λ (xs : List ℕ). HasPassed before (told b.first) (told b.second) xs b.there.buffer.items) later.there_bytes
      (lane_passed before (told b.first) (told b.second) b.there (later.there before h) done.there) in
      let back : (before : Before) → HasMoved before (told e.second) (told e.first) e.back → HasPassed before (told b.second) (told b.first) e.back.bytes.items b.back.buffer.items =
      λ before h. subst (λ (xs : List ℕ). HasPassed before (told b.second) (told b.first) xs b.back.buffer.items) later.back_bytes
      (lane_passed before (told b.second) (told b.first) b.back (later.back before h) done.back) in
      record {
        there = λ before h. subst (λ (w : W). HasPassed before (told w) (told p.second) e.there.bytes.items p.at_second) (sym first)
            (subst (λ (w : W). HasPassed before (told b.first) (told w) e.there.bytes.items p.at_second) (sym second)
            (subst (λ (xs : List ℕ). HasPassed before (told b.first) (told b.second) e.there.bytes.items xs) (sym at_second) (there before h)));
        back = λ before h. subst (λ (w : W). HasPassed before (told w) (told p.first) e.back.bytes.items p.at_first) (sym second)
            (subst (λ (w : W). HasPassed before (told b.second) (told w) e.back.bytes.items p.at_first) (sym first)
            (subst (λ (xs : List ℕ). HasPassed before (told b.second) (told b.first) e.back.bytes.items xs) (sym at_first) (back before h)));
        first = subst (λ (w : W). CountsLater (told e.first) (told w)) (sym first) later.first;
        second = subst (λ (w : W). CountsLater (told e.second) (told w)) (sym second) later.second;
        joined = λ j. subst (λ (w : W). is_joined w p.second × Reach (told w) (told p.second)) (sym first)
            (subst (λ (w : W). is_joined b.first w × Reach (told b.first) (told w)) (sym second) (joined j, reach j));
      }

  -- what a later state gives, this state gives
  pub gives_back : (a b : Ends W) (out : Result (Pumped W) (PumpFail W)) → GoesOn told is_joined a b → GivesFrom told is_joined b out → GivesFrom told is_joined a out
  gives_back a b (Ok p) g q = record {
    there = λ before h. subst (λ (xs : List ℕ). HasPassed before (told p.first) (told p.second) xs p.at_second) g.later.there_bytes (q.there before (g.later.there before h));
    back = λ before h. subst (λ (xs : List ℕ). HasPassed before (told p.second) (told p.first) xs p.at_first) g.later.back_bytes (q.back before (g.later.back before h));
    first = counts_after (told a.first) (told b.first) (told p.first) g.later.first q.first;
    second = counts_after (told a.second) (told b.second) (told p.second) g.later.second q.second;
    joined = λ j. q.joined (g.joined j);
  }
  gives_back a b (Err f) g q = record {
    first = le_before (told a.first).faults (told b.first).faults (told f.first).faults g.later.first.faults q.first;
    second = le_before (told a.second).faults (told b.second).faults (told f.second).faults g.later.second.faults q.second;
    rose = rose_before (told a.first).faults (told b.first).faults (told f.first).faults (told a.second).faults (told b.second).faults (told f.second).faults
        g.later.first.faults g.later.second.faults q.rose;
    joined = λ j. q.joined (g.joined j);
  }

  -- what a new pump gives is what the pump of these lists gives
  pub new_gives : (e : Ends W) (to_second to_first : List ℕ) (out : Result (Pumped W) (PumpFail W)) → e.there.bytes.items ≡ to_second → e.there.went ≡ 0 → e.there.came ≡ 0
      → e.back.bytes.items ≡ to_first → e.back.went ≡ 0 → e.back.came ≡ 0 → GivesFrom told is_joined e out → EndsPump told is_joined e.first e.second to_second to_first out
  new_gives e to_second to_first (Ok p) there_bytes there_went there_came back_bytes back_went back_came q =
      let there : HasPassed (start_of (told e.first) (told e.second)) (told p.first) (told p.second) to_second p.at_second =
      subst (λ (xs : List ℕ). HasPassed (start_of (told e.first) (told e.second)) (told p.first) (told p.second) xs p.at_second) there_bytes
      (q.there (start_of (told e.first) (told e.second)) (moved_none (told e.first) (told e.second) e.there there_went there_came)) in
      let back : HasPassed (start_of (told e.second) (told e.first)) (told p.second) (told p.first) to_first p.at_first =
      subst (λ (xs : List ℕ). HasPassed (start_of (told e.second) (told e.first)) (told p.second) (told p.first) xs p.at_first) back_bytes
      (q.back (start_of (told e.second) (told e.first)) (moved_none (told e.second) (told e.first) e.back back_went back_came)) in
      record {
        there = there;
        back = back;
        first_counts = q.first;
        second_counts = q.second;
        joined = λ j. (q.joined j).0;
        equal = λ j h.
            let t = lane_equal (told e.first) (told e.second) (told p.first) (told p.second) to_second p.at_second h.there there (q.joined j).1.there in
            let b = lane_equal (told e.second) (told e.first) (told p.second) (told p.first) to_first p.at_first h.back back (q.joined j).1.back in
            (t.0, b.0, record { there = t.1; back = b.1 });
      }
  new_gives e to_second to_first (Err f) there_bytes there_went there_came back_bytes back_went back_came q =
      record { first_grew = q.first; second_grew = q.second; rose = q.rose; joined = q.joined }
