-- A WCSP text that ends with line_feed is read as it is alone, whatever follows it.
use Rattle.std.proofs.Common.{◌≡◌, ℕ, ◌+◌, ◌<◌, ◌≤◌, Bool, true, false, cond, nat_eq, List, [], ◌∷◌, ◌++◌, length, map, Option, Some, None, Result, Ok, Err, refl, sym, ap, subst, ◌∙◌, arith}
use Rattle.std.proofs.lemmas.Bool.Decides.{nat_tests}
use Rattle.std.proofs.lemmas.List.Sums.{sum_by-cons}
use Rattle.dcop_base.specs.Faults.{problem_fault}
use Rattle.dcop_base.specs.Table.{CostTable}
use Rattle.dcop_base.specs.declared.problem.ProblemFault.{ProblemFault}
use Rattle.problem_text.specs.Bytes.{line_feed}
use Rattle.wcsp_text.specs.declared.fault.Fault.{Fault}
use Rattle.wcsp_text.specs.declared.fault.WcspKind.TheVariants.{AfterEnd}
use Rattle.wcsp_text.specs.Functions.{Function}
use Rattle.wcsp_text.specs.Networks.{Network, network_read}
use Rattle.wcsp_text.specs.Numbers.{Place}
use Rattle.wcsp_text.specs.Problems.{greatest_below, soft_sum, hard, raised_table, tables}
use Rattle.wcsp_text.specs.Texts.{bytes_to, ended, made, whole, text_read}
use Rattle.wcsp_text.specs.Words.{Word, words, line_at}
use Rattle.answer_io.proofs.CutLaws.{moved_word, AllWithin, words_within, alone_before, words_join}
use Rattle.answer_io.proofs.LineLaws.{line_within, line_same, line_later, bytes_same, bytes_within}
use Rattle.answer_io.proofs.MovedLaws.{moved_function, moved_network, IsBefore, moved, Keeps, network_keeps}

-- a moved network makes the same problem
soft_same : (n top : ℕ) (fs : List Function) → soft_sum top (map (moved_function n) fs) ≡ soft_sum top fs
soft_same n top [] = refl
soft_same n top (f ∷ fs) =
    sum_by-cons (λ (f : Function). greatest_below top f.table.cells) (moved_function n f) (map (moved_function n) fs)
    ∙ ap (λ k. greatest_below top f.table.cells + k) (soft_same n top fs)
    ∙ sym (sum_by-cons (λ (f : Function). greatest_below top f.table.cells) f fs)

pub hard_same : (n : ℕ) (w : Network) → hard (moved_network n w) ≡ hard w
hard_same n w = ap (λ k. 1 + k) (soft_same n w.top w.functions)

raised_same : (n top most : ℕ) (fs : List Function) → map (λ (f : Function). raised_table top most f.table) (map (moved_function n) fs) ≡ map (λ (f : Function). raised_table top most f.table) fs
raised_same n top most [] = refl
raised_same n top most (f ∷ fs) = ap (λ (ts : List CostTable). raised_table top most f.table ∷ ts) (raised_same n top most fs)

pub tables_same : (n : ℕ) (w : Network) → tables (moved_network n w) ≡ tables w
tables_same n w =
    ap (λ k. map (λ (f : Function). raised_table w.top k f.table) (map (moved_function n) w.functions)) (hard_same n w)
    ∙ raised_same n w.top (hard w) w.functions

-- what a network is read as if no word follows it, or one on another line
ended_so : (t : Bool) (w : Network) (used : ℕ) (fault : Fault) → t ≡ false → ◌≡◌ {A = Result (Network × ℕ) Fault} (cond t (Err fault) (Ok (w, used))) (Ok (w, used))
ended_so true w used fault is = cc
ended_so false w used fault is = refl

apart : (m k : ℕ) → m < k → nat_eq k m ≡ false
apart m k less = grind (arith, nat_tests, less)

ended_behind : (bytes : List ℕ) (w : Network) (after most : ℕ) (vs : List Word) → AllWithin most vs → ((behind : ℕ) → behind ≤ most → line_at bytes after < line_at bytes behind)
    → ended bytes w after vs ≡ Ok (w, bytes_to bytes (line_at bytes after))
ended_behind bytes w after most [] all later = refl
ended_behind bytes w after most (v ∷ vs) all later =
    ended_so (nat_eq (line_at bytes v.after) (line_at bytes after)) w (bytes_to bytes (line_at bytes after)) (record { after = v.after; kind = AfterEnd })
    (apart (line_at bytes after) (line_at bytes v.after) (later v.after all.0))

both_moved : (n : ℕ) (v w : Network) (had used : ℕ) → ◌≡◌ {A = Result (Network × ℕ) Fault} (Ok (v, had)) (Ok (w, used)) → ◌≡◌ {A = Result (Network × ℕ) Fault} (Ok (moved_network n v, had)) (Ok (moved_network n w, used))
both_moved n v w had used e =
    let same : ◌≡◌ {A = Network × ℕ} (v, had) (w, used) = cc in
    ap (λ (s : Network × ℕ). Ok (moved_network n s.0, s.1)) same

unless_moved : (n : ℕ) (t : Bool) (v w : Network) (had used : ℕ) (fault fault' : Fault) → ◌≡◌ {A = Result (Network × ℕ) Fault} (cond t (Err fault) (Ok (v, had))) (Ok (w, used))
    → ◌≡◌ {A = Result (Network × ℕ) Fault} (cond t (Err fault') (Ok (moved_network n v, had))) (Ok (moved_network n w, used))
unless_moved n true v w had used fault fault' e = absurd (cc)
unless_moved n false v w had used fault fault' e = both_moved n v w had used e

module _ (bytes rest : List ℕ) where
  abbrev text : List ℕ
  text = bytes ++ line_feed ∷ []

  abbrev size : ℕ
  size = length rest

  -- how many bytes the network takes
  used_same : (after : ℕ) → 1 ≤ after → bytes_to (text ++ rest) (line_at (text ++ rest) (after + size)) ≡ bytes_to text (line_at text after)
  used_same after before =
      ap (bytes_to (text ++ rest)) (line_same bytes rest after) ∙ bytes_same bytes rest (line_at text after) (line_within bytes after before)

  ended_keeps : (v w : Network) (used after : ℕ) (ws : List Word) → 1 ≤ after → ended text v after ws ≡ Ok (w, used)
      → ended (text ++ rest) (moved_network size v) (after + size) (map (moved_word size) ws ++ words rest) ≡ Ok (moved_network size w, used)
  ended_keeps v w used after [] before e =
      ended_behind (text ++ rest) (moved_network size v) (after + size) size (words rest) (words_within rest)
      (λ behind within. subst (λ (k : ℕ). k < line_at (text ++ rest) behind) (sym (line_same bytes rest after)) (line_later bytes rest after behind before within))
      ∙ ap (λ (k : ℕ). Ok (moved_network size v, k)) (used_same after before) ∙ both_moved size v w (bytes_to text (line_at text after)) used e
  ended_keeps v w used after (word ∷ ws) before e =
      ap (λ (k : ℕ). cond (nat_eq (line_at (text ++ rest) (word.after + size)) (line_at (text ++ rest) (after + size))) (Err (record { after = word.after + size; kind = AfterEnd })) (Ok (moved_network size v, k))) (used_same after before)
      ∙ ap (λ (k : ℕ). cond (nat_eq k (line_at (text ++ rest) (after + size))) (Err (record { after = word.after + size; kind = AfterEnd })) (Ok (moved_network size v, bytes_to text (line_at text after)))) (line_same bytes rest word.after)
      ∙ ap (λ (k : ℕ). cond (nat_eq (line_at text word.after) k) (Err (record { after = word.after + size; kind = AfterEnd })) (Ok (moved_network size v, bytes_to text (line_at text after)))) (line_same bytes rest after)
      ∙ unless_moved size (nat_eq (line_at text word.after) (line_at text after)) v w (bytes_to text (line_at text after)) used
      (record { after = word.after; kind = AfterEnd }) (record { after = word.after + size; kind = AfterEnd }) e

  made_keeps : (v w : Network) (used : ℕ) (p : Place) (o : Option ProblemFault) → IsBefore p → made text v p o ≡ Ok (w, used)
      → made (text ++ rest) (moved_network size v) (moved size (words rest) p) o ≡ Ok (moved_network size w, used)
  made_keeps v w used p (Some fault) before e = absurd (cc)
  made_keeps v w used p None before e = ended_keeps v w used p.after p.words before.here e

  whole_keeps : (w : Network) (used : ℕ) (r r' : Result (Network × Place) Fault) → Keeps size (words rest) (moved_network size) r r' → whole text r ≡ Ok (w, used)
      → whole (text ++ rest) r' ≡ Ok (moved_network size w, used)
  whole_keeps w used (Ok (v, p)) r' keeps e =
      let there = keeps v p refl in
      let here = made_keeps v w used p (problem_fault v.sizes (tables v)) there.1 e in
      subst (λ (r : Result (Network × Place) Fault). whole (text ++ rest) r ≡ Ok (moved_network size w, used)) (sym there.0)
      (subst (λ (ts : List CostTable). made (text ++ rest) (moved_network size v) (moved size (words rest) p) (problem_fault v.sizes ts) ≡ Ok (moved_network size w, used))
      (sym (tables_same size v)) here)
  whole_keeps w used (Err fault) r' keeps e = absurd (cc)

  -- the network of the text, moved, is that of the text with what follows it
  pub network_kept : (w : Network) (used : ℕ) → text_read text ≡ Ok (w, used) → text_read (text ++ rest) ≡ Ok (moved_network size w, used)
  network_kept w used e =
      whole_keeps w used (network_read (words text)) (network_read (words (text ++ rest)))
      (subst (λ (ws : List Word). Keeps size (words rest) (moved_network size) (network_read (words text)) (network_read ws)) (sym (words_join bytes rest))
      (network_keeps size (words rest) (words text) (alone_before bytes))) e

-- no more bytes are used than there are
used_of : (bytes : List ℕ) (w : Network) (used line : ℕ) (v : Network) → ◌≡◌ {A = Result (Network × ℕ) Fault} (Ok (v, bytes_to bytes line)) (Ok (w, used)) → used ≤ length bytes
used_of bytes w used line v e =
    let same : ◌≡◌ {A = Network × ℕ} (v, bytes_to bytes line) (w, used) = cc in
    subst (λ (k : ℕ). k ≤ length bytes) (ap (λ (s : Network × ℕ). s.1) same) (bytes_within bytes line)

unless_used : (bytes : List ℕ) (t : Bool) (w : Network) (used line : ℕ) (v : Network) (fault : Fault) → ◌≡◌ {A = Result (Network × ℕ) Fault} (cond t (Err fault) (Ok (v, bytes_to bytes line))) (Ok (w, used))
    → used ≤ length bytes
unless_used bytes true w used line v fault e = absurd (cc)
unless_used bytes false w used line v fault e = used_of bytes w used line v e

ended_used : (bytes : List ℕ) (v w : Network) (used after : ℕ) (ws : List Word) → ended bytes v after ws ≡ Ok (w, used) → used ≤ length bytes
ended_used bytes v w used after [] e = used_of bytes w used (line_at bytes after) v e
ended_used bytes v w used after (word ∷ ws) e =
    unless_used bytes (nat_eq (line_at bytes word.after) (line_at bytes after)) w used (line_at bytes after) v (record { after = word.after; kind = AfterEnd }) e

made_used : (bytes : List ℕ) (v w : Network) (used : ℕ) (p : Place) (o : Option ProblemFault) → made bytes v p o ≡ Ok (w, used) → used ≤ length bytes
made_used bytes v w used p (Some fault) e = absurd (cc)
made_used bytes v w used p None e = ended_used bytes v w used p.after p.words e

whole_used : (bytes : List ℕ) (w : Network) (used : ℕ) (r : Result (Network × Place) Fault) → whole bytes r ≡ Ok (w, used) → used ≤ length bytes
whole_used bytes w used (Ok (v, p)) e = made_used bytes v w used p (problem_fault v.sizes (tables v)) e
whole_used bytes w used (Err fault) e = absurd (cc)

pub network_used : (bytes : List ℕ) (w : Network) (used : ℕ) → text_read bytes ≡ Ok (w, used) → used ≤ length bytes
network_used bytes w used e = whole_used bytes w used (network_read (words bytes)) e
