-- Two different envelopes have different codes, part by part.
use Rattle.std.proofs.Common.{◌≡◌, ℕ, ◌<◌, ◌≤◌, ◌^◌, List, [], ◌∷◌, ◌++◌, length, take, drop, All, Some, None, refl, sym, ap, ◌∙◌, append_assoc, arith}
use Rattle.std.specs.List.{flat_map}
use Rattle.std.specs.Int.{Width, w16, w32, w64, byte_len, from_be_bytes, to_be_bytes}
use Rattle.std.proofs.lemmas.List.{take_at, drop_at}
use Rattle.std.proofs.lemmas.List.Concat.{flat_map-cons}
use Rattle.std.proofs.lemmas.List.Elements.{All-head, All-tail, All-weaker}
use Rattle.dcop_base.specs.Limits.{amount_limit, variable_limit, size_limit}
use Rattle.adopt_context.specs.Context.{Context, AscendsFrom}
use Rattle.protocol_steps.specs.declared.message.Message.{Message}
use Rattle.protocol_steps.specs.declared.message.Message.TheVariants.{Token, Done, Util, ValueAll, Value, Cost, Threshold, Terminate}
use Rattle.protocol_steps.specs.Ranges.{AreVariables, AreCells, IsContext, IsBound, IsInRange}
use Rattle.message_code.specs.Code.{variable_code, amount_code, value_code, pair_code, list_code, context_code, bound_code, tag_of, fields_code}
use Rattle.message_code.specs.Decode.{HasContext, CodesDiffer}
use Rattle.message_code.proofs.NumberLaws.{IsWide, wide16, wide32, wide64}
use Rattle.message_code.proofs.ContextLaws.{few_pairs}

-- a code tells its value and where it ends, among values that keep P
abbrev pub IsTold : {X : Type 0} → (X → Type 0) → (X → List ℕ) → Type 0
IsTold {X} P code = (a b : X) (x y : List ℕ) → P a → P b → code a ++ x ≡ code b ++ y → (a ≡ b) × (x ≡ y)

number_told : (w : Width) (most : ℕ) → IsWide w most → IsTold (λ n. n < most) (to_be_bytes w)
number_told w most wide a b x y lt_a lt_b e =
    let fronts : to_be_bytes w a ≡ to_be_bytes w b = sym (take_at (to_be_bytes w a) x (byte_len w) (wide.len a)) ∙ ap (take (byte_len w)) e ∙ take_at (to_be_bytes w b) y (byte_len w) (wide.len b) in
    (sym (wide.again a lt_a) ∙ ap (from_be_bytes w) fronts ∙ wide.again b lt_b, sym (drop_at (to_be_bytes w a) x (byte_len w) (wide.len a)) ∙ ap (drop (byte_len w)) e ∙ drop_at (to_be_bytes w b) y (byte_len w) (wide.len b))

apart : {X : Type 0} (code : X → List ℕ) (a : X) (xs : List X) (x : List ℕ) → flat_map code (a ∷ xs) ++ x ≡ code a ++ (flat_map code xs ++ x)
apart code a xs x = ap (λ (z : List ℕ). z ++ x) (flat_map-cons code a xs) ∙ append_assoc (code a) (flat_map code xs) x

items_told : {X : Type 0} (P : X → Type 0) (code : X → List ℕ) → IsTold P code → (xs ys : List X) (x y : List ℕ) → length xs ≡ length ys → All P xs → All P ys → flat_map code xs ++ x ≡ flat_map code ys ++ y → (xs ≡ ys) × (x ≡ y)
items_told P code told [] [] x y len p q e = (refl, e)
items_told P code told [] (b ∷ ys) x y len p q e = absurd (omega arith)
items_told P code told (a ∷ xs) [] x y len p q e = absurd (omega arith)
items_told P code told (a ∷ xs) (b ∷ ys) x y len p q e =
    let first = told a b (flat_map code xs ++ x) (flat_map code ys ++ y) (All-head P a xs p) (All-head P b ys q) (sym (apart code a xs x) ∙ e ∙ apart code b ys y) in
    let others = items_told P code told xs ys x y (omega arith) (All-tail P a xs p) (All-tail P b ys q) first.1 in
    (rw (first.0, others.0) refl, others.1)

list_told : {X : Type 0} (P : X → Type 0) (code : X → List ℕ) → IsTold P code → IsTold (λ (xs : List X). (length xs < 2 ^ 32) × All P xs) (list_code code)
list_told P code told xs ys x y p q e =
    let count = number_told w32 _ wide32 (length xs) (length ys) (flat_map code xs ++ x) (flat_map code ys ++ y) p.0 q.0 (sym (append_assoc (to_be_bytes w32 (length xs)) (flat_map code xs) x) ∙ e ∙ append_assoc (to_be_bytes w32 (length ys)) (flat_map code ys) y) in
    items_told P code told xs ys x y count.0 p.1 q.1 count.1

variables_told : IsTold AreVariables (list_code variable_code)
variables_told xs ys x y p q e =
    let wider : (vs : List ℕ) → AreVariables vs → (length vs < 2 ^ 32) × All (λ n. n < 2 ^ 32) vs = λ vs h. (let few = h.few in omega arith, All-weaker (λ n. n < variable_limit) (λ n. n < 2 ^ 32) (λ n lt. omega arith) vs h.below) in
    list_told (λ n. n < 2 ^ 32) variable_code (number_told w32 _ wide32) xs ys x y (wider xs p) (wider ys q) e

cells_told : IsTold AreCells (list_code amount_code)
cells_told xs ys x y p q e =
    let wider : (cs : List ℕ) → AreCells cs → (length cs < 2 ^ 32) × All (λ n. n < 2 ^ 64) cs = λ cs h. (let few = h.few in omega arith, All-weaker (λ n. n ≤ amount_limit) (λ n. n < 2 ^ 64) (λ n le. omega arith) cs h.below) in
    list_told (λ n. n < 2 ^ 64) amount_code (number_told w64 _ wide64) xs ys x y (wider xs p) (wider ys q) e

abbrev IsPair : ℕ × ℕ → Type 0
IsPair p = (p.0 < variable_limit) × (p.1 < size_limit)

pair_is : (a b : ℕ × ℕ) → a.0 ≡ b.0 → a.1 ≡ b.1 → a ≡ b
pair_is a b p q = ap (λ (x : ℕ). (x, a.1)) p ∙ ap (λ (x : ℕ). (b.0, x)) q

pair_told : IsTold IsPair pair_code
pair_told a b x y p q e =
    let first = number_told w32 _ wide32 a.0 b.0 (value_code a.1 ++ x) (value_code b.1 ++ y) (omega (arith, p.0)) (omega (arith, q.0)) (sym (append_assoc (variable_code a.0) (value_code a.1) x) ∙ e ∙ append_assoc (variable_code b.0) (value_code b.1) y) in
    let second = number_told w16 _ wide16 a.1 b.1 x y (omega (arith, p.1)) (omega (arith, q.1)) first.1 in
    (pair_is a b first.0 second.0, second.1)

abbrev IsAscending : Context → Type 0
IsAscending c = IsContext c × AscendsFrom 0 c

context_told : IsTold IsAscending context_code
context_told a b x y p q e =
    list_told IsPair pair_code pair_told a b x y (omega (arith, few_pairs 0 a p.1 p.0 (omega arith)), p.0) (omega (arith, few_pairs 0 b q.1 q.0 (omega arith)), q.0) e

amount_told : IsTold (λ n. n ≤ amount_limit) amount_code
amount_told a b x y p q e = number_told w64 _ wide64 a b x y (omega arith) (omega arith) e

bound_told : IsTold IsBound bound_code
bound_told None None x y p q e = (refl, cc)
bound_told None (Some b) x y p q e = absurd cc
bound_told (Some a) None x y p q e = absurd cc
bound_told (Some a) (Some b) x y p q e =
    let rest : amount_code a ++ x ≡ amount_code b ++ y = ap (drop 1) e in
    let t = amount_told a b x y p q rest in
    (ap Some t.0, t.1)

-- two parts, one behind the other
both_told : {X Y : Type 0} (P : X → Type 0) (Q : Y → Type 0) (first : X → List ℕ) (second : Y → List ℕ) → IsTold P first → IsTold Q second → (a b : X) (c d : Y) (x y : List ℕ) → P a → P b → Q c → Q d
    → (first a ++ second c) ++ x ≡ (first b ++ second d) ++ y → (a ≡ b) × (c ≡ d) × (x ≡ y)
both_told P Q first second p q a b c d x y pa pb qc qd e =
    let one = p a b (second c ++ x) (second d ++ y) pa pb (sym (append_assoc (first a) (second c) x) ∙ e ∙ append_assoc (first b) (second d) y) in
    let two = q c d x y qc qd one.1 in
    (one.0, two.0, two.1)

-- a message is told by its tag and its fields
message_told : (m n : Message) → IsInRange m → IsInRange n → HasContext m → HasContext n → tag_of m ≡ tag_of n → fields_code m ++ [] ≡ fields_code n ++ [] → m ≡ n
message_told (Token a) (Token b) p q h k t e = ap Token (variables_told a b [] [] p q e).0
message_told (Token a) n p q h k t e = absurd (omega arith)
message_told (Done a) (Done b) p q h k t e = ap Done (variables_told a b [] [] p q e).0
message_told (Done a) n p q h k t e = absurd (omega arith)
message_told (Util a c) (Util b d) p q h k t e =
    let told = both_told AreVariables AreCells (list_code variable_code) (list_code amount_code) variables_told cells_told a b c d [] [] p.0 q.0 p.1 q.1 e in
    ap (λ x. Util x c) told.0 ∙ ap (Util b) told.1
message_told (Util a c) n p q h k t e = absurd (omega arith)
message_told (ValueAll a) (ValueAll b) p q h k t e = ap ValueAll (context_told a b [] [] (p, h) (q, k) e).0
message_told (ValueAll a) n p q h k t e = absurd (omega arith)
message_told (Value a) (Value b) p q h k t e = ap Value (number_told w16 _ wide16 a b [] [] (omega arith) (omega arith) e).0
message_told (Value a) n p q h k t e = absurd (omega arith)
message_told (Cost a l u) (Cost b m v) p q h k t e =
    let first = context_told a b ((amount_code l ++ bound_code u) ++ []) ((amount_code m ++ bound_code v) ++ []) (p.0, h) (q.0, k)
    (sym (append_assoc (context_code a) (amount_code l ++ bound_code u) []) ∙ e ∙ append_assoc (context_code b) (amount_code m ++ bound_code v) []) in
    let others = both_told (λ n. n ≤ amount_limit) IsBound amount_code bound_code amount_told bound_told l m u v [] [] p.1 q.1 p.2 q.2 first.1 in
    ap (λ x. Cost x l u) first.0 ∙ ap (λ x. Cost b x u) others.0 ∙ ap (Cost b m) others.1
message_told (Cost a l u) n p q h k t e = absurd (omega arith)
message_told (Threshold a c) (Threshold b d) p q h k t e =
    let told = both_told (λ n. n ≤ amount_limit) IsAscending amount_code context_code amount_told context_told a b c d [] [] p.0 q.0 (p.1, h) (q.1, k) e in
    ap (λ x. Threshold x c) told.0 ∙ ap (Threshold b) told.1
message_told (Threshold a c) n p q h k t e = absurd (omega arith)
message_told (Terminate a) (Terminate b) p q h k t e = ap Terminate (context_told a b [] [] (p, h) (q, k) e).0
message_told (Terminate a) n p q h k t e = absurd (omega arith)

envelope_is : (d e : ℕ × Message) → d.0 ≡ e.0 → d.1 ≡ e.1 → d ≡ e
envelope_is d e p q = ap (λ (x : ℕ). (x, d.1)) p ∙ ap (λ (x : Message). (e.0, x)) q

heads : (m n : ℕ) (x y : List ℕ) → m ∷ x ≡ n ∷ y → (m ≡ n) × (x ≡ y)
heads m n x y e = (cc, cc)

pub codes_differ : CodesDiffer
codes_differ d e p q same =
    let stamp = amount_told d.0 e.0 (tag_of d.1 ∷ fields_code d.1) (tag_of e.1 ∷ fields_code e.1) p.stamp q.stamp same in
    let h = heads (tag_of d.1) (tag_of e.1) (fields_code d.1) (fields_code e.1) stamp.1 in
    envelope_is d e stamp.0 (message_told d.1 e.1 p.message q.message p.context q.context h.0 (ap (λ (x : List ℕ). x ++ []) h.1))
