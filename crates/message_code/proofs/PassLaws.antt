-- The code of a message within its ranges is passed by the form of its fields.
use Rattle.std.proofs.Common.{◌≡◌, ℕ, ◌+◌, ◌<◌, ◌≤◌, ◌^◌, List, [], ◌∷◌, ◌++◌, length, All, Option, Some, None, sym, ap, ◌∙◌, arith}
use Rattle.std.specs.List.{flat_map}
use Rattle.std.specs.Int.{Width, w8, w16, w32, w64, to_be_bytes}
use Rattle.std.proofs.lemmas.List.{append-nil}
use Rattle.std.proofs.lemmas.List.Elements.{All-weaker}
use Rattle.dcop_base.specs.Limits.{amount_limit, variable_limit, size_limit, joined_limit}
use Rattle.adopt_context.specs.Context.{Context, AscendsFrom}
use Rattle.protocol_steps.specs.declared.message.Message.{Message}
use Rattle.protocol_steps.specs.declared.message.Message.TheVariants.{Token, Done, Util, ValueAll, Value, Cost, Threshold, Terminate}
use Rattle.protocol_steps.specs.Ranges.{AreVariables, AreCells, IsContext, IsBound, IsInRange}
use Rattle.message_code.specs.Code.{variable_code, amount_code, value_code, pair_code, list_code, context_code, bound_code, tag_of, fields_code, code_of}
use Rattle.message_code.specs.Decode.{HasContext, IsEnvelope, CodesAreGood}
use Rattle.message_code.specs.Form.{Form, ended, number, numbers, pairs, variable_list, cell_list, context, value, amount, flagged, bound, fields, envelope, first_fault}
use Rattle.message_code.proofs.NumberLaws.{IsWide, wide8, wide16, wide32, wide64}
use Rattle.message_code.proofs.PartLaws.{Passes, field_passes, passes_both}
use Rattle.message_code.proofs.ListLaws.{numbers_pass}
use Rattle.message_code.proofs.ContextLaws.{pairs_pass, few_pairs}

-- what follows, with nothing between
abbrev pub here : Form → Form
here next = next

list_passes : (w : Width) (most limit total : ℕ) → IsWide w most → limit ≤ most → total ≤ 2 ^ 32 → (ns rest : List ℕ) → All (λ n. n < limit) ns → length ns < total
    → Passes (λ (next : Form). number w32 0 total (λ k. numbers w limit k next)) here (list_code (to_be_bytes w) ns) rest
list_passes w most limit total wide le fits ns rest range few =
    passes_both (λ (next : Form). number w32 0 total (λ k. numbers w limit k next)) (numbers w limit (length ns)) here (to_be_bytes w32 (length ns)) (flat_map (to_be_bytes w) ns) rest
    (field_passes w32 _ wide32 0 total (length ns) (numbers w limit) (flat_map (to_be_bytes w) ns ++ rest) (omega arith) (omega arith) few)
    (λ next before. numbers_pass w most limit wide le ns (length ns) 0 next before rest range (omega arith))

pub variables_pass : (vs rest : List ℕ) → AreVariables vs → Passes variable_list here (list_code variable_code vs) rest
variables_pass vs rest h = list_passes w32 _ variable_limit (variable_limit + 1) wide32 (omega arith) (omega arith) vs rest h.below (let few = h.few in omega arith)

pub cells_pass : (cs rest : List ℕ) → AreCells cs → Passes cell_list here (list_code amount_code cs) rest
cells_pass cs rest h =
    let below : All (λ n. n < amount_limit + 1) cs = All-weaker (λ n. n ≤ amount_limit) (λ n. n < amount_limit + 1) (λ n le. omega arith) cs h.below in
    list_passes w64 _ (amount_limit + 1) (joined_limit + 1) wide64 (omega arith) (omega arith) cs rest below (let few = h.few in omega arith)

pub context_passes : (ps : Context) (rest : List ℕ) → AscendsFrom 0 ps → IsContext ps → Passes context here (context_code ps) rest
context_passes ps rest up range =
    let few : 0 + length ps ≤ variable_limit = few_pairs 0 ps up range (omega arith) in
    passes_both context (pairs (length ps) 0) here (to_be_bytes w32 (length ps)) (flat_map pair_code ps) rest
    (field_passes w32 _ wide32 0 (variable_limit + 1) (length ps) (λ k. pairs k 0) (flat_map pair_code ps ++ rest) (omega arith) (omega arith) (omega arith))
    (λ next before. pairs_pass 0 ps (length ps) 0 next before rest up range (omega arith))

pub amount_passes : (c : ℕ) (rest : List ℕ) → c ≤ amount_limit → Passes amount here (amount_code c) rest
amount_passes c rest le = field_passes w64 _ wide64 0 (amount_limit + 1) c (λ _ next. next) rest (omega arith) (omega arith) (omega arith)

pub value_passes : (a : ℕ) (rest : List ℕ) → a < size_limit → Passes value here (value_code a) rest
value_passes a rest lt = field_passes w16 _ wide16 0 size_limit a (λ _ next. next) rest (omega arith) (omega arith) lt

flag_passes : (flag : ℕ) (rest : List ℕ) → flag < 2 → Passes bound (flagged flag) (to_be_bytes w8 flag) rest
flag_passes flag rest lt = field_passes w8 _ wide8 0 2 flag flagged rest (omega arith) (omega arith) lt

pub bound_passes : (u : Option ℕ) (rest : List ℕ) → IsBound u → Passes bound here (bound_code u) rest
bound_passes None rest h = flag_passes 0 rest (omega arith)
bound_passes (Some u) rest h = passes_both bound (flagged 1) here (1 ∷ []) (amount_code u) rest (flag_passes 1 (amount_code u ++ rest) (omega arith)) (amount_passes u rest h)

pub fields_pass : (m : Message) (rest : List ℕ) → IsInRange m → HasContext m → Passes (fields (tag_of m)) here (fields_code m) rest
fields_pass (Token path) rest h k = variables_pass path rest h
fields_pass (Done visited) rest h k = variables_pass visited rest h
fields_pass (Util scope cells) rest h k =
    passes_both (fields 3) cell_list here (list_code variable_code scope) (list_code amount_code cells) rest (λ next. variables_pass scope (list_code amount_code cells ++ rest) h.0 (cell_list next)) (cells_pass cells rest h.1)
fields_pass (ValueAll values) rest h k = context_passes values rest k h
fields_pass (Value a) rest h k = value_passes a rest h
fields_pass (Cost c lower upper) rest h k =
    passes_both (fields 6) (λ next. amount (bound next)) here (context_code c) (amount_code lower ++ bound_code upper) rest (λ next. context_passes c ((amount_code lower ++ bound_code upper) ++ rest) k h.0 (amount (bound next)))
    (passes_both (λ next. amount (bound next)) bound here (amount_code lower) (bound_code upper) rest (λ next. amount_passes lower (bound_code upper ++ rest) h.1 (bound next)) (bound_passes upper rest h.2))
fields_pass (Threshold a c) rest h k =
    passes_both (fields 7) context here (amount_code a) (context_code c) rest (λ next. amount_passes a (context_code c ++ rest) h.0 (context next)) (context_passes c rest k h.1)
fields_pass (Terminate c) rest h k = context_passes c rest k h

-- tags are from 1 to 8
pub tag_range : (m : Message) → (1 ≤ tag_of m) × (tag_of m < 9)
tag_range (Token path) = (omega arith, omega arith)
tag_range (Done visited) = (omega arith, omega arith)
tag_range (Util scope cells) = (omega arith, omega arith)
tag_range (ValueAll values) = (omega arith, omega arith)
tag_range (Value a) = (omega arith, omega arith)
tag_range (Cost c lower upper) = (omega arith, omega arith)
tag_range (Threshold a c) = (omega arith, omega arith)
tag_range (Terminate c) = (omega arith, omega arith)

-- a byte is its number
pub byte_is : (n : ℕ) → n < 2 ^ 8 → to_be_bytes w8 n ≡ n ∷ []
byte_is n lt = ap (λ (x : ℕ). x ∷ []) (omega arith)

-- the tag is passed
pub tag_passes : (tag : ℕ) (rest : List ℕ) → 1 ≤ tag → tag < 9 → Passes (λ (next : Form). number w8 1 9 (λ t. fields t next)) (fields tag) (tag ∷ []) rest
tag_passes tag rest ge lt next before =
    let byte : to_be_bytes w8 tag ≡ tag ∷ [] = byte_is tag (omega arith) in
    ap (λ (x : List ℕ). first_fault (number w8 1 9 (λ t. fields t next)) before (x ++ rest)) (sym byte) ∙ field_passes w8 _ wide8 1 9 tag fields rest (omega arith) ge lt next before

-- the stamp, the tag and the fields
pub envelope_passes : (e : ℕ × Message) (rest : List ℕ) → IsEnvelope e → Passes envelope here (code_of e) rest
envelope_passes e rest h =
    let t = tag_range e.1 in
    passes_both envelope (λ next. number w8 1 9 (λ tag. fields tag next)) here (amount_code e.0) (tag_of e.1 ∷ fields_code e.1) rest
    (λ next. amount_passes e.0 ((tag_of e.1 ∷ fields_code e.1) ++ rest) h.stamp (number w8 1 9 (λ tag. fields tag next)))
    (passes_both (λ next. number w8 1 9 (λ tag. fields tag next)) (fields (tag_of e.1)) here (tag_of e.1 ∷ []) (fields_code e.1) rest
    (tag_passes (tag_of e.1) (fields_code e.1 ++ rest) t.0 t.1) (fields_pass e.1 rest h.message h.context))

pub codes_are_good : CodesAreGood
codes_are_good e h = ap (first_fault (envelope ended) 0) (sym (append-nil (code_of e))) ∙ envelope_passes e [] h ended 0
