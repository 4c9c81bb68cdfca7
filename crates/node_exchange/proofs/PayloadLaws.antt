-- Payloads: how long they are, and that they are read in one way.
use Rattle.std.proofs.Common.{◌≡◌, ℕ, suc, ◌+◌, ◌*◌, ◌≤◌, List, [], ◌∷◌, ◌++◌, length, Option, Some, None, refl, sym, subst, arith}
use Rattle.std.specs.List.{flat_map}
use Rattle.std.specs.Int.{w16, w32, to_be_bytes}
use Rattle.std.proofs.lemmas.List.{length-append}
use Rattle.adopt_context.specs.Context.{Context, AscendsFrom}
use Rattle.protocol_steps.specs.declared.message.Message.{Message}
use Rattle.protocol_steps.specs.declared.message.Message.TheVariants.{Token, Done, Util, ValueAll, Value, Cost, Threshold, Terminate}
use Rattle.protocol_steps.specs.Ranges.{AreVariables, AreCells, IsContext}
use Rattle.message_code.specs.Code.{variable_code, amount_code, pair_code, list_code, context_code, bound_code, tag_of, fields_code, code_of}
use Rattle.message_code.specs.Decode.{IsEnvelope}
use Rattle.message_code.proofs.ContextLaws.{few_pairs}
use Rattle.node_exchange.specs.Payloads.{payload_code}

variables_long : (vs : List ℕ) → length (flat_map variable_code vs) ≡ 4 * length vs
variables_long [] = refl
variables_long (v ∷ vs) = let front = length-append (variable_code v) (flat_map variable_code vs) in let one : length (variable_code v) ≡ 4 = refl in let rest = variables_long vs in omega (arith, front, one, rest)

amounts_long : (cs : List ℕ) → length (flat_map amount_code cs) ≡ 8 * length cs
amounts_long [] = refl
amounts_long (c ∷ cs) = let front = length-append (amount_code c) (flat_map amount_code cs) in let one : length (amount_code c) ≡ 8 = refl in let rest = amounts_long cs in omega (arith, front, one, rest)

pairs_long : (ps : Context) → length (flat_map pair_code ps) ≡ 6 * length ps
pairs_long [] = refl
pairs_long (p ∷ ps) = let front = length-append (pair_code p) (flat_map pair_code ps) in let one : length (pair_code p) ≡ 6 = refl in let rest = pairs_long ps in omega (arith, front, one, rest)

variables_few : (vs : List ℕ) → AreVariables vs → length (list_code variable_code vs) ≤ 5000
variables_few vs r =
    let few = r.few in
    let long = variables_long vs in
    let front = length-append (to_be_bytes w32 (length vs)) (flat_map variable_code vs) in
    let field : length (to_be_bytes w32 (length vs)) ≡ 4 = refl in
    omega (arith, few, long, front, field)

cells_few : (cs : List ℕ) → AreCells cs → length (list_code amount_code cs) ≤ 8400000
cells_few cs r =
    let few = r.few in
    let long = amounts_long cs in
    let front = length-append (to_be_bytes w32 (length cs)) (flat_map amount_code cs) in
    let field : length (to_be_bytes w32 (length cs)) ≡ 4 = refl in
    omega (arith, few, long, front, field)

context_few : (c : Context) → AscendsFrom 0 c → IsContext c → length (context_code c) ≤ 7000
context_few c up r =
    let few = few_pairs 0 c up r (omega arith) in
    let long = pairs_long c in
    let front = length-append (to_be_bytes w32 (length c)) (flat_map pair_code c) in
    let field : length (to_be_bytes w32 (length c)) ≡ 4 = refl in
    omega (arith, few, long, front, field)

bound_few : (b : Option ℕ) → length (bound_code b) ≤ 9
bound_few None = omega arith
bound_few (Some u) = let one : length (amount_code u) ≡ 8 = refl in omega (arith, one)

fields_few : (e : ℕ × Message) → IsEnvelope e → length (fields_code e.1) ≤ 8500000
fields_few (s, Token path) r = let few = variables_few path r.message in omega (arith, few)
fields_few (s, Done visited) r = let few = variables_few visited r.message in omega (arith, few)
fields_few (s, Util scope cells) r =
    let one = variables_few scope r.message.0 in
    let two = cells_few cells r.message.1 in
    let both = length-append (list_code variable_code scope) (list_code amount_code cells) in
    omega (arith, one, two, both)
fields_few (s, ValueAll values) r = let few = context_few values r.context r.message in omega (arith, few)
fields_few (s, Value value) r = let long : length (to_be_bytes w16 value) ≡ 2 = refl in omega (arith, long)
fields_few (s, Cost context lower upper) r =
    let one = context_few context r.context r.message.0 in
    let two = bound_few upper in
    let amount : length (amount_code lower) ≡ 8 = refl in
    let both = length-append (context_code context) (amount_code lower ++ bound_code upper) in
    let last = length-append (amount_code lower) (bound_code upper) in
    omega (arith, one, two, amount, both, last)
fields_few (s, Threshold amount context) r =
    let one = context_few context r.context r.message.1 in
    let long : length (amount_code amount) ≡ 8 = refl in
    let both = length-append (amount_code amount) (context_code context) in
    omega (arith, one, long, both)
fields_few (s, Terminate context) r = let few = context_few context r.context r.message in omega (arith, few)

-- a payload is short enough for a frame
pub payload_short : (from to : ℕ) (e : ℕ × Message) → IsEnvelope e → length (payload_code from to e) ≤ 16777216
payload_short from to e r =
    let fields = fields_few e r in
    let stamp : length (amount_code e.0) ≡ 8 = refl in
    let sender : length (to_be_bytes w32 from) ≡ 4 = refl in
    let receiver : length (to_be_bytes w32 to) ≡ 4 = refl in
    let one = length-append (to_be_bytes w32 from) (to_be_bytes w32 to ++ code_of e) in
    let two = length-append (to_be_bytes w32 to) (code_of e) in
    let three : length (code_of e) ≡ 8 + suc (length (fields_code e.1)) = length-append (amount_code e.0) (tag_of e.1 ∷ fields_code e.1) in
    omega (arith, fields, stamp, sender, receiver, one, two, three)

pub short_code : (bytes : List ℕ) (from to : ℕ) (e : ℕ × Message) → bytes ≡ payload_code from to e → IsEnvelope e → length bytes ≤ 16777216
short_code bytes from to e is r = subst (λ (bs : List ℕ). length bs ≤ 16777216) (sym is) (payload_short from to e r)
