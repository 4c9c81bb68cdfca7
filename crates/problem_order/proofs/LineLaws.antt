-- The lines of a file in another order.
use Rattle.std.proofs.Common.{◌≡◌, ℕ, ◌<◌, List, [], ◌∷◌, ◌++◌, length, get_or, map, refl, ap, ◌∙◌, arith}
use Rattle.std.specs.Prelude.{codes}
use Rattle.std.specs.List.{All, AllZip, slice_index}
use Rattle.std.specs.Fmt.{decimal}
use Rattle.std.proofs.lemmas.List.Elements.{All-head, All-tail}
use Rattle.problem_text.proofs.NamesLaws.{length-map}
use Rattle.dcop_base.specs.Table.{CostTable}
use Rattle.problem_text.specs.declared.file.Goal.{Goal}
use Rattle.problem_text.specs.Canonical.{opening_lines, variable_lines, variable_words, table_words}
use Rattle.problem_order.specs.Reordered.{IsTableFor}
use Rattle.problem_order.specs.Lines.{variable_line_of, ReorderedFilesKeepTheirLines}
use Rattle.problem_order.proofs.ReadLaws.{read_at}

variables_same : (name : ℕ → List ℕ) (size : ℕ → ℕ) (labels : ℕ → List (List ℕ)) (vs : List ℕ)
    → variable_lines (map name vs) (map size vs) (map labels vs) ≡ map (λ v. variable_words (name v) (size v) (labels v)) vs
variables_same name size labels [] = refl
variables_same name size labels (v ∷ vs) =
    ap (λ (ls : List (List (List ℕ))). variable_words (name v) (size v) (labels v) ∷ ls) (variables_same name size labels vs)

words_same : (names : List (List ℕ)) (order : List ℕ) (t u : CostTable) → IsTableFor order t u → All (λ v. v < length order) u.scope
    → table_words (map (λ v. get_or names v []) order) u ≡ table_words names t
words_same names order t u is within =
    ap (λ (ns : List (List ℕ)). codes "table" ∷ ns ++ (codes ":" ∷ map decimal u.cells))
    (read_at names [] order u.scope within ∙ ap (map (λ v. get_or names v [])) is.scope)
    ∙ ap (λ (cs : List ℕ). codes "table" ∷ map (λ v. get_or names v []) t.scope ++ (codes ":" ∷ map decimal cs)) is.cells

tables_same : (names : List (List ℕ)) (order : List ℕ) (ts us : List CostTable) → AllZip (IsTableFor order) ts us → All (λ u. All (λ v. v < length order) u.scope) us
    → map (table_words (map (λ v. get_or names v []) order)) us ≡ map (table_words names) ts
tables_same names order [] [] are within = refl
tables_same names order [] (u ∷ us) are within = absurd are
tables_same names order (t ∷ ts) [] are within = absurd are
tables_same names order (t ∷ ts) (u ∷ us) are within =
    ap (λ (ws : List (List ℕ)). ws ∷ map (table_words (map (λ v. get_or names v []) order)) us)
    (words_same names order t u are.0 (All-head (λ (w : CostTable). All (λ v. v < length order) w.scope) u us within))
    ∙ ap (λ (ls : List (List (List ℕ))). table_words names t ∷ ls) (tables_same names order ts us are.1 (All-tail (λ (w : CostTable). All (λ v. v < length order) w.scope) u us within))

pub reordered_files_keep_their_lines : ReorderedFilesKeepTheirLines
reordered_files_keep_their_lines old new order file file' whole whole' is =
    let end : List (List (List ℕ)) = (codes "end" ∷ []) ∷ [] in
    let count : length new.problem.sizes ≡ length order = ap length is.sizes ∙ length-map (λ v. slice_index old.problem.sizes v) order in
    let scopes : All (λ u. All (λ v. v < length order) u.scope) new.problem.tables = λ k d lt j e l. let below = (whole'.tables k d lt).within j e l in omega (arith, below, count) in
    let name : ℕ → List ℕ = λ v. get_or old.names v [] in
    let size : ℕ → ℕ = λ v. slice_index old.problem.sizes v in
    let label : ℕ → List (List ℕ) = λ v. get_or old.labels v [] in
    let opening : opening_lines new.version new.goal ≡ opening_lines old.version old.goal =
    ap (λ (n : ℕ). opening_lines n new.goal) is.version ∙ ap (λ (g : Goal). opening_lines old.version g) is.goal in
    let variables : variable_lines new.names new.problem.sizes new.labels ≡ map (variable_line_of old) order =
    ap (λ (ns : List (List ℕ)). variable_lines ns new.problem.sizes new.labels) is.names
    ∙ ap (λ (ss : List ℕ). variable_lines (map name order) ss new.labels) is.sizes
    ∙ ap (λ (ls : List (List (List ℕ))). variable_lines (map name order) (map size order) ls) is.labels
    ∙ variables_same name size label order in
    let tables : map (table_words new.names) new.problem.tables ≡ map (table_words old.names) old.problem.tables =
    ap (λ (ns : List (List ℕ)). map (table_words ns) new.problem.tables) is.names ∙ tables_same old.names order old.problem.tables new.problem.tables is.tables scopes in
    ap (λ (ls : List (List (List ℕ))). ls ++ variable_lines new.names new.problem.sizes new.labels ++ map (table_words new.names) new.problem.tables ++ end) opening
    ∙ ap (λ (ls : List (List (List ℕ))). opening_lines old.version old.goal ++ ls ++ map (table_words new.names) new.problem.tables ++ end) variables
    ∙ ap (λ (ls : List (List (List ℕ))). opening_lines old.version old.goal ++ map (variable_line_of old) order ++ ls ++ end) tables
