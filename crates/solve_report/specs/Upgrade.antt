-- The text of a file that was read from a WCSP text.
use Rattle.std.specs.Prelude.{ℕ, List, [], ◌∷◌, ◌++◌, codes}
use Rattle.std.specs.Fmt.{decimal}
use Rattle.problem_text.specs.Canonical.{canonical, line}
use Rattle.problem_text.specs.File.{TextFile}

-- `# bar B`
abbrev pub bar_words : ℕ → List (List ℕ)
bar_words bar = codes "#" ∷ codes "bar" ∷ decimal bar ∷ []

-- the bar, and the canonical text of the file
abbrev pub barred_text : ℕ → TextFile → List ℕ
barred_text bar file = line (bar_words bar) ++ canonical file
