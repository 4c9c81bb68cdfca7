-- The table of options: their words, and the numbers that they take.
use Rattle.std.specs.Prelude.{ℕ, ◌≤◌, List, [], ◌∷◌, Option, bytes_eq, codes, find}
use Rattle.dcop_base.specs.Limits.{amount_limit, budget_limit, variable_limit, size_limit, joined_limit, worker_limit, node_limit, seed_limit}
use Rattle.dcop_base.specs.Limits.{made_size_limit, made_degree_limit, made_cost_limit}
use Rattle.solve_words.specs.declared.options.WordOption.{WordOption}
use Rattle.solve_words.specs.declared.options.WordOption.TheVariants.{Method, Certificate, Format, After, Number}
use Rattle.solve_words.specs.declared.options.Numbers.{Numbers}
use Rattle.solve_words.specs.declared.options.Quantity.{Quantity}
use Rattle.solve_words.specs.declared.options.Quantity.TheVariants.{Workers, Error, Budget, Nodes, Seed, Vars, Size, Degree, Top, Cells}

-- the word that names an option
abbrev pub word_of : WordOption → List ℕ
word_of Method = codes "--method"
word_of Certificate = codes "--certificate"
word_of Format = codes "--format"
word_of After = codes "--after"
word_of (Number Workers) = codes "--workers"
word_of (Number Error) = codes "--error"
word_of (Number Budget) = codes "--budget"
word_of (Number Nodes) = codes "--nodes"
word_of (Number Seed) = codes "--seed"
word_of (Number Vars) = codes "--vars"
word_of (Number Size) = codes "--size"
word_of (Number Degree) = codes "--degree"
word_of (Number Top) = codes "--top"
word_of (Number Cells) = codes "--cells"

-- all options, each once
abbrev pub options : List WordOption
options =
    Method ∷ Certificate ∷ Format ∷ After
    ∷ Number Workers ∷ Number Error ∷ Number Budget ∷ Number Nodes ∷ Number Seed
    ∷ Number Vars ∷ Number Size ∷ Number Degree ∷ Number Top ∷ Number Cells ∷ []

-- the option that a word names
abbrev pub option_named : List ℕ → Option WordOption
option_named word = find (λ option. bytes_eq (word_of option) word) options

-- the most events that a replay can be asked to play
abbrev pub most_replayed : ℕ
most_replayed = 1000000000

-- the range of an option's number, and its value if the option is not given
abbrev pub numbers_of : Quantity → Numbers
numbers_of Workers = record { least = 1; most = worker_limit; default = 1 }
numbers_of Error = record { least = 0; most = amount_limit; default = 0 }
numbers_of Budget = record { least = 0; most = budget_limit; default = 1000000 }
numbers_of Nodes = record { least = 1; most = node_limit; default = 1 }
numbers_of Seed = record { least = 0; most = seed_limit; default = 0 }
numbers_of Vars = record { least = 1; most = variable_limit; default = 20 }
numbers_of Size = record { least = 1; most = made_size_limit; default = 4 }
numbers_of Degree = record { least = 1; most = made_degree_limit; default = 2 }
numbers_of Top = record { least = 0; most = made_cost_limit; default = 100 }
numbers_of Cells = record { least = size_limit; most = joined_limit; default = joined_limit }

-- a number that an option takes
abbrev pub IsNumberOf : Quantity → ℕ → Type 0
IsNumberOf quantity number = ((numbers_of quantity).least ≤ number) × (number ≤ (numbers_of quantity).most)
