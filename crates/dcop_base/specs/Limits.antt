-- The limits of the product, each written as a number. No limit here is taken from a constant of the code, so code with another limit is refused.
use Rattle.std.specs.Prelude.{ℕ}

-- the greatest amount, 2^62: no cost, bound, threshold or UTIL cell is above it
abbrev pub amount_limit : ℕ
amount_limit = 4611686018427387904

-- the greatest number that is reported as a count of cells, assignments, deliveries or faults, or as a place in a stream, 2^64 - 1; a greater one is reported as this number
abbrev pub count_limit : ℕ
count_limit = 18446744073709551615

-- the most variables of a problem
abbrev pub variable_limit : ℕ
variable_limit = 1000

-- the most values of a variable
abbrev pub size_limit : ℕ
size_limit = 1024

-- the most variables of a table
abbrev pub scope_limit : ℕ
scope_limit = 4

-- the greatest cost in a cell of a problem's tables, 2^50
abbrev pub cost_limit : ℕ
cost_limit = 1125899906842624

-- the most cells of all tables of a problem, 2^22
abbrev pub cell_limit : ℕ
cell_limit = 4194304

-- the most digits of a number in a text
abbrev pub digit_limit : ℕ
digit_limit = 19

-- the most bytes of a name
abbrev pub name_limit : ℕ
name_limit = 32

-- the most bytes of an input, 2^28
abbrev pub input_limit : ℕ
input_limit = 268435456

-- the most assignments that the plain method tries
abbrev pub assignment_limit : ℕ
assignment_limit = 65536

-- the most cells of an agent's joined table in a narrow tree, 2^20, and so of a table in a message; it is also the greatest argument of `--cells`
abbrev pub joined_limit : ℕ
joined_limit = 1048576

-- the most cells that all agents of a light tree send together, 2^22
abbrev pub sent_limit : ℕ
sent_limit = 4194304

-- the most turns of a cut, one for each list of values of the cut variables
abbrev pub turn_limit : ℕ
turn_limit = 65536

-- the greatest budget of deliveries
abbrev pub budget_limit : ℕ
budget_limit = 10000000

-- the most workers of a run
abbrev pub worker_limit : ℕ
worker_limit = 64

-- the most nodes of a run
abbrev pub node_limit : ℕ
node_limit = 8

-- the greatest seed of a stream of random numbers
abbrev pub seed_limit : ℕ
seed_limit = 9999999999999999999

-- the most values of a variable in a generated problem
abbrev pub made_size_limit : ℕ
made_size_limit = 16

-- the most tables that a variable of a generated problem shares with earlier variables
abbrev pub made_degree_limit : ℕ
made_degree_limit = 8

-- the greatest cost that a cell of a generated problem may have
abbrev pub made_cost_limit : ℕ
made_cost_limit = 1000000
