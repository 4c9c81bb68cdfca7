-- The agents in a run of ADOPT, and what they send.
use Rattle.std.specs.Prelude.{◌≡◌, ℕ, ◌+◌, ◌<◌, ◌≤◌, true, List, length, Some, slice_get, slice_index}
use Rattle.std.specs.List.{All}
use Rattle.dcop_base.specs.Problem.{Dcop}
use Rattle.dcop_base.specs.Knowledge.{private_of}
use Rattle.pseudotree.specs.Tree.{children_of, is_above, IsRoot}
use Rattle.adopt_context.specs.Context.{value_in, put, names_all}
use Rattle.adopt_context.specs.Bounds.{Entry, row_at, entry_at}
use Rattle.adopt_context.specs.Allot.{share_sum}
use Rattle.protocol_steps.specs.declared.message.Message.{Message}
use Rattle.protocol_steps.specs.declared.message.Message.TheVariants.{Cost}
use Rattle.protocol_steps.specs.Adopt.{AdoptView, higher}
use Rattle.protocol_steps.specs.AdoptBounds.{delta, lower_bound, upper_bound}
use Rattle.protocol_steps.specs.View.{View, AdoptKind, OfAdopt, made_of}
use Rattle.dcop_optimum.specs.Optimum.{IsOptimum}
use Rattle.dcop_optimum.specs.Enclosing.{IsAtMost, Encloses}
use Rattle.protocol_steps.specs.TreeAgents.{place_at}
use Rattle.run_laws.specs.AdoptLaws.{EntriesHold}
use Rattle.run_laws.specs.AdoptUncut.{AreUncut}

-- a pair of a context gives a proper ancestor of i one of its values
abbrev pub IsValueAbove : Dcop → List (List ℕ) → ℕ → ℕ × ℕ → Type 0
IsValueAbove p paths i q = (is_above paths q.0 i ≡ true) × (q.1 < slice_index p.sizes q.0)

-- an entry of variable i, for its value d and its child in place k: the bounds enclose the child's
-- subtree optimum, under the entry's context together with the value d of variable i
abbrev pub EntryEncloses : Dcop → List (List ℕ) → ℕ → ℕ → ℕ → Entry → Type 0
EntryEncloses p paths i d k e = Encloses p paths (slice_index (children_of paths i) k) (value_in (put e.context i d)) e.lower e.upper

-- what holds of the agent of variable i: it was made from what variable i knows, its place and the error; it knows only values of its proper ancestors, each below its variable's size; it has for each own value a row with one entry for each child; its bounds enclose its subtree optimum under what it knows, and each entry's bounds enclose that of its child; none of its bounds is cut off at the cap; and if it knows all higher neighbours, its threshold is the cost of its value plus the shares of its children
pub record IsAgentOf (p : Dcop) (paths : List (List ℕ)) (error i : ℕ) (v : AdoptView) : Type 0 where
  pub made : made_of (AdoptKind v) ≡ OfAdopt (private_of p i) (place_at p paths i) error
  pub value_below : v.value < slice_index p.sizes i
  pub known_fits : All (IsValueAbove p paths i) v.known
  pub wide : (d : ℕ) → d < slice_index p.sizes i → length (row_at v.rows d) ≡ length (children_of paths i)
  pub bounds : Encloses p paths i (value_in v.known) (lower_bound v) (upper_bound v)
  pub entries : (d k : ℕ) → k < length (children_of paths i) → EntryEncloses p paths i d k (entry_at v.rows d k)
  pub hold : EntriesHold v
  pub uncut : AreUncut p i v
  pub whole : names_all v.known (higher v) ≡ true → v.threshold ≡ delta v v.value + share_sum (row_at v.rows v.value)
  pub at_root : IsRoot paths i → (m : ℕ) → IsOptimum p m → (lower_bound v ≤ m) × IsAtMost m (upper_bound v)

-- the agents of all variables
abbrev pub AreAgents : Dcop → List (List ℕ) → ℕ → List View → Type 0
AreAgents p paths error views = (i : ℕ) → i < length p.sizes → (v : AdoptView) × (slice_get views i ≡ Some (AdoptKind v)) × IsAgentOf p paths error i v

-- what variable i may send: the context of a COST gives proper ancestors values below their sizes, and its bounds enclose the variable's subtree optimum under the context
abbrev pub IsSent : Dcop → List (List ℕ) → ℕ → Message → Type 0
IsSent p paths i (Cost context lower upper) = All (IsValueAbove p paths i) context × Encloses p paths i (value_in context) lower upper
IsSent p paths i message = Unit {0}
