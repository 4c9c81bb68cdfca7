-- How many cells the tables of slices have.
use Rattle.std.proofs.Common.{◌≡◌, ℕ, ◌*◌, Bool, ◌&&◌, cond, eqb, List, length, map, ap, arith}
use Rattle.std.specs.List.{list_any, filter, sum_by, slice_index, range_with_len}
use Rattle.dcop_base.specs.Table.{product}
use Rattle.dcop_base.specs.Problem.{Dcop}
use Rattle.cost_table.specs.Slices.{ones_at}
use Rattle.pseudotree.specs.Tree.{path_of}
use Rattle.pseudotree.specs.Pseudotree.{is_within, separator_of}
use Rattle.pseudotree.specs.Width.{joined_cells, sent_total}
use Rattle.run_laws.specs.Slice.{slice_of}
use Rattle.run_laws.specs.CutSet.{counted, SlicesHaveCounted, CutSetsMakeNarrow}
use Rattle.run_laws.proofs.TreeLaws.{edges-sliced}

separator-sliced : (p : Dcop) (cut vs : List ℕ) (paths : List (List ℕ)) (i : ℕ) → separator_of (slice_of p cut vs) paths i ≡ separator_of (counted p cut) paths i
separator-sliced p cut vs paths i =
    ap (λ (edge : ℕ → ℕ → Bool). filter (λ a. list_any (λ v. is_within paths i v && edge v a) (range_with_len 0 (length paths))) (path_of paths i)) (edges-sliced p cut vs)

joined-sliced : (p : Dcop) (cut vs : List ℕ) (paths : List (List ℕ)) (i : ℕ) → joined_cells (slice_of p cut vs) paths i ≡ joined_cells (counted p cut) paths i
joined-sliced p cut vs paths i =
    ap (λ (separator : List ℕ). slice_index (ones_at cut p.sizes) i * product (map (slice_index (ones_at cut p.sizes)) separator)) (separator-sliced p cut vs paths i)

sent-sliced : (p : Dcop) (cut vs : List ℕ) (paths : List (List ℕ)) → sent_total (slice_of p cut vs) paths ≡ sent_total (counted p cut) paths
sent-sliced p cut vs paths =
    ap (λ (edge : ℕ → ℕ → Bool). sum_by (λ i. cond (eqb (length (path_of paths i)) 0) 0
    (product (map (slice_index (ones_at cut p.sizes)) (filter (λ a. list_any (λ v. is_within paths i v && edge v a) (range_with_len 0 (length paths))) (path_of paths i)))))
    (range_with_len 0 (length paths))) (edges-sliced p cut vs)

pub slices_have_counted : SlicesHaveCounted
slices_have_counted p cut vs paths = record { joined = joined-sliced p cut vs paths; sent = sent-sliced p cut vs paths }

pub cut_sets_make_narrow : CutSetsMakeNarrow
cut_sets_make_narrow p paths limit cut h = record {
  within = λ vs i lt. (let same = joined-sliced p cut vs paths i in let low = h.narrow i lt in omega (arith, same, low));
  narrow = λ vs le i lt. (let same = joined-sliced p cut vs paths i in let low = h.narrow i lt in omega (arith, same, low, le));
}
