use Rattle.std.proofs.Common.{◌≡◌, ◌∙◌, ◌==◌, ◌&&◌, ◌||◌, ℕ, Bool, not, false, length, get_or, drop}
use Rattle.std.specs.List.{filter, range_with_len}
use Rattle.std.proofs.lemmas.Result.{IfOk-weaker}
use Rattle.dcop_base.specs.Graph.{share_table, are_joined}
use Rattle.dcop_base.proofs.KnowledgeLaws.{filter-marks}
use Rattle.dcop_base.proofs.part.neighbours_of.Goals as goal

pub returns : goal.returns
returns c =
    let me = c.args.me in
    let f : ℕ → Bool = λ v. not (me == v) && (share_table c.args.tables.now me v || are_joined c.args.joints.now me v) in
    let marks = c.as_slice.result.now in
    let new = c.mark_neighbours.new.marks in
    let taken = c.as_mut_slice.ensures.len ∙ c.in_ok-marks.ensures.len in
    let many : length new ≡ c.args.count = c.mark_neighbours.auto.marks ∙ taken in
    let same = filter-marks f c.in_ok-marks.marks.len c.args.count marks new (drop (length new) c.in_ok-marks.marks.items) c.as_slice.ensures.value many c.in_ok-marks.ensures.len (λ v lt. c.mark_neighbours.ensures v (rw taken lt)) in
    IfOk-weaker c.marked.result (λ vars. vars ≡ filter (λ v. get_or marks v false) (range_with_len 0 (length marks))) (λ vars. vars ≡ filter f (range_with_len 0 c.args.count)) (λ vars e. e ∙ same) c.marked.ensures
