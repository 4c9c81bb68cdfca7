use Rattle.std.proofs.Common.{◌≡◌, ℕ, ◌≤◌, List, ◌++◌, length, drop, ap, sym, subst, ◌∙◌}
use Rattle.std.specs.List.{All}
use Rattle.std.proofs.lemmas.List.{drop-drop, drop_at}
use Rattle.std.proofs.lemmas.List.Elements.{All-append, All-take, All-drop}
use Rattle.dcop_base.specs.Limits.{amount_limit}
use Rattle.adopt_bounds.proofs.allot.allot_at.Goals as goal

pub returns-clause-behind : goal.returns-clause-behind
returns-clause-behind c =
    let a = c.split_at_mut-share.result.0.now in
    let row = c.allot_row.new.share in
    let rest = c.split_at_mut-row.result.1.now in
    let long : length row ≡ c.args.width = c.allot_row.auto.share ∙ c.split_at_mut-row.ensures.front_len in
    sym (drop-drop c.args.width c.args.start (a ++ (row ++ rest)))
    ∙ ap (λ (xs : List ℕ). drop c.args.width xs) (drop_at a (row ++ rest) c.args.start c.split_at_mut-share.ensures.front_len)
    ∙ drop_at row rest c.args.width long
    ∙ c.split_at_mut-row.ensures.back
    ∙ ap (λ (xs : List ℕ). drop c.args.width xs) c.split_at_mut-share.ensures.back
    ∙ drop-drop c.args.width c.args.start c.args.share.now

pub returns-clause-share_within : goal.returns-clause-share_within
returns-clause-share_within c =
    let a = c.split_at_mut-share.result.0.now in
    let row = c.allot_row.new.share in
    let rest = c.split_at_mut-row.result.1.now in
    let front : All (λ s. s ≤ amount_limit) a = subst (λ (xs : List ℕ). All (λ s. s ≤ amount_limit) xs) (sym c.split_at_mut-share.ensures.front) (All-take (λ s. s ≤ amount_limit) c.args.start c.args.share.now c.requires.share_within) in
    let behind : All (λ s. s ≤ amount_limit) rest =
    subst (λ (xs : List ℕ). All (λ s. s ≤ amount_limit) xs) (sym (c.split_at_mut-row.ensures.back ∙ ap (λ (xs : List ℕ). drop c.args.width xs) c.split_at_mut-share.ensures.back))
    (All-drop (λ s. s ≤ amount_limit) c.args.width (drop c.args.start c.args.share.now) (All-drop (λ s. s ≤ amount_limit) c.args.start c.args.share.now c.requires.share_within)) in
    All-append (λ s. s ≤ amount_limit) a (row ++ rest) front (All-append (λ s. s ≤ amount_limit) row rest c.allot_row.ensures.share_within behind)
