use Rattle.std.proofs.Common.{◌≡◌, ℕ, List, Ok, Err, min, sym, ◌∙◌, subst}
use Rattle.dcop_base.specs.Made.{IsProblemOf, MakesProblem}
use Rattle.wcsp_text.specs.Networks.{Network}
use Rattle.wcsp_text.specs.Problems.{hard}
use Rattle.wcsp_text.specs.Made.{MakesProblemOf}
use Rattle.wcsp_text.proofs.MadeLaws.{made-ok, made-told, same-fault}
use Rattle.wcsp_text.proofs.problem.problem_of.Goals as goal

pub returns-in-Ok : goal.returns-in-Ok
returns-in-Ok c =
    let w : Network = record { top = c.network.inside.top; sizes = c.network.inside.sizes.items; functions = c.network.inside.functions.items } in
    let most = subst (λ (w : Network). c.args.hard ≡ min (hard w) 18446744073709551615) (sym c.network.view_is) c.requires in
    let made = subst (λ (sizes : List ℕ). IsProblemOf sizes c.from_vec-2.result c.in-Ok.problem) c.from_vec.ensures c.in-Ok.ensures in
    subst (λ (w : Network). MakesProblemOf w (Ok c.in-Ok.problem)) c.network.view_is (made-ok w c.args.hard c.from_vec-2.result c.in-Ok.problem most (c.from_vec-2.ensures ∙ c.in_ok-made.ensures.tables) made)

pub returns : goal.returns
returns c =
    let w : Network = record { top = c.network.inside.top; sizes = c.network.inside.sizes.items; functions = c.network.inside.functions.items } in
    let most = subst (λ (w : Network). c.args.hard ≡ min (hard w) 18446744073709551615) (sym c.network.view_is) c.requires in
    let made = subst (λ (sizes : List ℕ). MakesProblem sizes c.from_vec-2.result (Err c.in-Err.fault)) c.from_vec.ensures c.in-Err.ensures in
    let same = same-fault w c.args.hard c.from_vec-2.result most (c.from_vec-2.ensures ∙ c.in_ok-made.ensures.tables) in
    subst (λ (w : Network). MakesProblemOf w (Err c.told.result)) c.network.view_is (made-told w c.in-Err.fault c.from_vec-2.result c.as_slice.result.now c.told.result same made c.told.ensures (c.as_slice.ensures.value ∙ c.in_ok-made.ensures.afters))
