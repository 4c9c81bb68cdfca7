use Rattle.std.proofs.Common.{rules, arith, ℕ, ◌≤◌, ◌+◌, ◌*◌, ◌++◌, length, Result, refl, sym, subst}
use Rattle.std.specs.Prelude.{IfOk}
use Rattle.agent_cells.specs.declared.fault.VisitFault.{VisitFault}
use Rattle.agent_workers.specs.Turns.{sprint_limit}
use Rattle.agent_workers.proofs.PartLaws.{one_part, fit_together, few_together, accepts_all, low_accepts, high_accepts, cut_fits, cut_few, cut_parts}
use Rattle.agent_workers.proofs.parts.+parts.Goals as goal

pub play_beside-join_mut-first-requires-after_bounds : goal.play_beside-join_mut-first-requires-after_bounds
play_beside-join_mut-first-requires-after_bounds g t c κs within =
    let all = c.args.part.now ++ c.args.others.now in
    let fits = c.requires.within in (
      (low_accepts g.F.Fn c.args.play.now all c.args.part.now c.args.others.now refl c.requires.accepts, (search rules, search rules)),
      (
        search rules,
        (
          (λ a m. m),
          (
            (λ a m. m),
            (
              (λ a m. m),
              (
                (search rules, search rules, search rules, c.requires.size, high_accepts g.F.Fn c.args.play.now all c.args.part.now c.args.others.now refl c.requires.accepts, c.requires.few, omega (arith, fits)),
                (search rules, search rules, search rules),
              ),
            ),
          ),
        ),
      ),
    )

pub play_beside-both-requires : goal.play_beside-both-requires
play_beside-both-requires g t c = let e = c.join_mut-first.ensures in record {
  fits = fit_together _ _ (length c.args.part.now) (length c.args.others.now) c.requires.within (c.requires.few.each c.args.part.now _ _ e.0.met.1) e.1.met.1.1;
}

pub play_beside-returns-clause-parts : goal.play_beside-returns-clause-parts
play_beside-returns-clause-parts g t c =
    let e = c.join_mut-first.ensures in
    let parts = cut_parts g.F.Fn c.args.play.now (c.args.part.now ++ c.args.others.now) c.args.part.now c.args.others.now refl c.args.size _ _ _ _ _ c.both.ensures c.requires.part c.requires.others e.0.met.1 e.1.met.1.0 in
    search rules

pub play_beside-returns-clause-few : goal.play_beside-returns-clause-few
play_beside-returns-clause-few g t c = let e = c.join_mut-first.ensures in
    subst (λ (r : Result ℕ VisitFault). IfOk r (λ n. n ≤ (length c.args.part.now + length c.args.others.now) * sprint_limit)) (sym c.both.ensures)
    (few_together _ _ (length c.args.part.now) (length c.args.others.now) (c.requires.few.each c.args.part.now _ _ e.0.met.1) e.1.met.1.1)

pub play_parts-play_one-requires-after_bounds : goal.play_parts-play_one-requires-after_bounds
play_parts-play_one-requires-after_bounds g t c κs within = accepts_all g.F.Fn c.args.play.now c.args.all.now c.requires.accepts

pub play_parts-returns-then-all-size-clause-parts : goal.play_parts-returns-then-all-size-clause-parts
play_parts-returns-then-all-size-clause-parts g t c = one_part g.F.Fn c.args.play.now c.args.size c.args.all.now _ _ c.if-all-size.true c.play_one.ensures

pub play_parts-returns-then-all-size-clause-few : goal.play_parts-returns-then-all-size-clause-few
play_parts-returns-then-all-size-clause-few g t c = c.requires.few.each _ _ _ c.play_one.ensures

pub play_parts-play_one-first-requires-after_bounds : goal.play_parts-play_one-first-requires-after_bounds
play_parts-play_one-first-requires-after_bounds g t c κs within = low_accepts g.F.Fn c.args.play.now c.args.all.now c.split_at_mut-part.result.0.now c.split_at_mut-part.result.1.now c.split_at_mut-part.ensures.value c.requires.accepts

pub play_parts-play_parts-rest-requires-clause-accepts : goal.play_parts-play_parts-rest-requires-clause-accepts
play_parts-play_parts-rest-requires-clause-accepts g t c κs within = high_accepts g.F.Fn c.args.play.now c.args.all.now c.split_at_mut-part.result.0.now c.split_at_mut-part.result.1.now c.split_at_mut-part.ensures.value c.requires.accepts

pub play_parts-both-requires : goal.play_parts-both-requires
play_parts-both-requires g t c = record { fits = cut_fits g.F.Fn c.args.play.now c.args.all.now c.split_at_mut-part.result.0.now c.split_at_mut-part.result.1.now c.split_at_mut-part.ensures.value _ _ c.requires.within (c.requires.few.each _ _ _ c.play_one-first.ensures) c.play_parts-rest.ensures.few }

pub play_parts-returns-clause-parts : goal.play_parts-returns-clause-parts
play_parts-returns-clause-parts g t c = cut_parts g.F.Fn c.args.play.now c.args.all.now c.split_at_mut-part.result.0.now c.split_at_mut-part.result.1.now c.split_at_mut-part.ensures.value c.args.size _ _ _ _ _ c.both.ensures c.split_at_mut-part.ensures.front_len
    (let test = c.if-all-size.false in let back = c.split_at_mut-part.ensures.back_len in omega (arith, test, back)) c.play_one-first.ensures c.play_parts-rest.ensures.parts

pub play_parts-returns-clause-few : goal.play_parts-returns-clause-few
play_parts-returns-clause-few g t c = cut_few g.F.Fn c.args.play.now c.args.all.now c.split_at_mut-part.result.0.now c.split_at_mut-part.result.1.now c.split_at_mut-part.ensures.value _ _ _ c.both.ensures (c.requires.few.each _ _ _ c.play_one-first.ensures) c.play_parts-rest.ensures.few
