use Rattle.std.proofs.Common.{◌≡◌, ℕ, ◌≤◌, List, map, length, min, sym, ap, subst, ◌∙◌, arith}
use Rattle.std.proofs.lemmas.List.{length-map}
use Rattle.dcop_base.specs.Limits.{variable_limit}
use Rattle.letter_queues.proofs.ListLaws.{written_back}
use Rattle.delivery_core.specs.State.{SeatView}
use Rattle.delivery_core.specs.NetworkState.{most_counted}
use Rattle.delivery_core.specs.Agents.{agents_of, network_of}
use Rattle.delivery_core.specs.Starts.{new_seat, Begun}
use Rattle.delivery_core.specs.Shown.{ShowsNetwork}
use Rattle.delivery_core.proofs.StartLaws.{begun_agents, begun_all, none_delivered}
use Rattle.delivery_core.proofs.state.CoreState.start.Goals as goal

pub start_all-requires-clause-begun : goal.start_all-requires-clause-begun
start_all-requires-clause-begun c =
    let p = c.args.problem.now in
    let is : map new_seat (agents_of p c.args.start.now) ≡ c.as_mut_slice.result.now = sym (c.as_mut_slice.ensures.value ∙ c.in_ok-seats.ensures.made) in
    (p, agents_of p c.args.start.now, subst (λ (xs : List SeatView). Begun p (agents_of p c.args.start.now) 0 xs) is (begun_agents p c.args.start.now))

pub start_all-requires-clause-few : goal.start_all-requires-clause-few
start_all-requires-clause-few c = subst (λ (xs : List SeatView). length xs ≤ variable_limit) (sym c.as_mut_slice.ensures.value) c.in_ok-seats.ensures.few

pub returns-clause-core : goal.returns-clause-core
returns-clause-core c =
    let p = c.args.problem.now in
    let made = agents_of p c.args.start.now in
    let is : map new_seat made ≡ c.as_mut_slice.result.now = sym (c.as_mut_slice.ensures.value ∙ c.in_ok-seats.ensures.made) in
    let begun : Begun p made 0 c.as_mut_slice.result.now = subst (λ (xs : List SeatView). Begun p made 0 xs) is (begun_agents p c.args.start.now) in
    let size : length c.as_mut_slice.result.now ≡ length made = sym (ap (λ (xs : List SeatView). length xs) is) ∙ length-map made new_seat in
    let end : Begun p made (length made) c.start_all.new.seats = subst (λ (n : ℕ). Begun p made n c.start_all.new.seats) size (c.in_ok-start_all.ensures.started p made begun) in
    let vec = c.in_ok-seats.seats in
    let same : length c.start_all.new.seats ≡ vec.len = omega arith in
    let back = written_back vec.len c.start_all.new.seats vec.items same (sym vec.ok.0) in
    record { shows = subst (λ (xs : List SeatView). ShowsNetwork p (network_of p c.args.start.now) xs) (sym back) (begun_all p made c.start_all.new.seats end); delivered = sym (ap (λ (n : ℕ). min n most_counted) (none_delivered made)) }
