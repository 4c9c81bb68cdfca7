use Rattle.std.proofs.Common.{◌≡◌, ◌<◌, ℕ, ◌+◌, ◌-◌, ◌*◌, ◌≤◌, length, get_or, length-take, take, refl, subst, ◌∙◌, arith}
use Rattle.std.proofs.lemmas.Nat.{mul-le}
use Rattle.util_project.specs.Projection.{IsLeast}
use Rattle.util_project.proofs.LeastLaws.{appends-run, written-back, tail-long}
use Rattle.util_project.proofs.leasts.append_by_lanes.Goals as goal

pub returns : goal.returns
returns c =
    let old = c.args.kept.now.items in
    let block = c.args.block.now in
    let inner = c.args.inner in
    let run = take inner block in
    let now = c.deref_mut.result.now in
    let low = c.lower.new.run in
    let start = c.len-start.result in
    let same = c.deref_mut.ensures.value ∙ c.in_ok-extend_from_slice.ensures.items in
    let begins : start ≡ length old = omega (arith, c.len-start.ensures, c.args.kept.now.ok.0) in
    let whole : 1 * inner ≤ c.args.size * inner = mul-le 1 inner c.args.size inner c.requires.runs (omega arith) in
    let run-long : length run ≡ inner = omega (arith, length-take inner block, whole, c.requires.full) in
    let tail = tail-long old run now start (length now - start) same begins refl ∙ run-long in
    let low-long : length low ≡ inner = c.lower.ensures.long ∙ tail in
    let ends : c.extend_from_slice.new.self.len ≡ length old + length low = omega (arith, c.in_ok-extend_from_slice.ensures.len, c.args.kept.now.ok.0, low-long, run-long) in
    let least = subst (λ (m : ℕ). (i : ℕ) → i < m → IsLeast (λ d. get_or block (d * m + i) 0) c.args.size (get_or low i 0)) tail c.lower.ensures.least in
    appends-run block c.args.size inner old low _ low-long least (written-back old run low _ _ now start _ same begins ends)
