use Rattle.std.proofs.Common.{◌≡◌, ◌-◌, None, position, length}
use Rattle.dcop_base.specs.Faults.{is_bad_size}
use Rattle.wcsp_text.specs.Numbers.{place}
use Rattle.wcsp_text.specs.Networks.{sizes_read}
use Rattle.wcsp_text.proofs.ScopeLaws.{behind}
use Rattle.wcsp_text.proofs.network.sizes_in.Given as goal

-- the sizes so far, with those that are left, are the whole
abbrev pub invariant-loop : goal.invariant-loop
invariant-loop l =
    (behind l.sizes.items (sizes_read (l.count - l.counter) (place l.rest)) ≡ sizes_read l.count (place l.text))
    × (length l.sizes.items ≡ l.counter)
    × (position is_bad_size l.sizes.items ≡ None)
