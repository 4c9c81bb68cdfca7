use Rattle.std.proofs.Common.{◌≡◌, take}
use Rattle.delivery_core.proofs.exchange.copy_parcels.Given as goal

abbrev pub invariant-loop-parcel : goal.invariant-loop-parcel
invariant-loop-parcel l = l.copies.items ≡ take l.parcel-index l.parcels
