-- The peers of heads, by place.
use Rattle.std.proofs.Common.{◌≡◌, ℕ, zero, suc, ◌<◌, List, [], ◌∷◌, length, slice_index_or, ap, arith}
use Rattle.worker_laws.specs.Cells.{peers}
use Rattle.agent_cells.specs.Links.{Head, lanes_taken}

pub peer_at : (hs : List Head) (k d : ℕ) (h : Head) → k < length (peers (lanes_taken hs)) → h ≡ slice_index_or hs k h → h.0 ≡ slice_index_or (peers (lanes_taken hs)) k d
peer_at [] k d h lt e = absurd (omega (arith, lt))
peer_at (x ∷ hs) zero d h lt e = ap (λ (y : Head). y.0) e
peer_at (x ∷ hs) (suc k) d h lt e = peer_at hs k d h (omega (arith, lt)) e
