-- The wires of a plan after a fault.
use Rattle.std.proofs.Common.{◌≡◌, ℕ, List, Result, Ok, Err, sym, subst}
use Rattle.std.specs.Prelude.{IsErrAnd}
use Rattle.wire_pump.specs.Wire.{Told}
use Rattle.node_exchange.specs.declared.fault.PassFault.{PassFault}
use Rattle.node_exchange.specs.declared.fault.PassFault.TheVariants.{Failed as pass_failed, Bytes as pass_bytes, NoMemory as no_pass_memory}
use Rattle.node_exchange.specs.Turned.{AreTurned, lost_by as lost_in}
use Rattle.tcp_links.specs.declared.fault.NodeFault.{NodeFault}
use Rattle.tcp_links.specs.declared.fault.NodeFault.TheVariants.{Failed, Differs, NoMemory}
use Rattle.tcp_links.specs.Faults.{node_fault}
use Rattle.tcp_links.specs.Left.{pairs_lost_by}

module _ {W : Type 0} (told : W → Told) (is_joined : W → W → Type 0) (xs ys : List (W × W)) where
  same_lost : (S T : Type 0) (e : NodeFault) → AreTurned told is_joined (pairs_lost_by {T = S} (Err e)) xs ys → AreTurned told is_joined (pairs_lost_by {T = T} (Err e)) xs ys
  same_lost S T Failed t = t
  same_lost S T (Differs d) t = t
  same_lost S T NoMemory t = t

  -- a fault that is passed on
  pub turned_on : {T : Type 0} (S : Type 0) (r : Result T NodeFault) (e : NodeFault) → IsErrAnd r (λ x. x ≡ e) → AreTurned told is_joined (pairs_lost_by {T = S} (Err e)) xs ys → AreTurned told is_joined (pairs_lost_by r) xs ys
  turned_on S (Ok x) e h t = absurd h
  turned_on {T = T} S (Err x) e h t = subst (λ (f : NodeFault). AreTurned told is_joined (pairs_lost_by {T = T} (Err f)) xs ys) (sym h) (same_lost S T e t)

  -- a fault of an exchange
  pub turned_fault : (round : ℕ) (f : PassFault) → AreTurned told is_joined (lost_in {T = Unit {0}} (Err f)) xs ys → AreTurned told is_joined (pairs_lost_by {T = Unit {0}} (Err (node_fault round f))) xs ys
  turned_fault round pass_failed t = t
  turned_fault round (pass_bytes from_node to_node place sent taken) t = t
  turned_fault round no_pass_memory t = t
