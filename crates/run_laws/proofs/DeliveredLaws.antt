-- What was delivered in a network of token agents.
use Rattle.std.proofs.Common.{◌≡◌, ℕ, ◌<◌, Bool, List, length, take, Option, ap, ◌∙◌}
use Rattle.std.proofs.Math.Seq.{take-append_seam}
use Rattle.std.specs.List.{count_by}
use Rattle.protocol_steps.specs.declared.message.Message.{Message}
use Rattle.protocol_steps.specs.Network.{Desk, Network, taken_from, takes_at, link}
use Rattle.protocol_steps.specs.Delivered.{taken_on, delivered}
use Rattle.protocol_steps.proofs.DeliveredLaws.{total, delivered_are}
use Rattle.run_laws.proofs.Serial.{Serial}
use Rattle.run_laws.proofs.NetworkLaws.{message_on, IsSerial}

module _ (n : ℕ) (net : Network) (s : Serial) (is : IsSerial n net s) where
  taken_is : (i j : ℕ) → i < n → taken_on net.desks i j ≡ is.past i j
  taken_is i j lt =
      ap (λ (o : Option Desk). take (taken_from j (takes_at o)) (link net.desks j i)) (is.desks i lt)
      ∙ ap (λ (k : ℕ). take k (link net.desks j i)) (is.taken i j lt)
      ∙ ap (λ (ms : List Message). take (length (is.past i j)) ms) (is.sent i j lt)
      ∙ take-append_seam (is.past i j) (message_on s.flight j i)

  -- the delivered messages that pass a test
  pub told : (test : Message → Bool) → count_by test (delivered net) ≡ total test n is.past
  told test = delivered_are n net is.past is.size (λ i j lt known. taken_is i j lt) test
