-- Stamps: an agent's own account of what it did.
use Rattle.std.specs.Prelude.{ℕ, List, [], ◌++◌, map}
use Rattle.std.specs.List.{flat_map}
use Rattle.protocol_steps.specs.declared.message.Message.{Message}
use Rattle.protocol_steps.specs.View.{View}
use Rattle.protocol_steps.specs.Step.{step_of, start_of}

-- what one activation takes from one sender: messages with their stamps
pub record Gain : Type 0 where
  pub from : ℕ
  pub envelopes : List (ℕ × Message)

-- one activation: its agent, its stamp, and what it takes
pub record Deed : Type 0 where
  pub agent : ℕ
  pub stamp : ℕ
  pub gains : List Gain

-- a message that was sent: its receiver, and the message with its stamp
pub record Posted : Type 0 where
  pub to : ℕ
  pub envelope : ℕ × Message

-- an agent by its own account: its view, its last stamp, all that it sent and all that it took
pub record Account : Type 0 where
  pub view : View
  pub stamp : ℕ
  pub posted : List Posted
  pub gains : List Gain

-- what a step with this stamp sends
abbrev pub post : ℕ → List (ℕ × Message) → List Posted
post stamp sends = map (λ p. record { to = p.0; envelope = (stamp, p.1) }) sends

-- the letters in what is taken
abbrev pub letters_of : List Gain → List (ℕ × Message)
letters_of gains = flat_map (λ g. map (λ e. (g.from, e.1)) g.envelopes) gains

-- the account of an agent after its start, which has stamp 0
abbrev pub account_of : View → Account
account_of made = record { view = (start_of made).view; stamp = 0; posted = post 0 (start_of made).sends; gains = [] }

-- the account after one more activation
abbrev pub do_one : Account → Deed → Account
do_one x d = record {
  view = (step_of x.view (letters_of d.gains)).view;
  stamp = d.stamp;
  posted = x.posted ++ post d.stamp (step_of x.view (letters_of d.gains)).sends;
  gains = x.gains ++ d.gains;
}
