-- Token agents one message at a time: their views and the one message under way, without a network.
use Rattle.std.specs.Prelude.{◌≡◌, ℕ, zero, suc, ◌+◌, ◌<◌, Bool, false, List, [], ◌∷◌, Option, Some, None, ◌==◌, if◌then◌else◌}
use Rattle.protocol_steps.specs.declared.message.Message.{Message}
use Rattle.protocol_steps.specs.Agent.{Stepped}
use Rattle.protocol_steps.specs.Token.{TokenView}
use Rattle.protocol_steps.specs.TokenStep.{token_message}
use Rattle.run_laws.specs.TokenRun.{is_token, is_done}

-- a message under way
pub record Flight : Type 0 where
  pub from : ℕ
  pub to : ℕ
  pub message : Message

-- the views of all agents, the message under way, and how many TOKEN and DONE were taken
pub record Serial : Type 0 where
  pub views : ℕ → TokenView
  pub flight : Option Flight
  pub tokens : ℕ
  pub dones : ℕ

abbrev pub put : (ℕ → TokenView) → ℕ → TokenView → ℕ → TokenView
put V i v u = if u == i then v else V u

-- the one parcel that was sent is under way
abbrev pub flight_of : ℕ → List (ℕ × Message) → Option Flight
flight_of i [] = None
flight_of i (p ∷ ps) = Some (record { from = i; to = p.0; message = p.1 })

abbrev pub one_if : Bool → ℕ
one_if b = if b then 1 else 0

-- agent i has stepped
abbrev pub stepped : (ℕ → TokenView) → ℕ → ℕ → ℕ → Stepped TokenView → Serial
stepped V t d i s = record { views = put V i s.view; flight = flight_of i s.sends; tokens = t; dones = d }

-- the message under way is taken
abbrev pub tick_at : Serial → Option Flight → Serial
tick_at s None = s
tick_at s (Some f) =
    stepped s.views (s.tokens + one_if (is_token f.message)) (s.dones + one_if (is_done f.message)) f.to (token_message (s.views f.to) f.from f.message)

abbrev pub tick : Serial → Serial
tick s = tick_at s s.flight

abbrev pub ticks : ℕ → Serial → Serial
ticks zero s = s
ticks (suc k) s = ticks k (tick s)

-- a message is under way between agents below n, to one that has not ended
pub record IsLive (n : ℕ) (s : Serial) : Type 0 where
  pub flight : Flight
  pub is : s.flight ≡ Some flight
  pub from : flight.from < n
  pub to : flight.to < n
  pub awake : (s.views flight.to).phase.ended ≡ false

-- so many ticks lead from one state to another, and before each a message is under way
pub record Leads (n : ℕ) (s e : Serial) (count : ℕ) : Type 0 where
  pub is : ticks count s ≡ e
  pub live : (k : ℕ) → k < count → IsLive n (ticks k s)
