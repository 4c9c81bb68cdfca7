-- The token step: a depth-first search by tokens.
use Rattle.std.specs.Prelude.{ℕ, ◌+◌, ◌-◌, Bool, true, not, ◌&&◌, List, [], ◌∷◌, ◌++◌, length, Option, Some, None, ◌==◌, nat_le, if◌then◌else◌, slice_get}
use Rattle.std.specs.List.{concat}
use Rattle.dcop_base.specs.Limits.{variable_limit}
use Rattle.dcop_base.specs.Table.{has, has_repeat}
use Rattle.adopt_context.specs.Context.{is_value}
use Rattle.protocol_steps.specs.declared.message.Message.{Message}
use Rattle.protocol_steps.specs.declared.message.Message.TheVariants.{Token, Done}
use Rattle.protocol_steps.specs.Agent.{Stepped, quiet, each_letter, last_of}
use Rattle.protocol_steps.specs.Token.{TokenView, next_child}

-- the most variables of a path that comes with a token, and of all subtrees that come back
abbrev pub most_others : ℕ
most_others = variable_limit - 1

-- DONE for the parent, if there is one
abbrev pub done_for : Option ℕ → List ℕ → List (ℕ × Message)
done_for None visited = []
done_for (Some parent) visited = (parent, Done visited) ∷ []

-- the token goes to the next child; if there is none, the agent ends and sends its parent DONE
abbrev pub pass_on : TokenView → Option ℕ → Stepped TokenView
pass_on v (Some child) = record {
  view = record v { awaited = Some child };
  sends = (child, Token (v.path ++ (v.own.me ∷ []))) ∷ [];
}
pass_on v None = record {
  view = record v { awaited = None; phase = record v.phase { ended = true } };
  sends = done_for (last_of v.path) (v.own.me ∷ concat v.kept);
}

-- the agent looks for its next child
abbrev pub look : TokenView → Stepped TokenView
look v = pass_on v (next_child v)

-- the agent opens with this path
abbrev pub open_with : TokenView → List ℕ → Stepped TokenView
open_with v path = look (record v { opened = true; path = path })

-- whether TOKEN(path) is taken: by an agent that has not opened, from the last variable of a path of at most 999 distinct variables that do not include the agent
abbrev pub takes_token : TokenView → ℕ → List ℕ → Bool
takes_token v from path =
    not v.opened && is_value (last_of path) from && nat_le (length path) most_others && not (has_repeat path) && not (has path v.own.me)

-- whether DONE(visited) is taken: from the child that the agent waits for, which is the first variable of the list, if at most 999 variables are kept afterwards
abbrev pub takes_done : TokenView → ℕ → List ℕ → Bool
takes_done v from visited =
    v.opened && is_value v.awaited from && is_value (slice_get visited 0) from && nat_le (length (concat v.kept) + length visited) most_others

-- how one message is handled
abbrev pub token_message : TokenView → ℕ → Message → Stepped TokenView
token_message v from (Token path) = if takes_token v from path then open_with v path else quiet v
token_message v from (Done visited) =
    if takes_done v from visited then look (record v { kept = v.kept ++ (visited ∷ []) }) else quiet v
token_message v from message = quiet v

-- the start: the root, which is variable 0, opens with the empty path
abbrev pub token_start : TokenView → Stepped TokenView
token_start v =
    let started : TokenView = record v { phase = record v.phase { started = true } } in
    if v.own.me == 0 then open_with started [] else quiet started

-- one activation
abbrev pub token_step : TokenView → List (ℕ × Message) → Stepped TokenView
token_step v ls = each_letter token_message v ls
