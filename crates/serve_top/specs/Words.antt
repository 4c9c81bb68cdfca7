-- The words of the server's program.
use Rattle.std.specs.Prelude.{ℕ, ◌+◌, ◌≤◌, ◌||◌, List, [], ◌∷◌, length, Option, Some, None, Result, Ok, Err, nat_lt, if◌then◌else◌}
use Rattle.dcop_base.specs.NumberWord.{number_of}
use Rattle.reply_cache.specs.Limits.{entry_limit}
use Rattle.solve_serve.specs.Peers.{peer_limit, server_limit}
use Rattle.serve_top.specs.declared.words.ServeWords.{ServeWords}
use Rattle.serve_top.specs.declared.words.Refused.{Refused}

-- the least port at which a server may listen
abbrev pub least_port : ℕ
least_port = 1024

-- the greatest port at which a server may listen
abbrev pub most_port : ℕ
most_port = 65535

-- a refusal of the word at this place, from 1, with this kind
abbrev pub refused : ℕ → ℕ → Refused
refused at kind = record { at = at; kind = kind }

-- the number that the word at this place gives, or its refusal: it is no number, kind 6, or it is
-- outside the range, kind 7
abbrev pub number_within : ℕ → ℕ → ℕ → Option ℕ → Result ℕ Refused
number_within at least most None = Err (refused at 6)
number_within at least most (Some n) = if nat_lt n least || nat_lt most n then Err (refused at 7) else Ok n

-- the four numbers, or the first refusal
abbrev pub all_four : Result ℕ Refused → Result ℕ Refused → Result ℕ Refused → Result ℕ Refused → Result ServeWords Refused
all_four (Ok port) (Ok clients) (Ok entries) (Ok workers) = Ok (record { port = port; clients = clients; entries = entries; workers = workers })
all_four (Err r) clients entries workers = Err r
all_four (Ok port) (Err r) entries workers = Err r
all_four (Ok port) (Ok clients) (Err r) workers = Err r
all_four (Ok port) (Ok clients) (Ok entries) (Err r) = Err r

-- the refusal of this many words: too few, kind 4 at the first missing place; or too many, kind 3
-- at the fifth
abbrev pub wrong_count : ℕ → Refused
wrong_count count = if nat_lt count 4 then refused (count + 1) 4 else refused 5 3

-- what four words ask for, each in its range: the port, the clients, the entries and the workers;
-- or the first refusal
abbrev pub words_read : List (List ℕ) → Result ServeWords Refused
words_read (port ∷ clients ∷ entries ∷ workers ∷ []) =
    all_four (number_within 1 least_port most_port (number_of port)) (number_within 2 1 peer_limit (number_of clients)) (number_within 3 1 entry_limit (number_of entries)) (number_within 4 1 server_limit (number_of workers))
words_read words = Err (wrong_count (length words))

-- what is asked for is in its range
pub record AreWordsInRange (asked : ServeWords) : Type 0 where
  pub port : (least_port ≤ asked.port) × (asked.port ≤ most_port)
  pub clients : (1 ≤ asked.clients) × (asked.clients ≤ peer_limit)
  pub entries : (1 ≤ asked.entries) × (asked.entries ≤ entry_limit)
  pub workers : (1 ≤ asked.workers) × (asked.workers ≤ server_limit)
