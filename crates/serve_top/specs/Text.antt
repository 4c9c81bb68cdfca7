-- The text of each answer of the server's program.
use Rattle.std.specs.Prelude.{ℕ, ◌+◌, List, [], ◌∷◌, ◌++◌, codes}
use Rattle.std.specs.Fmt.{decimal}
use Rattle.problem_text.specs.Canonical.{line}
use Rattle.solve_serve.specs.Session.{served_by}
use Rattle.solve_serve.specs.declared.end.SessionEnd.{SessionEnd}
use Rattle.solve_serve.specs.declared.end.SessionEnd.TheVariants.{Closed, Cut, Long, Limit, Read, Write, Memory}
use Rattle.serve_top.specs.declared.answer.ServeAnswer.{ServeAnswer}
use Rattle.serve_top.specs.declared.answer.ServeAnswer.TheVariants as answers

-- the word for an end
abbrev pub end_word : SessionEnd → List ℕ
end_word (Closed served) = codes "closed"
end_word (Cut served) = codes "cut"
end_word (Long served place) = codes "long"
end_word (Limit served) = codes "limit"
end_word (Read served) = codes "read"
end_word (Write served) = codes "write"
end_word (Memory served) = codes "memory"

-- `session I END SERVED`
abbrev pub session_line : ℕ → SessionEnd → List ℕ
session_line number end = line (codes "session" ∷ decimal number ∷ end_word end ∷ decimal (served_by end) ∷ [])

-- the lines of sessions, numbered from `number` on
abbrev pub session_lines : ℕ → List SessionEnd → List ℕ
session_lines number [] = []
session_lines number (end ∷ ends) = session_line number end ++ session_lines (number + 1) ends

-- how many requests all sessions served
abbrev pub served_in : List SessionEnd → ℕ
served_in [] = 0
served_in (end ∷ ends) = served_by end + served_in ends

-- the lines of all sessions, `served N`, `looks N` and `end`
abbrev pub summary_text : List SessionEnd → ℕ → List ℕ
summary_text ends looks =
    session_lines 0 ends ++ line (codes "served" ∷ decimal (served_in ends) ∷ []) ++ line (codes "looks" ∷ decimal looks ∷ []) ++ line (codes "end" ∷ [])

-- the text of an answer
abbrev pub answer_text : ServeAnswer → List ℕ
answer_text (answers.Words at kind) = line (codes "refused" ∷ codes "words" ∷ codes "at" ∷ decimal at ∷ codes "kind" ∷ decimal kind ∷ [])
answer_text answers.Link = line (codes "refused" ∷ codes "link" ∷ [])
answer_text (answers.Summary ends looks) = summary_text ends.items looks
