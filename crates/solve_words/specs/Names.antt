-- The words of the commands and of the choices.
use Rattle.std.specs.Prelude.{ℕ, Bool, true, false, List, Option, Some, None, if◌then◌else◌, bytes_eq, codes}
use Rattle.solve_words.specs.declared.verb.Verb.{Verb}
use Rattle.solve_words.specs.declared.verb.Verb.TheVariants.{Solve, Tree, Check, Replay, Drill, Upgrade, Edit}
use Rattle.solve_words.specs.declared.command.Choice.{Choice}
use Rattle.solve_words.specs.declared.command.Choice.TheVariants.{Plain, Dpop, Adopt, Auto, Cut}
use Rattle.solve_words.specs.declared.command.Format.{Format}
use Rattle.solve_words.specs.declared.command.Format.TheVariants.{Dcop, Wcsp}

-- the command that a word names
abbrev pub verb_named : List ℕ → Option Verb
verb_named word =
    if bytes_eq word (codes "solve") then Some Solve
    else (if bytes_eq word (codes "tree") then Some Tree
    else (if bytes_eq word (codes "check") then Some Check
    else (if bytes_eq word (codes "replay") then Some Replay
    else (if bytes_eq word (codes "drill") then Some Drill
    else (if bytes_eq word (codes "upgrade") then Some Upgrade
    else (if bytes_eq word (codes "edit") then Some Edit
    else None))))))

-- the method that a word names
abbrev pub choice_named : List ℕ → Option Choice
choice_named word =
    if bytes_eq word (codes "plain") then Some Plain
    else (if bytes_eq word (codes "dpop") then Some Dpop
    else (if bytes_eq word (codes "adopt") then Some Adopt
    else (if bytes_eq word (codes "auto") then Some Auto
    else (if bytes_eq word (codes "cut") then Some Cut
    else None))))

-- the text format of a problem that a word names
abbrev pub format_named : List ℕ → Option Format
format_named word =
    if bytes_eq word (codes "dcop") then Some Dcop
    else (if bytes_eq word (codes "wcsp") then Some Wcsp
    else None)

-- what `yes` or `no` means
abbrev pub yes_or_no : List ℕ → Option Bool
yes_or_no word =
    if bytes_eq word (codes "yes") then Some true
    else (if bytes_eq word (codes "no") then Some false
    else None)
