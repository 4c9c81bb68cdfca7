use Rattle.std.proofs.Common.{◌≡◌, ◌++◌, [], map, string_bytes, length, All}
use Rattle.solve_words.specs.Settings.{names_of, pairs_of, settings_of}
use Rattle.solve_words.specs.Reading.{words_of, IsWithin}
use Rattle.solve_words.specs.Faults.{pairs_fault}
use Rattle.solve_words.proofs.settings.read_settings.Given as goal

-- the words that are left hold the first fault of all, and set what is still to be set
abbrev pub invariant-loop-name : goal.invariant-loop-name
invariant-loop-name l =
    let left = pairs_of (map (λ w. string_bytes w) l.rest) in
    let whole = pairs_of (map (λ w. string_bytes w) l.fn.words) in
    (pairs_fault l.verb [] whole ≡ pairs_fault l.verb (words_of l.settings.items) left)
    × (settings_of whole ≡ l.settings.items ++ settings_of left)
    × (names_of whole ≡ words_of l.settings.items ++ names_of left)
    × All IsWithin l.settings.items

abbrev pub decreases-loop-name : goal.decreases-loop-name
decreases-loop-name l = length l.rest
