use Rattle.std.proofs.Common.{rules, ◌≡◌, List, [], Some, String, Global, map, slice_get, string_bytes, ◌∙◌, ap}
use Rattle.solve_words.specs.Settings.{pair_of, pairs_of}
use Rattle.solve_words.specs.Faults.{pair_fault, pairs_fault}
use Rattle.solve_words.specs.Reading.{words_of, IsFault}
use Rattle.solve_words.proofs.SettingLaws.{pairs_fault-first, IsFault-same}
use Rattle.solve_words.proofs.settings.read_settings.Goals as goal

pub returns-in_err-setting-clause-fault : goal.returns-in_err-setting-clause-fault
returns-in_err-setting-clause-fault c =
    let names = words_of c.loop-name.settings.items in
    let name = string_bytes c.in-Some.name.now in
    let behind = map (λ w. string_bytes w) c.in-Some.behind.now in
    let fault = c.in_err-setting.field-0.0 in
    let here : pair_fault c.args.verb names (pair_of name (slice_get behind 0)) ≡ Some fault =
    rw (← c.as_slice.ensures.value, ← c.as_str.ensures.value) c.in_err-setting.ensures.read in
    let first : pairs_fault c.args.verb [] (pairs_of (map (λ w. string_bytes w) c.args.words.now)) ≡ Some fault =
    c.loop-name.invariant.0
    ∙ ap (λ (ws : List (String Global)). pairs_fault c.args.verb names (pairs_of (map (λ w. string_bytes w) ws))) c.in-Some.ensures.cases.0
    ∙ pairs_fault-first c.args.verb names name behind fault here in
    let told : IsFault fault (pairs_fault c.args.verb [] (pairs_of (map (λ w. string_bytes w) c.args.words.now))) = IsFault-same fault _ first in
    search rules
