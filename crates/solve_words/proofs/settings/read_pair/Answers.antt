use Rattle.std.proofs.Common.{◌≡◌, Some, None, map, option_map, option_copied, slice_get, string_bytes, sym, ◌∙◌, ap, false, true, ◌+◌, ◌*◌, length}
use Rattle.solve_words.specs.Options.{word_of}
use Rattle.solve_words.specs.Settings.{setting_of, pair_of}
use Rattle.solve_words.specs.Faults.{given_fault}
use Rattle.solve_words.specs.declared.fault.WordFault.TheVariants.{Bad}
use Rattle.solve_words.proofs.ListLaws.{first-map}
use Rattle.solve_words.proofs.SettingLaws.{pair_fault-named, pair_fault-refused, pair_fault-taken, setting_of-named, word_of-option_named}
use Rattle.solve_words.proofs.settings.read_pair.Goals as goal

pub returns-in_default-clause-read : goal.returns-in_default-clause-read
returns-in_default-clause-read c =
    let value = slice_get (map (λ w. string_bytes w) c.args.behind.now) 0 in
    pair_fault-named c.args.verb c.args.earlier.now c.args.name.now value None (sym c.named.ensures ∙ c.in_default.is)

pub returns-then-not-belongs_to-clause-read : goal.returns-then-not-belongs_to-clause-read
returns-then-not-belongs_to-clause-read c =
    let value = slice_get (map (λ w. string_bytes w) c.args.behind.now) 0 in
    pair_fault-refused c.args.verb c.args.earlier.now c.args.name.now value c.in-Some.option (sym c.in-Some.ensures) (sym c.if-not-belongs_to.ensures)

pub returns-then-came_before-clause-read : goal.returns-then-came_before-clause-read
returns-then-came_before-clause-read c =
    let value = slice_get (map (λ w. string_bytes w) c.args.behind.now) 0 in
    pair_fault-taken c.args.verb c.args.earlier.now c.args.name.now value c.in-Some.option true (sym c.in-Some.ensures) (sym c.if-not-belongs_to.ensures) (sym c.if-came_before.ensures)

pub returns-in_default-first-clause-read : goal.returns-in_default-first-clause-read
returns-in_default-first-clause-read c =
    let value = slice_get (map (λ w. string_bytes w) c.args.behind.now) 0 in
    let none : value ≡ None =
    first-map (λ w. string_bytes w) c.args.behind.now
    ∙ ap (λ o. option_map (λ w. string_bytes w) o) (sym c.first.ensures.value ∙ ap option_copied c.in_default-first.is) in
    pair_fault-taken c.args.verb c.args.earlier.now c.args.name.now value c.in-Some.option false (sym c.in-Some.ensures) (sym c.if-not-belongs_to.ensures) (sym c.if-came_before.ensures)
    ∙ ap (given_fault (2 + 2 * length c.args.earlier.now) c.in-Some.option) none

pub returns-in-Err-clause-read : goal.returns-in-Err-clause-read
returns-in-Err-clause-read c =
    let value = slice_get (map (λ w. string_bytes w) c.args.behind.now) 0 in
    let at = 2 + 2 * length c.args.earlier.now in
    let word : value ≡ Some c.as_str.result.now =
    first-map (λ w. string_bytes w) c.args.behind.now
    ∙ ap (λ o. option_map (λ w. string_bytes w) o) (sym c.in-Some-first.ensures.value)
    ∙ ap Some (sym c.as_str.ensures.value) in
    pair_fault-taken c.args.verb c.args.earlier.now c.args.name.now value c.in-Some.option false (sym c.in-Some.ensures) (sym c.if-not-belongs_to.ensures) (sym c.if-came_before.ensures)
    ∙ ap (given_fault at c.in-Some.option) word
    ∙ ap (λ o. option_map (Bad (at + 1)) o) c.in-Err.ensures

pub returns-in-Ok-clause-read : goal.returns-in-Ok-clause-read
returns-in-Ok-clause-read c =
    let value = slice_get (map (λ w. string_bytes w) c.args.behind.now) 0 in
    let at = 2 + 2 * length c.args.earlier.now in
    let word : value ≡ Some c.as_str.result.now =
    first-map (λ w. string_bytes w) c.args.behind.now
    ∙ ap (λ o. option_map (λ w. string_bytes w) o) (sym c.in-Some-first.ensures.value)
    ∙ ap Some (sym c.as_str.ensures.value) in (
      pair_fault-taken c.args.verb c.args.earlier.now c.args.name.now value c.in-Some.option false (sym c.in-Some.ensures) (sym c.if-not-belongs_to.ensures) (sym c.if-came_before.ensures)
          ∙ ap (given_fault at c.in-Some.option) word
          ∙ ap (λ o. option_map (Bad (at + 1)) o) c.in-Ok.ensures.0,
      ap (λ v. setting_of (pair_of c.args.name.now v)) word
          ∙ setting_of-named c.args.name.now c.as_str.result.now c.in-Some.option (sym c.in-Some.ensures)
          ∙ c.in-Ok.ensures.1,
      ap word_of c.in-Ok.ensures.2 ∙ word_of-option_named c.args.name.now c.in-Some.option (sym c.in-Some.ensures),
      c.in-Ok.ensures.3,
    )
