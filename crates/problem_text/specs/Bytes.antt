-- The bytes that divide a text into lines and words, that begin a comment, and that names may
-- contain besides letters and digits.
use Rattle.std.specs.Prelude.{ℕ}

-- LF, which ends a line
abbrev pub line_feed : ℕ
line_feed = 10

-- CR, which may precede the LF of a line
abbrev pub carriage_return : ℕ
carriage_return = 13

-- #, which begins a comment
abbrev pub hash_sign : ℕ
hash_sign = 35

-- the space, which separates words
abbrev pub space : ℕ
space = 32

-- the tab, which also separates words
abbrev pub tab : ℕ
tab = 9

-- `_`
abbrev pub underscore : ℕ
underscore = 95

-- `-`
abbrev pub hyphen : ℕ
hyphen = 45

-- `.`
abbrev pub full_stop : ℕ
full_stop = 46
