-- What the words of a text mean, up to its last function.
use Rattle.std.specs.Prelude.{ℕ, zero, suc, List, [], ◌∷◌, Option, Some, None, Result, Ok, Err, ◌==◌, nat_lt, if◌then◌else◌}
use Rattle.dcop_base.specs.Faults.{is_bad_size}
use Rattle.dcop_base.specs.Limits.{variable_limit}
use Rattle.wcsp_text.specs.declared.fault.WcspKind.{WcspKind}
use Rattle.wcsp_text.specs.declared.fault.WcspKind.TheVariants.{NoEnd, Problem}
use Rattle.wcsp_text.specs.declared.fault.Fault.{Fault}
use Rattle.wcsp_text.specs.Words.{Word}
use Rattle.wcsp_text.specs.Numbers.{Place, number, fails, read_on, onto}
use Rattle.wcsp_text.specs.Functions.{Function, functions_read}

-- a network, which a WCSP text declares: top, which is the cost from which on an assignment is
-- forbidden; the size of each variable; and the functions
pub record Network : Type 0 where
  pub top : ℕ
  pub sizes : List ℕ
  pub functions : List Function

-- what is wrong with a number of variables
abbrev pub count_fault : ℕ → Option WcspKind
count_fault variables =
    if variables == 0 then Some (Problem 1)
    else (if nat_lt variable_limit variables then Some (Problem 10)
    else None)

-- the later result, unless the word before this place has a fault
abbrev pub unless : {A : Type 0} → Option WcspKind → Place → Result A Fault → Result A Fault
unless (Some kind) p later = fails p kind
unless None p later = later

-- the result of reading `count` sizes
abbrev pub sizes_read : ℕ → Place → Result (List ℕ × Place) Fault
sizes_read zero p = Ok ([], p)
sizes_read (suc count) p =
    read_on (number p.words) (λ size q.
    if is_bad_size size then fails q (Problem 2) else onto size (sizes_read count q))

-- the result of reading the sizes of the variables, then the functions
abbrev pub body_read : ℕ → ℕ → ℕ → Place → Result (Network × Place) Fault
body_read top variables functions p =
    read_on (sizes_read variables p) (λ sizes q.
    read_on (functions_read sizes [] functions q) (λ fs r.
    Ok (record { top = top; sizes = sizes; functions = fs }, r)))

-- the result of reading what follows the name: the number of variables, the greatest size, the
-- number of functions and top, then the sizes and the functions
abbrev pub named_read : Place → Result (Network × Place) Fault
named_read p =
    read_on (number p.words) (λ variables q.
    unless (count_fault variables) q (
    read_on (number q.words) (λ greatest_size r.
    read_on (number r.words) (λ functions s.
    read_on (number s.words) (λ top t.
    body_read top variables functions t)))))

-- the result of reading the words of a text: a name, which may be any word, and what follows it
abbrev pub network_read : List Word → Result (Network × Place) Fault
network_read [] = Err (record { after = 0; kind = NoEnd })
network_read (name ∷ later) = named_read (record { after = name.after; words = later })
