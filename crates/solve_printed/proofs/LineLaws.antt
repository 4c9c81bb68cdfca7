-- Where a certificate begins, looked for line by line.
use Rattle.std.proofs.Common.{◌≡◌, ℕ, ◌+◌, ◌≤◌, List, length}
use Rattle.problem_text.specs.PlainLines.{plain_lines}
use Rattle.solve_printed.specs.CertificateLine.{first_certificate}

-- the lines before this place of a text begin no certificate
pub record Sought (text rest : List ℕ) (number : ℕ) : Type 0 where
  pub same : first_certificate (plain_lines 1 text) ≡ first_certificate (plain_lines number rest)
  pub few : number + length rest ≤ length text + 1
