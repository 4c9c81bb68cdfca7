-- Limits of a session.
use Rattle.std.specs.Prelude.{ℕ}

-- the most bytes of a request, 2^20
abbrev pub request_limit : ℕ
request_limit = 1048576

-- the most replies of a session
abbrev pub session_limit : ℕ
session_limit = 1000
