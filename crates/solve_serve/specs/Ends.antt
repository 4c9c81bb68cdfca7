-- The end of a session that stops.
use Rattle.std.specs.Prelude.{ℕ}
use Rattle.solve_serve.specs.declared.end.SessionEnd.{SessionEnd}
use Rattle.solve_serve.specs.declared.end.SessionEnd.TheVariants as ends
use Rattle.solve_serve.specs.declared.stop.Stop.{Stop}
use Rattle.solve_serve.specs.declared.stop.Stop.TheVariants as stops

-- the end of a session that stops for this reason after this many replies
abbrev pub end_of : Stop → ℕ → SessionEnd
end_of stops.Closed served = ends.Closed served
end_of stops.Cut served = ends.Cut served
end_of (stops.Long place) served = ends.Long served place
end_of stops.Read served = ends.Read served
end_of stops.Write served = ends.Write served
end_of stops.Memory served = ends.Memory served
