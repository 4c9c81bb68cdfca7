use Rattle.trace_laws.proofs.PrintedLaws.{printed_traced}
use Rattle.trace_laws.proofs.law.printed_reports_are_traced.Goals as goal

pub returns : goal.returns
returns c = printed_traced
