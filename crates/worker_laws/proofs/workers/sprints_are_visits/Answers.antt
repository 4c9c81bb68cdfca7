use Rattle.worker_laws.proofs.VisitLaws as found
use Rattle.worker_laws.proofs.workers.sprints_are_visits.Goals as goal

pub returns : goal.returns
returns c = found.sprints_are_visits
