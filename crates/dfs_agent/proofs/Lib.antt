mod VisitLaws
mod AgentLaws
