pub mod Served
pub mod Drilling
pub mod Answering
pub mod Phases
pub mod Nodes
pub mod Answered
pub mod FitTree
pub mod Same
