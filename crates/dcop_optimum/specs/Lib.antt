pub mod Optimum
pub mod Goal
pub mod Subtree
pub mod Decomposition
pub mod Enclosing
pub mod TreeOptimum
pub mod Certificate
pub mod OptimumTables
