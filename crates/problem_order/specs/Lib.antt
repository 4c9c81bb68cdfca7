pub mod Order
pub mod Reordered
pub mod Costs
pub mod Lines
pub mod Measure
pub mod Narrowed
