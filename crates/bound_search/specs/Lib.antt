pub mod Descent
pub mod Estimate
pub mod First
pub mod Grounds
pub mod Known
pub mod Searched
pub mod Visits
