pub mod Rows
pub mod Totals
