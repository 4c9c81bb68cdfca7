pub mod ListLaws
pub mod PairLaws
pub mod LinkLaws
mod KindLaws
mod OutcomeLaws
pub mod ReadyLaws
pub mod SeatLaws
pub mod EndLaws
pub mod CellLaws
