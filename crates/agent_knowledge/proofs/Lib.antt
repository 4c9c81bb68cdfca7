pub mod InsertLaws
pub mod RowLaws
pub mod NeighbourLaws
pub mod TableLaws
pub mod PartLaws
