pub mod RowLaws
pub mod BlockLaws
pub mod StrideLaws
pub mod JoinLaws
pub mod AlikeLaws
pub mod WindowLaws
