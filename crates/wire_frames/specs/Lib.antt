pub mod Frame
pub mod Reader
pub mod Run
pub mod Cut
