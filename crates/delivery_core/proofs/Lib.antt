mod ListLaws
mod KindLaws
mod DeliverLaws
mod CalmLaws
pub mod NearLaws
pub mod ShownLaws
pub mod ActLaws
mod StartLaws
pub mod CountLaws
pub mod RunLaws
