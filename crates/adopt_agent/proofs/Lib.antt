pub mod RangeLaws
pub mod SizeLaws
pub mod CountLaws
pub mod KeptLaws
pub mod DifferLaws
pub mod GrowLaws
pub mod ExchangeLaws
pub mod OrderLaws
pub mod NearLaws
pub mod LowestLaws
pub mod BoundLaws
pub mod StoreLaws
pub mod AgentLaws
pub mod MessageLaws
pub mod LearnLaws
pub mod CostLaws
mod ChildLaws
mod StepRows
mod TestLaws
