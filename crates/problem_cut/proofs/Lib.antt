pub mod CountLaws
pub mod SizeLaws
pub mod RuleLaws
pub mod TurnLaws
