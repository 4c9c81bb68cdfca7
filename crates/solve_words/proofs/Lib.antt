pub mod ListLaws
pub mod SettingLaws
pub mod AnswerLaws
