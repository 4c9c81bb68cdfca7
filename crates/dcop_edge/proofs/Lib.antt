pub mod AddsLaws
mod GivesLaws
