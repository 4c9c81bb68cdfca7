pub mod TakingLaws
