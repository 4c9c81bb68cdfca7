pub mod PlaceLaws
pub mod OptimumLaws
pub mod BestLaws
pub mod TurnLaws
pub mod TurnedTableLaws
pub mod SumLaws
pub mod LineLaws
pub mod OwnerLaws
pub mod JoinLaws
pub mod DecompositionLaws
pub mod CertificateLaws
pub mod PreorderLaws
pub mod TreeOptimumLaws
pub mod ChoiceLaws
pub mod OptimumTableLaws
pub mod SeparatorLaws
mod Rows
