mod FoldLaws
mod WordLaws
mod SearchLaws
mod FoundLaws
