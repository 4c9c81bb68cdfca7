mod SameLaws
mod HistorySteps
mod DifferLaws
mod LowestLaws
