pub mod SortedLaws
pub mod TakenLaws
pub mod EventLineLaws
pub mod EventFitsLaws
pub mod StampStepLaws
pub mod LogStampLaws
pub mod LogRows
