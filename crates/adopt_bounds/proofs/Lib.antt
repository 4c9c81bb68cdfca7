mod EntryLaws
mod RowLaws
mod TotalLaws
mod ShareLaws
mod ForgetLaws
mod BoundsLaws
mod PlaceLaws
mod StoreRows
