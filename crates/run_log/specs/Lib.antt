pub mod Logs
pub mod Gathered
pub mod LogStamps
pub mod Laws
pub mod LogText
pub mod EventLine
pub mod LogReading
