pub mod Words
pub mod Answering
pub mod Tracing
