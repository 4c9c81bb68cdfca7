pub mod Words
pub mod Report
pub mod Text
pub mod Outside
pub mod Staged
pub mod Answering
