pub mod Serving
pub mod Words
pub mod Text
pub mod Told
