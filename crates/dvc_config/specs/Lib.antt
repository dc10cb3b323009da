pub mod Line
pub mod Config
pub mod Url
pub mod Cases
