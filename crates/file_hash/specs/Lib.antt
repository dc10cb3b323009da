pub mod Listing
pub mod Files
pub mod Naming
pub mod Walk
pub mod Reading
