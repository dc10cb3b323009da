pub mod Read
pub mod Walk
pub mod Met
pub mod Ignores
pub mod Tracks
