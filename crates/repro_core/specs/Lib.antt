pub mod Looks
pub mod Steps
pub mod Telling
pub mod Turning
pub mod Ways
pub mod Storing
pub mod Summaries
