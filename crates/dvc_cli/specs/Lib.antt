pub mod Words
pub mod Sources
pub mod Vars
pub mod Read
pub mod Workspace
pub mod Tell
pub mod Command
pub mod Life
