pub mod Tree
pub mod Effect
pub mod History
pub mod Layout
pub mod Calls
pub mod Writes
pub mod Outside
