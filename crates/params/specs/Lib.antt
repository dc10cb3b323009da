pub mod Lookup
pub mod Number
pub mod Canonical
pub mod Cases
pub mod Read
