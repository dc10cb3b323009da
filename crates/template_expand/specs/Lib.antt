pub mod Answer
pub mod Vars
pub mod Wanted
pub mod Fill
pub mod Made
pub mod Source
pub mod Expansion
pub mod Cases
