pub mod Characters
pub mod Outcome
pub mod Line
pub mod Source
pub mod Rules
pub mod Cases
