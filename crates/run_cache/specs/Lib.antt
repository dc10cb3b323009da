pub mod Records
pub mod Find
