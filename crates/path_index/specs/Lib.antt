pub mod First
pub mod Overlap
pub mod Table
