pub mod Answer
pub mod Merge
pub mod Template
pub mod Turn
pub mod Resolve
pub mod Item
pub mod Cases
