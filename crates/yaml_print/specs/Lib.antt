pub mod ScalarText
pub mod Print
pub mod Sound
