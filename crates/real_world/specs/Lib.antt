pub mod Counting
pub mod Told
pub mod Found
pub mod Place
