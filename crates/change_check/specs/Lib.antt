pub mod Same
pub mod Sound
pub mod Sides
pub mod Compare
pub mod Keys
