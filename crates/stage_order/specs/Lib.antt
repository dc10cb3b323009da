pub mod Order
pub mod Walk
pub mod Brought
pub mod Seated
pub mod Closure
