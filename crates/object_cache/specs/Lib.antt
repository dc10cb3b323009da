pub mod Objects
pub mod Giving
pub mod Store
pub mod Due
pub mod Copying
