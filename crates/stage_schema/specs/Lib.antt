pub mod Node
pub mod Refusal
pub mod Schema
pub mod Params
pub mod Stages
pub mod Wanted
