pub mod Repro
