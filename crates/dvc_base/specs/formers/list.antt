pub mod Plural
