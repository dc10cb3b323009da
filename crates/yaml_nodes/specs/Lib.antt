pub mod Part
pub mod Keyed
pub mod Flow
pub mod Block
pub mod Document
pub mod Grammar
pub mod DocumentGrammar
