pub mod OrderLemmas
pub mod HashLemmas
pub mod DigestLemmas
mod TextLemmas
mod TreeOrder
mod PathsLemmas
mod FaultLemmas
mod WalkLemmas
mod NameTurn
pub mod ListedLemmas
pub mod ListingLemmas
mod MemberLemmas
mod FolderLemmas
pub mod EscapeLemmas
pub mod TellsLemmas
mod ApartLemmas
mod ReadLemmas
pub mod ReadBackLemmas
pub mod FileMapLemmas
