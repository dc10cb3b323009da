mod EntryLemmas
mod LinesLemmas
mod KeyedLemmas
mod LookLemmas
mod OwnLemmas
mod SeeLemmas
pub mod TrackedLemmas
pub mod ExitLemmas
pub mod FirstLemmas
pub mod GainLemmas
pub mod OptionLemmas
pub mod ReproLemmas
pub mod SoFarLemmas
pub mod ToldLemmas
pub mod LeftLemmas
pub mod OneStageLemmas
pub mod RunLemmas
pub mod TurnedLemmas
pub mod FoldersLemmas
pub mod LaneFirstLemmas
mod JoinLemmas
pub mod OutcomeLemmas
pub mod RoadsLemmas
pub mod WorkLemmas
pub mod StoredLemmas
pub mod BarredLemmas
pub mod StoreLemmas
pub mod LimitedLemmas
pub mod RecordLemmas
pub mod SummaryLemmas
