mod PathsLemmas
mod TreeOrder
mod MetLemmas
mod NameLemmas
mod LineLemmas
mod TrackLemmas
