mod JoinLemmas
mod CopyLemmas
pub mod GiveLemmas
mod RefusedLemmas
pub mod RoadLemmas
mod DueLemmas
pub mod StoreLemmas
mod HasLemmas
pub mod PutLemmas
mod MemberLemmas
mod KnownLemmas
pub mod PutFaultLemmas
