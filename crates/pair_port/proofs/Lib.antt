mod GiveLemmas
mod DeviceLemmas
mod KeptLemmas
mod LinkLemmas
mod PortLemmas
mod PairPassLemmas
mod PairAimLemmas
mod ReadyLemmas
mod TakesLemmas
pub mod WayLemmas
pub mod AimLemmas
mod NewLemmas
mod CallLemmas
mod SendLemmas
