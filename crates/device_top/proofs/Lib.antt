mod ReportLemmas
pub mod ChainLemmas
pub mod RunLemmas
pub mod OpenLemmas
pub mod EndLemmas
pub mod CallLemmas
pub mod ServeCalls
mod WordsCalls
