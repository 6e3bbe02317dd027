pub mod ClockLemmas
pub mod FlowLemmas
pub mod LogLemmas
pub mod ImageLemmas
pub mod StepLemmas
pub mod DepotLemmas
pub mod ReplyLemmas
pub mod MomentLemmas
