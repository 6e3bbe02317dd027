pub mod EntryLemmas
pub mod MakingLemmas
pub mod NoFields
pub mod ReadingLemmas
pub mod StepLemmas
