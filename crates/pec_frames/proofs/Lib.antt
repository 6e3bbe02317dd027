pub mod EntryLemmas
pub mod LineLemmas
pub mod PathLemmas
pub mod ReadingLaws
pub mod MadeLaws
pub mod WritingLemmas
