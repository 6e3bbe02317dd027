pub mod DueLemmas
pub mod FactsLemmas
pub mod FramingLemmas
pub mod ItemLemmas
pub mod NeedsLemmas
pub mod NoticeLemmas
pub mod OnceLemmas
pub mod SeenLemmas
