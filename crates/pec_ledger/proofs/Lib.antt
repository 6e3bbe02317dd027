pub mod AlongLemmas
pub mod ListLemmas
pub mod Growth
pub mod Images
pub mod ItemBytes
mod ItemTexts
pub mod PairLemmas
pub mod OneProvider
pub mod MarkLemmas
pub mod Places
pub mod GuaranteeLemmas
pub mod Beginning
mod BoxLemmas
pub mod Backing
pub mod Originals
pub mod Envelopes
pub mod Moments
mod MoveLemmas
pub mod Arrivals
mod AgreeLemmas
pub mod TableLemmas
mod VersionLemmas
mod VirusLemmas
pub mod SmallWorldLemmas
pub mod DecisionLemmas
pub mod PremiseLemmas
