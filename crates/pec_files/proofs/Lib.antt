mod NameLemmas
mod PlaceLemmas
