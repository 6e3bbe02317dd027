mod RunLemmas
mod TurnLemmas
mod PlaceLemmas
mod ToldLemmas
