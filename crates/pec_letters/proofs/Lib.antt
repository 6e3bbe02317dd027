mod TextLemmas
mod HeadingLemmas
mod SeenLemmas
mod PlaceLemmas
mod RowLemmas
mod AnomalyLemmas
mod BehindLemmas
