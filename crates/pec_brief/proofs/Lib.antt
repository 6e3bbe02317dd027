mod BriefLemmas
mod OutsideLemmas
mod PutLemmas
mod ShorteningLemmas
