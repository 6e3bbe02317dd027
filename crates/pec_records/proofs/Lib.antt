mod AddressLoopLemmas
mod AddressRestLemmas
mod CauseLemmas
mod EntryLaws
mod EntryLemmas
mod FieldLaws
mod LengthLemmas
mod PutLemmas
