-- What contracts see of the crate's types: without where their bytes lie in memory.
use Rattle.pec_letters.specs.Seen as seen
use Rattle.pec_letters.specs.declared.reading.EnvelopeView.{EnvelopeView}

abbrev pub view_shown : EnvelopeView → seen.Seen
view_shown view = record { id = view.id; moment = view.moment; facts = view.facts; original = view.original.now }
