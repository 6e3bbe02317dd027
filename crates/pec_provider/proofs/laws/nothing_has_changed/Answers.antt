use Rattle.std.specs.Prelude.{slice_get}
use Rattle.pec_ledger.specs.Lookups.{archive, mailbox}
use Rattle.pec_ledger.specs.Steps.{half}
use Rattle.pec_provider.proofs.KeptLemmas.{among, envelopes_unchanged, items_unchanged, letters_unchanged}
use Rattle.pec_provider.proofs.laws.nothing_has_changed.Goals as goal

pub returns-clause-letters : goal.returns-clause-letters
returns-clause-letters c = λ trade world journals fit me to room owed number.
    letters_unchanged trade journals fit me c.a_taken_message_has_its_envelope.ensures
    c.rows_have_their_texts.ensures.takings c.rows_have_their_texts.ensures.decisions
    (c.texts_are_seen.ensures.envelopes trade journals fit world)
    (c.texts_are_seen.ensures.addressees trade journals fit world) to room owed number

pub returns-clause-envelopes : goal.returns-clause-envelopes
returns-clause-envelopes c = λ trade world journals fit me number.
    envelopes_unchanged trade journals fit me c.a_taken_message_has_its_envelope.ensures
    c.rows_have_their_texts.ensures.takings c.rows_have_their_texts.ensures.decisions
    (c.texts_are_seen.ensures.envelopes trade journals fit world)
    (c.texts_are_seen.ensures.addressees trade journals fit world) number

pub returns-clause-items : goal.returns-clause-items
returns-clause-items c = λ trade me journal own account place number.
    items_unchanged trade me c.a_taken_message_has_its_envelope.ensures journal own.steps
    (slice_get (mailbox (half trade me journal) account) place) number
    (λ posted there. (c.boxes_hold_what_was_placed.ensures.mailboxes (half trade me journal) account posted
    (among (mailbox (half trade me journal) account) place posted there)).0)

pub returns-clause-vaults : goal.returns-clause-vaults
returns-clause-vaults c = λ trade me journal own account place number.
    items_unchanged trade me c.a_taken_message_has_its_envelope.ensures journal own.steps
    (slice_get (archive (half trade me journal) account) place) number
    (λ posted there. (c.boxes_hold_what_was_placed.ensures.archives (half trade me journal) account posted
    (among (archive (half trade me journal) account) place posted there)).0)
