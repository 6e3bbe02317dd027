-- Entries are read exactly.
use Rattle.std.proofs.Common.{◌≡◌, ℕ, List, [], Ok, Err, refl, sym, ap, subst}
use Rattle.pec_types.specs.AddressSteps.{LowerAddressesPass}
use Rattle.pec_types.specs.Message.{Id}
use Rattle.pec_types.specs.declared.messages.Cause.{Cause}
use Rattle.pec_types.specs.declared.messages.Cause.TheVariants as causes
use Rattle.pec_types.specs.declared.messages.Decision.{Decision}
use Rattle.pec_types.specs.declared.messages.Decision.TheVariants as decisions
use Rattle.pec_grammar.specs.Grammar.{Cursor, Read, Grammar, ◌>>=◌, both}
use Rattle.pec_grammar.specs.Dependent.{keyed, raw, variant}
use Rattle.pec_grammar.proofs.Parts.{Lawful}
use Rattle.pec_grammar.proofs.Sequences.{both_lawful, same_lawful}
use Rattle.pec_grammar.proofs.DependentLaws.{keyed_lawful, raw_lawful, variant_lawful}
use Rattle.pec_records.specs.Entry.{entry_text, CanBeWritten}
use Rattle.pec_records.specs.EntryReading.{start_from, start_at, accepted_from, accepted_at, not_accepted_from, not_accepted_at, took_from, took_at, decided_from, decided_at, charged_from, charged_at, learned_from, learned_at, acked_from, acked_at, ticked_from, ticked_at, anomaly_from, anomaly_at, origin_at, start_two_from, start_two_at, upgraded_from, upgraded_at, archived_from, archived_at, fields_at, entry_at}
use Rattle.pec_records.specs.declared.entries.Entry.{Entry}
use Rattle.pec_records.specs.declared.entries.Entry.TheVariants as entries
use Rattle.pec_records.specs.declared.tags.Tag.{Tag}
use Rattle.pec_records.specs.declared.tags.Tag.TheVariants as tags
use Rattle.pec_records.proofs.FieldLaws.{moment, moment_lawful, word, word_lawful, id, id_lawful, bytes, bytes_lawful, address, address_lawful, addresses, addresses_lawful, decision, decision_lawful, HavePlaces, cause, cause_lawful, tag, tag_lawful}

-- The fields of an entry; those of another kind of entry are never asked.

no_id : Id
no_id = record { provider = 0; number = 0 }

abbrev start_fields : Entry → ℕ × List ℕ
start_fields (entries.Start provider digest) = (provider, digest)
start_fields other = (0, [])

abbrev accepted_fields : Entry → ℕ × (List ℕ × List ℕ)
accepted_fields (entries.Accepted moment sender message) = (moment, (sender, message))
accepted_fields other = (0, ([], []))

abbrev not_accepted_fields : Entry → ℕ × (List ℕ × (Cause × (List (List ℕ) × List ℕ)))
not_accepted_fields (entries.NotAccepted moment sender cause path message) = (moment, (sender, (cause, (path, message))))
not_accepted_fields other = (0, ([], (causes.Head, ([], []))))

abbrev took_fields : Entry → ℕ × (Id × List ℕ)
took_fields (entries.Took moment id message) = (moment, (id, message))
took_fields other = (0, (no_id, []))

abbrev decided_fields : Entry → ℕ × (Id × (List ℕ × Decision))
decided_fields (entries.Decided moment id recipient decision) = (moment, (id, (recipient, decision)))
decided_fields other = (0, (no_id, ([], decisions.Placed)))

abbrev charged_fields : Entry → ℕ × (Id × ℕ)
charged_fields (entries.Charged moment id by) = (moment, (id, by))
charged_fields other = (0, (no_id, 0))

abbrev learned_fields : Entry → ℕ × (Id × (List ℕ × (Decision × (ℕ × List ℕ))))
learned_fields (entries.Learned moment id recipient decision decided message) = (moment, (id, (recipient, (decision, (decided, message)))))
learned_fields other = (0, (no_id, ([], (decisions.Placed, (0, [])))))

abbrev acked_fields : Entry → ℕ × (Id × List ℕ)
acked_fields (entries.Acked moment id recipient) = (moment, (id, recipient))
acked_fields other = (0, (no_id, []))

abbrev ticked_fields : Entry → ℕ
ticked_fields (entries.Ticked moment) = moment
ticked_fields other = 0

abbrev anomaly_fields : Entry → ℕ × (List (List ℕ) × List ℕ)
anomaly_fields (entries.Anomaly moment accounts message) = (moment, (accounts, message))
anomaly_fields other = (0, ([], []))

abbrev start_two_fields : Entry → ℕ × List ℕ
start_two_fields (entries.StartTwo provider digest) = (provider, digest)
start_two_fields other = (0, [])

abbrev upgraded_fields : Entry → ℕ
upgraded_fields (entries.Upgraded moment) = moment
upgraded_fields other = 0

abbrev archived_fields : Entry → ℕ × (List ℕ × ℕ)
archived_fields (entries.Archived moment account place) = (moment, (account, place))
archived_fields other = (0, ([], 0))

-- The grammar of each kind of entry, behind its tag.

abbrev fields : Tag → Grammar Entry
fields tags.Start = variant (both word (raw 32)) start_from start_fields
fields tags.Accepted = variant (both moment (both address bytes)) accepted_from accepted_fields
fields tags.NotAccepted = variant (both moment (both address (both cause (both addresses bytes)))) not_accepted_from not_accepted_fields
fields tags.Took = variant (both moment (both id bytes)) took_from took_fields
fields tags.Decided = variant (both moment (both id (both address decision))) decided_from decided_fields
fields tags.Charged = variant (both moment (both id word)) charged_from charged_fields
fields tags.Learned = variant (both moment (both id (both address (both decision (both moment bytes))))) learned_from learned_fields
fields tags.Acked = variant (both moment (both id address)) acked_from acked_fields
fields tags.Ticked = variant moment ticked_from ticked_fields
fields tags.Anomaly = variant (both moment (both addresses bytes)) anomaly_from anomaly_fields
fields tags.StartTwo = variant (both word (raw 32)) start_two_from start_two_fields
fields tags.Upgraded = variant moment upgraded_from upgraded_fields
fields tags.Archived = variant (both moment (both address word)) archived_from archived_fields

abbrev tag_of : Entry → Tag
tag_of (entries.Start _ _) = tags.Start
tag_of (entries.Accepted _ _ _) = tags.Accepted
tag_of (entries.NotAccepted _ _ _ _ _) = tags.NotAccepted
tag_of (entries.Took _ _ _) = tags.Took
tag_of (entries.Decided _ _ _ _) = tags.Decided
tag_of (entries.Charged _ _ _) = tags.Charged
tag_of (entries.Learned _ _ _ _ _ _) = tags.Learned
tag_of (entries.Acked _ _ _) = tags.Acked
tag_of (entries.Ticked _) = tags.Ticked
tag_of (entries.Anomaly _ _ _) = tags.Anomaly
tag_of (entries.StartTwo _ _) = tags.StartTwo
tag_of (entries.Upgraded _) = tags.Upgraded
tag_of (entries.Archived _ _ _) = tags.Archived

fields_read : (t : Tag) (at : Cursor) → fields_at t at ≡ (fields t).read at
unfolding origin_at start_at accepted_at not_accepted_at took_at decided_at charged_at learned_at acked_at ticked_at anomaly_at start_two_at upgraded_at archived_at
fields_read tags.Start at = refl
fields_read tags.Accepted at = refl
fields_read tags.NotAccepted at = refl
fields_read tags.Took at = refl
fields_read tags.Decided at = refl
fields_read tags.Charged at = refl
fields_read tags.Learned at = refl
fields_read tags.Acked at = refl
fields_read tags.Ticked at = refl
fields_read tags.Anomaly at = refl
fields_read tags.StartTwo at = refl
fields_read tags.Upgraded at = refl
fields_read tags.Archived at = refl

has_key : (t : Tag) (e : Entry) → (fields t).Fits e → tag_of e ≡ t
has_key tags.Start e fits = ap tag_of fits.2
has_key tags.Accepted e fits = ap tag_of fits.2
has_key tags.NotAccepted e fits = ap tag_of fits.2
has_key tags.Took e fits = ap tag_of fits.2
has_key tags.Decided e fits = ap tag_of fits.2
has_key tags.Charged e fits = ap tag_of fits.2
has_key tags.Learned e fits = ap tag_of fits.2
has_key tags.Acked e fits = ap tag_of fits.2
has_key tags.Ticked e fits = ap tag_of fits.2
has_key tags.Anomaly e fits = ap tag_of fits.2
has_key tags.StartTwo e fits = ap tag_of fits.2
has_key tags.Upgraded e fits = ap tag_of fits.2
has_key tags.Archived e fits = ap tag_of fits.2

can_be_written : (t : Tag) (e : Entry) → (fields t).Fits e → CanBeWritten e
can_be_written tags.Start e fits = subst CanBeWritten (sym fits.2) fits.1
can_be_written tags.Accepted e fits = subst CanBeWritten (sym fits.2) fits.1
can_be_written tags.NotAccepted e fits = subst CanBeWritten (sym fits.2) (fits.1.0, (fits.1.1.0, fits.1.1.1.1))
can_be_written tags.Took e fits = subst CanBeWritten (sym fits.2) fits.1
can_be_written tags.Decided e fits = subst CanBeWritten (sym fits.2) (fits.1.0, (fits.1.1.0, fits.1.1.1.0))
can_be_written tags.Charged e fits = subst CanBeWritten (sym fits.2) fits.1
can_be_written tags.Learned e fits = subst CanBeWritten (sym fits.2) (fits.1.0, (fits.1.1.0, (fits.1.1.1.0, fits.1.1.1.1.1)))
can_be_written tags.Acked e fits = subst CanBeWritten (sym fits.2) fits.1
can_be_written tags.Ticked e fits = subst CanBeWritten (sym fits.2) fits.1
can_be_written tags.Anomaly e fits = subst CanBeWritten (sym fits.2) fits.1
can_be_written tags.StartTwo e fits = subst CanBeWritten (sym fits.2) fits.1
can_be_written tags.Upgraded e fits = subst CanBeWritten (sym fits.2) fits.1
can_be_written tags.Archived e fits = subst CanBeWritten (sym fits.2) fits.1

fits_fields : (e : Entry) → CanBeWritten e → (fields (tag_of e)).Fits e
fits_fields (entries.Start provider digest) can = ((provider, digest), can, refl)
fits_fields (entries.Accepted moment sender message) can = ((moment, (sender, message)), can, refl)
fits_fields (entries.NotAccepted moment sender cause path message) can = ((moment, (sender, (cause, (path, message)))), (can.0, (can.1.0, (tt, can.1.1))), refl)
fits_fields (entries.Took moment id message) can = ((moment, (id, message)), can, refl)
fits_fields (entries.Decided moment id recipient decision) can = ((moment, (id, (recipient, decision))), (can.0, (can.1.0, (can.1.1, tt))), refl)
fits_fields (entries.Charged moment id by) can = ((moment, (id, by)), can, refl)
fits_fields (entries.Learned moment id recipient decision decided message) can =
    ((moment, (id, (recipient, (decision, (decided, message))))), (can.0, (can.1.0, (can.1.1.0, (tt, can.1.1.1)))), refl)
fits_fields (entries.Acked moment id recipient) can = ((moment, (id, recipient)), can, refl)
fits_fields (entries.Ticked moment) can = (moment, can, refl)
fits_fields (entries.Anomaly moment accounts message) can = ((moment, (accounts, message)), can, refl)
fits_fields (entries.StartTwo provider digest) can = ((provider, digest), can, refl)
fits_fields (entries.Upgraded moment) can = (moment, can, refl)
fits_fields (entries.Archived moment account place) can = ((moment, (account, place)), can, refl)

spells_entry : (e : Entry) → entry_text e ≡ (keyed tag tag_of fields).spell e
spells_entry (entries.Start _ _) = refl
spells_entry (entries.Accepted _ _ _) = refl
spells_entry (entries.NotAccepted _ _ _ _ _) = refl
spells_entry (entries.Took _ _ _) = refl
spells_entry (entries.Decided _ _ _ _) = refl
spells_entry (entries.Charged _ _ _) = refl
spells_entry (entries.Learned _ _ _ _ _ _) = refl
spells_entry (entries.Acked _ _ _) = refl
spells_entry (entries.Ticked _) = refl
spells_entry (entries.Anomaly _ _ _) = refl
spells_entry (entries.StartTwo _ _) = refl
spells_entry (entries.Upgraded _) = refl
spells_entry (entries.Archived _ _ _) = refl

-- Entries.

abbrev pub entry : Grammar Entry
entry = record { Fits = CanBeWritten; spell = entry_text; read = entry_at }

tagged_step : (r : Read Tag) → (r >>= λ t. fields_at t.0 t.1) ≡ (r >>= λ t. (fields t.0).read t.1)
tagged_step (Ok taken) = fields_read taken.0 taken.1
tagged_step (Err stop) = refl

fields_lawful : LowerAddressesPass → HavePlaces → (t : Tag) → Lawful (fields t)
fields_lawful law places tags.Start =
    variant_lawful (both word (raw 32)) start_from start_fields (λ x. refl) (both_lawful word (raw 32) word_lawful (raw_lawful 32))
fields_lawful law places tags.Accepted =
    variant_lawful (both moment (both address bytes)) accepted_from accepted_fields (λ x. refl)
    (both_lawful moment (both address bytes) moment_lawful (both_lawful address bytes (address_lawful law) bytes_lawful))
fields_lawful law places tags.NotAccepted =
    let paths = both addresses bytes in
    let caused = both cause paths in
    variant_lawful (both moment (both address caused)) not_accepted_from not_accepted_fields (λ x. refl)
    (both_lawful moment (both address caused) moment_lawful (both_lawful address caused (address_lawful law)
    (both_lawful cause paths (cause_lawful places) (both_lawful addresses bytes (addresses_lawful law) bytes_lawful))))
fields_lawful law places tags.Took =
    variant_lawful (both moment (both id bytes)) took_from took_fields (λ x. refl)
    (both_lawful moment (both id bytes) moment_lawful (both_lawful id bytes id_lawful bytes_lawful))
fields_lawful law places tags.Decided =
    variant_lawful (both moment (both id (both address decision))) decided_from decided_fields (λ x. refl)
    (both_lawful moment (both id (both address decision)) moment_lawful (both_lawful id (both address decision) id_lawful
    (both_lawful address decision (address_lawful law) decision_lawful)))
fields_lawful law places tags.Charged =
    variant_lawful (both moment (both id word)) charged_from charged_fields (λ x. refl)
    (both_lawful moment (both id word) moment_lawful (both_lawful id word id_lawful word_lawful))
fields_lawful law places tags.Learned =
    let dated = both moment bytes in
    let known = both decision dated in
    let told = both address known in
    variant_lawful (both moment (both id told)) learned_from learned_fields (λ x. refl)
    (both_lawful moment (both id told) moment_lawful (both_lawful id told id_lawful (both_lawful address known (address_lawful law)
    (both_lawful decision dated decision_lawful (both_lawful moment bytes moment_lawful bytes_lawful)))))
fields_lawful law places tags.Acked =
    variant_lawful (both moment (both id address)) acked_from acked_fields (λ x. refl)
    (both_lawful moment (both id address) moment_lawful (both_lawful id address id_lawful (address_lawful law)))
fields_lawful law places tags.Ticked = variant_lawful moment ticked_from ticked_fields (λ x. refl) moment_lawful
fields_lawful law places tags.Anomaly =
    variant_lawful (both moment (both addresses bytes)) anomaly_from anomaly_fields (λ x. refl)
    (both_lawful moment (both addresses bytes) moment_lawful (both_lawful addresses bytes (addresses_lawful law) bytes_lawful))
fields_lawful law places tags.StartTwo =
    variant_lawful (both word (raw 32)) start_two_from start_two_fields (λ x. refl)
    (both_lawful word (raw 32) word_lawful (raw_lawful 32))
fields_lawful law places tags.Upgraded = variant_lawful moment upgraded_from upgraded_fields (λ x. refl) moment_lawful
fields_lawful law places tags.Archived =
    variant_lawful (both moment (both address word)) archived_from archived_fields (λ x. refl)
    (both_lawful moment (both address word) moment_lawful (both_lawful address word (address_lawful law) word_lawful))

pub entry_lawful : LowerAddressesPass → HavePlaces → Lawful entry
unfolding entry_at
entry_lawful law places =
    same_lawful (keyed tag tag_of fields) entry
    (λ e fits. can_be_written (tag_of e) e fits.1)
    (λ e can. (tt, fits_fields e can))
    (λ e can. spells_entry e)
    (λ at. tagged_step (tag.read at))
    (keyed_lawful tag fields tag_lawful (λ t fits. fields_lawful law places t) tag_of has_key)
