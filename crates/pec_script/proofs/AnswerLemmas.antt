-- The lines of submissions, of events and of what is refused are of one answer each.
use Rattle.std.proofs.Common.{◌≡◌, Bool, true, false, ◌&&◌, not, eqb, List, map, [], ◌∷◌, codes, Option, Some, refl, sym, ◌∙◌, ap, arith}
use Rattle.std.proofs.lemmas.Bool.{false≢true}
use Rattle.std.proofs.lemmas.Option.{same_Some}
use Rattle.std.proofs.lemmas.Slice.Eq.{bytes_eq-Decides}
use Rattle.std.specs.Fmt.{decimal}
use Rattle.std.specs.List.{list_all}
use Rattle.std.specs.Prelude.{find}
use Rattle.std.specs.Str.{bytes_eq}
use Rattle.pec_directory.specs.Directory.{Provider}
use Rattle.pec_directory.specs.Lawful.{IsLawful}
use Rattle.pec_types.specs.Bytes.{Bytes}
use Rattle.pec_types.specs.Words.{all_causes, cause_word, decision_word}
use Rattle.pec_types.specs.declared.letters.Letter.{Letter}
use Rattle.pec_types.specs.declared.letters.Letter.TheVariants as letters
use Rattle.pec_types.specs.declared.messages.Cause.{Cause}
use Rattle.pec_types.specs.declared.turns.Event.{Event}
use Rattle.pec_types.specs.declared.turns.Event.TheVariants as events
use Rattle.pec_types.specs.declared.turns.ProviderFault.{ProviderFault}
use Rattle.pec_types.specs.declared.turns.ProviderFault.TheVariants as refusals
use Rattle.pec_types.specs.declared.turns.Submitted.{Submitted}
use Rattle.pec_types.specs.declared.turns.Submitted.TheVariants as submitted
use Rattle.pec_script.specs.Printed.{AreSameEvents, AreSameLetters, IsEvent, IsLetter, IsRefusal, IsSubmitted}
use Rattle.pec_script.specs.Rows.{AreRows, IsRow, IsWord}
use Rattle.pec_script.specs.Texts.{Row, event_words, fault_text, id_of, letter_words, name_of, refusal_rows, submitted_text, submitted_words}
use Rattle.pec_script.proofs.BookLemmas.{one_decision}
use Rattle.pec_script.proofs.RowLemmas.{CutsTold, one_text}
use Rattle.pec_script.proofs.WordLemmas.{NamesTold, decimal_word, id_of_word, one_decimal, one_id, text_word}

-- ---- lines that begin with different words differ

unfoldable begins : Row → Bytes
begins [] = []
begins (word ∷ words) = word

apart : (row other : Row) → row ≡ other → bytes_eq (begins row) (begins other) ≡ false → ⊥
apart row other e test = false≢true (sym test ∙ (bytes_eq-Decides (begins row) (begins other)).1 (ap begins e))

unfoldable first_row : List Row → Row
first_row [] = []
first_row (row ∷ rows) = row

rows_apart : (rows others : List Row) → rows ≡ others → bytes_eq (begins (first_row rows)) (begins (first_row others)) ≡ false → ⊥
rows_apart rows others e test = apart (first_row rows) (first_row others) (ap first_row e) test

-- ---- submissions

-- what the law of all causes says
pub record CausesTold : Type 0 where
  pub passes : (test : Cause → Bool) → list_all test all_causes ≡ true → (cause : Cause) → test cause ≡ true
  pub found : (find : Cause → Option Cause) → map find all_causes ≡ map Some all_causes → (cause : Cause) → find cause ≡ Some cause

cause_is_word : CausesTold → (cause : Cause) → IsWord (cause_word cause)
cause_is_word causes cause =
    text_word (cause_word cause) (causes.passes (λ (one : Cause). list_all (λ b. not (eqb b 32) && not (eqb b 10)) (cause_word one)) refl cause)

cause_of : Bytes → Option Cause
cause_of word = find (λ (cause : Cause). bytes_eq word (cause_word cause)) all_causes

cause_again : CausesTold → (cause : Cause) → cause_of (cause_word cause) ≡ Some cause
unfolding cause_of
cause_again causes cause = causes.found (λ (one : Cause). cause_of (cause_word one)) refl cause

one_cause : CausesTold → (cause other : Cause) → cause_word cause ≡ cause_word other → cause ≡ other
one_cause causes cause other e = same_Some cause other (sym (cause_again causes cause) ∙ (ap cause_of e ∙ cause_again causes other))

submitted_is_row : CausesTold → NamesTold → (providers : List Provider) → IsLawful providers → (told : Submitted) → IsSubmitted providers told → IsRow (submitted_words providers told)
submitted_is_row causes names providers lawful (submitted.Accepted id) is =
    record { some = omega arith; words = (text_word (codes "accepted") refl, (id_of_word names providers id lawful is, tt)) }
submitted_is_row causes names providers lawful (submitted.NotAccepted id cause) is =
    record { some = omega arith; words = (text_word (codes "not-accepted") refl, (id_of_word names providers id lawful is, (cause_is_word causes cause, tt))) }

one_submitted_row : CausesTold → NamesTold → (providers : List Provider) → IsLawful providers → (told other : Submitted) → IsSubmitted providers told → IsSubmitted providers other
    → submitted_words providers told ≡ submitted_words providers other → told ≡ other
one_submitted_row causes names providers lawful (submitted.Accepted id) (submitted.Accepted other) is also e =
    let same : id_of providers id ≡ id_of providers other = cc in ap (λ i. submitted.Accepted i) (one_id names providers id other lawful is also same)
one_submitted_row causes names providers lawful (submitted.Accepted id) (submitted.NotAccepted other cause) is also e = absurd cc
one_submitted_row causes names providers lawful (submitted.NotAccepted id cause) (submitted.Accepted other) is also e = absurd cc
one_submitted_row causes names providers lawful (submitted.NotAccepted id cause) (submitted.NotAccepted other why) is also e =
    let same : id_of providers id ≡ id_of providers other = cc in
    let word : cause_word cause ≡ cause_word why = cc in
    ap (λ i. submitted.NotAccepted i cause) (one_id names providers id other lawful is also same) ∙ ap (λ c. submitted.NotAccepted other c) (one_cause causes cause why word)

pub one_submitted : CausesTold → CutsTold → NamesTold → (providers : List Provider) → IsLawful providers → (told other : Submitted) → IsSubmitted providers told → IsSubmitted providers other
    → submitted_text providers told ≡ submitted_text providers other → told ≡ other
unfolding submitted_text
one_submitted causes cuts names providers lawful told other is also e =
    one_submitted_row causes names providers lawful told other is also (first (submitted_words providers told) (submitted_words providers other)
    (one_text cuts (submitted_words providers told ∷ []) (submitted_words providers other ∷ []) (submitted_is_row causes names providers lawful told is, tt) (submitted_is_row causes names providers lawful other also, tt) e))
  where
    first : (row other : Row) → row ∷ [] ≡ other ∷ [] → row ≡ other
    first row other e = cc

-- ---- refusals

refusal_are_rows : (fault : ProviderFault) → IsRefusal fault → AreRows (refusal_rows [] fault)
refusal_are_rows refusals.DiskFault is = (record { some = omega arith; words = (text_word (codes "fault") refl, (text_word (codes "disk") refl, tt)) }, tt)
refusal_are_rows refusals.Down is = (record { some = omega arith; words = (text_word (codes "down") refl, tt) }, tt)
refusal_are_rows (refusals.ClockBack last) is = (record { some = omega arith; words = (text_word (codes "clock-back") refl, (decimal_word last (omega arith), tt)) }, tt)
refusal_are_rows refusals.NoAccount is = (record { some = omega arith; words = (text_word (codes "no-account") refl, tt) }, tt)
refusal_are_rows refusals.Full is = (record { some = omega arith; words = (text_word (codes "full") refl, tt) }, tt)
refusal_are_rows refusals.NoItem is = (record { some = omega arith; words = (text_word (codes "no-item") refl, tt) }, tt)
refusal_are_rows refusals.JournalFull is = (record { some = omega arith; words = (text_word (codes "journal-full") refl, tt) }, tt)
refusal_are_rows refusals.OldJournal is = (record { some = omega arith; words = (text_word (codes "old-journal") refl, tt) }, tt)
refusal_are_rows refusals.NoNeed is = (record { some = omega arith; words = (text_word (codes "no-need") refl, tt) }, tt)
refusal_are_rows refusals.NoMemory is = tt
refusal_are_rows (refusals.Changed entry) is = (record { some = omega arith; words = (text_word (codes "changed") refl, (decimal_word entry is, tt)) }, tt)

one_refusal_row : (fault other : ProviderFault) → IsRefusal fault → IsRefusal other → refusal_rows [] fault ≡ refusal_rows [] other → fault ≡ other
unfolding begins first_row
one_refusal_row refusals.DiskFault refusals.DiskFault is also e = refl
one_refusal_row refusals.DiskFault other is also e = absurd (rows_apart _ _ e refl)
one_refusal_row refusals.Down refusals.Down is also e = refl
one_refusal_row refusals.Down other is also e = absurd (rows_apart _ _ e refl)
one_refusal_row (refusals.ClockBack last) (refusals.ClockBack other) is also e =
    let number : decimal last ≡ decimal other = cc in ap (λ m. refusals.ClockBack m) (one_decimal last other (omega arith) (omega arith) number)
one_refusal_row (refusals.ClockBack last) other is also e = absurd (rows_apart _ _ e refl)
one_refusal_row refusals.NoAccount refusals.NoAccount is also e = refl
one_refusal_row refusals.NoAccount other is also e = absurd (rows_apart _ _ e refl)
one_refusal_row refusals.Full refusals.Full is also e = refl
one_refusal_row refusals.Full other is also e = absurd (rows_apart _ _ e refl)
one_refusal_row refusals.NoItem refusals.NoItem is also e = refl
one_refusal_row refusals.NoItem other is also e = absurd (rows_apart _ _ e refl)
one_refusal_row refusals.JournalFull refusals.JournalFull is also e = refl
one_refusal_row refusals.JournalFull other is also e = absurd (rows_apart _ _ e refl)
one_refusal_row refusals.OldJournal refusals.OldJournal is also e = refl
one_refusal_row refusals.OldJournal other is also e = absurd (rows_apart _ _ e refl)
one_refusal_row refusals.NoNeed refusals.NoNeed is also e = refl
one_refusal_row refusals.NoNeed other is also e = absurd (rows_apart _ _ e refl)
one_refusal_row refusals.NoMemory refusals.NoMemory is also e = refl
one_refusal_row refusals.NoMemory other is also e = absurd (rows_apart _ _ e refl)
one_refusal_row (refusals.Changed entry) (refusals.Changed other) is also e =
    let number : decimal entry ≡ decimal other = cc in ap (λ m. refusals.Changed m) (one_decimal entry other is also number)
one_refusal_row (refusals.Changed entry) other is also e = absurd (rows_apart _ _ e refl)

pub one_refusal : CutsTold → (fault other : ProviderFault) → IsRefusal fault → IsRefusal other → fault_text fault ≡ fault_text other → fault ≡ other
unfolding fault_text
one_refusal cuts fault other is also e =
    one_refusal_row fault other is also (one_text cuts (refusal_rows [] fault) (refusal_rows [] other) (refusal_are_rows fault is) (refusal_are_rows other also) e)

-- ---- events

same_letter : NamesTold → (providers : List Provider) → IsLawful providers → (letter other : Letter) → IsLetter providers letter → IsLetter providers other
    → letter_words providers letter ≡ letter_words providers other → AreSameLetters letter other
unfolding begins
same_letter names providers lawful (letters.Envelope id to) (letters.Envelope other also) is too e =
    let same : id_of providers id ≡ id_of providers other = cc in one_id names providers id other lawful is too same
same_letter names providers lawful (letters.Envelope id to) other is too e = absurd (apart _ _ e refl)
same_letter names providers lawful (letters.Charge id by) (letters.Charge other also) is too e =
    let same : id_of providers id ≡ id_of providers other = cc in one_id names providers id other lawful is too same
same_letter names providers lawful (letters.Charge id by) other is too e = absurd (apart _ _ e refl)
same_letter names providers lawful (letters.Outcome id recipient) (letters.Outcome other also) is too e =
    let same : id_of providers id ≡ id_of providers other = cc in
    let bytes : recipient ≡ also = cc in
    (one_id names providers id other lawful is too same, bytes)
same_letter names providers lawful (letters.Outcome id recipient) other is too e = absurd (apart _ _ e refl)
same_letter names providers lawful (letters.Ack id recipient) (letters.Ack other also) is too e =
    let same : id_of providers id ≡ id_of providers other = cc in
    let bytes : recipient ≡ also = cc in
    (one_id names providers id other lawful is too same, bytes)
same_letter names providers lawful (letters.Ack id recipient) other is too e = absurd (apart _ _ e refl)

pub same_event : NamesTold → (providers : List Provider) → IsLawful providers → (event other : Event) → IsEvent providers event → IsEvent providers other
    → event_words providers event ≡ event_words providers other → AreSameEvents providers event other
unfolding begins
same_event names providers lawful (events.Took id) (events.Took other) is too e =
    let same : id_of providers id ≡ id_of providers other = cc in one_id names providers id other lawful is too same
same_event names providers lawful (events.Took id) other is too e = absurd (apart _ _ e refl)
same_event names providers lawful (events.Charged id by) (events.Charged other also) is too e =
    let same : id_of providers id ≡ id_of providers other = cc in
    let name : name_of providers by ≡ name_of providers also = cc in
    (one_id names providers id other lawful is too same, name)
same_event names providers lawful (events.Charged id by) other is too e = absurd (apart _ _ e refl)
same_event names providers lawful (events.Learned id recipient decision) (events.Learned other also what) is too e =
    let same : id_of providers id ≡ id_of providers other = cc in
    let bytes : recipient ≡ also = cc in
    let word : decision_word decision ≡ decision_word what = cc in
    (one_id names providers id other lawful is too same, bytes, one_decision decision what word)
same_event names providers lawful (events.Learned id recipient decision) other is too e = absurd (apart _ _ e refl)
same_event names providers lawful (events.Acked id recipient) (events.Acked other also) is too e =
    let same : id_of providers id ≡ id_of providers other = cc in
    let bytes : recipient ≡ also = cc in
    (one_id names providers id other lawful is too same, bytes)
same_event names providers lawful (events.Acked id recipient) other is too e = absurd (apart _ _ e refl)
same_event names providers lawful (events.Repeat letter) (events.Repeat other) is too e =
    let words : letter_words providers letter ≡ letter_words providers other = cc in same_letter names providers lawful letter other is too words
same_event names providers lawful (events.Repeat letter) other is too e = absurd (apart _ _ e refl)
same_event names providers lawful (events.Anomaly accounts) (events.Anomaly other) is too e =
    let number : decimal accounts ≡ decimal other = cc in one_decimal accounts other is too number
same_event names providers lawful (events.Anomaly accounts) other is too e = absurd (apart _ _ e refl)
same_event names providers lawful events.Dropped events.Dropped is too e = tt
same_event names providers lawful events.Dropped other is too e = absurd (apart _ _ e refl)
same_event names providers lawful (events.Decided id recipient decision) (events.Decided other also what) is too e =
    let same : id_of providers id ≡ id_of providers other = cc in
    let bytes : recipient ≡ also = cc in
    let word : decision_word decision ≡ decision_word what = cc in
    (one_id names providers id other lawful is too same, bytes, one_decision decision what word)
same_event names providers lawful (events.Decided id recipient decision) other is too e = absurd (apart _ _ e refl)
