-- What is written of a dossier, line by line: of each message what it says as a genuine letter, or why it is none
-- (`message_rows`); and of each pair of which letters tell what was decided, what they prove together (`finding_words`). This
-- project's profile.
use Rattle.std.specs.Prelude.{ℕ, ◌+◌, List, [], ◌∷◌, ◌++◌, codes, Option, None, Some, Result, Ok, Err}
use Rattle.std.specs.Fmt.{decimal}
use Rattle.base64.specs.Engines.{standard}
use Rattle.base64.specs.GeneralPurpose.{encode_of}
use Rattle.pec_types.specs.Bytes.{Bytes}
use Rattle.pec_types.specs.Words.{decision_word}
use Rattle.pec_types.specs.declared.disputes.Disputed.{Disputed}
use Rattle.pec_types.specs.declared.disputes.Disputed.TheVariants as disputed
use Rattle.pec_types.specs.declared.disputes.LetterFault.{LetterFault}
use Rattle.pec_types.specs.declared.disputes.LetterFault.TheVariants as faults
use Rattle.pec_types.specs.declared.messages.Decision.{Decision}
use Rattle.pec_directory.specs.Directory.{Provider}
use Rattle.pec_check.specs.declared.checking.CheckFault.{CheckFault}
use Rattle.pec_check.specs.declared.checking.CheckFault.TheVariants.{Letter, WrongProvider}
use Rattle.pec_check.specs.declared.dossiers.Finding.{Finding}
use Rattle.pec_check.specs.declared.reports.Report.{Report}
use Rattle.pec_check.specs.declared.reports.SavedKind.{SavedKind}
use Rattle.pec_check.specs.declared.reports.SavedKind.TheVariants.{Envelope, Receipt}
use Rattle.pec_script.specs.Texts.{Row, id_of, name_of, receipt_word, recipient_word}

-- What is told of a message: what it says as a genuine letter, or why it is none.
abbrev pub Told : Type 0
Told = Result Report CheckFault

-- ---- a genuine letter: `genuine N KIND ID BY MOMENT RECIPIENT`, and then `cert BASE64` where it has a certification text

abbrev pub kind_word : SavedKind → Bytes
kind_word Envelope = codes "envelope"
kind_word (Receipt kind) = receipt_word kind

abbrev pub genuine_words : List Provider → ℕ → Report → Row
genuine_words providers number report =
    codes "genuine" ∷ decimal number ∷ kind_word report.kind ∷ id_of providers report.id ∷ name_of providers report.by
    ∷ decimal report.moment ∷ recipient_word report.recipient ∷ []

abbrev pub cert_rows : Option Bytes → List Row
cert_rows None = []
cert_rows (Some cert) = (codes "cert" ∷ encode_of standard cert ∷ []) ∷ []

-- ---- any other message: `refused N FAULT`

abbrev pub disputed_word : Disputed → Bytes
disputed_word disputed.Identifier = codes "identifier"
disputed_word disputed.Sealer = codes "sealer"
disputed_word disputed.Sender = codes "sender"
disputed_word disputed.Recipient = codes "recipient"
disputed_word disputed.Wish = codes "wish"
disputed_word disputed.Moment = codes "moment"

-- A fault of a letter by its words. Want of memory is never written.
abbrev pub letter_words : LetterFault → Row
letter_words faults.Seal = codes "seal" ∷ []
letter_words faults.Head = codes "head" ∷ []
letter_words faults.Body = codes "body" ∷ []
letter_words faults.Cert = codes "cert" ∷ []
letter_words faults.NotThis = codes "not-this" ∷ []
letter_words (faults.Disagree what) = codes "disagree" ∷ disputed_word what ∷ []
letter_words faults.NoMemory = []

abbrev pub fault_words : CheckFault → Row
fault_words (Letter fault) = letter_words fault
fault_words (WrongProvider provider) = codes "wrong-provider" ∷ []

abbrev pub refused_words : ℕ → CheckFault → Row
refused_words number fault = codes "refused" ∷ decimal number ∷ fault_words fault

-- ---- all messages

-- The lines of the message of a number, from 0.
abbrev pub message_rows : List Provider → ℕ → Told → List Row
message_rows providers number (Ok report) = genuine_words providers number report ∷ cert_rows report.cert
message_rows providers number (Err fault) = refused_words number fault ∷ []

-- the lines of messages, the first of which has this number
abbrev pub rows_from : List Provider → ℕ → List Told → List Row
rows_from providers number [] = []
rows_from providers number (told ∷ more) = message_rows providers number told ++ rows_from providers (number + 1) more

-- ---- a finding: `proof ID RECIPIENT DECISION` or `conflict ID RECIPIENT`

-- what is found of a pair
abbrev pub finding_words_by : Bytes → Bytes → Option Decision → Row
finding_words_by id recipient None = codes "conflict" ∷ id ∷ recipient ∷ []
finding_words_by id recipient (Some decision) = codes "proof" ∷ id ∷ recipient ∷ decision_word decision ∷ []

abbrev pub finding_words : List Provider → Finding → Row
finding_words providers finding = finding_words_by (id_of providers finding.id) finding.recipient finding.decision
