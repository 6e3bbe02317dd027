-- What the letters of a dossier prove together: `findings_of`, at the end. Of each message and recipient of which a
-- genuine letter tells what was decided, in the order in which they first come, the one decision that all of these
-- letters tell, or none where they contradict each other. This project's profile.
use Rattle.std.specs.Prelude.{◌==◌, List, [], ◌∷◌, Bool, not, ◌&&◌, filter, map, if◌then◌else◌, Option, Some, None}
use Rattle.std.specs.List.{filter_map, list_all}
use Rattle.std.specs.Str.{bytes_eq}
use Rattle.pec_types.specs.Bytes.{Bytes}
use Rattle.pec_types.specs.Message.{Id}
use Rattle.pec_types.specs.Words.{decision_word}
use Rattle.pec_types.specs.declared.messages.Decision.{Decision}
use Rattle.pec_types.specs.declared.messages.Decision.TheVariants.{Placed, Refused}
use Rattle.pec_types.specs.declared.messages.Refusal.TheVariants as refusals
use Rattle.pec_types.specs.declared.receipts.Kind.TheVariants as kinds
use Rattle.pec_check.specs.declared.dossiers.Finding.{Finding}
use Rattle.pec_check.specs.declared.pairs.PairKey.{PairKey}
use Rattle.pec_check.specs.declared.reports.Report.{Report}
use Rattle.pec_check.specs.declared.reports.SavedKind.{SavedKind}
use Rattle.pec_check.specs.declared.reports.SavedKind.TheVariants.{Envelope, Receipt}

-- What a letter attests: what was decided of a message for a recipient.
pub record Attested : Type 0 where
  pub pair : PairKey
  pub decision : Decision

-- ---- what one letter says

-- the decision that a kind of letter tells: a line for each kind that tells one
abbrev pub decision_told : SavedKind → Option Decision
decision_told Envelope = None
decision_told (Receipt kinds.Acceptance) = None
decision_told (Receipt (kinds.NonAcceptance cause)) = None
decision_told (Receipt kinds.Charge) = None
decision_told (Receipt kinds.Delivery) = Some Placed
decision_told (Receipt (kinds.DeliveryError refusal)) = Some (Refused refusal)
decision_told (Receipt kinds.VirusFound) = Some (Refused refusals.Virus)
decision_told (Receipt kinds.Warning) = None
decision_told (Receipt kinds.Notice) = None
decision_told (Receipt kinds.LateNotice) = None
decision_told (Receipt kinds.Ack) = None

abbrev pub attests : Id → Option Bytes → Option Decision → Option Attested
attests id (Some recipient) (Some decision) =
    Some (record { pair = record { id = id; recipient = recipient }; decision = decision })
attests id (Some recipient) None = None
attests id None decision = None

-- what a genuine letter attests, where it does
unfoldable pub attested_by : Report → Option Attested
attested_by report = attests report.id report.recipient (decision_told report.kind)

-- ---- what they say together

-- the two are one pair
abbrev pub is_pair : PairKey → PairKey → Bool
is_pair a b = ((a.id.provider == b.id.provider) && (a.id.number == b.id.number)) && bytes_eq a.recipient b.recipient

-- what a finding is of
abbrev pub pair_in : Finding → PairKey
pair_in finding = record { id = finding.id; recipient = finding.recipient }

-- the finding of a pair with this decision
abbrev pub finding_on : PairKey → Option Decision → Finding
finding_on pair decision = record { id = pair.id; recipient = pair.recipient; decision = decision }

-- one decision is the other
abbrev pub is_decision : Decision → Decision → Bool
is_decision one other = bytes_eq (decision_word one) (decision_word other)

-- what is attested of a pair
abbrev pub decisions_on : PairKey → List Attested → List Decision
decisions_on pair all =
    map (λ (one : Attested). one.decision) (filter (λ (one : Attested). is_pair pair one.pair) all)

-- the decision, where all are the same one
abbrev pub agreed : List Decision → Option Decision
agreed [] = None
agreed (decision ∷ others) = if list_all (is_decision decision) others then Some decision else None

-- pairs, each where it first comes
abbrev pub each_once : List PairKey → List PairKey
each_once [] = []
each_once (pair ∷ more) = pair ∷ filter (λ (other : PairKey). not (is_pair pair other)) (each_once more)

-- The findings: of each pair, where it first comes, by all that is attested of it.
unfoldable pub findings : List Attested → List Finding
findings all =
    map (λ (pair : PairKey). finding_on pair (agreed (decisions_on pair all)))
    (each_once (map (λ (one : Attested). one.pair) all))

-- What genuine letters prove together.
abbrev pub findings_of : List Report → List Finding
findings_of reports = findings (filter_map attested_by reports)
