-- What a provider owes for a frame: nothing for a charge or an acknowledgement, and at most one answer, to the provider
-- that put it, for an envelope or an outcome. So answers are no longer than what they answer.
use Rattle.std.proofs.Common.{◌≡◌, ℕ, suc, ◌+◌, ◌<◌, ◌≤◌, List, [], ◌∷◌, ◌++◌, Bool, true, false, cond, ◌⊎◌, inl, inr, length, refl, ap, sym, subst, ◌∙◌, arith, Option, Some, None}
use Rattle.std.specs.Prelude.{Contains, filter, slice_index_or}
use Rattle.std.proofs.lemmas.Bool.{cases_eq, ne_eqb}
use Rattle.std.proofs.lemmas.List.{append_assoc, length-append}
use Rattle.std.proofs.lemmas.List.Elements.{Contains-append_cases, filter-append}
use Rattle.pec_types.specs.Bytes.{Bytes, Path}
use Rattle.pec_types.specs.Message.{Id}
use Rattle.pec_types.specs.declared.letters.Letter.{Letter}
use Rattle.pec_types.specs.declared.letters.Letter.TheVariants as letters
use Rattle.pec_types.specs.declared.messages.Decision.{Decision}
use Rattle.pec_types.specs.declared.messages.Decision.TheVariants.{Placed, Refused}
use Rattle.pec_types.specs.declared.messages.Refusal.TheVariants as refusals
use Rattle.pec_types.specs.declared.receipts.Kind.TheVariants as kinds
use Rattle.pec_records.specs.declared.entries.Entry.{Entry}
use Rattle.pec_ledger.specs.Due.{addressee, answers_to}
use Rattle.pec_ledger.specs.Half.{Charge, Known, Taken}
use Rattle.pec_ledger.specs.Ledger.{Journals}
use Rattle.pec_ledger.specs.Lookups.{charged_of, is_acked, is_home, known_of, outcome_kind, taken_of}
use Rattle.pec_ledger.specs.Pairs.{Pair, pair_of}
use Rattle.pec_ledger.specs.Steps.{half}
use Rattle.pec_ledger.specs.Trade.{Framed, Receipt, Seen, Trade}
use Rattle.pec_plays.specs.Composed.{IsFrameOf}
use Rattle.pec_plays.specs.Decisions.{Looks, decide, undecided}
use Rattle.pec_plays.specs.Reception.{accounts_with_room, ack_fits, ack_rows, anomaly, arrive, by_frame, by_outcome, by_receipt, by_seen, charge_fits, charge_rows, envelope_fits, envelope_rows, otherwise, outcome_fits, outcome_rows}
use Rattle.pec_plays.specs.ReceptionRows.{IsReceived, NewEnvelope, KnownEnvelope, NewCharge, KnownCharge, NewOutcome, KnownOutcome, NewAck, KnownAck, SomeRoom, NoRoom}
use Rattle.pec_plays.specs.Steps.{Step, journal_after}
use Rattle.pec_plays.specs.Turns.{decisions, frames_in, owed_of, plan}
use Rattle.pec_progress.specs.Progress.{most_open}
use Rattle.pec_progress.proofs.LawLemmas.{FitLaws, PlayLaws}
use Rattle.pec_progress.proofs.ListLemmas.{contains_cases, contains_here, contains_none, contains_there}

-- each item of a list
abbrev pub Each : {X : Type 0} → (X → Type 0) → List X → Type 0
Each {X} P xs = (x : X) → Contains xs x → P x

-- a step owes nothing, or this letter alone
abbrev pub AtMost : Letter → Step → Type 0
AtMost letter s = (s.owed ≡ []) ⊎ (s.owed ≡ letter ∷ [])

-- ---- a frame

module _ (trade : Trade) (p now : ℕ) (es : List Entry) (f : Framed) where
  anomaly_owes : (accounts : Path) → (anomaly trade p now es f.message accounts).owed ≡ []
  anomaly_owes [] = refl
  anomaly_owes (a ∷ accounts) = refl

  else_owes : (otherwise trade p now es f).owed ≡ []
  else_owes = anomaly_owes (accounts_with_room trade p es f.path)

  envelope_owes : (id : Id) (fits : Bool) (row : Option Taken) → AtMost (letters.Charge id p) (envelope_rows trade p now es f id fits row)
  envelope_owes id false row = inl else_owes
  envelope_owes id true None = inr refl
  envelope_owes id true (Some row) = inr refl

  charge_owes : (r : Receipt) (fits : Bool) (row : Option Charge) → (charge_rows trade p now es f r fits row).owed ≡ []
  charge_owes r false row = else_owes
  charge_owes r true None = refl
  charge_owes r true (Some row) = refl

  outcome_owes : (r : Receipt) (recipient : Bytes) (decision : Decision) (fits : Bool) (row : Option Known)
      → AtMost (letters.Ack r.id recipient) (outcome_rows trade p now es f r recipient decision fits row)
  outcome_owes r recipient decision false row = inl else_owes
  outcome_owes r recipient decision true None = inr refl
  outcome_owes r recipient decision true (Some row) = inr refl

  ack_owes : (r : Receipt) (recipient : Bytes) (fits acked : Bool) → (ack_rows trade p now es f r recipient fits acked).owed ≡ []
  ack_owes r recipient false acked = else_owes
  ack_owes r recipient true false = refl
  ack_owes r recipient true true = refl

  by_decision : (r : Receipt) (decision : Decision) → by_receipt trade p now es f r (outcome_kind decision) ≡ by_outcome trade p now es f r decision r.recipient
  by_decision r Placed = refl
  by_decision r (Refused refusals.NoMailbox) = refl
  by_decision r (Refused refusals.MailboxFull) = refl
  by_decision r (Refused refusals.Virus) = refl

module _ (trade : Trade) where
  seen_so : (p now : ℕ) (es : List Entry) (frame : Bytes) (f : Framed) → trade.unframed frame ≡ Some f → (seen : Seen) → trade.view f.message ≡ Some seen
      → arrive trade p now es frame ≡ by_seen trade p now es f (Some seen)
  unfolding arrive
  seen_so p now es frame f u seen e = ap (by_frame trade p now es) u ∙ ap (by_seen trade p now es f) e

  -- nothing is ever owed for the frame
  abbrev pub IsQuiet : ℕ → Bytes → Type 0
  IsQuiet p frame = (now : ℕ) (es : List Entry) → (arrive trade p now es frame).owed ≡ []

  -- at most one letter is, the same one always, and for the provider `from`
  abbrev pub IsAsking : ℕ → ℕ → Bytes → Type 0
  IsAsking from p frame = (letter : Letter) × (addressee trade letter ≡ Some from) × ((now : ℕ) (es : List Entry) → AtMost letter (arrive trade p now es frame))

  module _ (J : Journals) (laws : FitLaws trade J) where
    -- by the letter that stands in the frame
    pub envelope_asks : (from to : ℕ) (id : Id) (frame : Bytes) → IsFrameOf trade J from (letters.Envelope id to) frame → IsAsking from to frame
    envelope_asks from to id frame put = (
      letters.Charge id to,
      ap (λ (p : ℕ). Some p) put.is.0,
      λ now es. subst (AtMost (letters.Charge id to)) (sym (seen_so to now es frame put.framed put.unframed _ (laws.envelopes_seen id to put.framed.message put.is.1.text)))
          (envelope_owes trade to now es put.framed id (envelope_fits trade to put.framed) (taken_of (half trade to es) id)),
    )

    pub outcome_asks : (from to : ℕ) (pair : Pair) (frame : Bytes) → IsFrameOf trade J from (letters.Outcome pair.id pair.recipient) frame → IsAsking from to frame
    outcome_asks from to pair frame put =
        let text = put.is.1.text
        in let decision = text.fate.decision
        in let r : Receipt = record { kind = outcome_kind decision; id = pair.id; by = text.home; moment = text.fate.moment; recipient = Some pair.recipient }
        in let letter = letters.Ack pair.id pair.recipient
        in (
          letter,
          put.is.0,
          λ now es. subst (AtMost letter)
              (sym (seen_so to now es frame put.framed put.unframed _ (laws.outcomes_seen pair put.framed.message text) ∙ by_decision trade to now es put.framed r decision))
              (outcome_owes trade to now es put.framed r pair.recipient decision (outcome_fits trade to now es put.framed r pair.recipient decision)
              (known_of (half trade to es) (pair_of pair.id pair.recipient))),
        )

    pub charge_quiet : (from to : ℕ) (id : Id) (by : ℕ) (frame : Bytes) → IsFrameOf trade J from (letters.Charge id by) frame → IsQuiet to frame
    charge_quiet from to id by frame put now es =
        let r : Receipt = record { kind = kinds.Charge; id = id; by = by; moment = put.is.1.text.row.moment; recipient = None }
        in ap (λ (s : Step). s.owed) (seen_so to now es frame put.framed put.unframed _ (laws.charges_seen id by put.framed.message put.is.1.text))
        ∙ charge_owes trade to now es put.framed r (charge_fits trade to now es put.framed r) (charged_of (half trade to es) id by)

    pub ack_quiet : (from to : ℕ) (pair : Pair) (frame : Bytes) → IsFrameOf trade J from (letters.Ack pair.id pair.recipient) frame → IsQuiet to frame
    ack_quiet from to pair frame put now es =
        let r : Receipt = record { kind = kinds.Ack; id = pair.id; by = pair.id.provider; moment = put.is.1.text.row.moment; recipient = Some pair.recipient }
        in ap (λ (s : Step). s.owed) (seen_so to now es frame put.framed put.unframed _ (laws.acks_seen pair put.framed.message put.is.1.text))
        ∙ ack_owes trade to now es put.framed r pair.recipient (ack_fits trade to now es put.framed r pair.recipient) (is_acked (half trade to es) (pair_of pair.id pair.recipient))

-- ---- what is owed at all: charges and acknowledgements

abbrev pub IsAnswer : Letter → Type 0
IsAnswer (letters.Charge id by) = Unit {0}
IsAnswer (letters.Ack id recipient) = Unit {0}
IsAnswer (letters.Envelope id to) = ⊥
IsAnswer (letters.Outcome id recipient) = ⊥

module _ (trade : Trade) (plays : PlayLaws trade) (p now : ℕ) where
  no_answer : (s : Step) → s.owed ≡ [] → Each IsAnswer s.owed
  no_answer s e letter c = absurd (contains_none letter (subst (λ (l : List Letter). Contains l letter) e c))

  one_answer : (s : Step) (answer : Letter) → s.owed ≡ answer ∷ [] → IsAnswer answer → Each IsAnswer s.owed
  one_answer s answer e is letter c =
      elim (contains_cases answer [] letter (subst (λ (l : List Letter). Contains l letter) e c)) [
        | inl same ↦ subst IsAnswer same is
        | inr there ↦ absurd (contains_none letter there)
      ]

  row_answers : (es : List Entry) (f : Framed) (s : Step) → IsReceived trade p es f now s → Each IsAnswer s.owed
  row_answers es f s (NewEnvelope id is t e) = one_answer s (letters.Charge id p) (ap (λ (x : Step). x.owed) e) tt
  row_answers es f s (KnownEnvelope id is t e) = one_answer s (letters.Charge id p) (ap (λ (x : Step). x.owed) e) tt
  row_answers es f s (NewCharge r is t e) = no_answer s (ap (λ (x : Step). x.owed) e)
  row_answers es f s (KnownCharge r is t e) = no_answer s (ap (λ (x : Step). x.owed) e)
  row_answers es f s (NewOutcome r recipient decision is t e) = one_answer s (letters.Ack r.id recipient) (ap (λ (x : Step). x.owed) e) tt
  row_answers es f s (KnownOutcome r recipient decision is t e) = one_answer s (letters.Ack r.id recipient) (ap (λ (x : Step). x.owed) e) tt
  row_answers es f s (NewAck r recipient is t e) = no_answer s (ap (λ (x : Step). x.owed) e)
  row_answers es f s (KnownAck r recipient is t e) = no_answer s (ap (λ (x : Step). x.owed) e)
  row_answers es f s (SomeRoom n a accounts t e) = no_answer s (ap (λ (x : Step). x.owed) e)
  row_answers es f s (NoRoom n t e) = no_answer s (ap (λ (x : Step). x.owed) e)

  frame_answers : (es : List Entry) (frame : Bytes) (found : Option Framed) → trade.unframed frame ≡ found → Each IsAnswer (arrive trade p now es frame).owed
  unfolding arrive
  frame_answers es frame None u = no_answer (arrive trade p now es frame) (ap (λ (x : Step). x.owed) (ap (by_frame trade p now es) u))
  frame_answers es frame (Some f) u =
      row_answers es f (arrive trade p now es frame) ((plays.row_says p now es frame f u (arrive trade p now es frame)).0 refl)

  module _ (looks : Looks) where
    decide_owes : (es : List Entry) (pair : Pair) → (decide trade p now looks es pair).owed ≡ []
    unfolding decide
    decide_owes es pair = refl

    decisions_owe : (es : List Entry) (pairs : List Pair) → owed_of (decisions trade p now looks es pairs) ≡ []
    decisions_owe es [] = refl
    decisions_owe es (pair ∷ pairs) =
        let s = decide trade p now looks es pair
        in ap (λ (l : List Letter). l ++ owed_of (decisions trade p now looks (journal_after es s) pairs)) (decide_owes es pair) ∙ decisions_owe (journal_after es s) pairs

    pub plan_answers : (frames : List Bytes) (es : List Entry) → Each IsAnswer (owed_of (plan trade p now looks es frames))
    plan_answers [] es letter c =
        absurd (contains_none letter (subst (λ (l : List Letter). Contains l letter) (decisions_owe es (undecided trade p es)) c))
    plan_answers (frame ∷ frames) es letter c =
        let s = arrive trade p now es frame
        in elim (Contains-append_cases s.owed (owed_of (plan trade p now looks (journal_after es s) frames)) letter c) [
          | inl here ↦ frame_answers es frame (trade.unframed frame) refl letter here
          | inr later ↦ plan_answers frames (journal_after es s) letter later
        ]

    pub plan_length : (frames : List Bytes) (es : List Entry) → length frames ≤ length (plan trade p now looks es frames)
    plan_length [] es = omega arith
    plan_length (frame ∷ frames) es = let more = plan_length frames (journal_after es (arrive trade p now es frame)) in omega (arith, more)

    -- ---- how many of them are for one provider

    module _ (x : ℕ) where
      abbrev pub Costs : List Bytes → ℕ → Type 0
      Costs frames n = (es : List Entry) → length (answers_to trade x (owed_of (plan trade p now looks es frames))) ≤ n

      abbrev Takes : ℕ → Bytes → Type 0
      Takes n frame = (es : List Entry) → length (answers_to trade x (arrive trade p now es frame).owed) ≤ n

      costs_nothing : Costs [] 0
      costs_nothing es = let e = ap (λ (l : List Letter). length (answers_to trade x l)) (decisions_owe es (undecided trade p es)) in omega (arith, e)

      costs_more : (a b : ℕ) (frame : Bytes) (frames : List Bytes) → Takes a frame → Costs frames b → Costs (frame ∷ frames) (a + b)
      costs_more a b frame frames one rest es =
          let s = arrive trade p now es frame
          in let later = owed_of (plan trade p now looks (journal_after es s) frames)
          in let test = λ (letter : Letter). is_home x (addressee trade letter)
          in let both = ap (λ (l : List Letter). length l) (filter-append test s.owed later) ∙ length-append (filter test s.owed) (filter test later)
          in let here = one es
          in let there = rest (journal_after es s)
          in omega (arith, both, here, there)

      free_front : (fs rest : List Bytes) (n : ℕ) → Each (Takes 0) fs → Costs rest n → Costs (fs ++ rest) n
      free_front [] rest n free more = more
      free_front (f ∷ fs) rest n free more =
          subst (Costs ((f ∷ fs) ++ rest)) (let e : 0 + n ≡ n = omega arith in e)
          (costs_more 0 n f (fs ++ rest) (free f (contains_here f fs)) (free_front fs rest n (λ g c. free g (contains_there f fs g c)) more))

      one_front : (fs rest : List Bytes) (n : ℕ) → Each (Takes 1) fs → Costs rest n → Costs (fs ++ rest) (length fs + n)
      one_front [] rest n each more = subst (Costs rest) (let e : n ≡ 0 + n = omega arith in e) more
      one_front (f ∷ fs) rest n each more =
          subst (Costs ((f ∷ fs) ++ rest)) (let e : 1 + (length fs + n) ≡ suc (length fs) + n = omega arith in e)
          (costs_more 1 (length fs + n) f (fs ++ rest) (each f (contains_here f fs)) (one_front fs rest n (λ g c. each g (contains_there f fs g c)) more))

      quiet_takes : (frame : Bytes) → IsQuiet trade p frame → Takes 0 frame
      quiet_takes frame quiet es = let e = ap (λ (l : List Letter). length (answers_to trade x l)) (quiet now es) in omega (arith, e)

      one_or_none : (letter : Letter) → length (answers_to trade x (letter ∷ [])) ≤ 1
      one_or_none letter = by_test (is_home x (addressee trade letter))
        where
          by_test : (b : Bool) → length (cond b (letter ∷ []) []) ≤ 1
          by_test true = omega arith
          by_test false = omega arith

      asking_takes : (from : ℕ) (frame : Bytes) → IsAsking trade from p frame → Takes 1 frame
      asking_takes from frame asks es =
          elim (asks.2 now es) [
            | inl none ↦ let e = ap (λ (l : List Letter). length (answers_to trade x l)) none in omega (arith, e)
            | inr one ↦
                let e = ap (λ (l : List Letter). length (answers_to trade x l)) one
                in let least = one_or_none asks.0
                in omega (arith, e, least)
          ]

      other_takes : (from : ℕ) (frame : Bytes) → (x ≡ from → ⊥) → IsAsking trade from p frame → Takes 0 frame
      other_takes from frame other asks es =
          elim (asks.2 now es) [
            | inl none ↦ let e = ap (λ (l : List Letter). length (answers_to trade x l)) none in omega (arith, e)
            | inr one ↦
                let test : is_home x (addressee trade asks.0) ≡ false = ap (is_home x) asks.1 ∙ ne_eqb x from other
                in let e = ap (λ (l : List Letter). length (answers_to trade x l)) one ∙ ap (λ (b : Bool). length (cond b (asks.0 ∷ []) [])) test
                in omega (arith, e)
          ]

-- ---- links

-- A link holds few frames: at most so many for which nothing is owed, and behind them at most as many for which the other
-- provider owes an answer.
pub record Light (trade : Trade) (from to : ℕ) (frames : List Bytes) : Type 0 where
  pub quiet : List Bytes
  pub asking : List Bytes
  pub is : frames ≡ quiet ++ asking
  pub quiets : Each (IsQuiet trade to) quiet
  pub askings : Each (IsAsking trade from to) asking
  pub few : length quiet ≤ most_open
  pub less : length asking ≤ most_open

later : (number place : ℕ) → number + suc place ≡ (number + 1) + place
later number place = omega arith

module _ (trade : Trade) (plays : PlayLaws trade) (p now : ℕ) (looks : Looks) (x : ℕ) where
  abbrev AreLight : ℕ → List (List Bytes) → Type 0
  AreLight number links = (k : ℕ) → Light trade (number + k) p (slice_index_or links k [])

  rest_light : (number : ℕ) (link : List Bytes) (links : List (List Bytes)) → AreLight number (link ∷ links) → AreLight (number + 1) links
  rest_light number link links light k = subst (λ (n : ℕ). Light trade n p (slice_index_or links k [])) (later number k) (light (suc k))

  first_light : (number : ℕ) (link : List Bytes) (links : List (List Bytes)) → AreLight number (link ∷ links) → Light trade number p link
  first_light number link links light = subst (λ (n : ℕ). Light trade n p link) (let e : number + 0 ≡ number = omega arith in e) (light 0)

  parted : (link : List Bytes) (rest : List Bytes) (from n : ℕ) (light : Light trade from p link) → Costs trade plays p now looks x (light.quiet ++ (light.asking ++ rest)) n
      → Costs trade plays p now looks x (link ++ rest) n
  parted link rest from n light costs =
      subst (λ (l : List Bytes). Costs trade plays p now looks x l n) (sym (ap (λ (l : List Bytes). l ++ rest) light.is ∙ append_assoc light.quiet light.asking rest)) costs

  free_link : (link rest : List Bytes) (from n : ℕ) → (x ≡ from → ⊥) → Light trade from p link → Costs trade plays p now looks x rest n
      → Costs trade plays p now looks x (link ++ rest) n
  free_link link rest from n other light costs =
      parted link rest from n light
      (free_front trade plays p now looks x light.quiet (light.asking ++ rest) n (λ f c. quiet_takes trade plays p now looks x f (light.quiets f c))
      (free_front trade plays p now looks x light.asking rest n (λ f c. other_takes trade plays p now looks x from f other (light.askings f c)) costs))

  -- for frames that ask for nothing nothing is owed
  pub costs_free : (links : List (List Bytes)) → ((k : ℕ) → Each (IsQuiet trade p) (slice_index_or links k [])) → Costs trade plays p now looks x (frames_in links) 0
  costs_free [] each = costs_nothing trade plays p now looks x
  costs_free (link ∷ links) each =
      free_front trade plays p now looks x link (frames_in links) 0 (λ f c. quiet_takes trade plays p now looks x f (each 0 f c)) (costs_free links (λ k. each (suc k)))

  costs_none : (links : List (List Bytes)) (number : ℕ) → x < number → AreLight number links → Costs trade plays p now looks x (frames_in links) 0
  costs_none [] number past light = costs_nothing trade plays p now looks x
  costs_none (link ∷ links) number past light =
      free_link link (frames_in links) number 0 (λ same. let l = past in let e = same in omega (arith, l, e)) (first_light number link links light)
      (costs_none links (number + 1) (omega (arith, past)) (rest_light number link links light))

  pub costs_few : (links : List (List Bytes)) (number : ℕ) → AreLight number links → Costs trade plays p now looks x (frames_in links) most_open
  costs_few [] number light = λ es. let e = costs_nothing trade plays p now looks x es in omega (arith, e)
  costs_few (link ∷ links) number light =
      let first = first_light number link links light
      in elim (cases_eq x number) [
        | inl same ↦
            let rest = costs_none links (number + 1) (let e = same in omega (arith, e)) (rest_light number link links light)
            in let all = parted link (frames_in links) number (length first.asking + 0) first
            (free_front trade plays p now looks x first.quiet (first.asking ++ frames_in links) (length first.asking + 0) (λ f c. quiet_takes trade plays p now looks x f (first.quiets f c))
            (one_front trade plays p now looks x first.asking (frames_in links) 0 (λ f c. asking_takes trade plays p now looks x number f (first.askings f c)) rest))
            in λ es. let e = all es in let less = first.less in omega (arith, e, less)
        | inr other ↦ free_link link (frames_in links) number most_open other first (costs_few links (number + 1) (rest_light number link links light))
      ]
