-- Where the letters of accepted messages can be put, no frame of an owed letter is too long, in any round.
use Rattle.std.proofs.Common.{◌≡◌, ℕ, ◌<◌, List, [], ◌∷◌, inl, inr, length, ap, sym, subst, ◌∙◌, Option}
use Rattle.std.specs.Prelude.{IsSome}
use Rattle.std.specs.Option.{option_and_then}
use Rattle.std.proofs.lemmas.List.{append-nil}
use Rattle.std.proofs.lemmas.Option.{same_Some}
use Rattle.pec_types.specs.Bytes.{Bytes, Path}
use Rattle.pec_types.specs.Message.{Id}
use Rattle.pec_types.specs.declared.letters.Letter.{Letter}
use Rattle.pec_types.specs.declared.letters.Letter.TheVariants as letters
use Rattle.pec_types.specs.declared.messages.Decision.{Decision}
use Rattle.pec_types.specs.declared.messages.Facts.{Facts}
use Rattle.pec_types.specs.declared.messages.Decision.TheVariants.{Placed, Refused}
use Rattle.pec_types.specs.declared.messages.Refusal.TheVariants as refusals
use Rattle.pec_types.specs.declared.receipts.Kind.TheVariants as kinds
use Rattle.pec_records.specs.declared.entries.Entry.{Entry}
use Rattle.pec_ledger.specs.Ledger.{Fit, HasOriginal, Journals, ledger}
use Rattle.pec_ledger.specs.Lookups.{Accepted, addresses_of, at_home, is_home, outcome_kind}
use Rattle.pec_ledger.specs.Network.{Site, Sound, journal_at, journals_of, site_at}
use Rattle.pec_ledger.specs.Pairs.{pair_of}
use Rattle.pec_ledger.specs.Steps.{half}
use Rattle.pec_ledger.specs.Tables.{IsOwedEnvelope, IsOwedOutcome}
use Rattle.pec_ledger.specs.Trade.{Framed, Trade}
use Rattle.pec_ledger.specs.TradeLaws.{IsSent, IsTrade, LettersCanBePut}
use Rattle.pec_plays.specs.Composed.{IsComposed}
use Rattle.pec_plays.specs.Frames.{composed, frame_of}
use Rattle.pec_plays.specs.Paths.{outcome_path}
use Rattle.pec_plays.specs.Turns.{Cut, Whole, frames_in, looks_by, owed_of}
use Rattle.pec_progress.specs.Progress.{AllGoWell, GoesWell, NoneIsEverTooLong, NoneIsTooLong, RoundAt, after_round, journal_behind, whole_steps}
use Rattle.pec_progress.proofs.LawLemmas.{ComposedLaws, FitLaws, PlayLaws, RoundLaws, RowLaws, charge_on, receipt_on}
use Rattle.pec_progress.proofs.ListLemmas.{home_again, into_filter, some_length, what_is}
use Rattle.pec_progress.proofs.RoundLemmas.{journal_is, laws_after, sound_after}

framed_so : (trade : Trade) (f : Framed) (path : Path) (text : Bytes) → f.path ≡ path → f.message ≡ text → IsSome (trade.framed path text) → IsSome (trade.framed f.path f.message)
framed_so trade f path text e g some =
    subst (λ (x : Path). IsSome (trade.framed x f.message)) (sym e) (subst (λ (x : Bytes). IsSome (trade.framed path x)) (sym g) some)

along_outcome : (trade : Trade) (id : Id) (decision : Decision) (sender text : Bytes) → IsSome (trade.framed (sender ∷ []) text)
    → IsSome (trade.framed (trade.receipts id.provider ∷ []) text) → IsSome (trade.framed (outcome_path trade id decision sender) text)
along_outcome trade id Placed sender text a b = a
along_outcome trade id (Refused refusals.NoMailbox) sender text a b = a
along_outcome trade id (Refused refusals.MailboxFull) sender text a b = a
along_outcome trade id (Refused refusals.Virus) sender text a b = b

same_facts : (trade : Trade) (J : Journals) (id : Id) (m : Accepted) (original : Bytes) (sent : IsSent trade id original) → HasOriginal trade J id m original → sent.facts ≡ m.facts
same_facts trade J id m original sent has = same_Some sent.facts m.facts (sym sent.are ∙ has.facts)

module _ (trade : Trade) (world : IsTrade trade) (rows : RowLaws trade) (plays : PlayLaws trade) (rounds : RoundLaws trade)
    (fits : (J : Journals) → Fit trade J → FitLaws trade J) (made : (J : Journals) → Fit trade J → ComposedLaws trade J) (can : LettersCanBePut trade) where
  module _ (now : ℕ) (cuts : ℕ → Cut) (sites : List Site) (sound : Sound trade sites) (well : GoesWell trade now cuts sites) where
    abbrev after : List Site
    after = after_round trade now cuts sites

    abbrev J : Journals
    J = journals_of after

    abbrev laws : FitLaws trade J
    laws = laws_after trade rows plays rounds fits now cuts sites sound well

    -- what is composed can be put
    composed_put : (from : ℕ) (letter : Letter) (f : Framed) → IsComposed trade J from letter f → IsSome (trade.framed f.path f.message)
    composed_put from (letters.Envelope id to) f (ours, is) =
        let text = is.text
        in let sent = laws.sent id to f.message text
        in let same = ap (λ (facts : Facts). at_home trade to (addresses_of facts)) (same_facts trade J id text.message text.original sent.0 text.is)
        in let (recipient, among, home) = text.pairs
        in let here = into_filter (λ (address : Bytes). is_home to (trade.home address)) (addresses_of text.message.facts) recipient among (home_again to (trade.home recipient) home)
        in framed_so trade f (at_home trade to (addresses_of sent.0.facts)) (trade.envelope_text id text.message.moment text.original) (is.path ∙ sym same) text.text
        (can.envelopes id text.message.moment text.original sent.0 sent.1 to
        (subst (λ (path : Path). 0 < length path) (sym same) (some_length (at_home trade to (addresses_of text.message.facts)) recipient here)))
    composed_put from (letters.Charge id by) f (ours, is) =
        let text = is.text
        in let receipt = charge_on id by text.row.moment
        in let composed = laws.charge_can id by f.message text
        in framed_so trade f (trade.receipts id.provider ∷ []) (trade.receipt_text receipt text.original) is.path text.text
        (can.to_providers receipt text.original composed id.provider composed.sent.provider)
    composed_put from (letters.Outcome id recipient) f (ours, is) =
        let text = is.text
        in let pair = pair_of id recipient
        in let receipt = receipt_on (outcome_kind text.fate.decision) pair text.home text.fate.moment
        in let composed = laws.outcome_can pair f.message text
        in let same = ap (λ (facts : Facts). facts.sender) (same_facts trade J id text.message text.original composed.sent text.is)
        in framed_so trade f (outcome_path trade id text.fate.decision text.message.facts.sender) (trade.receipt_text receipt text.original) is.path text.text
        (along_outcome trade id text.fate.decision text.message.facts.sender (trade.receipt_text receipt text.original)
        (subst (λ (sender : Bytes). IsSome (trade.framed (sender ∷ []) (trade.receipt_text receipt text.original))) same (can.to_senders receipt text.original composed))
        (can.to_providers receipt text.original composed id.provider composed.sent.provider))
    composed_put from (letters.Ack id recipient) f (ours, is) =
        let text = is.text
        in let pair = pair_of id recipient
        in let receipt = receipt_on kinds.Ack pair id.provider text.row.moment
        in framed_so trade f (trade.receipts is.home ∷ []) (trade.receipt_text receipt text.original) is.path text.text
        (can.to_providers receipt text.original (laws.ack_can pair f.message text) is.home (world.homes recipient is.home is.at_home))

    framed_some : (from : ℕ) (letter : Letter) → IsSome (composed trade from (J from) letter) → IsSome (frame_of trade from (J from) letter)
    unfolding frame_of
    framed_some from letter some =
        let f = what_is (composed trade from (J from) letter) some
        in subst (λ (o : Option Framed). IsSome (option_and_then (λ (framed : Framed). trade.framed framed.path framed.message) o)) (sym f.1) (composed_put from letter f.0 (laws.composed from letter f.0 f.1))

    pub none_too_long : NoneIsTooLong trade now sites
    unfolding ledger
    none_too_long from to lf lt letter c =
        let es = journal_behind trade now sites from
        in let e = journal_is trade rows plays rounds fits now cuts sites sound well from lf
        in let are = made J (sound_after trade rows plays rounds fits now cuts sites sound well).fit
        in let some : IsSome (composed trade from (J from) letter) =
        elim ((plays.owed_says from (half trade from es) to (owed_of (whole_steps trade now sites from)) letter).0 c) [
          | inl answer ↦ are.answers from now (looks_by trade from (site_at sites from).screens Whole) (journal_at sites from) (frames_in (site_at sites from).waiting)
              ([], e ∙ sym (append-nil es)) letter answer.0
          | inr (inl outcome) ↦ are.outcomes from to letter (subst (λ (l : List Entry). IsOwedOutcome trade from (half trade from l) to letter) (sym e) outcome)
          | inr (inr envelope) ↦ are.envelopes from to letter (subst (λ (l : List Entry). IsOwedEnvelope trade from (half trade from l) to letter) (sym e) envelope)
        ]
        in subst (λ (l : List Entry). IsSome (frame_of trade from l letter)) e (framed_some from letter some)

  pub none_ever_too_long : (rs : List RoundAt) (sites : List Site) → Sound trade sites → AllGoWell trade rs sites → NoneIsEverTooLong trade rs sites
  none_ever_too_long [] sites sound well = tt
  none_ever_too_long (r ∷ rs) sites sound well = (
    none_too_long r.now r.cuts sites sound well.0,
    none_ever_too_long rs (after_round trade r.now r.cuts sites) (sound_after trade rows plays rounds fits r.now r.cuts sites sound well.0) well.1,
  )
