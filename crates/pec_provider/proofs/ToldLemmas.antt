-- Where the facts of the original of a taken message are told, its entry holds an envelope of it.
use Rattle.std.proofs.Common.{◌≡◌, ◌==◌, ◌&&◌, ℕ, Bool, false, List, Option, Some, None, ap, refl, sym, ◌∙◌}
use Rattle.std.specs.Prelude.{if◌then◌else◌, is_some, slice_get}
use Rattle.std.specs.Option.{option_and_then, option_map}
use Rattle.std.proofs.lemmas.Bool.{eq-eqb}
use Rattle.std.proofs.lemmas.Option.{none-some, same_Some}
use Rattle.pec_types.specs.Bytes.{Bytes}
use Rattle.pec_types.specs.Message.{Id}
use Rattle.pec_types.specs.declared.letters.Letter.TheVariants as letters
use Rattle.pec_types.specs.declared.messages.Facts.{Facts}
use Rattle.pec_records.specs.declared.entries.Entry.{Entry}
use Rattle.pec_records.specs.declared.entries.Entry.TheVariants as entries
use Rattle.pec_ledger.specs.Half.{Taken}
use Rattle.pec_ledger.specs.Ledger.{body_of}
use Rattle.pec_ledger.specs.Lookups.{taken_of}
use Rattle.pec_ledger.specs.Pairs.{same_id}
use Rattle.pec_ledger.specs.Steps.{half}
use Rattle.pec_ledger.specs.Trade.{Trade}
use Rattle.pec_plays.specs.Frames.{original_in, original_taken}
use Rattle.pec_outgoing.specs.Needs.{ChargeAsked, asked_by, enveloped_in, needed, number_of}
use Rattle.pec_provider.specs.Reading.{HasEnvelope, IsNotOf}
use Rattle.pec_provider.specs.Telling.{facts_taken}
use Rattle.pec_provider.proofs.KeptLemmas.{HaveEnvelope, bound, id_again}

module _ (trade : Trade) (me : ℕ) (journal : List Entry) (id : Id) where
  -- what a charge asks for, by the row of the message
  charge_asked : asked_by me (half trade me journal) (letters.Charge id me)
      ≡ option_map (ChargeAsked id) (taken_of (half trade me journal) id)
  charge_asked =
      ap (λ (b : Bool). if b then option_map (ChargeAsked id) (taken_of (half trade me journal) id) else None)
      (eq-eqb me me refl)

  needs_by : (number : ℕ) → needed me (half trade me journal) (letters.Charge id me) ≡ Some number
      → option_map number_of (option_map (ChargeAsked id) (taken_of (half trade me journal) id)) ≡ Some number
  unfolding needed
  needs_by number needs = ap (option_map number_of) (sym charge_asked) ∙ needs

  no_row : (number : ℕ) (found : Option Taken) → is_some found ≡ false
      → option_map number_of (option_map (ChargeAsked id) found) ≡ Some number → ⊥
  no_row number None none needs = none-some number needs
  no_row number (Some row) none needs = absurd (cc none)

  -- where the message wasn't taken nothing is needed
  pub untaken : is_some (taken_of (half trade me journal) id) ≡ false → HasEnvelope trade me journal id
  untaken none number changed =
      no_row number (taken_of (half trade me journal) id) none (needs_by number changed.needs)

  module _ (row : Taken) (taken : taken_of (half trade me journal) id ≡ Some row) (moment : ℕ) (envelope : Bytes)
      (there : slice_get journal row.entry ≡ Some (entries.Took moment id envelope)) (original : Bytes)
      (is : original_taken trade me journal id row ≡ Some original) where
    asked_so : asked_by me (half trade me journal) (letters.Charge id me) ≡ Some (ChargeAsked id row)
    asked_so = charge_asked ∙ ap (option_map (ChargeAsked id)) taken

    seen_so : original_in id (trade.view envelope) ≡ Some original
    seen_so =
        sym (ap (λ (found : Option Entry). option_and_then (λ (bytes : Bytes). original_in id (trade.view bytes))
        (option_and_then body_of found)) there) ∙ is

    holds_so : enveloped_in trade id (entries.Took moment id envelope) ≡ Some original
    holds_so =
        ap (λ (b : Bool). option_and_then (λ (bytes : Bytes). original_in id (trade.view bytes))
        (if b then Some envelope else None)) (id_again id) ∙ seen_so

    taken_has : HasEnvelope trade me journal id
    taken_has number changed =
        let same : row.entry ≡ number =
        same_Some row.entry number
        (sym (ap (λ (found : Option Taken). option_map number_of (option_map (ChargeAsked id) found)) taken)
        ∙ needs_by number changed.needs) in
        changed.serves (entries.Took moment id envelope) (ap (slice_get journal) (sym same) ∙ there)
        (record { asked = ChargeAsked id row; has = asked_so; original = original; holds = holds_so })

  -- where the facts of its original are told, its entry holds an envelope of it
  pub told_has : HaveEnvelope trade me → (facts : Facts) → facts_taken trade me journal id ≡ Some facts
      → HasEnvelope trade me journal id
  told_has have facts told =
      let row = bound (λ (row : Taken). option_and_then trade.facts (original_taken trade me journal id row))
      (taken_of (half trade me journal) id) facts told in
      let original = bound trade.facts (original_taken trade me journal id row.0) facts row.2 in
      let at = have trade me journal id row.0 row.1 in
      taken_has row.0 row.1 at.0 at.1 at.2 original.0 original.1
