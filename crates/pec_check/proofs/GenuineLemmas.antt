-- What a saved message says is told exactly by the function.
use Rattle.std.proofs.Common.{◌≡◌, ◌≢◌, ℕ, List, Bool, true, false, Option, None, Some, Result, Ok, Err, refl, ap, sym, subst, ◌∙◌}
use Rattle.std.specs.Prelude.{◌==◌, ◌↔◌, if◌then◌else◌}
use Rattle.std.specs.Option.{option_and_then}
use Rattle.std.proofs.lemmas.Bool.{eqb-true, eq-eqb}
use Rattle.pec_types.specs.Answers.{TellsExactly}
use Rattle.pec_types.specs.Bytes.{Bytes}
use Rattle.pec_types.specs.Results.{◌>>=◌}
use Rattle.pec_types.specs.declared.disputes.LetterFault.{LetterFault}
use Rattle.pec_directory.specs.Directory.{Provider, home_of}
use Rattle.pec_seal.specs.Seals.{Seals}
use Rattle.pec_letter_parts.specs.Letters.{Headed, IsHeaded, IsUnheaded}
use Rattle.pec_letter_parts.specs.LettersReading.{headed_of}
use Rattle.pec_letter_parts.specs.Told.{clash, err_is, ok_is, then_told}
use Rattle.pec_letters.specs.Seen.{Seen as EnvelopeSeen}
use Rattle.pec_letters.specs.SeenReading.{view as envelope_view}
use Rattle.pec_receipts.specs.SeenReading.{view as receipt_view}
use Rattle.pec_receipts.specs.declared.reading.ReceiptView.{ReceiptView}
use Rattle.pec_check.specs.Genuine.{HadToSeal, IsGenuine, IsHome, IsRefused, MaySeal, OpensNot, Says, SaysNothing, envelope_report, is_for_envelope, receipt_report, sealing_of}
use Rattle.pec_check.specs.GenuineReading.{envelope_told, of_letter, receipt_told, report_of, said, sealed_rightly, sealer_by, sealer_of}
use Rattle.pec_check.specs.declared.checking.CheckFault.{CheckFault}
use Rattle.pec_check.specs.declared.checking.CheckFault.TheVariants.{Letter, WrongProvider}
use Rattle.pec_check.specs.declared.reports.Report.{Report}
use Rattle.pec_check.specs.declared.sealing.Sealing.{Sealing}
use Rattle.pec_check.specs.declared.sealing.Sealing.TheVariants.{Anyone, RecipientsHome, MessagesProvider}
use Rattle.pec_check.proofs.HomeLemmas.{home_named}

-- an answer is this fault
abbrev Fails : Result Report CheckFault → CheckFault → Type 0
Fails r fault = r ≡ Err fault

letter_same : (f g : LetterFault) → Letter f ≡ Letter g → f ≡ g
letter_same f g e = cc e

provider_same : (p q : ℕ) → WrongProvider p ≡ WrongProvider q → p ≡ q
provider_same p q e = cc e

-- ---- the provider that had to seal

-- another provider than this one had to seal it
abbrev Wrong : (ℕ → Type 0) → ℕ → CheckFault → Type 0
Wrong Due by (Letter fault) = ⊥
Wrong Due by (WrongProvider provider) = Due provider × (provider ≢ by)

-- where one provider has to seal a letter, it is told exactly whether it did
due_told : (Due : ℕ → Type 0) (due : ℕ) → Due due → ((p q : ℕ) → Due p → Due q → p ≡ q) → (by : ℕ) (report : Report)
    → TellsExactly (λ (r : Report). Due by × (r ≡ report)) (Wrong Due by) (sealed_rightly (Some due) by report)
due_told Due due is one by report = decide (due == by) refl
  where
    right_fault : due ≡ by → (fault : CheckFault) → (Ok report ≡ Err fault) ↔ Wrong Due by fault
    right_fault same (Letter fault) = ((λ e. absurd (cc e)), (λ w. absurd w))
    right_fault same (WrongProvider provider) = ((λ e. absurd (cc e)), (λ w. absurd (w.1 (one provider due w.0 is ∙ same))))

    wrong_fault : (due ≡ by → ⊥) → (fault : CheckFault) → Fails (Err (WrongProvider due)) fault ↔ Wrong Due by fault
    wrong_fault other (Letter fault) = ((λ e. absurd (cc e)), (λ w. absurd w))
    wrong_fault other (WrongProvider provider) = (
      (λ e. subst (λ (p : ℕ). Due p × (p ≢ by)) (provider_same due provider (err_is (Err (WrongProvider due)) (WrongProvider due) (WrongProvider provider) refl e)) (is, other)),
      (λ w. ap (λ (p : ℕ). Err (WrongProvider p)) (one due provider is w.0)),
    )

    decide : (b : Bool) → (due == by) ≡ b
        → TellsExactly (λ (r : Report). Due by × (r ≡ report)) (Wrong Due by) (if b then Ok report else Err (WrongProvider due))
    decide true e = record {
      value = λ r. ((λ t. (subst Due (eqb-true due by e) is, sym (ok_is (Ok report) report r refl t))), (λ h. ap Ok (sym h.1)));
      fault = right_fault (eqb-true due by e);
    }
    decide false e =
        let other : due ≡ by → ⊥ = λ same. cc (sym (eq-eqb due by same) ∙ e) in
        record {
          value = λ r. ((λ t. absurd (cc t)), (λ h. absurd (other (one due by is h.0))));
          fault = wrong_fault other;
        }

module _ (providers : List Provider) where
  -- a recipient has one home
  homes_are_one : (recipient : Option Bytes) (p q : ℕ) → IsHome providers recipient p → IsHome providers recipient q → p ≡ q
  homes_are_one None p q a b = absurd a
  homes_are_one (Some recipient) p q a b = let same : Some p ≡ Some q = sym a ∙ b in cc same

  home_found : (recipient : Option Bytes) (p : ℕ) → IsHome providers recipient p → option_and_then (home_of providers) recipient ≡ Some p
  home_found None p is = absurd is
  home_found (Some recipient) p is = is

  -- why a receipt isn't sealed rightly
  abbrev WrongBy : ReceiptView → Sealing → CheckFault → Type 0
  WrongBy seen sealing (Letter fault) = ⊥
  WrongBy seen sealing (WrongProvider provider) = HadToSeal providers seen sealing provider

  anyone_fault : (seen : ReceiptView) (report : Report) (fault : CheckFault) → (Ok report ≡ Err fault) ↔ WrongBy seen Anyone fault
  anyone_fault seen report (Letter fault) = ((λ e. absurd (cc e)), (λ w. absurd w))
  anyone_fault seen report (WrongProvider provider) = ((λ e. absurd (cc e)), (λ w. absurd w))

  home_fault : (seen : ReceiptView) (r : Result Report CheckFault)
      → ((fault : CheckFault) → (r ≡ Err fault) ↔ Wrong (IsHome providers seen.recipient) seen.by fault)
      → (fault : CheckFault) → (r ≡ Err fault) ↔ WrongBy seen RecipientsHome fault
  home_fault seen r told (Letter fault) = told (Letter fault)
  home_fault seen r told (WrongProvider provider) = told (WrongProvider provider)

  own_fault : (seen : ReceiptView) (r : Result Report CheckFault)
      → ((fault : CheckFault) → (r ≡ Err fault) ↔ Wrong (λ p. p ≡ seen.id.provider) seen.by fault)
      → (fault : CheckFault) → (r ≡ Err fault) ↔ WrongBy seen MessagesProvider fault
  own_fault seen r told (Letter fault) = told (Letter fault)
  own_fault seen r told (WrongProvider provider) = told (WrongProvider provider)

  -- it is told exactly whether the right provider sealed a receipt
  rightly_told : (seen : ReceiptView) (report : Report) (sealing : Sealing)
      → (sealing ≡ RecipientsHome → (p : ℕ) × IsHome providers seen.recipient p)
      → TellsExactly (λ (r : Report). MaySeal providers seen sealing × (r ≡ report)) (WrongBy seen sealing)
      (sealed_rightly (sealer_by providers seen sealing) seen.by report)
  rightly_told seen report Anyone homes = record {
    value = λ r. ((λ e. (tt, sym (ok_is (Ok report) report r refl e))), (λ h. ap Ok (sym h.1)));
    fault = anyone_fault seen report;
  }
  rightly_told seen report RecipientsHome homes =
      let home = homes refl
      in let told = due_told (IsHome providers seen.recipient) home.0 home.1 (homes_are_one seen.recipient) seen.by report
      in subst (λ (due : Option ℕ). TellsExactly (λ (r : Report). IsHome providers seen.recipient seen.by × (r ≡ report))
      (WrongBy seen RecipientsHome) (sealed_rightly due seen.by report)) (sym (home_found seen.recipient home.0 home.1))
      (record { value = told.value; fault = home_fault seen (sealed_rightly (Some home.0) seen.by report) told.fault })
  rightly_told seen report MessagesProvider homes =
      let told = due_told (λ p. p ≡ seen.id.provider) seen.id.provider refl (λ p q a b. a ∙ sym b) seen.by report
      in record { value = told.value; fault = own_fault seen (sealed_rightly (Some seen.id.provider) seen.by report) told.fault }

module _ (seals : Seals) (providers : List Provider) (text : Bytes) where
  -- ---- what a text says behind its head

  envelope_fault : (read : Headed) (seen : EnvelopeSeen) → envelope_view seals providers text ≡ Ok seen → (fault : CheckFault)
      → (Ok (envelope_report read seen) ≡ Err fault) ↔ SaysNothing seals providers text read true fault
  envelope_fault read seen is (Letter fault) =
      ((λ e. absurd (cc e)), (λ v. absurd (clash (envelope_view seals providers text) seen fault is v)))
  envelope_fault read seen is (WrongProvider provider) = ((λ e. absurd (cc e)), (λ v. absurd v))

  unseen_fault : (read : Headed) (f : LetterFault) → envelope_view seals providers text ≡ Err f → (fault : CheckFault)
      → Fails (Err (Letter f)) fault ↔ SaysNothing seals providers text read true fault
  unseen_fault read f is (Letter fault) = (
    (λ e. is ∙ ap Err (letter_same f fault (err_is (Err (Letter f)) (Letter f) (Letter fault) refl e))),
    (λ v. ap (λ (g : LetterFault). Err (Letter g)) (err_is (envelope_view seals providers text) f fault is v)),
  )
  unseen_fault read f is (WrongProvider provider) = ((λ e. absurd (cc e)), (λ v. absurd v))

  envelope_says : (read : Headed) (r : Result EnvelopeSeen LetterFault) → envelope_view seals providers text ≡ r
      → TellsExactly (Says seals providers text read true) (SaysNothing seals providers text read true) (of_letter r >>= envelope_told read)
  envelope_says read (Ok seen) is = record {
    value = λ report. (
      (λ e. (seen, (is, sym (ok_is (Ok (envelope_report read seen)) (envelope_report read seen) report refl e)))),
      (λ h. ap Ok (ap (envelope_report read) (ok_is (envelope_view seals providers text) seen h.0 is h.1.0) ∙ sym h.1.1)),
    );
    fault = envelope_fault read seen is;
  }
  envelope_says read (Err f) is = record {
    value = λ report. ((λ e. absurd (cc e)), (λ h. absurd (clash (envelope_view seals providers text) h.0 f h.1.0 is)));
    fault = unseen_fault read f is;
  }

  receipt_fault : (read : Headed) (seen : ReceiptView) → receipt_view seals providers text ≡ Ok seen → (r : Result Report CheckFault)
      → ((fault : CheckFault) → (r ≡ Err fault) ↔ WrongBy providers seen (sealing_of seen.kind) fault) → (fault : CheckFault)
      → (r ≡ Err fault) ↔ SaysNothing seals providers text read false fault
  receipt_fault read seen is r told (Letter fault) =
      ((λ e. absurd ((told (Letter fault)).0 e)), (λ v. absurd (clash (receipt_view seals providers text) seen fault is v)))
  receipt_fault read seen is r told (WrongProvider provider) = (
    (λ e. (seen, (is, (told (WrongProvider provider)).0 e))),
    (λ h. (told (WrongProvider provider)).1 (subst (λ (v : ReceiptView). HadToSeal providers v (sealing_of v.kind) provider)
        (ok_is (receipt_view seals providers text) h.0 seen h.1.0 is) h.1.1)),
  )

  unread_fault : (read : Headed) (f : LetterFault) → receipt_view seals providers text ≡ Err f → (fault : CheckFault)
      → Fails (Err (Letter f)) fault ↔ SaysNothing seals providers text read false fault
  unread_fault read f is (Letter fault) = (
    (λ e. is ∙ ap Err (letter_same f fault (err_is (Err (Letter f)) (Letter f) (Letter fault) refl e))),
    (λ v. ap (λ (g : LetterFault). Err (Letter g)) (err_is (receipt_view seals providers text) f fault is v)),
  )
  unread_fault read f is (WrongProvider provider) =
      ((λ e. absurd (cc e)), (λ h. absurd (clash (receipt_view seals providers text) h.0 f h.1.0 is)))

  receipt_says : (read : Headed) (r : Result ReceiptView LetterFault) → receipt_view seals providers text ≡ r
      → TellsExactly (Says seals providers text read false) (SaysNothing seals providers text read false)
      (of_letter r >>= receipt_told providers read)
  unfolding sealer_of
  receipt_says read (Ok seen) is =
      let told = rightly_told providers seen (receipt_report read seen) (sealing_of seen.kind) (home_named seals providers text seen is)
      in record {
        value = λ report. (
          (λ e. (seen, (is, (told.value report).0 e))),
          (λ h. (told.value report).1 (subst (λ (v : ReceiptView). MaySeal providers v (sealing_of v.kind) × (report ≡ receipt_report read v))
              (ok_is (receipt_view seals providers text) h.0 seen h.1.0 is) h.1.1)),
        );
        fault = receipt_fault read seen is (receipt_told providers read seen) told.fault;
      }
  receipt_says read (Err f) is = record {
    value = λ report. ((λ e. absurd (cc e)), (λ h. absurd (clash (receipt_view seals providers text) h.0 f h.1.0 is)));
    fault = unread_fault read f is;
  }

  said_told : (read : Headed) (mark : Bool)
      → TellsExactly (Says seals providers text read mark) (SaysNothing seals providers text read mark) (said seals providers text read mark)
  said_told read true = envelope_says read (envelope_view seals providers text) refl
  said_told read false = receipt_says read (receipt_view seals providers text) refl

  -- ---- a text

  read_fault : (read : Headed) → ((f : LetterFault) → (Ok read ≡ Err f) ↔ IsUnheaded seals text f) → (fault : CheckFault)
      → (Ok read ≡ Err fault) ↔ OpensNot seals providers text fault
  read_fault read told (Letter fault) = ((λ e. absurd (cc e)), (λ u. absurd (clash (Ok read) read fault refl ((told fault).1 u))))
  read_fault read told (WrongProvider provider) = ((λ e. absurd (cc e)), (λ u. absurd u))

  abbrev ReadsNot : Result Headed LetterFault → LetterFault → Type 0
  ReadsNot r f = r ≡ Err f

  abbrev HasNone : Result Headed CheckFault → CheckFault → Type 0
  HasNone r fault = r ≡ Err fault

  none_fault : (f : LetterFault) → ((g : LetterFault) → ReadsNot (Err f) g ↔ IsUnheaded seals text g) → (fault : CheckFault)
      → HasNone (Err (Letter f)) fault ↔ OpensNot seals providers text fault
  none_fault f told (Letter fault) = (
    (λ e. (told fault).0 (ap Err (letter_same f fault (err_is (Err (Letter f)) (Letter f) (Letter fault) refl e)))),
    (λ u. ap (λ (g : LetterFault). Err (Letter g)) (err_is (Err f) f fault refl ((told fault).1 u))),
  )
  none_fault f told (WrongProvider provider) = ((λ e. absurd (cc e)), (λ u. absurd u))

  opened_told : (r : Result Headed LetterFault) → TellsExactly (IsHeaded seals text) (IsUnheaded seals text) r
      → TellsExactly (IsHeaded seals text) (OpensNot seals providers text) (of_letter r)
  opened_told (Ok read) told = record {
    value = λ other. (
      (λ e. (told.value other).0 (ap Ok (ok_is (Ok read) read other refl e))),
      (λ h. ap Ok (ok_is (Ok read) read other refl ((told.value other).1 h))),
    );
    fault = read_fault read told.fault;
  }
  opened_told (Err f) told = record {
    value = λ other. ((λ e. absurd (cc e)), (λ h. absurd (clash (Err f) other f ((told.value other).1 h) refl)));
    fault = none_fault f told.fault;
  }

  -- The function tells exactly what a saved message says.
  pub report_told : TellsExactly (IsHeaded seals text) (IsUnheaded seals text) (headed_of seals text)
      → TellsExactly (IsGenuine seals providers text) (IsRefused seals providers text) (report_of seals providers text)
  unfolding report_of
  report_told heads =
      then_told (IsHeaded seals text) (OpensNot seals providers text) (λ read report. Says seals providers text read (is_for_envelope read) report)
      (λ read fault. SaysNothing seals providers text read (is_for_envelope read) fault) (of_letter (headed_of seals text))
      (λ read. said seals providers text read (is_for_envelope read)) (opened_told (headed_of seals text) heads)
      (λ read. said_told read (is_for_envelope read))
