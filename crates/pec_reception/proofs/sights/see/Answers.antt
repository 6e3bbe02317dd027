-- What is seen in a message, by the head that was read of it.
use Rattle.std.proofs.Common.{◌≡◌, Ok, ap, sym, ◌∙◌}
use Rattle.std.specs.Prelude.{option_map}
use Rattle.pec_directory.specs.Directory.{providers_of}
use Rattle.pec_letter_parts.specs.LettersReading.{headed_of}
use Rattle.pec_letter_parts.specs.Views.{headed_shown}
use Rattle.pec_receipts.specs.declared.reading.ReceiptView.{ReceiptView}
use Rattle.pec_reception.specs.declared.sights.Sight.TheVariants as sights
use Rattle.pec_reception.proofs.SeenLemmas.{an_envelope_read, head_is, no_envelope_read, no_id_read, nothing_read}
use Rattle.pec_reception.proofs.sights.see.Goals as goal

pub returns-in_default : goal.returns-in_default
returns-in_default g c =
    nothing_read (g.S.Sealer.seals c.args.house.now.sealer.now) (providers_of c.args.house.now.directory.now) c.args.message.now
    (ap (option_map headed_shown) (sym c.in_default.is) ∙ c.in_ok-headed.ensures)

pub returns-then-not-has_envelope_head : goal.returns-then-not-has_envelope_head
returns-then-not-has_envelope_head g c =
    let seals = g.S.Sealer.seals c.args.house.now.sealer.now
    in let providers = providers_of c.args.house.now.directory.now
    in let message = c.args.message.now
    in let read = headed_shown c.in-Some.headed
    in let headed : headed_of seals message ≡ Ok read = head_is read (headed_of seals message)
    (ap (option_map headed_shown) (sym c.in-Some.is) ∙ c.in_ok-headed.ensures)
    in c.receipt.ensures
    ∙ ap (option_map (λ (view : ReceiptView). sights.Receipt view)) (c.in_ok-view.ensures seals message headed)
    ∙ no_envelope_read seals providers message
    (c.has_envelope_head.ensures.none seals providers message headed c.if-not-has_envelope_head.true)

pub returns-in-Some-2 : goal.returns-in-Some-2
returns-in-Some-2 g c =
    let seals = g.S.Sealer.seals c.args.house.now.sealer.now
    in let message = c.args.message.now
    in let read = headed_shown c.in-Some.headed
    in let headed : headed_of seals message ≡ Ok read = head_is read (headed_of seals message)
    (ap (option_map headed_shown) (sym c.in-Some.is) ∙ c.in_ok-headed.ensures)
    in an_envelope_read seals (providers_of c.args.house.now.directory.now) message c.in-Some-2.id
    (sym c.in-Some-2.is ∙ c.in_ok-id.ensures seals message headed)

pub returns : goal.returns
returns g c =
    let seals = g.S.Sealer.seals c.args.house.now.sealer.now
    in let message = c.args.message.now
    in let read = headed_shown c.in-Some.headed
    in let headed : headed_of seals message ≡ Ok read = head_is read (headed_of seals message)
    (ap (option_map headed_shown) (sym c.in-Some.is) ∙ c.in_ok-headed.ensures)
    in c.receipt-2.ensures
    ∙ ap (option_map (λ (view : ReceiptView). sights.Receipt view)) c.in_ok-view-2.ensures
    ∙ no_id_read seals (providers_of c.args.house.now.directory.now) message
    (sym c.in_default-2.is ∙ c.in_ok-id.ensures seals message headed)
