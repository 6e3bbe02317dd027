-- What is answered at each return is `reception_of`, and so what the first row answers.
use Rattle.std.proofs.Common.{◌≡◌, true, false, sym, ◌∙◌}
use Rattle.pec_points.specs.ReceptionReading.{fits}
use Rattle.pec_points.proofs.ReceptionLemmas.{reception_is, no_letter, no_fit, known_letter, new_letter}
use Rattle.pec_points.proofs.reception.receive.Goals as goal

pub returns-in_default : goal.returns-in_default
returns-in_default c =
    let e = c.anything_else.ensures ∙ sym (no_letter c.args.me c.args.seen.now c.in_default.is) in
    record { row = reception_is _ _ _ e; exact = e }

pub returns-then-not-fits : goal.returns-then-not-fits
returns-then-not-fits c =
    let misfit : fits c.args.me c.args.seen.now c.in-Some.letter ≡ false = sym c.fits.ensures ∙ c.if-not-fits.true in
    let e = c.anything_else-then-not-fits.ensures ∙ sym (no_fit c.args.me c.args.seen.now c.in-Some.letter c.in-Some.is misfit) in
    record { row = reception_is _ _ _ e; exact = e }

pub returns-then-seen : goal.returns-then-seen
returns-then-seen c =
    let fit : fits c.args.me c.args.seen.now c.in-Some.letter ≡ true = sym c.fits.ensures ∙ c.if-not-fits.false in
    let e = sym (known_letter c.args.me c.args.seen.now c.in-Some.letter c.in-Some.is fit c.if-seen.true) in
    record { row = reception_is _ _ _ e; exact = e }

pub returns : goal.returns
returns c =
    let fit : fits c.args.me c.args.seen.now c.in-Some.letter ≡ true = sym c.fits.ensures ∙ c.if-not-fits.false in
    let e = c.first_time.ensures ∙ sym (new_letter c.args.me c.args.seen.now c.in-Some.letter c.in-Some.is fit c.if-seen.false) in
    record { row = reception_is _ _ _ e; exact = e }
