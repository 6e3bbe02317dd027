-- What opening answers, against what is sealed: each outcome means what it says, and each cause has its outcome.
use Rattle.std.proofs.Common.{◌≡◌, ◌↔◌, ℕ, Bool, true, false, List, refl, ap, subst, sym, ◌∙◌, Option, Some, None, Result, Ok, Err, cond, IfOk, OnErr, IsErrOf}
use Rattle.std.specs.Borrow.{Bor}
use Rattle.std.specs.Option.{option_map}
use Rattle.std.specs.Str.{bytes_eq}
use Rattle.std.proofs.lemmas.Bool.{false_from_ne_true, false≢true}
use Rattle.std.proofs.lemmas.Option.{same_Some, none-some}
use Rattle.std.proofs.lemmas.Slice.Eq.{bytes_eq-Decides}
use Rattle.base64.specs.GeneralPurpose.{IsBytes}
use Rattle.pec_seal.specs.Seals.{AreLawful, HasLine, HasNoSeal, HasUnknownName, HasWrongTag, IsSealedByNone, Line, Seals, sealed}
use Rattle.pec_seal.specs.Opening.{HasTagBytes, known_at, line_at, opened_at, opened_of}
use Rattle.pec_seal.specs.Views.{opened_shown}
use Rattle.pec_seal.specs.declared.seals.SealFault.{SealFault}
use Rattle.pec_seal.specs.declared.seals.SealFault.TheVariants.{NoSeal, UnknownProvider, WrongTag}
use Rattle.pec_seal.proofs.LineLaws.{line_again, line_some}

-- ---- each cause has its outcome

mapped : {A B : Type 0} (f : A → B) (o : Option A) (y : B) → option_map f o ≡ Some y
    → (x : A) × (o ≡ Some x) × (f x ≡ y)
mapped f None y e = cc e
mapped f (Some x) y e = (x, refl, same_Some _ y e)

-- the line of a sealed text
line_of_sealed : (seals : Seals) (provider : ℕ) (bytes text : List ℕ) → AreLawful seals
    → sealed seals provider bytes ≡ Some text
    → (name : List ℕ) × (seals.name_of provider ≡ Some name)
    × HasLine (record { name = name; tag = seals.tag_of provider bytes; bytes = bytes }) text
line_of_sealed seals provider bytes text lawful is =
    let named = mapped _ (seals.name_of provider) text is in
    let printable = lawful.printable provider named.0 named.1 in
    (named.0, named.1, record { name = printable; tag = lawful.tags provider bytes; spelled = sym named.2 })

pub opens_again : (seals : Seals) (provider : ℕ) (bytes text : List ℕ) → AreLawful seals
    → sealed seals provider bytes ≡ Some text → opened_of seals text ≡ Ok (provider, bytes)
unfolding opened_of
opens_again seals provider bytes text lawful is =
    let found = line_of_sealed seals provider bytes text lawful is in
    let known = (lawful.each_others provider found.0).1 found.1 in
    rw (line_again _ text found.2, known, (bytes_eq-Decides (seals.tag_of provider bytes) _).1 refl) refl

unknown_again : (seals : Seals) (text : List ℕ) → HasUnknownName seals text → opened_of seals text ≡ Err UnknownProvider
unfolding opened_of
unknown_again seals text has = rw (line_again has.line text has.seal, has.unknown) refl

wrong_again : (seals : Seals) (text : List ℕ) → HasWrongTag seals text → opened_of seals text ≡ Err WrongTag
unfolding opened_of
wrong_again seals text has =
    rw (line_again has.line text has.seal, has.known, false_from_ne_true _ (λ e. has.wrong ((bytes_eq-Decides _ _).0 e))) refl

no_seal_again : (seals : Seals) (text : List ℕ) → HasTagBytes text → HasNoSeal text → opened_of seals text ≡ Err NoSeal
unfolding opened_of
no_seal_again seals text small none = ap (opened_at seals) (no_line (line_at text) refl)
  where
    no_line : (o : Option Line) → line_at text ≡ o → o ≡ None
    no_line None e = refl
    no_line (Some line) e = absurd (none line (line_some line text e (small line e)))

-- ---- each outcome means what it says

-- the tag of a known provider's line is the one of a sealed text
agreed : (seals : Seals) (line : Line) (provider : ℕ) (text : List ℕ) → AreLawful seals → line_at text ≡ Some line
    → seals.number_of line.name ≡ Some provider
    → bytes_eq line.tag (seals.tag_of provider line.bytes) ≡ true → sealed seals provider line.bytes ≡ Some text
agreed seals line provider text lawful read known same =
    let tag : seals.tag_of provider line.bytes ≡ line.tag = sym ((bytes_eq-Decides line.tag _).0 same) in
    let has = line_some line text read (subst IsBytes tag (lawful.tags provider line.bytes).bytes) in
    rw ((lawful.each_others provider line.name).0 known, tag) (ap Some (sym has.spelled))

abbrev Means : Seals → List ℕ → Result (ℕ × List ℕ) SealFault → Type 0
Means seals text (Ok found) = sealed seals found.0 found.1 ≡ Some text
Means seals text (Err NoSeal) = HasNoSeal text
Means seals text (Err UnknownProvider) = HasUnknownName seals text
Means seals text (Err WrongTag) = HasWrongTag seals text

means : (seals : Seals) (text : List ℕ) → AreLawful seals → HasTagBytes text → Means seals text (opened_of seals text)
unfolding opened_of
means seals text lawful small = by_line (line_at text) refl
  where
    by_test : (line : Line) (provider : ℕ) (b : Bool) → line_at text ≡ Some line
        → seals.number_of line.name ≡ Some provider
        → bytes_eq line.tag (seals.tag_of provider line.bytes) ≡ b
        → Means seals text (cond b (Ok (provider, line.bytes)) (Err WrongTag))
    by_test line provider true read known same = agreed seals line provider text lawful read known same
    by_test line provider false read known other =
        let wrong = λ (e : line.tag ≡ seals.tag_of provider line.bytes). false≢true (sym other ∙ (bytes_eq-Decides line.tag _).1 e) in
        let seal = line_some line text read (small line read) in
        record { line = line; seal = seal; provider = provider; known = known; wrong = wrong }

    by_number : (line : Line) (number : Option ℕ) → line_at text ≡ Some line → seals.number_of line.name ≡ number
        → Means seals text (known_at seals line number)
    by_number line None read e = record { line = line; seal = line_some line text read (small line read); unknown = e }
    by_number line (Some provider) read e = by_test line provider _ read e refl

    by_line : (o : Option Line) → line_at text ≡ o → Means seals text (opened_at seals o)
    by_line None e = λ line has. none-some line (sym e ∙ line_again line text has)
    by_line (Some line) e = by_number line _ e refl

pub opens_only : (seals : Seals) (provider : ℕ) (bytes text : List ℕ) → AreLawful seals
    → opened_of seals text ≡ Ok (provider, bytes) → sealed seals provider bytes ≡ Some text
unfolding opened_of
opens_only seals provider bytes text lawful is = by_line (line_at text) refl is
  where
    by_test : (line : Line) (number : ℕ) (b : Bool) → line_at text ≡ Some line → seals.number_of line.name ≡ Some number
        → bytes_eq line.tag (seals.tag_of number line.bytes) ≡ b
        → cond {A = Result (ℕ × List ℕ) SealFault} b (Ok (number, line.bytes)) (Err WrongTag) ≡ Ok (provider, bytes)
        → sealed seals provider bytes ≡ Some text
    by_test line number true read known same e =
        let found : (number, line.bytes) ≡ (provider, bytes) = cc e in
        subst (λ (found : ℕ × List ℕ). sealed seals found.0 found.1 ≡ Some text) found
        (agreed seals line number text lawful read known same)
    by_test line number false read known other e = cc e

    by_number : (line : Line) (number : Option ℕ) → line_at text ≡ Some line → seals.number_of line.name ≡ number
        → known_at seals line number ≡ Ok (provider, bytes)
        → sealed seals provider bytes ≡ Some text
    by_number line None read known e = cc e
    by_number line (Some number) read known e = by_test line number _ read known refl e

    by_line : (o : Option Line) → line_at text ≡ o → opened_at seals o ≡ Ok (provider, bytes)
        → sealed seals provider bytes ≡ Some text
    by_line None read e = cc e
    by_line (Some line) read e = by_number line _ read refl e

pub opens_once : (seals : Seals) (provider other : ℕ) (bytes more text : List ℕ) → AreLawful seals
    → sealed seals provider bytes ≡ Some text → sealed seals other more ≡ Some text
    → (provider ≡ other) × (bytes ≡ more)
opens_once seals provider other bytes more text lawful is also =
    let both : ◌≡◌ {A = Result (ℕ × List ℕ) SealFault} (Ok (provider, bytes)) (Ok (other, more)) =
    sym (opens_again seals provider bytes text lawful is) ∙ opens_again seals other more text lawful also in
    let same : (provider, bytes) ≡ (other, more) = cc both in
    (ap (λ (found : ℕ × List ℕ). found.0) same, ap (λ (found : ℕ × List ℕ). found.1) same)

-- ---- the clauses of `opened`

pub record Told (seals : Seals) (text : List ℕ) (r : Result (ℕ × Bor (List ℕ)) SealFault) : Type 0 where
  pub sealed : IfOk r (λ found. sealed seals found.0 found.1.now ≡ Some text)
  pub refused : OnErr r (IsSealedByNone seals text)
  pub no_seal : IsErrOf r NoSeal ↔ HasNoSeal text
  pub unknown_provider : IsErrOf r UnknownProvider ↔ HasUnknownName seals text
  pub wrong_tag : IsErrOf r WrongTag ↔ HasWrongTag seals text

shown_err : (r : Result (ℕ × Bor (List ℕ)) SealFault) (fault : SealFault) → opened_shown r ≡ Err fault → r ≡ Err fault
shown_err (Ok found) fault e = cc e
shown_err (Err other) fault e = cc e

pub told : (seals : Seals) (text : List ℕ) (r : Result (ℕ × Bor (List ℕ)) SealFault) → AreLawful seals
    → HasTagBytes text → opened_shown r ≡ opened_of seals text → Told seals text r
told seals text r lawful small exact = record {
  sealed = if_ok r at_r;
  refused = on_err r exact;
  no_seal = (λ e. meant NoSeal e, λ has. shown_err r NoSeal (exact ∙ no_seal_again seals text small has));
  unknown_provider = (λ e. meant UnknownProvider e, λ has. shown_err r UnknownProvider (exact ∙ unknown_again seals text has));
  wrong_tag = (λ e. meant WrongTag e, λ has. shown_err r WrongTag (exact ∙ wrong_again seals text has));
}
  where
    at_r : Means seals text (opened_shown r)
    at_r = subst (Means seals text) (sym exact) (means seals text lawful small)

    meant : (fault : SealFault) → r ≡ Err fault → Means seals text (Err fault)
    meant fault e = subst (λ (r : Result (ℕ × Bor (List ℕ)) SealFault). Means seals text (opened_shown r)) e at_r

    if_ok : (r : Result (ℕ × Bor (List ℕ)) SealFault) → Means seals text (opened_shown r)
        → IfOk r (λ found. sealed seals found.0 found.1.now ≡ Some text)
    if_ok (Ok found) is = is
    if_ok (Err fault) is = tt

    on_err : (r : Result (ℕ × Bor (List ℕ)) SealFault) → opened_shown r ≡ opened_of seals text
        → OnErr r (IsSealedByNone seals text)
    on_err (Ok found) e = tt
    on_err (Err fault) e = λ provider bytes is. let bad = e ∙ opens_again seals provider bytes text lawful is in cc bad
