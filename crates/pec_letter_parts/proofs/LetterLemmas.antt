-- What is read of letters is told exactly by the functions that read them, from the laws of seals, heads, parts and certification
-- texts.
use Rattle.std.proofs.Common.{◌≡◌, ◌⊎◌, ◌↔◌, ℕ, zero, suc, ◌+◌, List, [], ◌∷◌, true, false, cond, drop, find, option_map, slice_get, add-one, Ok, Err, Option, None, Some, inl, inr, refl, ap, sym, ◌∙◌, subst}
use Rattle.std.proofs.lemmas.Option.{same_Some}
use Rattle.pec_types.specs.Answers.{TellsExactly}
use Rattle.pec_types.specs.Bytes.{Bytes}
use Rattle.pec_types.specs.Results.{◌>>=◌}
use Rattle.pec_types.specs.declared.disputes.LetterFault.{LetterFault}
use Rattle.pec_types.specs.declared.disputes.LetterFault.TheVariants.{Seal, Head, Body, Cert, NotThis, Disagree, NoMemory}
use Rattle.pec_heads.specs.Heads.{HasHeadFault, IsFaulty, IsRead, NamedValue}
use Rattle.pec_heads.specs.HeadReading.{read_of}
use Rattle.pec_bodies.specs.Multiparts.{HasFaultOf, IsBodyFault, IsParts, ReadPart}
use Rattle.pec_bodies.specs.PartsReading.{parts_of}
use Rattle.pec_cert.specs.Certificate.{IsCert}
use Rattle.pec_cert.specs.CertificateReading.{cert_of}
use Rattle.pec_cert.specs.declared.certificates.CertData.{CertData}
use Rattle.pec_seal.specs.Opening.{opened_of}
use Rattle.pec_seal.specs.Seals.{IsSealedByNone, Seals, sealed}
use Rattle.pec_seal.specs.declared.seals.SealFault.{SealFault}
use Rattle.pec_letter_parts.proofs.ToldLemmas.{given_told, readable_told, same_told}
use Rattle.pec_letter_parts.specs.Asking.{known, readable}
use Rattle.pec_letter_parts.specs.Contents.{certificate_name}
use Rattle.pec_letter_parts.specs.Letters.{Certifies, Headed, IsHeaded, IsLetter, IsLetterIn, IsUnheaded, IsUnread, IsUnreadIn, Letter, body_of, has_name, is_value, part_name}
use Rattle.pec_letter_parts.specs.LettersReading.{certified_by, headed_of, letter_in, letter_of}
use Rattle.pec_letter_parts.specs.Told.{clash, err_is, then_told}

-- ---- heads

module _ (seals : Seals) (opens : (provider : ℕ) (bytes text : Bytes) → (opened_of seals text ≡ Ok (provider, bytes)) ↔ (sealed seals provider bytes ≡ Some text))
    (heads : (text : Bytes) → TellsExactly (IsRead text) (IsFaulty text) (read_of text)) where
  abbrev headed_from : ℕ × Bytes → List NamedValue × ℕ → Headed
  headed_from found read = record { sealer = found.0; head = read.0; body = drop read.1 found.1 }

  -- a provider seals these bytes to the text
  abbrev Seals_to : Bytes → ℕ × Bytes → Type 0
  Seals_to text found = sealed seals found.0 found.1 ≡ Some text

  not_opened : (text : Bytes) (why : SealFault) → opened_of seals text ≡ Err why → IsSealedByNone seals text
  not_opened text why e = λ provider bytes is. clash (opened_of seals text) (provider, bytes) why ((opens provider bytes text).1 is) e

  opening_told : (text : Bytes) → TellsExactly (Seals_to text) (λ f. (f ≡ Seal) × IsSealedByNone seals text) (readable (opened_of seals text) Seal)
  opening_told text =
      readable_told (Seals_to text) (IsSealedByNone seals text) Seal (opened_of seals text)
      (λ found. opens found.0 found.1 text) (not_opened text) (λ none found is. none found.0 found.1 is)

  head_told : (bytes : Bytes) → TellsExactly (IsRead bytes) (λ f. (f ≡ Head) × HasHeadFault bytes) (readable (read_of bytes) Head)
  head_told bytes =
      readable_told (IsRead bytes) (HasHeadFault bytes) Head (read_of bytes) (heads bytes).value (λ fault is. (fault, ((heads bytes).fault fault).0 is))
      (λ none read is. clash (read_of bytes) read none.0 (((heads bytes).value read).1 is) (((heads bytes).fault none.0).1 none.1))

  abbrev IsChain : Bytes → Headed → Type 0
  IsChain text h = (found : ℕ × Bytes) × (Seals_to text found × ((read : List NamedValue × ℕ) × (IsRead found.1 read × (h ≡ headed_from found read))))

  abbrev IsChainFault : Bytes → LetterFault → Type 0
  IsChainFault text f =
      ((f ≡ Seal) × IsSealedByNone seals text)
      ⊎ ((found : ℕ × Bytes) × (Seals_to text found × (((f ≡ Head) × HasHeadFault found.1) ⊎ ((read : List NamedValue × ℕ) × (IsRead found.1 read × ⊥)))))

  chain_told : (text : Bytes) → TellsExactly (IsChain text) (IsChainFault text) (headed_of seals text)
  unfolding headed_of
  chain_told text =
      then_told (Seals_to text) (λ f. (f ≡ Seal) × IsSealedByNone seals text)
      (λ found h. (read : List NamedValue × ℕ) × (IsRead found.1 read × (h ≡ headed_from found read)))
      (λ found f. ((f ≡ Head) × HasHeadFault found.1) ⊎ ((read : List NamedValue × ℕ) × (IsRead found.1 read × ⊥)))
      (readable (opened_of seals text) Seal) (λ found. readable (read_of found.1) Head >>= λ read. Ok (headed_from found read))
      (opening_told text)
      (λ found. then_told (IsRead found.1) (λ f. (f ≡ Head) × HasHeadFault found.1) (λ read h. h ≡ headed_from found read) (λ read f. ⊥)
      (readable (read_of found.1) Head) (λ read. Ok (headed_from found read)) (head_told found.1) (λ read. given_told (headed_from found read)))

  from_chain : (text : Bytes) (h : Headed) → IsChain text h → IsHeaded seals text h
  from_chain text h chain =
      subst (IsHeaded seals text) (sym chain.1.1.1.1)
      (record { bytes = chain.0.1; place = chain.1.1.0.1; opens = chain.1.0; head_is = chain.1.1.1.0; body_is = refl })

  to_chain : (text : Bytes) (h : Headed) → IsHeaded seals text h → IsChain text h
  to_chain text h is =
      ((h.sealer, is.bytes), (is.opens, ((h.head, is.place), (is.head_is, ap (λ body. record { sealer = h.sealer; head = h.head; body = body }) is.body_is))))

  from_fault : (text : Bytes) (f : LetterFault) → IsChainFault text f → IsUnheaded seals text f
  from_fault text f chain =
      elim chain [
        | inl none ↦ subst (IsUnheaded seals text) (sym none.0) none.1
        | inr found ↦ elim found.1.1 [
          | inl none ↦ subst (IsUnheaded seals text) (sym none.0) (record { sealer = found.0.0; bytes = found.0.1; opens = found.1.0; none = none.1 })
          | inr read ↦ absurd read.1.1
        ]
      ]

  to_fault : (text : Bytes) (f : LetterFault) → IsUnheaded seals text f → IsChainFault text f
  to_fault text Seal h = inl (refl, h)
  to_fault text Head h = inr ((h.sealer, h.bytes), (h.opens, inl (refl, h.none)))
  to_fault text Body h = absurd h
  to_fault text Cert h = absurd h
  to_fault text NotThis h = absurd h
  to_fault text (Disagree d) h = absurd h
  to_fault text NoMemory h = absurd h

  -- What is read of a head behind a seal is told exactly.
  pub headed_told : (text : Bytes) → TellsExactly (IsHeaded seals text) (IsUnheaded seals text) (headed_of seals text)
  headed_told text =
      same_told (IsChain text) (IsHeaded seals text) (IsChainFault text) (IsUnheaded seals text) (headed_of seals text)
      (from_chain text) (to_chain text) (from_fault text) (to_fault text) (chain_told text)

-- ---- what is behind a head

module _ (bodies : (head : List NamedValue) (body : Bytes) → TellsExactly (IsParts head body) (IsBodyFault head body) (parts_of head body))
    (certs : (text : Bytes) (cert : CertData) → (cert_of text ≡ Ok cert) ↔ IsCert cert text) where
  abbrev HasNone : List ReadPart → Type 0
  HasNone parts = (cert : CertData) → Certifies parts cert → ⊥

  some_is : (o : Option Bytes) (a b : Bytes) → o ≡ Some a → o ≡ Some b → a ≡ b
  some_is o a b e f = cc

  none_some : (o : Option Bytes) (a : Bytes) → o ≡ None → o ≡ Some a → ⊥
  none_some o a e f = absurd cc

  read_cert : (parts : List ReadPart) (text : Bytes) → body_of certificate_name parts ≡ Some text → (cert : CertData) → (cert_of text ≡ Ok cert) ↔ Certifies parts cert
  read_cert parts text e cert = (
    (λ is. record { text = text; part = e; text_is = (certs text cert).0 is }),
    (λ h. ap cert_of (some_is (body_of certificate_name parts) text h.text e h.part) ∙ (certs h.text cert).1 h.text_is),
  )

  by_text : (parts : List ReadPart) (o : Option Bytes) → body_of certificate_name parts ≡ o
      → TellsExactly (Certifies parts) (λ f. (f ≡ Cert) × HasNone parts) (known o Cert >>= λ text. readable (cert_of text) Cert)
  by_text parts None e = record {
    value = λ cert. ((λ is. absurd (clash (Err Cert) cert Cert is refl)), (λ h. absurd (none_some (body_of certificate_name parts) h.text e h.part)));
    fault = λ f. ((λ is. (sym (err_is {X = CertData} (Err Cert) Cert f refl is), λ cert h. none_some (body_of certificate_name parts) h.text e h.part)), (λ h. ap Err (sym h.0)));
  }
  by_text parts (Some text) e =
      readable_told (Certifies parts) (HasNone parts) Cert (cert_of text) (read_cert parts text e)
      (λ why is cert h. clash (cert_of text) cert why ((read_cert parts text e cert).1 h) is) (λ none. none)

  certified_told : (parts : List ReadPart) → TellsExactly (Certifies parts) (λ f. (f ≡ Cert) × HasNone parts) (certified_by parts)
  unfolding certified_by
  certified_told parts = by_text parts (body_of certificate_name parts) refl

  parts_told : (read : Headed) → TellsExactly (IsParts read.head read.body) (λ f. (f ≡ Body) × HasFaultOf read.head read.body) (readable (parts_of read.head read.body) Body)
  parts_told read =
      readable_told (IsParts read.head read.body) (HasFaultOf read.head read.body) Body (parts_of read.head read.body) (bodies read.head read.body).value
      (λ fault is. (fault, ((bodies read.head read.body).fault fault).0 is))
      (λ none parts is. clash (parts_of read.head read.body) parts none.0 (((bodies read.head read.body).value parts).1 is) (((bodies read.head read.body).fault none.0).1 none.1))

  abbrev letter_from : Headed → List ReadPart → CertData → Letter
  letter_from read parts cert = record { sealer = read.sealer; head = read.head; parts = parts; cert = cert }

  abbrev IsInside : Headed → Letter → Type 0
  IsInside read l = (parts : List ReadPart) × (IsParts read.head read.body parts × ((cert : CertData) × (Certifies parts cert × (l ≡ letter_from read parts cert))))

  abbrev IsInsideFault : Headed → LetterFault → Type 0
  IsInsideFault read f =
      ((f ≡ Body) × HasFaultOf read.head read.body)
      ⊎ ((parts : List ReadPart) × (IsParts read.head read.body parts × (((f ≡ Cert) × HasNone parts) ⊎ ((cert : CertData) × (Certifies parts cert × ⊥)))))

  inside_chain : (read : Headed) → TellsExactly (IsInside read) (IsInsideFault read) (letter_in read)
  unfolding letter_in
  inside_chain read =
      then_told (IsParts read.head read.body) (λ f. (f ≡ Body) × HasFaultOf read.head read.body)
      (λ parts l. (cert : CertData) × (Certifies parts cert × (l ≡ letter_from read parts cert)))
      (λ parts f. ((f ≡ Cert) × HasNone parts) ⊎ ((cert : CertData) × (Certifies parts cert × ⊥)))
      (readable (parts_of read.head read.body) Body) (λ parts. certified_by parts >>= λ cert. Ok (letter_from read parts cert))
      (parts_told read)
      (λ parts. then_told (Certifies parts) (λ f. (f ≡ Cert) × HasNone parts) (λ cert l. l ≡ letter_from read parts cert) (λ cert f. ⊥)
      (certified_by parts) (λ cert. Ok (letter_from read parts cert)) (certified_told parts) (λ cert. given_told (letter_from read parts cert)))

  from_inside : (read : Headed) (l : Letter) → IsInside read l → IsLetterIn read l
  from_inside read l is =
      subst (IsLetterIn read) (sym is.1.1.1.1) (record { sealer_is = refl; head_is = refl; parts_are = is.1.0; cert_is = is.1.1.1.0 })

  to_inside : (read : Headed) (l : Letter) → IsLetterIn read l → IsInside read l
  to_inside read l is = (
    l.parts,
    (
      is.parts_are,
      (
        l.cert,
        (
          is.cert_is,
          ap (λ sealer. record { sealer = sealer; head = l.head; parts = l.parts; cert = l.cert }) is.sealer_is
              ∙ ap (λ head. record { sealer = read.sealer; head = head; parts = l.parts; cert = l.cert }) is.head_is,
        ),
      ),
    ),
  )

  from_inside_fault : (read : Headed) (f : LetterFault) → IsInsideFault read f → IsUnreadIn read f
  from_inside_fault read f is =
      elim is [
        | inl none ↦ subst (IsUnreadIn read) (sym none.0) none.1
        | inr parts ↦ elim parts.1.1 [
          | inl none ↦ subst (IsUnreadIn read) (sym none.0) (record { parts = parts.0; parts_are = parts.1.0; none = none.1 })
          | inr cert ↦ absurd cert.1.1
        ]
      ]

  to_inside_fault : (read : Headed) (f : LetterFault) → IsUnreadIn read f → IsInsideFault read f
  to_inside_fault read Seal h = absurd h
  to_inside_fault read Head h = absurd h
  to_inside_fault read Body h = inl (refl, h)
  to_inside_fault read Cert h = inr (h.parts, (h.parts_are, inl (refl, h.none)))
  to_inside_fault read NotThis h = absurd h
  to_inside_fault read (Disagree d) h = absurd h
  to_inside_fault read NoMemory h = absurd h

  -- What is read behind a head is told exactly.
  pub inside_told : (read : Headed) → TellsExactly (IsLetterIn read) (IsUnreadIn read) (letter_in read)
  inside_told read =
      same_told (IsInside read) (IsLetterIn read) (IsInsideFault read) (IsUnreadIn read) (letter_in read)
      (from_inside read) (to_inside read) (from_inside_fault read) (to_inside_fault read) (inside_chain read)

-- What is read of a text is told exactly.
pub letter_told : (seals : Seals) (text : Bytes) → TellsExactly (IsHeaded seals text) (IsUnheaded seals text) (headed_of seals text)
    → ((read : Headed) → TellsExactly (IsLetterIn read) (IsUnreadIn read) (letter_in read))
    → TellsExactly (IsLetter seals text) (IsUnread seals text) (letter_of seals text)
unfolding letter_of
letter_told seals text headed inside = then_told (IsHeaded seals text) (IsUnheaded seals text) IsLetterIn IsUnreadIn (headed_of seals text) letter_in headed inside

-- ---- parts by their names

part_here : (name : Bytes) (i : ℕ) (parts : List ReadPart) (head : List NamedValue) (body : Bytes)
    → Some head ≡ option_map (λ (part : ReadPart). part.head) (slice_get parts i) → Some body ≡ option_map (λ (part : ReadPart). part.body) (slice_get parts i)
    → is_value name (part_name head) ≡ true → Some body ≡ option_map (λ (part : ReadPart). part.body) (find (has_name name) (drop i parts))
part_here name zero [] head body e f t = absurd cc
part_here name (suc i) [] head body e f t = absurd cc
part_here name zero (part ∷ parts) head body e f t =
    f ∙ ap (λ found. option_map (λ (p : ReadPart). p.body) (cond found (Some part) (find (has_name name) parts))) (sym t ∙ ap (λ h. is_value name (part_name h)) (same_Some head part.head e))
part_here name (suc i) (part ∷ parts) head body e f t = part_here name i parts head body e f t

part_passed : (name : Bytes) (i : ℕ) (parts : List ReadPart) (head : List NamedValue)
    → Some head ≡ option_map (λ (part : ReadPart). part.head) (slice_get parts i) → is_value name (part_name head) ≡ false
    → find (has_name name) (drop (suc i) parts) ≡ find (has_name name) (drop i parts)
part_passed name zero [] head e t = absurd cc
part_passed name (suc i) [] head e t = absurd cc
part_passed name zero (part ∷ parts) head e t =
    ap (λ found. cond found (Some part) (find (has_name name) parts)) (sym t ∙ ap (λ h. is_value name (part_name h)) (same_Some head part.head e))
part_passed name (suc i) (part ∷ parts) head e t = part_passed name i parts head e t

-- the part at a place is the first of the name
pub part_found : (name : Bytes) (parts : List ReadPart) (i : ℕ) (head : List NamedValue) (body : Bytes) → find (has_name name) (drop i parts) ≡ find (has_name name) parts
    → Some head ≡ option_map (λ (part : ReadPart). part.head) (slice_get parts i) → Some body ≡ option_map (λ (part : ReadPart). part.body) (slice_get parts i)
    → is_value name (part_name head) ≡ true → Some body ≡ body_of name parts
unfolding body_of
part_found name parts i head body so_far e f t = part_here name i parts head body e f t ∙ ap (option_map (λ (part : ReadPart). part.body)) so_far

-- the first of the name is behind the part at a place
pub part_behind : (name : Bytes) (parts : List ReadPart) (i : ℕ) (head : List NamedValue) → find (has_name name) (drop i parts) ≡ find (has_name name) parts
    → Some head ≡ option_map (λ (part : ReadPart). part.head) (slice_get parts i) → is_value name (part_name head) ≡ false
    → find (has_name name) (drop (i + 1) parts) ≡ find (has_name name) parts
part_behind name parts i head so_far e t = ap (λ k. find (has_name name) (drop k parts)) (add-one i) ∙ part_passed name i parts head e t ∙ so_far
