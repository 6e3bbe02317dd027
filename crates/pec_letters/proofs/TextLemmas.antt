-- Texts of envelopes and anomalies as relations and as functions.
use Rattle.std.proofs.Common.{◌≡◌, ℕ, ◌<◌, ◌^◌, List, slice_get, Option, None, Some, false, option_map, refl, ap, sym, ◌∙◌, subst, ◌↔◌}
use Rattle.std.specs.Option.{option_and_then}
use Rattle.pec_types.specs.Bytes.{Bytes, Path}
use Rattle.pec_types.specs.Message.{Id}
use Rattle.pec_types.specs.declared.messages.Facts.{Facts}
use Rattle.pec_types.specs.declared.messages.Wish.{Wish}
use Rattle.pec_heads.specs.WrittenHeads.{with_head}
use Rattle.pec_bodies.specs.Composing.{boundary_number, composed_body, composed_number, joined_parts}
use Rattle.pec_cert.specs.Certificate.{IsCert}
use Rattle.pec_cert.specs.CertificateReading.{cert_text}
use Rattle.pec_cert.specs.Stamp.{Instant}
use Rattle.pec_cert.specs.Zone.{stamp_of}
use Rattle.pec_cert.specs.declared.certificates.CertData.{CertData}
use Rattle.pec_directory.specs.Directory.{Kept, first_of, providers_of}
use Rattle.pec_seal.specs.Seals.{Seals, line_text, sealed}
use Rattle.pec_letter_parts.specs.Contents.{Contents, parts_of}
use Rattle.pec_letter_parts.specs.Headings.{Heading, letter_fields}
use Rattle.pec_letter_parts.specs.Sealing.{IsLetterText, letter_text}
use Rattle.pec_letter_parts.specs.declared.headings.Marking.TheVariants.{Transport}
use Rattle.pec_letters.specs.Anomalies.{IsAnomaly, anomaly_contents, anomaly_heading, anomaly_text, anomaly_with}
use Rattle.pec_letters.specs.Envelopes.{IsEnvelope, envelope_certificate, envelope_contents, envelope_heading, envelope_parts, envelope_text, envelope_word, text_by}

then_some : {A B : Type 0} (o : Option A) (f : A → Option B) (y : B) → option_and_then f o ≡ Some y → (x : A) × ((o ≡ Some x) × (f x ≡ Some y))
then_some None f y e = absurd cc
then_some (Some x) f y e = (x, (refl, e))

-- what the law of letters as texts says
abbrev pub Letters : Type 0
Letters = (seals : Seals) (provider : ℕ) (heading : Heading) (parts : List Bytes) (text : Bytes)
    → (letter_text seals provider heading parts ≡ Some text) ↔ IsLetterText seals provider heading parts text

-- An envelope is what `envelope_text` gives.
pub envelope_only : Letters → ((cert : CertData) (text : Bytes) → IsCert cert text → text ≡ cert_text cert)
    → (seals : Seals) (kept : List Kept) (id : Id) (moment : ℕ) (facts : Facts) (original text : Bytes)
    → IsEnvelope seals kept id moment facts original text → envelope_text seals kept id moment facts original ≡ Some text
unfolding envelope_text
envelope_only letters certs seals kept id moment facts original text is =
    let providers = providers_of kept
    in let stamp = stamp_of is.issuer.zone moment
    in let heading = envelope_heading providers id stamp facts
    in ap (λ (o : Option Kept). option_and_then (text_by seals providers id moment facts original) o) is.issuer_is
    ∙ ap (λ (certificate : Bytes). letter_text seals id.provider heading (parts_of (envelope_contents providers id stamp facts original certificate)))
    (sym (certs (envelope_certificate providers is.issuer.provider.name id stamp facts) is.certificate is.certificate_is))
    ∙ (letters seals id.provider heading (parts_of (envelope_contents providers id stamp facts original is.certificate)) text).1 is.text_is

-- the certificate has the text that it is given
abbrev pub HasText : CertData → Type 0
HasText cert = IsCert cert (cert_text cert)

-- What `envelope_text` gives is an envelope, where what it certifies can be written.
pub envelope_is : Letters → (seals : Seals) (kept : List Kept) (id : Id) (moment : ℕ) (facts : Facts) (original text : Bytes)
    → ((issuer : Kept) → slice_get kept id.provider ≡ Some issuer → HasText (envelope_certificate (providers_of kept) issuer.provider.name id (stamp_of issuer.zone moment) facts))
    → envelope_text seals kept id moment facts original ≡ Some text → IsEnvelope seals kept id moment facts original text
unfolding envelope_text
envelope_is letters seals kept id moment facts original text certs e =
    let providers = providers_of kept
    in let found = then_some (slice_get kept id.provider) (text_by seals providers id moment facts original) text e
    in let issuer = found.0
    in let stamp = stamp_of issuer.zone moment
    in let certificate = cert_text (envelope_certificate providers issuer.provider.name id stamp facts)
    in record {
      issuer = issuer;
      certificate = certificate;
      issuer_is = found.1.0;
      certificate_is = certs issuer found.1.0;
      text_is = (letters seals id.provider (envelope_heading providers id stamp facts) (parts_of (envelope_contents providers id stamp facts original certificate)) text).0 found.1.1;
    }

-- An anomaly is what `anomaly_text` gives, and the other way round.
pub anomaly_is : Letters → (seals : Seals) (kept : List Kept) (provider number moment : ℕ) (message text : Bytes)
    → (anomaly_text seals kept provider number moment message ≡ Some text) ↔ IsAnomaly seals kept provider number moment message text
unfolding anomaly_text
anomaly_is letters seals kept provider number moment message text =
    let heading = λ (issuer : Kept). anomaly_heading (first_of issuer.provider.domains) number (stamp_of issuer.zone moment) message
    in let parts = λ (issuer : Kept). parts_of (anomaly_contents (stamp_of issuer.zone moment) message)
    in let by = λ (issuer : Kept). letter_text seals provider (heading issuer) (parts issuer)
    in (
      (λ e.
          let found = then_some (slice_get kept provider) by text e
          in record { issuer = found.0; issuer_is = found.1.0; text_is = (letters seals provider (heading found.0) (parts found.0) text).0 found.1.1 }),
      (λ is. ap (option_and_then by) is.issuer_is ∙ (letters seals provider (heading is.issuer) (parts is.issuer) text).1 is.text_is),
    )

-- There is an envelope where its parts leave a boundary free.
pub envelope_there : (seals : Seals) (kept : List Kept) (id : Id) (moment : ℕ) (facts : Facts) (original : Bytes) (issuer : Kept) → slice_get kept id.provider ≡ Some issuer
    → (name : Bytes) → seals.name_of id.provider ≡ Some name → (n : ℕ) → composed_number (envelope_parts (providers_of kept) id moment facts original issuer) ≡ Some n
    → (text : Bytes) × (envelope_text seals kept id moment facts original ≡ Some text)
unfolding envelope_text letter_text composed_body
envelope_there seals kept id moment facts original issuer is name named n composed =
    let providers = providers_of kept
    in let parts = envelope_parts providers id moment facts original issuer
    in let heading = envelope_heading providers id (stamp_of issuer.zone moment) facts
    in let body = joined_parts (boundary_number n) parts
    in let bytes = with_head (letter_fields heading n) body
    in let text = λ (called : Bytes). line_text (record { name = called; tag = seals.tag_of id.provider bytes; bytes = bytes })
    in (
      text name,
      ap (option_and_then (text_by seals providers id moment facts original)) is
          ∙ ap (λ (o : Option ℕ). option_and_then (λ (k : ℕ). option_and_then (λ (b : Bytes). sealed seals id.provider (with_head (letter_fields heading k) b)) (option_map (λ (j : ℕ). joined_parts (boundary_number j) parts) o)) o) composed
          ∙ ap (option_map text) named,
    )

-- ---- what was put together

-- a letter of equal parts is one
pub same_letter : (seals : Seals) (provider : ℕ) (heading heading' : Heading) (contents contents' : Contents) (text : Bytes)
    → heading ≡ heading' → contents ≡ contents' → IsLetterText seals provider heading (parts_of contents) text → IsLetterText seals provider heading' (parts_of contents') text
same_letter seals provider heading heading' contents contents' text e f is =
    subst (λ (h : Heading). IsLetterText seals provider h (parts_of contents') text) e
    (subst (λ (c : Contents). IsLetterText seals provider heading (parts_of c) text) f is)

pub anomaly_alike : (name name' from from' subject subject' : Bytes) (stamp stamp' : Instant) → name ≡ name' → from ≡ from' → subject ≡ subject' → stamp ≡ stamp'
    → anomaly_with name from subject stamp ≡ anomaly_with name' from' subject' stamp'
anomaly_alike name name' from from' subject subject' stamp stamp' a b c d =
    ap (λ (x : Bytes). anomaly_with x from subject stamp) a ∙ ap (λ (x : Bytes). anomaly_with name' x subject stamp) b
    ∙ ap (λ (x : Bytes). anomaly_with name' from' x stamp) c ∙ ap (λ (x : Instant). anomaly_with name' from' subject' x) d

-- the head of an envelope as its values are put in
abbrev pub raw_heading : Wish → Bytes → Option Bytes → Bytes → Bytes → Bytes → Instant → Path → Path → Heading
raw_heading wish name reference from reply subject stamp to copies = record {
  marking = Transport;
  kind = envelope_word;
  virus = false;
  wish = Some wish;
  name = name;
  reference = reference;
  stamp = stamp;
  from = from;
  reply = Some reply;
  to = to;
  copies = copies;
  subject = subject;
}

pub raw_alike : (w : Wish) (n n' : Bytes) (r r' : Option Bytes) (f f' p p' s s' : Bytes) (t t' : Instant) (to to' copies copies' : Path)
    → n ≡ n' → r ≡ r' → f ≡ f' → p ≡ p' → s ≡ s' → t ≡ t' → to ≡ to' → copies ≡ copies' → raw_heading w n r f p s t to copies ≡ raw_heading w n' r' f' p' s' t' to' copies'
raw_alike w n n' r r' f f' p p' s s' t t' to to' copies copies' a b c d e g h i =
    ap (λ (x : Bytes). raw_heading w x r f p s t to copies) a ∙ ap (λ (x : Option Bytes). raw_heading w n' x f p s t to copies) b
    ∙ ap (λ (x : Bytes). raw_heading w n' r' x p s t to copies) c ∙ ap (λ (x : Bytes). raw_heading w n' r' f' x s t to copies) d
    ∙ ap (λ (x : Bytes). raw_heading w n' r' f' p' x t to copies) e ∙ ap (λ (x : Instant). raw_heading w n' r' f' p' s' x to copies) g
    ∙ ap (λ (x : Path). raw_heading w n' r' f' p' s' t' x copies) h ∙ ap (λ (x : Path). raw_heading w n' r' f' p' s' t' to' x) i
