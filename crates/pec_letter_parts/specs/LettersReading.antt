-- The same as in `Letters`, as functions that the code follows: `headed_of`, `letter_in` and `letter_of`.
use Rattle.std.specs.Prelude.{List, drop, Result, Ok}
use Rattle.pec_types.specs.Bytes.{Bytes}
use Rattle.pec_types.specs.Results.{◌>>=◌}
use Rattle.pec_types.specs.declared.disputes.LetterFault.{LetterFault}
use Rattle.pec_types.specs.declared.disputes.LetterFault.TheVariants.{Seal, Head, Body, Cert}
use Rattle.pec_heads.specs.HeadReading.{read_of}
use Rattle.pec_bodies.specs.Multiparts.{ReadPart}
use Rattle.pec_bodies.specs.PartsReading.{parts_of}
use Rattle.pec_cert.specs.CertificateReading.{cert_of}
use Rattle.pec_cert.specs.declared.certificates.CertData.{CertData}
use Rattle.pec_seal.specs.Opening.{opened_of}
use Rattle.pec_seal.specs.Seals.{Seals}
use Rattle.pec_letter_parts.specs.Asking.{known, readable}
use Rattle.pec_letter_parts.specs.Contents.{certificate_name}
use Rattle.pec_letter_parts.specs.Letters.{Headed, Letter, body_of}

-- The head of what was sealed, or why there is none.
unfoldable pub headed_of : Seals → Bytes → Result Headed LetterFault
headed_of seals text = do
  found ← readable (opened_of seals text) Seal
  read ← readable (read_of found.1) Head
  Ok (record { sealer = found.0; head = read.0; body = drop read.1 found.1 })

-- what the first part named `daticert.xml` certifies
unfoldable pub certified_by : List ReadPart → Result CertData LetterFault
certified_by parts = do
  text ← known (body_of certificate_name parts) Cert
  readable (cert_of text) Cert

-- The letter behind a head, or why there is none.
unfoldable pub letter_in : Headed → Result Letter LetterFault
letter_in read = do
  parts ← readable (parts_of read.head read.body) Body
  cert ← certified_by parts
  Ok (record { sealer = read.sealer; head = read.head; parts = parts; cert = cert })

-- The letter that a text is, or why it is none.
unfoldable pub letter_of : Seals → Bytes → Result Letter LetterFault
letter_of seals text = headed_of seals text >>= letter_in
