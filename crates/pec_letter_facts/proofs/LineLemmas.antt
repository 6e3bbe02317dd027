-- Which lines may stand in a head, and which are read without a change: names, dates, and lists of fields.
use Rattle.std.proofs.Common.{◌≡◌, ℕ, ◌+◌, ◌%◌, ◌<◌, ◌≤◌, Bool, true, false, ◌||◌, nat_lt, cond, List, [], ◌∷◌, ◌++◌, map, length, Option, None, Some, option_map, codes, refl, ap, sym, ◌∙◌, subst, arith, append_assoc, length-append, ◌↔◌, ◌/◌, ◌==◌, ◌^◌}
use Rattle.std.proofs.lemmas.Bool.Decides.{nat_tests}
use Rattle.std.proofs.lemmas.List.{append-nil}
use Rattle.std.specs.List.{AllByRecursion}
use Rattle.std.specs.Option.{IfSome}
use Rattle.pec_types.specs.Address.{IsLowerAddress}
use Rattle.pec_types.specs.Bytes.{Bytes, Path}
use Rattle.pec_types.specs.Message.{Id}
use Rattle.pec_types.specs.Text.{AllPrintable, is_unprintable}
use Rattle.pec_types.specs.Words.{id_text, last_digit, seven_digits, wish_word}
use Rattle.pec_types.specs.declared.messages.Wish.{Wish}
use Rattle.pec_types.specs.declared.messages.Wish.TheVariants.{Full, Brief, Concise}
use Rattle.pec_heads.specs.BoundedFacts.{IsShortText}
use Rattle.pec_heads.specs.Bytes.{NonePass, begins_blank, ends_blank, is_blank, trimmed}
use Rattle.pec_heads.specs.Heads.{is_control, is_name}
use Rattle.pec_heads.specs.WrittenHeads.{AllStand, CanStand, Written, field, list_field}
use Rattle.pec_heads.specs.declared.TheConstants.{LINE_LIMIT}
use Rattle.pec_bodies.specs.Composing.{composed_type}
use Rattle.pec_cert.specs.HeaderDate.{IsHeaderDate, date_text, header_date_of, header_date_text, named_day_text, weekday_name, weekday_of}
use Rattle.pec_cert.specs.Markup.{two_digits}
use Rattle.pec_cert.specs.Shown.{sign_word, time_text, zone_text}
use Rattle.pec_cert.specs.Clock.{shown_of}
use Rattle.pec_cert.specs.Stamp.{Instant, IsStamp}
use Rattle.pec_cert.specs.declared.stamps.Shown.{Shown}
use Rattle.pec_cert.specs.declared.stamps.ShownZone.{ShownZone}
use Rattle.pec_directory.specs.Directory.{Provider, first_domain}
use Rattle.pec_directory.specs.Fields.{service_at}
use Rattle.pec_letter_parts.specs.Contents.{named_fields, part_fields}
use Rattle.pec_letter_parts.specs.Headings.{Heading, address_field, angled, heading_fields, letter_fields, marking_name, marks_of, multipart_fields, names_of, optional_field, parties_of, virus_field}
use Rattle.pec_letter_parts.specs.declared.contents.PartKind.{PartKind}
use Rattle.pec_letter_parts.specs.declared.contents.PartKind.TheVariants.{Text, Message, Certificate}
use Rattle.pec_letter_parts.specs.declared.headings.Marking.{Marking}
use Rattle.pec_letter_parts.specs.declared.headings.Marking.TheVariants.{Transport, Receipt, Reply}
use Rattle.pec_letter_facts.specs.Certifying.{name_of, with_subject}
use Rattle.pec_letter_facts.specs.ReadBack.{CanBeHeaded, IsShortLine, IsSubject, IsWholeLine}
use Rattle.pec_letter_facts.specs.declared.TheConstants.{VALUE_LIMIT}

pub all_append : {X : Type 0} (P : X → Type 0) (xs ys : List X) → AllByRecursion P xs → AllByRecursion P ys → AllByRecursion P (xs ++ ys)
all_append P [] ys a b = b
all_append P (x ∷ xs) ys a b = (a.0, all_append P xs ys a.1 b)

pub all_behind : {X : Type 0} (P : X → Type 0) (xs ys : List X) → AllByRecursion P (xs ++ ys) → AllByRecursion P ys
all_behind P [] ys a = a
all_behind P (x ∷ xs) ys a = all_behind P xs ys a.1

-- ---- names of messages

abbrev Shows : ℕ → Type 0
Shows b = is_unprintable b ≡ false

digit_shows : (n : ℕ) → Shows (last_digit n)
digit_shows n = grind (arith, nat_tests)

digits_show : (n : ℕ) → AllByRecursion Shows (seven_digits n)
unfolding seven_digits
digits_show n =
    (digit_shows (n / 1000000), (digit_shows (n / 100000), (digit_shows (n / 10000), (digit_shows (n / 1000), (digit_shows (n / 100), (digit_shows (n / 10), (digit_shows n, tt)))))))

-- what the law of printable texts says
abbrev pub Each : Type 0
Each = (bytes : Bytes) → AllPrintable bytes ↔ AllByRecursion Shows bytes

pub printable_append : Each → (a b : Bytes) → AllPrintable a → AllPrintable b → AllPrintable (a ++ b)
printable_append each a b p q = (each (a ++ b)).1 (all_append Shows a b ((each a).0 p) ((each b).0 q))

domain_shows : Each → (domain : Bytes) → AllPrintable (service_at domain) → AllByRecursion Shows domain
domain_shows each domain p = all_behind Shows (codes "posta-certificata@") domain ((each (service_at domain)).0 p)

pub name_printable : Each → (domain : Bytes) (n : ℕ) → AllPrintable (service_at domain) → AllPrintable (id_text domain n)
unfolding id_text seven_digits
name_printable each domain n p =
    (each (codes "pec." ++ (seven_digits n ++ (codes "@" ++ domain)))).1
    (all_append Shows (codes "pec.") (seven_digits n ++ (codes "@" ++ domain)) ((each (codes "pec.")).0 refl)
    (all_append Shows (seven_digits n) (codes "@" ++ domain) (digits_show n)
    (all_append Shows (codes "@") domain ((each (codes "@")).0 refl) (domain_shows each domain p))))

pub name_short : (domain : Bytes) (n : ℕ) → length domain ≤ 236 → length (id_text domain n) ≤ 248
unfolding id_text seven_digits
name_short domain n short = omega arith

-- ---- what is read as it is written

-- what the law of blanks says
abbrev Kept : Type 0
Kept = (value : Bytes) → begins_blank value ≡ false → ends_blank value ≡ false → trimmed value ≡ value

ends_behind : (a : Bytes) (c : ℕ) (cs : Bytes) → ends_blank (a ++ c ∷ cs) ≡ ends_blank (c ∷ cs)
ends_behind [] c cs = refl
ends_behind (x ∷ []) c cs = refl
ends_behind (x ∷ y ∷ a) c cs = ends_behind (y ∷ a) c cs

pub angled_whole : Kept → (name : Bytes) → trimmed (angled name) ≡ angled name
angled_whole kept name = kept (angled name) refl (ends_behind (60 ∷ name) 62 [])

begins_with : (t : Bool) (a b rest : Bytes) → begins_blank (a ++ rest) ≡ false → begins_blank (b ++ rest) ≡ false → begins_blank (cond t a b ++ rest) ≡ false
begins_with true a b rest p q = p
begins_with false a b rest p q = q

weekday_begins : (n : ℕ) (rest : Bytes) → begins_blank (weekday_name n ++ rest) ≡ false
weekday_begins n rest =
    begins_with (n == 0) (codes "Mon") _ rest refl
    (begins_with (n == 1) (codes "Tue") _ rest refl
    (begins_with (n == 2) (codes "Wed") _ rest refl
    (begins_with (n == 3) (codes "Thu") _ rest refl
    (begins_with (n == 4) (codes "Fri") _ rest refl
    (begins_with (n == 5) (codes "Sat") (codes "Sun") rest refl refl)))))

digit_blank : (n : ℕ) → is_blank (n % 10 + 48) ≡ false
digit_blank n = grind (arith, nat_tests)

-- bytes whose last one is no blank
record EndsWell (bytes : Bytes) : Type 0 where
  pub front : Bytes
  pub last : ℕ
  pub is : bytes ≡ front ++ last ∷ []
  pub plain : is_blank last ≡ false

ends_more : (a b : Bytes) → EndsWell b → EndsWell (a ++ b)
ends_more a b w = record { front = a ++ w.front; last = w.last; is = ap (λ (x : Bytes). a ++ x) w.is ∙ sym (append_assoc a w.front (w.last ∷ [])); plain = w.plain }

ends_well : (b : Bytes) → EndsWell b → ends_blank b ≡ false
ends_well b w = ap ends_blank w.is ∙ ends_behind w.front w.last [] ∙ w.plain

zone_ends : (z : ShownZone) → EndsWell (zone_text z)
zone_ends z =
    ends_more (sign_word z.ahead) (two_digits z.hours ++ two_digits z.minutes)
    (ends_more (two_digits z.hours) (two_digits z.minutes) (record { front = (z.minutes / 10 + 48) ∷ []; last = z.minutes % 10 + 48; is = refl; plain = digit_blank z.minutes }))

date_ends : (weekday : ℕ) (s : Shown) → EndsWell (header_date_text weekday s)
date_ends weekday s =
    ends_more (weekday_name weekday) (codes ", " ++ date_text s)
    (ends_more (codes ", ") (date_text s)
    (ends_more (named_day_text s.day) (codes " " ++ (time_text s.time ++ (codes " " ++ zone_text s.zone)))
    (ends_more (codes " ") (time_text s.time ++ (codes " " ++ zone_text s.zone))
    (ends_more (time_text s.time) (codes " " ++ zone_text s.zone)
    (ends_more (codes " ") (zone_text s.zone) (zone_ends s.zone))))))

pub date_whole : Kept → (stamp : Instant) → trimmed (header_date_of stamp) ≡ header_date_of stamp
date_whole kept stamp =
    kept (header_date_of stamp) (weekday_begins (weekday_of (shown_of stamp).day) (codes ", " ++ date_text (shown_of stamp)))
    (ends_well (header_date_of stamp) (date_ends (weekday_of (shown_of stamp).day) (shown_of stamp)))

-- ---- values

pub angled_line : Each → (name : Bytes) → AllPrintable name → length name ≤ 900 → IsShortLine (angled name)
angled_line each name printable short = record {
  printable = printable_append each (codes "<") (name ++ codes ">") refl (printable_append each name (codes ">") printable refl);
  short = omega (arith, length-append name (codes ">"));
}

pub text_line : Kept → (text : Bytes) → IsShortText text → IsWholeLine text
text_line kept text is =
    let short : length text ≤ 900 = is.short
    in record { line = record { printable = is.printable; short = omega arith }; whole = kept text is.begins is.ends }

pub subject_line : Each → (prefix : Bytes) (subject : Option Bytes) → AllPrintable prefix → length prefix ≤ 70 → IfSome subject IsSubject → IsShortLine (with_subject prefix subject)
subject_line each prefix None printable short is =
    record { printable = printable_append each prefix [] printable refl; short = omega (arith, ap length (append-nil prefix)) }
subject_line each prefix (Some subject) printable short is =
    let s : length subject ≤ 900 = is.short
    in record { printable = printable_append each prefix subject printable is.printable; short = omega (arith, length-append prefix subject) }

-- ---- which fields may stand

-- what the laws of lines, of folded lists, of stamps and of composed types say
pub record Laws : Type 0 where
  pub stands : (name value : Bytes) → is_name name ≡ true → NonePass is_control value → length name + 2 + length value ≤ LINE_LIMIT → CanStand (field name value)
  pub plain : (value : Bytes) → AllPrintable value → NonePass is_control value
  pub lists : (name : Bytes) (addresses : Path) → is_name name ≡ true → length name + 257 ≤ LINE_LIMIT → AllByRecursion IsLowerAddress addresses → CanStand (list_field name addresses)
  pub dates : (stamp : Instant) (text : Bytes) → IsHeaderDate stamp text → AllPrintable text × (length text ≡ 31)
  pub dated : (stamp : Instant) → IsStamp stamp → IsHeaderDate stamp (header_date_of stamp)
  pub types : (n : ℕ) → n < 2 ^ 64 → CanStand (field (codes "Content-Type") (composed_type n))

module _ (laws : Laws) where
  stand : (name value : Bytes) → is_name name ≡ true → length name ≤ 26 → IsShortLine value → CanStand (field name value)
  stand name value named short line = laws.stands name value named (laws.plain value line.printable) (let h : length value ≤ 970 = line.short in omega arith)

  optional : (name : Bytes) (value : Option Bytes) → is_name name ≡ true → length name ≤ 26 → IfSome value IsShortLine → AllStand (optional_field name value)
  optional name None named short line = tt
  optional name (Some value) named short line = (stand name value named short line, tt)

  addresses : (name : Bytes) (path : Path) → is_name name ≡ true → length name + 257 ≤ LINE_LIMIT → AllByRecursion IsLowerAddress path → AllStand (address_field name path)
  addresses name [] named short lower = tt
  addresses name (address ∷ path) named short lower = (laws.lists name (address ∷ path) named short lower, tt)

  virus : (v : Bool) → AllStand (virus_field v)
  unfolding is_name
  virus true = (stand (codes "X-VerificaSicurezza") (codes "errore") refl (omega arith) (record { printable = refl; short = omega arith }), tt)
  virus false = tt

  mark : (m : Marking) (kind : Bytes) → IsShortLine kind → CanStand (field (marking_name m) kind)
  unfolding is_name
  mark Transport kind line = stand (codes "X-Trasporto") kind refl (omega arith) line
  mark Receipt kind line = stand (codes "X-Ricevuta") kind refl (omega arith) line
  mark Reply kind line = stand (codes "X-Riscontro") kind refl (omega arith) line

  wish_line : (w : Option Wish) → IfSome (option_map wish_word w) IsShortLine
  wish_line None = tt
  wish_line (Some Full) = record { printable = refl; short = omega arith }
  wish_line (Some Brief) = record { printable = refl; short = omega arith }
  wish_line (Some Concise) = record { printable = refl; short = omega arith }

  whole_line : (v : Option Bytes) → IfSome v IsWholeLine → IfSome v IsShortLine
  whole_line None h = tt
  whole_line (Some v) h = h.line

  marks : (h : Heading) → CanBeHeaded h → AllStand (marks_of h)
  unfolding is_name
  marks h can = (
    mark h.marking h.kind can.kind.line,
    all_append CanStand (virus_field h.virus) (optional_field (codes "X-TipoRicevuta") (option_map wish_word h.wish)) (virus h.virus)
        (optional (codes "X-TipoRicevuta") (option_map wish_word h.wish) refl (omega arith) (wish_line h.wish)),
  )

  date : (stamp : Instant) → IsStamp stamp → CanStand (field (codes "Date") (header_date_of stamp))
  unfolding is_name
  date stamp is =
      let d : AllPrintable (header_date_of stamp) × (length (header_date_of stamp) ≡ 31) = laws.dates stamp (header_date_of stamp) (laws.dated stamp is)
      in stand (codes "Date") (header_date_of stamp) refl (omega arith) (record { printable = d.0; short = omega (arith, d.1) })

  names : (h : Heading) → CanBeHeaded h → AllStand (names_of h)
  unfolding is_name
  names h can = (
    stand (codes "Message-ID") (angled h.name) refl (omega arith) can.name,
    all_append CanStand (optional_field (codes "X-Riferimento-Message-ID") h.reference) (field (codes "Date") (header_date_of h.stamp) ∷ [])
        (optional (codes "X-Riferimento-Message-ID") h.reference refl (omega arith) (whole_line h.reference can.reference))
        (date h.stamp can.stamp, tt),
  )

  parties : (h : Heading) → CanBeHeaded h → AllStand (parties_of h)
  unfolding is_name
  parties h can = (
    stand (codes "From") h.from refl (omega arith) can.from,
    all_append CanStand (optional_field (codes "Reply-To") h.reply) (address_field (codes "To") h.to ++ address_field (codes "Cc") h.copies)
        (optional (codes "Reply-To") h.reply refl (omega arith) can.reply)
        (all_append CanStand (address_field (codes "To") h.to) (address_field (codes "Cc") h.copies)
        (addresses (codes "To") h.to refl (omega arith) can.to) (addresses (codes "Cc") h.copies refl (omega arith) can.copies)),
  )

  multipart : (n : ℕ) → n < 2 ^ 64 → AllStand (multipart_fields n)
  unfolding multipart_fields is_name
  multipart n fits = (stand (codes "MIME-Version") (codes "1.0") refl (omega arith) (record { printable = refl; short = omega arith }), (laws.types n fits, tt))

  -- The fields of a heading that may stand may be written.
  pub heading_stands : (h : Heading) → CanBeHeaded h → AllStand (heading_fields h)
  unfolding heading_fields is_name
  heading_stands h can =
      all_append CanStand (marks_of h) (names_of h ++ (parties_of h ++ field (codes "Subject") h.subject ∷ [])) (marks h can)
      (all_append CanStand (names_of h) (parties_of h ++ field (codes "Subject") h.subject ∷ []) (names h can)
      (all_append CanStand (parties_of h) (field (codes "Subject") h.subject ∷ []) (parties h can)
      (stand (codes "Subject") h.subject refl (omega arith) can.subject, tt)))

  -- So may those of a letter.
  pub letter_stands : (h : Heading) (n : ℕ) → CanBeHeaded h → n < 2 ^ 64 → AllStand (letter_fields h n)
  letter_stands h n can fits = all_append CanStand (heading_fields h) (multipart_fields n) (heading_stands h can) (multipart n fits)

  -- So may those of its parts.
  pub part_stands : (kind : PartKind) → AllStand (part_fields kind)
  unfolding is_name
  part_stands Text = (stand (codes "Content-Type") (codes "text/plain; charset=us-ascii") refl (omega arith) (record { printable = refl; short = omega arith }), tt)
  part_stands Message = (
    stand (codes "Content-Type") (codes "message/rfc822; name=\"postacert.eml\"") refl (omega arith) (record { printable = refl; short = omega arith }),
    (stand (codes "Content-Disposition") (codes "attachment; filename=\"postacert.eml\"") refl (omega arith) (record { printable = refl; short = omega arith }), tt),
  )
  part_stands Certificate = (
    stand (codes "Content-Type") (codes "application/xml; name=\"daticert.xml\"") refl (omega arith) (record { printable = refl; short = omega arith }),
    (stand (codes "Content-Disposition") (codes "attachment; filename=\"daticert.xml\"") refl (omega arith) (record { printable = refl; short = omega arith }), tt),
  )
