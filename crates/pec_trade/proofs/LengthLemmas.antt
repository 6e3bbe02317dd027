-- How long heads, composed bodies, letters and paths are, by the lengths of what stands in them.
use Rattle.std.proofs.Common.{◌≡◌, ℕ, ◌+◌, ◌*◌, ◌<◌, ◌≤◌, ◌^◌, Bool, true, false, cond, List, [], ◌∷◌, ◌++◌, length, map, Option, None, Some, Ok, option_map, codes, ap, arith, length-append}
use Rattle.std.specs.Fmt.{decimal}
use Rattle.std.specs.List.{AllByRecursion, flat_map}
use Rattle.std.specs.Option.{IfSome}
use Rattle.std.proofs.lemmas.Fmt.{length-decimal-le}
use Rattle.std.proofs.lemmas.List.Sums.{sum_by-cons}
use Rattle.pec_types.specs.Bytes.{Bytes, Path, carriage_return, colon, comma, line_feed}
use Rattle.pec_types.specs.Words.{wish_word}
use Rattle.pec_types.specs.declared.messages.Wish.{Wish}
use Rattle.pec_types.specs.declared.messages.Wish.TheVariants as wishes
use Rattle.pec_heads.specs.Lines.{ended_line}
use Rattle.pec_heads.specs.WrittenHeads.{Written, address_lines, field, field_text, head_text, on_lines, spaced, with_head}
use Rattle.pec_bodies.specs.Composing.{boundary_number, bytes_of, composed_type, delimited, joined_parts}
use Rattle.pec_bodies.specs.Marks.{dashed}
use Rattle.pec_cert.specs.Clock.{shown_of}
use Rattle.pec_cert.specs.HeaderDate.{header_date_of, month_name, named_day_text, weekday_name, weekday_of}
use Rattle.pec_cert.specs.Markup.{four_digits, two_digits}
use Rattle.pec_cert.specs.Shown.{time_text, zone_text}
use Rattle.pec_cert.specs.Stamp.{Instant}
use Rattle.pec_frames.specs.Frames.{frame_text, path_line}
use Rattle.pec_seal.specs.Opening.{opened_of}
use Rattle.pec_seal.specs.Seals.{Seals, sealed}
use Rattle.pec_letter_parts.specs.Contents.{parts_of}
use Rattle.pec_letter_parts.specs.Headings.{Heading, address_field, angled, heading_fields, letter_fields, marking_name, marks_of, multipart_fields, names_of, optional_field, parties_of, virus_field}
use Rattle.pec_letter_parts.specs.Sealing.{IsLetterText}
use Rattle.pec_letter_parts.specs.declared.contents.PartKind.TheVariants as parts
use Rattle.pec_letter_parts.specs.declared.headings.Marking.{Marking}
use Rattle.pec_letter_parts.specs.declared.headings.Marking.TheVariants as markings
use Rattle.pec_trade.proofs.NamedLemmas.{seal_line}
use Rattle.pec_trade.proofs.SizeLemmas.{part_small, sized, zone_five}

-- each address has at most 254 bytes
abbrev pub AreShortOnes : Path → Type 0
AreShortOnes path = AllByRecursion (λ (address : Bytes). length address ≤ 254) path

-- ---- fields

heads_joined : (a b : List Written) → length (head_text (a ++ b)) ≡ length (head_text a) + length (head_text b)
heads_joined [] b = omega arith
heads_joined (w ∷ a) b = omega (arith, length-append (field_text w) (head_text (a ++ b)), length-append (field_text w) (head_text a), heads_joined a b)

one : (name value : Bytes) → length (head_text (field name value ∷ [])) ≡ length name + length value + 4
one name value =
    let line = name ++ colon ∷ spaced value
    in omega (
      arith,
      length-append (field_text (field name value)) [],
      length-append (ended_line line) [],
      length-append line (carriage_return ∷ line_feed ∷ []),
      length-append name (colon ∷ spaced value),
    )

maybe : (name : Bytes) (n : ℕ) (value : Option Bytes) → IfSome value (λ text. length text ≤ n) → length (head_text (optional_field name value)) ≤ length name + n + 4
maybe name n None small = omega arith
maybe name n (Some value) small = omega (arith, one name value, small)

marked : (t : Bool) → length (head_text (virus_field t)) ≤ 40
marked true = omega arith
marked false = omega arith

-- a field over lines, each behind a space
over : (name : Bytes) (lines : List Bytes) → length (field_text (on_lines name lines)) ≤ length name + 4 + length (flat_map ended_line (map spaced lines))
over name [] =
    let line = name ++ colon ∷ spaced []
    in omega (arith, length-append (ended_line line) [], length-append line (carriage_return ∷ line_feed ∷ []), length-append name (colon ∷ spaced []))
over name (first ∷ lines) =
    let line = name ++ colon ∷ spaced first
    in let rest = flat_map ended_line (map spaced lines)
    in omega (
      arith,
      length-append (ended_line line) rest,
      length-append line (carriage_return ∷ line_feed ∷ []),
      length-append name (colon ∷ spaced first),
      length-append (ended_line (spaced first)) rest,
      length-append (spaced first) (carriage_return ∷ line_feed ∷ []),
    )

addresses_small : (path : Path) → AreShortOnes path → length (flat_map ended_line (map spaced (address_lines path))) ≤ 258 * length path
addresses_small [] small = omega arith
addresses_small (last ∷ []) small =
    omega (arith, small.0, length-append (ended_line (spaced last)) [], length-append (spaced last) (carriage_return ∷ line_feed ∷ []))
addresses_small (address ∷ next ∷ path) small =
    let line = spaced (address ++ comma ∷ [])
    in omega (
      arith,
      small.0,
      length-append (ended_line line) (flat_map ended_line (map spaced (address_lines (next ∷ path)))),
      length-append line (carriage_return ∷ line_feed ∷ []),
      length-append address (comma ∷ []),
      addresses_small (next ∷ path) small.1,
    )

listed : (name : Bytes) (path : Path) → AreShortOnes path → length (head_text (address_field name path)) ≤ length name + 4 + 258 * length path
listed name [] small = omega arith
listed name (address ∷ path) small =
    let lines = address_lines (address ∷ path)
    in omega (arith, length-append (field_text (on_lines name lines)) [], over name lines, addresses_small (address ∷ path) small)

-- ---- values

weekday_by : (a b c d e f : Bool) → length (cond a (codes "Mon") (cond b (codes "Tue") (cond c (codes "Wed") (cond d (codes "Thu") (cond e (codes "Fri") (cond f (codes "Sat") (codes "Sun"))))))) ≤ 3
weekday_by true b c d e f = omega arith
weekday_by false true c d e f = omega arith
weekday_by false false true d e f = omega arith
weekday_by false false false true e f = omega arith
weekday_by false false false false true f = omega arith
weekday_by false false false false false true = omega arith
weekday_by false false false false false false = omega arith

weekday_small : (n : ℕ) → length (weekday_name n) ≤ 3
weekday_small n = weekday_by _ _ _ _ _ _

month_by : (a b c d e f g h i j k : Bool) → length (cond a (codes "Jan") (cond b (codes "Feb") (cond c (codes "Mar") (cond d (codes "Apr") (cond e (codes "May") (cond f (codes "Jun") (cond g (codes "Jul") (cond h (codes "Aug") (cond i (codes "Sep") (cond j (codes "Oct") (cond k (codes "Nov") (codes "Dec")))))))))))) ≤ 3
month_by true b c d e f g h i j k = omega arith
month_by false true c d e f g h i j k = omega arith
month_by false false true d e f g h i j k = omega arith
month_by false false false true e f g h i j k = omega arith
month_by false false false false true f g h i j k = omega arith
month_by false false false false false true g h i j k = omega arith
month_by false false false false false false true h i j k = omega arith
month_by false false false false false false false true i j k = omega arith
month_by false false false false false false false false true j k = omega arith
month_by false false false false false false false false false true k = omega arith
month_by false false false false false false false false false false true = omega arith
month_by false false false false false false false false false false false = omega arith

month_small : (n : ℕ) → length (month_name n) ≤ 3
month_small n = month_by _ _ _ _ _ _ _ _ _ _ _

date_small : (stamp : Instant) → length (header_date_of stamp) ≤ 100
date_small stamp =
    let shown = shown_of stamp
    in let weekday = weekday_name (weekday_of shown.day)
    in omega (
      arith,
      sized (weekday ∷ codes ", " ∷ named_day_text shown.day ∷ codes " " ∷ time_text shown.time ∷ codes " " ∷ []) (zone_text shown.zone),
      sized (two_digits shown.day.day ∷ codes " " ∷ month_name shown.day.month ∷ codes " " ∷ []) (four_digits shown.day.year),
      weekday_small (weekday_of shown.day),
      month_small shown.day.month,
      zone_five shown.zone,
    )

marking_small : (marking : Marking) → length (marking_name marking) ≤ 11
marking_small markings.Transport = omega arith
marking_small markings.Receipt = omega arith
marking_small markings.Reply = omega arith

word_small : (wish : Wish) → length (wish_word wish) ≤ 10
word_small wishes.Full = omega arith
word_small wishes.Brief = omega arith
word_small wishes.Concise = omega arith

wished_small : (wish : Option Wish) → IfSome (option_map wish_word wish) (λ text. length text ≤ 10)
wished_small None = tt
wished_small (Some wish) = word_small wish

-- ---- heads

-- values of a head that are short, with so many addresses
pub record IsShortHeading (h : Heading) (count : ℕ) : Type 0 where
  pub kind : length h.kind ≤ 1000
  pub name : length h.name ≤ 1000
  pub reference : IfSome h.reference (λ text. length text ≤ 1000)
  pub from : length h.from ≤ 1000
  pub reply : IfSome h.reply (λ text. length text ≤ 1000)
  pub to : AreShortOnes h.to
  pub copies : AreShortOnes h.copies
  pub few : length h.to + length h.copies ≤ count
  pub subject : length h.subject ≤ 1200

module _ (h : Heading) (count : ℕ) (short : IsShortHeading h count) where
  marks_small : length (head_text (marks_of h)) ≤ 1100
  marks_small =
      let wish = optional_field (codes "X-TipoRicevuta") (option_map wish_word h.wish)
      in omega (
        arith,
        heads_joined (field (marking_name h.marking) h.kind ∷ []) (virus_field h.virus ++ wish),
        heads_joined (virus_field h.virus) wish,
        one (marking_name h.marking) h.kind,
        marking_small h.marking,
        short.kind,
        marked h.virus,
        maybe (codes "X-TipoRicevuta") 10 (option_map wish_word h.wish) (wished_small h.wish),
      )

  names_small : length (head_text (names_of h)) ≤ 2300
  names_small =
      let reference = optional_field (codes "X-Riferimento-Message-ID") h.reference
      in let date = field (codes "Date") (header_date_of h.stamp) ∷ []
      in omega (
        arith,
        heads_joined (field (codes "Message-ID") (angled h.name) ∷ []) (reference ++ date),
        heads_joined reference date,
        one (codes "Message-ID") (angled h.name),
        length-append h.name (codes ">"),
        short.name,
        maybe (codes "X-Riferimento-Message-ID") 1000 h.reference short.reference,
        one (codes "Date") (header_date_of h.stamp),
        date_small h.stamp,
      )

  parties_small : length (head_text (parties_of h)) ≤ 2100 + 258 * count
  parties_small =
      let reply = optional_field (codes "Reply-To") h.reply
      in let to = address_field (codes "To") h.to
      in let copies = address_field (codes "Cc") h.copies
      in omega (
        arith,
        heads_joined (field (codes "From") h.from ∷ []) (reply ++ (to ++ copies)),
        heads_joined reply (to ++ copies),
        heads_joined to copies,
        one (codes "From") h.from,
        short.from,
        maybe (codes "Reply-To") 1000 h.reply short.reply,
        listed (codes "To") h.to short.to,
        listed (codes "Cc") h.copies short.copies,
        short.few,
      )

  pub heading_small : length (head_text (heading_fields h)) ≤ 7000 + 258 * count
  unfolding heading_fields
  heading_small =
      let subject = field (codes "Subject") h.subject ∷ []
      in omega (
        arith,
        heads_joined (marks_of h) (names_of h ++ (parties_of h ++ subject)),
        heads_joined (names_of h) (parties_of h ++ subject),
        heads_joined (parties_of h) subject,
        marks_small,
        names_small,
        parties_small,
        one (codes "Subject") h.subject,
        short.subject,
      )

-- ---- bodies of parts

boundary_small : (n : ℕ) → n < 2 ^ 64 → length (boundary_number n) ≤ 26
unfolding boundary_number
boundary_small n fits = omega (arith, length-append (codes "=_pec_") (decimal n), length-decimal-le 20 n (omega arith) (omega (arith, fits)) fits)

multipart_small : (n : ℕ) → n < 2 ^ 64 → length (head_text (multipart_fields n)) ≤ 200
unfolding multipart_fields
multipart_small n fits =
    let boundary = boundary_number n
    in omega (
      arith,
      heads_joined (field (codes "MIME-Version") (codes "1.0") ∷ []) (field (codes "Content-Type") (composed_type n) ∷ []),
      one (codes "MIME-Version") (codes "1.0"),
      one (codes "Content-Type") (composed_type n),
      length-append boundary (codes "\""),
      boundary_small n fits,
    )

delimited_small : (boundary : Bytes) → length boundary ≤ 26 → (all : List Bytes) → length (flat_map (delimited boundary) all) ≤ bytes_of all + 32 * length all
delimited_small boundary short [] = omega arith
delimited_small boundary short (part ∷ all) =
    let sum : bytes_of (part ∷ all) ≡ length part + bytes_of all = sum_by-cons (λ (one : Bytes). length one) part all
    in omega (
      arith,
      sum,
      short,
      length-append (delimited boundary part) (flat_map (delimited boundary) all),
      length-append (ended_line (dashed boundary)) (ended_line part),
      length-append (dashed boundary) (carriage_return ∷ line_feed ∷ []),
      length-append part (carriage_return ∷ line_feed ∷ []),
      delimited_small boundary short all,
    )

joined_small : (boundary : Bytes) → length boundary ≤ 26 → (all : List Bytes) → length (joined_parts boundary all) ≤ bytes_of all + 32 * length all + 40
joined_small boundary short all =
    let last = dashed boundary ++ codes "--"
    in omega (
      arith,
      short,
      length-append (flat_map (delimited boundary) all) (ended_line last),
      length-append last (carriage_return ∷ line_feed ∷ []),
      length-append (dashed boundary) (codes "--"),
      delimited_small boundary short all,
    )

-- the parts of a letter are three at most
pub parts_within : (text certificate : Bytes) (message : Option Bytes) (m : ℕ) → length text ≤ 6000 → length certificate ≤ 4060000 → IfSome message (λ b. length b ≤ m)
    → bytes_of (parts_of (record { text = text; message = message; certificate = Some certificate })) ≤ m + 4070000
unfolding parts_of
parts_within text certificate None m short small fits = omega (arith, part_small parts.Text text, part_small parts.Certificate certificate, short, small)
parts_within text certificate (Some message) m short small fits =
    omega (arith, part_small parts.Text text, part_small parts.Message message, part_small parts.Certificate certificate, short, small, fits)

pub three_parts : (text certificate : Bytes) (message : Option Bytes)
    → length (parts_of (record { text = text; message = message; certificate = Some certificate })) ≤ 3
unfolding parts_of
three_parts text certificate None = omega arith
three_parts text certificate (Some message) = omega arith

-- ---- sealed letters

with_head_small : (fields : List Written) (body : Bytes) → length (with_head fields body) ≡ length (head_text fields) + length body + 2
with_head_small fields body = omega (arith, length-append (head_text fields) (carriage_return ∷ line_feed ∷ body))

module _ (seals : Seals) (opens : (provider : ℕ) (bytes text : Bytes) → sealed seals provider bytes ≡ Some text → opened_of seals text ≡ Ok (provider, bytes))
    (named : (provider : ℕ) (name : Bytes) → seals.number_of name ≡ Some provider → length name ≤ 32) where
  pub sealed_small : (provider : ℕ) (bytes text : Bytes) → sealed seals provider bytes ≡ Some text → length text ≤ length bytes + 100
  sealed_small provider bytes text e =
      let line = seal_line seals text provider bytes (opens provider bytes text e)
      in omega (
        arith,
        ap length line.parts,
        length-append (codes "X-Sigillo: " ++ line.seal) (13 ∷ 10 ∷ bytes),
        length-append (codes "X-Sigillo: ") line.seal,
        line.short,
        named provider line.name line.named,
      )

  -- a letter, by its head and its parts
  pub letter_small : (provider : ℕ) (h : Heading) (count : ℕ) (all : List Bytes) (text : Bytes) → IsShortHeading h count → length all ≤ 3
      → IsLetterText seals provider h all text → length text ≤ 8000 + 258 * count + bytes_of all
  letter_small provider h count all text short few is =
      let n = is.number
      in let fits = is.composed.number.fits
      in let fields = letter_fields h n
      in omega (
        arith,
        sealed_small provider (with_head fields is.body) text is.text_is,
        with_head_small fields is.body,
        heads_joined (heading_fields h) (multipart_fields n),
        heading_small h count short,
        multipart_small n fits,
        ap length is.composed.body_is,
        joined_small (boundary_number n) (boundary_small n fits) all,
        few,
      )

  -- one with a short body and no parts
  pub bare_small : (provider : ℕ) (h : Heading) (count : ℕ) (body text : Bytes) → IsShortHeading h count
      → sealed seals provider (with_head (heading_fields h) body) ≡ Some text → length text ≤ 8000 + 258 * count + length body
  bare_small provider h count body text short e =
      omega (arith, sealed_small provider (with_head (heading_fields h) body) text e, with_head_small (heading_fields h) body, heading_small h count short)

-- ---- frames

path_small : (path : Path) → AreShortOnes path → length (path_line path) ≤ 255 * length path
path_small [] small = omega arith
path_small (last ∷ []) small = omega (arith, small.0)
path_small (address ∷ next ∷ path) small =
    omega (arith, small.0, length-append address (comma ∷ path_line (next ∷ path)), path_small (next ∷ path) small.1)

pub frame_small : (path : Path) (message : Bytes) → AreShortOnes path → length (frame_text path message) ≤ 10 + 255 * length path + length message
frame_small path message small = omega (arith, sized (codes "Per: " ∷ path_line path ∷ codes "\r\n" ∷ []) message, path_small path small)
