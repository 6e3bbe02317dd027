-- The head of a receipt may stand in a letter.
use Rattle.std.proofs.Common.{rules, ◌≡◌, ℕ, zero, suc, ◌+◌, ◌-◌, ◌*◌, ◌<◌, ◌≤◌, ◌^◌, Bool, true, false, List, [], ◌∷◌, ◌++◌, length, slice_get, Option, None, Some, option_map, codes, refl, ap, ◌∙◌, subst, arith, length-append, ◌↔◌}
use Rattle.std.proofs.lemmas.Bool.{and_parts}
use Rattle.std.proofs.lemmas.Bool.Decides.{nat_tests}
use Rattle.std.proofs.lemmas.Fmt.{digits_decimal, length-decimal-le}
use Rattle.std.proofs.lemmas.Option.{same_Some}
use Rattle.std.proofs.lemmas.Str.Parse.{IsNumeralModel, numerals_by_fold}
use Rattle.std.specs.Char.{is_ascii_digit}
use Rattle.std.specs.Fmt.{decimal}
use Rattle.std.specs.List.{AllByRecursion, concat, list_all}
use Rattle.std.specs.Option.{IfSome}
use Rattle.pec_types.specs.Address.{IsLowerAddress}
use Rattle.pec_types.specs.Bytes.{Bytes}
use Rattle.pec_types.specs.Message.{Id}
use Rattle.pec_types.specs.Options.{◌>>=◌}
use Rattle.pec_types.specs.Text.{AllPrintable, is_unprintable}
use Rattle.pec_types.specs.Words.{id_text, seven_digits}
use Rattle.pec_types.specs.declared.receipts.Kind.{Kind}
use Rattle.pec_types.specs.declared.receipts.Kind.TheVariants as kinds
use Rattle.pec_types.specs.declared.messages.Wish.{Wish}
use Rattle.pec_heads.specs.Bytes.{ends_blank, trimmed}
use Rattle.pec_heads.specs.BoundedFacts.{IsShortText}
use Rattle.pec_cert.specs.Stamp.{Instant, IsStamp}
use Rattle.pec_directory.specs.Directory.{Provider, first_domain, home_of}
use Rattle.pec_directory.specs.Fields.{service_at}
use Rattle.pec_directory.specs.Lawful.{AreNext, IsLawful}
use Rattle.pec_letter_parts.specs.Headings.{angled}
use Rattle.pec_letter_parts.specs.declared.headings.Marking.{Marking}
use Rattle.pec_letter_facts.specs.Certifying.{ArePrintable, name_of, with_subject}
use Rattle.pec_letter_facts.specs.ReadBack.{CanBeHeaded, IsShortLine, IsSubject, IsWholeLine}
use Rattle.pec_receipts.specs.Kinds.{Row, Said, row_of}
use Rattle.pec_receipts.specs.Receipts.{addressee_of, alone, heading_by, place_of, place_text, receipt_name, receipts_at}
use Rattle.pec_receipts.specs.declared.kinds.Addressee.{Addressee}
use Rattle.pec_receipts.specs.declared.kinds.Addressee.TheVariants as to
use Rattle.pec_receipts.specs.declared.receipts.Receipt.{Receipt}

-- what the laws of printable texts, of names and of values say
pub record Values : Type 0 where
  pub each : (bytes : Bytes) → AllPrintable bytes ↔ AllByRecursion (λ b. is_unprintable b ≡ false) bytes
  pub angled_is : (name : Bytes) → AllPrintable name → length name ≤ 900 → IsShortLine (angled name)
  pub text : (text : Bytes) → IsShortText text → IsWholeLine text
  pub subject : (prefix : Bytes) (subject : Option Bytes) → AllPrintable prefix → length prefix ≤ 70 → IfSome subject IsSubject → IsShortLine (with_subject prefix subject)
  pub address : (address : Bytes) → IsLowerAddress address → AllPrintable address × (length address ≤ 254)
  pub joined : (front back : Bytes) → AllPrintable front → AllPrintable back → AllPrintable (front ++ back)

-- ---- rows

-- tag and prefix of a row are printable and short
pub record RowStands (row : Row) : Type 0 where
  pub tag : AllPrintable row.tag
  pub tag_short : length row.tag ≤ 3
  pub prefix : AllPrintable row.prefix
  pub prefix_short : length row.prefix ≤ 70

pub row_stands : (kind : Kind) → RowStands (row_of kind)
unfolding row_of
row_stands kinds.Acceptance = record { tag = refl; tag_short = omega arith; prefix = refl; prefix_short = omega arith }
row_stands (kinds.NonAcceptance cause) = record { tag = refl; tag_short = omega arith; prefix = refl; prefix_short = omega arith }
row_stands kinds.Charge = record { tag = refl; tag_short = omega arith; prefix = refl; prefix_short = omega arith }
row_stands kinds.Delivery = record { tag = refl; tag_short = omega arith; prefix = refl; prefix_short = omega arith }
row_stands (kinds.DeliveryError refusal) = record { tag = refl; tag_short = omega arith; prefix = refl; prefix_short = omega arith }
row_stands kinds.VirusFound = record { tag = refl; tag_short = omega arith; prefix = refl; prefix_short = omega arith }
row_stands kinds.Warning = record { tag = refl; tag_short = omega arith; prefix = refl; prefix_short = omega arith }
row_stands kinds.Notice = record { tag = refl; tag_short = omega arith; prefix = refl; prefix_short = omega arith }
row_stands kinds.LateNotice = record { tag = refl; tag_short = omega arith; prefix = refl; prefix_short = omega arith }
row_stands kinds.Ack = record { tag = refl; tag_short = omega arith; prefix = refl; prefix_short = omega arith }

-- the word of what a row certifies is read as it is written
abbrev pub WordStands : Option Said → Type 0
WordStands None = Unit {0}
WordStands (Some said) = IsWholeLine said.word

pub word_stands : (kind : Kind) → WordStands (row_of kind).said
unfolding row_of trimmed
word_stands kinds.Acceptance = record { line = record { printable = refl; short = omega arith }; whole = refl }
word_stands (kinds.NonAcceptance cause) = record { line = record { printable = refl; short = omega arith }; whole = refl }
word_stands kinds.Charge = record { line = record { printable = refl; short = omega arith }; whole = refl }
word_stands kinds.Delivery = record { line = record { printable = refl; short = omega arith }; whole = refl }
word_stands (kinds.DeliveryError refusal) = record { line = record { printable = refl; short = omega arith }; whole = refl }
word_stands kinds.VirusFound = record { line = record { printable = refl; short = omega arith }; whole = refl }
word_stands kinds.Warning = record { line = record { printable = refl; short = omega arith }; whole = refl }
word_stands kinds.Notice = record { line = record { printable = refl; short = omega arith }; whole = refl }
word_stands kinds.LateNotice = record { line = record { printable = refl; short = omega arith }; whole = refl }
word_stands kinds.Ack = tt

-- ---- printable bytes

abbrev Shows : Bytes → Type 0
Shows bytes = AllByRecursion (λ b. is_unprintable b ≡ false) bytes

digit_shows : (b : ℕ) → is_ascii_digit b ≡ true → is_unprintable b ≡ false
digit_shows b e = grind (arith, nat_tests)

digits_show : (ds : Bytes) → list_all is_ascii_digit ds ≡ true → Shows ds
digits_show [] e = tt
digits_show (d ∷ ds) e = let p = and_parts (is_ascii_digit d) (list_all is_ascii_digit ds) e in (digit_shows d p.0, digits_show ds p.1)

all_behind : (xs ys : Bytes) → Shows (xs ++ ys) → Shows ys
all_behind [] ys a = a
all_behind (x ∷ xs) ys a = all_behind xs ys a.1

all_before : (xs ys : Bytes) → Shows (xs ++ ys) → Shows xs
all_before [] ys a = tt
all_before (x ∷ xs) ys a = (a.0, all_before xs ys a.1)

-- ---- the name of a receipt

abbrev total : List Bytes → ℕ
total [] = 0
total (p ∷ ps) = length p + total ps

length_concat : (pieces : List Bytes) → length (concat pieces) ≡ total pieces
length_concat [] = refl
length_concat (p ∷ ps) = length-append p (concat ps) ∙ ap (λ n. length p + n) (length_concat ps)

-- what digits are worth behind a number
abbrev pub read_on : ℕ → List ℕ → ℕ
read_on n [] = n
read_on n (c ∷ cs) = read_on (10 * n + (c - 48)) cs

own : IsNumeralModel (λ ds. list_all is_ascii_digit ds ≡ true) (read_on 0)
own = numerals_by_fold _ (search rules) read_on (search rules)

ends_angle : (text : Bytes) → ends_blank (text ++ 62 ∷ []) ≡ false
ends_angle [] = refl
ends_angle (b ∷ []) = refl
ends_angle (b ∷ c ∷ text) = ends_angle (c ∷ text)

seven_long : (number : ℕ) → length (seven_digits number) ≡ 7
unfolding seven_digits
seven_long number = refl

module _ (values : Values) where
  all_join : (pieces : List Bytes) → AllByRecursion AllPrintable pieces → AllPrintable (concat pieces)
  all_join [] a = refl
  all_join (p ∷ ps) a = values.joined p (concat ps) a.0 (all_join ps a.1)

  number_shows : (n : ℕ) → n < 2 ^ 64 → AllPrintable (decimal n)
  number_shows n small = (values.each (decimal n)).1 (digits_show (decimal n) (digits_decimal own n small))

  -- the digits and the domain of a name that is printable
  digits_shown : (domain : Bytes) (number : ℕ) → AllPrintable (id_text domain number) → AllPrintable (seven_digits number)
  unfolding id_text seven_digits
  digits_shown domain number p =
      let all = (values.each (id_text domain number)).0 p
      in (values.each (seven_digits number)).1
      (all_before (seven_digits number) (codes "@" ++ domain) (all_behind (codes "pec.") (seven_digits number ++ (codes "@" ++ domain)) all))

  domain_shown : (domain : Bytes) → AllPrintable (service_at domain) → AllPrintable domain
  domain_shown domain p =
      (values.each domain).1 (all_behind (codes "posta-certificata@") domain ((values.each (service_at domain)).0 p))

  place_shows : (place : Option ℕ) → IfSome place (λ k. k < 2 ^ 64) → AllPrintable (place_text place)
  place_shows None small = refl
  place_shows (Some place) small = values.joined (codes ".") (decimal place) refl (number_shows place small)

  place_short : (place : Option ℕ) → IfSome place (λ k. k < 2 ^ 64) → length (place_text place) ≤ 21
  place_short None small = omega arith
  place_short (Some place) small = omega (arith, length-decimal-le 20 place (omega arith) (omega arith) small)

  name_shows : (tag : Bytes) (id : Id) (place : Option ℕ) (domain : Bytes) → AllPrintable tag → AllPrintable (seven_digits id.number)
      → AllPrintable domain → id.provider < 2 ^ 64 → IfSome place (λ k. k < 2 ^ 64) → AllPrintable (receipt_name tag id place domain)
  unfolding receipt_name
  name_shows tag id place domain t digits d p k =
      all_join (tag ∷ codes "." ∷ decimal id.provider ∷ codes "." ∷ seven_digits id.number ∷ place_text place ∷ codes "@" ∷ domain ∷ [])
      (t, (refl, (number_shows id.provider p, (refl, (digits, (place_shows place k, (refl, (d, tt))))))))

  name_short : (tag : Bytes) (id : Id) (place : Option ℕ) (domain : Bytes) → length tag ≤ 3 → length domain ≤ 254
      → id.provider < 2 ^ 64 → IfSome place (λ k. k < 2 ^ 64) → length (receipt_name tag id place domain) ≤ 900
  unfolding receipt_name
  name_short tag id place domain t d p k =
      omega (
        arith,
        length_concat (tag ∷ codes "." ∷ decimal id.provider ∷ codes "." ∷ seven_digits id.number ∷ place_text place ∷ codes "@" ∷ domain ∷ []),
        seven_long id.number,
        place_short place k,
        length-decimal-le 20 id.provider (omega arith) (omega arith) p,
      )

  -- a name in angle brackets is read as it is written
  pub angled_whole : (name : Bytes) → AllPrintable name → length name ≤ 800 → IsWholeLine (angled name)
  angled_whole name p short =
      values.text (angled name) (record {
        printable = (values.angled_is name p (omega arith)).printable;
        some = omega arith;
        short = omega (arith, length-append name (codes ">"));
        begins = refl;
        ends = ends_angle (60 ∷ name);
      })

  -- The head of a receipt, with what it says it is, may stand.
  pub heading_stands : (providers : List Provider) (r : Receipt) (stamp : Instant) (row : Row) (marking : Marking) (word : Bytes) (flagged : Bool) (wish : Option Wish)
      → IsWholeLine word → RowStands row → AllPrintable (name_of providers r.id) → length (name_of providers r.id) ≤ 248
      → IsLowerAddress (service_at (first_domain providers r.by)) → r.id.provider < 2 ^ 64 → IfSome (place_of r) (λ k. k < 2 ^ 64)
      → IsStamp stamp → AllByRecursion IsLowerAddress (alone (addressee_of providers r row.to)) → IfSome r.facts.subject IsSubject
      → CanBeHeaded (heading_by providers r stamp row marking word flagged wish)
  heading_stands providers r stamp row marking word flagged wish whole stands named short service p k is to_lower subject =
      let from : AllPrintable (service_at (first_domain providers r.by)) × (length (service_at (first_domain providers r.by)) ≤ 254) =
      values.address (service_at (first_domain providers r.by)) service
      in let domain = first_domain providers r.by
      in let domain_short : length domain ≤ 254 = omega (arith, from.1, length-append (codes "posta-certificata@") domain)
      in record {
        kind = whole;
        name =
            values.angled_is (receipt_name row.tag r.id (place_of r) domain)
            (name_shows row.tag r.id (place_of r) domain stands.tag (digits_shown (first_domain providers r.id.provider) r.id.number named)
            (domain_shown domain from.0) p k)
            (name_short row.tag r.id (place_of r) domain stands.tag_short domain_short p k);
        reference = angled_whole (name_of providers r.id) named (omega arith);
        stamp = is;
        from = record { printable = from.0; short = omega (arith, from.1) };
        reply = tt;
        to = to_lower;
        copies = tt;
        subject = values.subject row.prefix r.facts.subject stands.prefix stands.prefix_short subject;
      }

-- ---- who gets it

receipts_next : (earlier providers : List Provider) (n : ℕ) (provider : Provider) → AreNext earlier providers → slice_get providers n ≡ Some provider
    → IsLowerAddress provider.receipts
receipts_next earlier [] n provider next e = absurd cc
receipts_next earlier (p ∷ ps) zero provider next e = subst (λ (q : Provider). IsLowerAddress q.receipts) (same_Some p provider e) next.0.receipts
receipts_next earlier (p ∷ ps) (suc n) provider next e = receipts_next (earlier ++ p ∷ []) ps n provider next.1 e

receipts_lower_in : (providers : List Provider) (n : ℕ) → IsLawful providers → (found : Option Provider) → slice_get providers n ≡ found
    → AllByRecursion IsLowerAddress (alone (option_map (λ (p : Provider). p.receipts) found))
receipts_lower_in providers n lawful None e = tt
receipts_lower_in providers n lawful (Some provider) e = (receipts_next [] providers n provider lawful.each e, tt)

receipts_lower : (providers : List Provider) (n : ℕ) → IsLawful providers → AllByRecursion IsLowerAddress (alone (receipts_at providers n))
unfolding receipts_at
receipts_lower providers n lawful = receipts_lower_in providers n lawful (slice_get providers n) refl

home_lower : (providers : List Provider) → IsLawful providers → (home : Option ℕ)
    → AllByRecursion IsLowerAddress (alone (home >>= receipts_at providers))
home_lower providers lawful None = tt
home_lower providers lawful (Some n) = receipts_lower providers n lawful

-- whoever gets a receipt has an address in lower case
pub addressee_lower : (providers : List Provider) (r : Receipt) (who : Addressee) → IsLawful providers → ArePrintable r.facts
    → AllByRecursion IsLowerAddress (alone (addressee_of providers r who))
unfolding addressee_of
addressee_lower providers r to.Sender lawful facts = (facts.sender, tt)
addressee_lower providers r to.MessageProvider lawful facts = receipts_lower providers r.id.provider lawful
addressee_lower providers r to.RecipientProvider lawful facts = home_lower providers lawful (r.recipient >>= home_of providers)
