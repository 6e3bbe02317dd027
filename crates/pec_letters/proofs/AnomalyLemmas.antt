-- Names of anomalies are printable and short, and an anomaly is no letter.
use Rattle.std.proofs.Common.{◌≡◌, ◌⊎◌, ℕ, ◌+◌, ◌<◌, ◌≤◌, ◌^◌, ◌*◌, ◌-◌, Bool, true, false, ◌&&◌, ◌||◌, nat_lt, List, [], ◌∷◌, ◌++◌, length, Option, None, Some, codes, Result, Ok, Err, inl, inr, refl, ap, sym, ◌∙◌, subst, arith, length-append, ◌↔◌, rules}
use Rattle.std.proofs.lemmas.Bool.{and_parts}
use Rattle.std.proofs.lemmas.Bool.Decides.{nat_tests}
use Rattle.std.proofs.lemmas.Fmt.{digits_decimal, length-decimal-le}
use Rattle.std.proofs.lemmas.Str.Parse.{IsNumeralModel, numerals_by_fold}
use Rattle.std.specs.Char.{is_ascii_digit}
use Rattle.std.specs.Fmt.{decimal}
use Rattle.std.specs.List.{AllByRecursion, list_all}
use Rattle.std.specs.Option.{IfSome}
use Rattle.std.specs.Result.{result_ok}
use Rattle.pec_types.specs.Bytes.{Bytes}
use Rattle.pec_types.specs.Text.{AllPrintable, is_unprintable}
use Rattle.pec_types.specs.declared.disputes.LetterFault.{LetterFault}
use Rattle.pec_types.specs.declared.disputes.LetterFault.TheVariants.{Cert}
use Rattle.pec_heads.specs.BoundedFacts.{IsShortText}
use Rattle.pec_heads.specs.FactsOfHeads.{text_of}
use Rattle.pec_heads.specs.HeadReading.{read_of}
use Rattle.pec_heads.specs.Heads.{NamedValue}
use Rattle.pec_bodies.specs.Multiparts.{ReadPart}
use Rattle.pec_cert.specs.declared.certificates.CertData.{CertData}
use Rattle.pec_seal.specs.Seals.{Seals}
use Rattle.pec_letter_parts.specs.Contents.{Contents, certificate_name}
use Rattle.pec_letter_parts.specs.Headings.{Heading}
use Rattle.pec_letter_parts.specs.Letters.{Certifies, Headed, IsHeaded, IsUnread, IsUnreadIn, body_of}
use Rattle.pec_letter_facts.specs.ReadBack.{IsReadAs}
use Rattle.pec_letters.specs.Anomalies.{anomaly_name, subject_in, subject_of}

-- ---- names

digit_shows : (b : ℕ) → is_ascii_digit b ≡ true → is_unprintable b ≡ false
digit_shows b e = grind (arith, nat_tests)

digits_show : (ds : Bytes) → list_all is_ascii_digit ds ≡ true → AllByRecursion (λ (b : ℕ). is_unprintable b ≡ false) ds
digits_show [] e = tt
digits_show (d ∷ ds) e = let p = and_parts (is_ascii_digit d) (list_all is_ascii_digit ds) e in (digit_shows d p.0, digits_show ds p.1)

-- the law of printable texts
abbrev Each : Type 0
Each = (bytes : Bytes) → AllPrintable bytes ↔ AllByRecursion (λ b. is_unprintable b ≡ false) bytes

-- what digits are worth behind a number
abbrev read_on : ℕ → List ℕ → ℕ
read_on n [] = n
read_on n (c ∷ cs) = read_on (10 * n + (c - 48)) cs

own : IsNumeralModel (λ ds. list_all is_ascii_digit ds ≡ true) (read_on 0)
own = numerals_by_fold _ (search rules) read_on (search rules)

number_shows : Each → (n : ℕ) → n < 2 ^ 64 → AllPrintable (decimal n)
number_shows each n small = (each (decimal n)).1 (digits_show (decimal n) (digits_decimal own n small))

all_behind : (xs ys : Bytes) → AllByRecursion (λ (b : ℕ). is_unprintable b ≡ false) (xs ++ ys) → AllByRecursion (λ (b : ℕ). is_unprintable b ≡ false) ys
all_behind [] ys a = a
all_behind (x ∷ xs) ys a = all_behind xs ys a.1

-- the law of values joined
abbrev Joined : Type 0
Joined = (front back : Bytes) → AllPrintable front → AllPrintable back → AllPrintable (front ++ back)

pub name_shows : Each → Joined → (domain : Bytes) (n : ℕ) → AllPrintable (codes "posta-certificata@" ++ domain) → n < 2 ^ 64 → AllPrintable (anomaly_name domain n)
name_shows each joined domain n p small =
    joined (codes "ano.") (decimal n ++ (codes "@" ++ domain)) refl
    (joined (decimal n) (codes "@" ++ domain) (number_shows each n small)
    (joined (codes "@") domain refl ((each domain).1 (all_behind (codes "posta-certificata@") domain ((each (codes "posta-certificata@" ++ domain)).0 p)))))

pub name_short : (domain : Bytes) (n : ℕ) → length (codes "posta-certificata@" ++ domain) ≤ 254 → n < 2 ^ 64 → length (anomaly_name domain n) ≤ 900
name_short domain n short small =
    omega (
      arith,
      length-decimal-le 20 n (omega arith) (omega arith) small,
      length-append (codes "posta-certificata@") domain,
      length-append (decimal n) (codes "@" ++ domain),
    )

-- ---- subjects

pub subject_short : ((fields : List NamedValue) → IfSome (text_of (codes "Subject") fields) IsShortText) → (message : Bytes) → IfSome (subject_of message) IsShortText
unfolding subject_of
subject_short short message = by_head (result_ok (read_of message))
  where
    by_head : (r : Option (List NamedValue × ℕ)) → IfSome (subject_in r) IsShortText
    by_head (Some read) = short read.0
    by_head None = tt

-- ---- what is read

none_some : (o : Option Bytes) (a : Bytes) → o ≡ None → o ≡ Some a → ⊥
none_some o a e f = absurd cc

-- A text that was composed without a certificate is no letter.
pub no_letter : (seals : Seals) (provider : ℕ) (heading : Heading) (contents : Contents) (text : Bytes)
    → contents.certificate ≡ None → IsReadAs seals provider heading contents text → IsUnread seals text Cert
no_letter seals provider heading contents text none is =
    inr (
      is.read,
      (
        is.headed,
        record {
          parts = is.parts;
          parts_are = is.parts_are;
          none = λ cert certifies. none_some (body_of certificate_name is.parts) certifies.text (is.contents_are.certificate ∙ none) certifies.part;
        },
      ),
    )
