-- The words of lines have neither a space nor a line feed, and no word belongs to two things.
use Rattle.std.proofs.Common.{◌≡◌, ◌≢◌, ℕ, ◌+◌, ◌%◌, ◌/◌, ◌^◌, ◌<◌, Bool, true, false, not, ◌&&◌, eqb, List, [], ◌∷◌, ◌++◌, codes, length, Option, Some, None, refl, sym, ◌∙◌, ap, arith, rules}
use Rattle.std.proofs.lemmas.Bool.{and_parts, false≢true}
use Rattle.std.proofs.lemmas.Fmt.{decimal_injective, digits_decimal}
use Rattle.std.proofs.lemmas.Option.{none-some, same_Some}
use Rattle.std.proofs.lemmas.Str.Parse.{IsNumeralModel, numerals_by_fold}
use Rattle.std.specs.Char.{is_ascii_digit}
use Rattle.std.specs.Fmt.{decimal}
use Rattle.std.specs.List.{list_all}
use Rattle.pec_directory.specs.Directory.{Provider, first_domain}
use Rattle.pec_directory.specs.Fields.{service_at}
use Rattle.pec_directory.specs.Ids.{id_of as named_id}
use Rattle.pec_directory.specs.Lawful.{IsLawful}
use Rattle.pec_directory.specs.Walk.{domains_of, is_among}
use Rattle.pec_types.specs.Address.{IsLowerAddress, is_atom_byte}
use Rattle.pec_types.specs.AddressReading.{in_label, step_of}
use Rattle.pec_types.specs.AddressSteps.{LowerAddressesPass, further, passes, passes_behind}
use Rattle.pec_types.specs.Bytes.{Bytes, line_feed, space}
use Rattle.pec_types.specs.Message.{Id}
use Rattle.pec_types.specs.Words.{id_text, seven_digits}
use Rattle.pec_types.specs.declared.messages.TheConstants.{MESSAGES}
use Rattle.pec_types.specs.declared.scanning.Stand.{Stand}
use Rattle.pec_types.specs.declared.scanning.Stand.TheVariants.{AtomBegins, InAtom, LabelBegins, BehindLetter, BehindHyphen}
use Rattle.pec_words.specs.Cuts.{Lacks}
use Rattle.pec_words.specs.Numbers.{worth_behind}
use Rattle.pec_script.specs.Printed.{IsNamed}
use Rattle.pec_script.specs.Rows.{IsWord}
use Rattle.pec_script.specs.Texts.{id_of}
use Rattle.pec_script.proofs.RowLemmas.{lacks_append}

-- ---- bytes that a word has

pub lacks_by : (p : ℕ → Bool) (c : ℕ) → p c ≡ false → (bytes : Bytes) → list_all p bytes ≡ true → Lacks c bytes
lacks_by p c fails [] h = tt
lacks_by p c fails (b ∷ bs) h =
    let parts : (p b ≡ true) × (list_all p bs ≡ true) = and_parts (p b) (list_all p bs) h in
    ((λ e. false≢true (sym fails ∙ (ap p (sym e) ∙ parts.0))), lacks_by p c fails bs parts.1)

pub is_word : (p : ℕ → Bool) → p space ≡ false → p line_feed ≡ false → (bytes : Bytes) → list_all p bytes ≡ true → IsWord bytes
is_word p s f bytes h = record { spaceless = lacks_by p space s bytes h; feedless = lacks_by p line_feed f bytes h }

pub word_append : (xs ys : Bytes) → IsWord xs → IsWord ys → IsWord (xs ++ ys)
word_append xs ys h k = record {
  spaceless = lacks_append space xs ys h.spaceless k.spaceless;
  feedless = lacks_append line_feed xs ys h.feedless k.feedless;
}

lacks_behind : (c : ℕ) (xs ys : Bytes) → Lacks c (xs ++ ys) → Lacks c ys
lacks_behind c [] ys h = h
lacks_behind c (x ∷ xs) ys h = lacks_behind c xs ys h.1

pub word_behind : (xs ys : Bytes) → IsWord (xs ++ ys) → IsWord ys
word_behind xs ys h = record { spaceless = lacks_behind space xs ys h.spaceless; feedless = lacks_behind line_feed xs ys h.feedless }

-- ---- numbers

own : IsNumeralModel (λ ds. list_all is_ascii_digit ds ≡ true) (worth_behind 0)
own = numerals_by_fold _ (search rules) worth_behind (search rules)

pub decimal_digits : (n : ℕ) → n < 2 ^ 64 → list_all is_ascii_digit (decimal n) ≡ true
decimal_digits n small = digits_decimal own n small

pub decimal_word : (n : ℕ) → n < 2 ^ 64 → IsWord (decimal n)
decimal_word n small = is_word is_ascii_digit refl refl (decimal n) (decimal_digits n small)

pub one_decimal : (n m : ℕ) → n < 2 ^ 64 → m < 2 ^ 64 → decimal n ≡ decimal m → n ≡ m
one_decimal n m small less e = decimal_injective n m small less e

-- ---- addresses

-- no step goes over this byte
abbrev Stuck : ℕ → Type 0
Stuck b = (stand : Stand) → further stand b ≡ None

stuck_space : Stuck 32
unfolding further step_of in_label is_atom_byte
stuck_space AtomBegins = refl
stuck_space InAtom = refl
stuck_space LabelBegins = refl
stuck_space (BehindLetter room) = refl
stuck_space (BehindHyphen room) = refl

stuck_feed : Stuck 10
unfolding further step_of in_label is_atom_byte
stuck_feed AtomBegins = refl
stuck_feed InAtom = refl
stuck_feed LabelBegins = refl
stuck_feed (BehindLetter room) = refl
stuck_feed (BehindHyphen room) = refl

passed : (c b : ℕ) (bs : Bytes) (stand : Stand) (o : Option Stand) → Stuck c → further stand b ≡ o
    → ((next : Stand) → passes next bs ≡ true → Lacks c bs)
    → passes_behind o (λ next. passes next bs) ≡ true → Lacks c (b ∷ bs)
passed c b bs stand None stuck e ih h = absurd (false≢true h)
passed c b bs stand (Some next) stuck e ih h =
    ((λ same. none-some next (sym (stuck stand) ∙ (ap (further stand) (sym same) ∙ e))), ih next h)

pass_lacks : (c : ℕ) → Stuck c → (stand : Stand) (bytes : Bytes) → passes stand bytes ≡ true → Lacks c bytes
pass_lacks c stuck stand [] h = tt
pass_lacks c stuck stand (b ∷ bs) h = passed c b bs stand (further stand b) stuck refl (λ next k. pass_lacks c stuck next bs k) h

pub address_word : LowerAddressesPass → (address : Bytes) → IsLowerAddress address → IsWord address
address_word pass address is =
    let through = (pass address).0 is in
    record { spaceless = pass_lacks 32 stuck_space AtomBegins address through.0; feedless = pass_lacks 10 stuck_feed AtomBegins address through.0 }

-- ---- names of messages

-- what laws of the directory say of first domains and of names
pub record NamesTold : Type 0 where
  pub pass : LowerAddressesPass
  pub address : (providers : List Provider) (domain : Bytes) → IsLawful providers → is_among domain (domains_of providers) ≡ true → IsLowerAddress (service_at domain)
  pub own : (providers : List Provider) (number : ℕ) → IsLawful providers → number < length providers
      → is_among (first_domain providers number) (domains_of providers) ≡ true
  pub named : (providers : List Provider) (id : Id) → IsLawful providers → id.provider < length providers → id.number < MESSAGES
      → named_id providers (id_text (first_domain providers id.provider) id.number) ≡ Some id

pub domain_word : NamesTold → (providers : List Provider) (number : ℕ) → IsLawful providers → number < length providers → IsWord (first_domain providers number)
domain_word told providers number lawful within =
    word_behind (codes "posta-certificata@") (first_domain providers number)
    (address_word told.pass (service_at (first_domain providers number)) (told.address providers (first_domain providers number) lawful (told.own providers number lawful within)))

digits_word : (number : ℕ) → IsWord (seven_digits number)
unfolding seven_digits
digits_word number = record {
  spaceless = (high (number / 1000000), (high (number / 100000), (high (number / 10000), (high (number / 1000), (high (number / 100), (high (number / 10), (high number, tt)))))));
  feedless = (low (number / 1000000), (low (number / 100000), (low (number / 10000), (low (number / 1000), (low (number / 100), (low (number / 10), (low number, tt)))))));
}
  where
    high : (n : ℕ) → n % 10 + 48 ≢ 32
    high n e = let h : ⊥ = omega arith in h

    low : (n : ℕ) → n % 10 + 48 ≢ 10
    low n e = let h : ⊥ = omega arith in h

pub text_word : (bytes : Bytes) → list_all (λ b. not (eqb b 32) && not (eqb b 10)) bytes ≡ true → IsWord bytes
text_word bytes h = is_word (λ b. not (eqb b 32) && not (eqb b 10)) refl refl bytes h

pub id_of_word : NamesTold → (providers : List Provider) (id : Id) → IsLawful providers → IsNamed providers id → IsWord (id_of providers id)
unfolding id_of id_text
id_of_word told providers id lawful is =
    word_append (codes "pec." ++ seven_digits id.number ++ codes "@") (first_domain providers id.provider)
    (word_append (codes "pec." ++ seven_digits id.number) (codes "@") (word_append (codes "pec.") (seven_digits id.number) (text_word (codes "pec.") refl) (digits_word id.number)) (text_word (codes "@") refl))
    (domain_word told providers id.provider lawful is.provider)

pub one_id : NamesTold → (providers : List Provider) (id other : Id) → IsLawful providers → IsNamed providers id → IsNamed providers other
    → id_of providers id ≡ id_of providers other → id ≡ other
unfolding id_of
one_id told providers id other lawful is also e =
    same_Some id other (sym (told.named providers id lawful is.provider is.number) ∙ (ap (named_id providers) e ∙ told.named providers other lawful also.provider also.number))
