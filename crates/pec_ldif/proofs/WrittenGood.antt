-- The records of a lawful directory may be written, and meet no test of a reader.
use Rattle.std.proofs.Common.{◌≡◌, ℕ, ◌+◌, ◌^◌, ◌<◌, Bool, true, false, not, ◌||◌, eqb, eqb-true, List, [], ◌∷◌, ◌++◌, codes, length, length-append, map, refl, sym, ◌∙◌, ap, subst, arith, rules}
use Rattle.std.proofs.Math.Bool.{or-true}
use Rattle.std.proofs.lemmas.Bool.{and_from, and_parts, false≢true}
use Rattle.std.proofs.lemmas.Bool.Decides.{nat_tests}
use Rattle.std.proofs.lemmas.Fmt.{digits_decimal}
use Rattle.std.proofs.lemmas.List.Folds.{list_all-append}
use Rattle.std.proofs.lemmas.Str.Parse.{IsNumeralModel, numerals_by_fold}
use Rattle.std.specs.Char.{is_ascii_alphanumeric, is_ascii_digit}
use Rattle.std.specs.Fmt.{decimal}
use Rattle.std.specs.List.{AllByRecursion, list_all, list_any}
use Rattle.hex.specs.Hex.{encode_lower}
use Rattle.pec_types.specs.Address.{Avoids, IsAddress, IsLowerAddress, is_atom_byte}
use Rattle.pec_types.specs.Bytes.{Bytes}
use Rattle.pec_words.specs.Numbers.{worth_behind}
use Rattle.pec_directory.specs.Directory.{Account, Provider}
use Rattle.pec_directory.specs.Fields.{has_length, is_hex_byte, is_name, is_name_byte, is_visible, is_visible_byte, longest_key, longest_rule}
use Rattle.pec_directory.specs.Lawful.{AreNext, AreNextAccounts, IsLawful, IsNext, IsNextAccount, IsOwnDomain, provider_with}
use Rattle.pec_ldif.specs.Attributes.{Attribute}
use Rattle.pec_ldif.specs.Records.{has_name, is_account, is_provider}
use Rattle.pec_ldif.specs.Writing.{account_dn, account_record, account_records, provider_back, provider_dn, provider_front, provider_record, records_from, said}
use Rattle.pec_ldif.proofs.WrittenRecords.{AllWritable, AreGood, AreWritable, IsGood, provides}
use Rattle.pec_ldif.proofs.WrittenTables.{hex_digits}
use Rattle.pec_ldif.proofs.WrittenValues.{Shows, all_more}

-- ---- addresses

letter : (b : ℕ) → is_ascii_alphanumeric b ≡ true → is_visible_byte b ≡ true
letter b e = grind (arith, nat_tests)

mark_step : (b m : ℕ) (t : Bool) → eqb m b ≡ t → is_visible_byte m ≡ true → (rest : Bool) → (rest ≡ true → is_visible_byte b ≡ true) → (t || rest) ≡ true → is_visible_byte b ≡ true
mark_step b m true e shows rest later any = subst (λ n. is_visible_byte n ≡ true) (eqb-true m b e) shows
mark_step b m false e shows rest later any = later any

marked : (b : ℕ) (marks : Bytes) → Shows marks → list_any (λ mark. eqb mark b) marks ≡ true → is_visible_byte b ≡ true
marked b [] shows any = absurd (false≢true any)
marked b (m ∷ marks) shows any =
    let both = and_parts (is_visible_byte m) (list_all is_visible_byte marks) shows in
    mark_step b m (eqb m b) refl both.0 (list_any (λ mark. eqb mark b) marks) (marked b marks both.1) any

atom_step : (b : ℕ) (t rest : Bool) → is_ascii_alphanumeric b ≡ t → (rest ≡ true → is_visible_byte b ≡ true) → (t || rest) ≡ true → is_visible_byte b ≡ true
atom_step b true rest e later any = letter b e
atom_step b false rest e later any = later any

atom_byte : (b : ℕ) → is_atom_byte b ≡ true → is_visible_byte b ≡ true
unfolding is_atom_byte
atom_byte b is =
    atom_step b (is_ascii_alphanumeric b) (list_any (λ mark. eqb mark b) (codes "!#$%&'*+-/=?^_`{|}~")) refl
    (marked b (codes "!#$%&'*+-/=?^_`{|}~") refl) is

avoided : Avoids (λ b. not (is_visible_byte b))
avoided = record {
  atom = λ b is. ap not (atom_byte b is);
  alphanumeric = λ b is. ap not (letter b is);
  hyphen = refl;
  dot = refl;
  at = refl;
}

twice_not : (bytes : Bytes) → list_all (λ b. not (not (is_visible_byte b))) bytes ≡ true → Shows bytes
twice_not [] all = refl
twice_not (b ∷ bs) all =
    let both = and_parts (not (not (is_visible_byte b))) (list_all (λ x. not (not (is_visible_byte x))) bs) all in
    and_from (is_visible_byte b) (list_all is_visible_byte bs) (by_test (is_visible_byte b) both.0) (twice_not bs both.1)
  where
    by_test : (t : Bool) → not (not t) ≡ true → t ≡ true
    by_test true e = refl
    by_test false e = e

-- ---- other values

name_byte : (b : ℕ) → is_name_byte b ≡ true → is_visible_byte b ≡ true
name_byte b e = grind (arith, nat_tests)

name_shows : (name : Bytes) → is_name name ≡ true → Shows name
unfolding is_name
name_shows name e = all_more is_name_byte is_visible_byte name_byte name (and_parts (list_all is_name_byte name) (has_length 1 32 name) e).0

text_shows : (most : ℕ) (text : Bytes) → is_visible most text ≡ true → Shows text
unfolding is_visible
text_shows most text e = (and_parts (list_all is_visible_byte text) (has_length 1 most text) e).0

hex_byte : (b : ℕ) → is_hex_byte b ≡ true → is_visible_byte b ≡ true
hex_byte b e = grind (arith, nat_tests)

digit : (b : ℕ) → is_ascii_digit b ≡ true → is_visible_byte b ≡ true
digit b e = grind (arith, nat_tests)

own : IsNumeralModel (λ ds. list_all is_ascii_digit ds ≡ true) (worth_behind 0)
own = numerals_by_fold _ (search rules) worth_behind (search rules)

number_shows : (n : ℕ) → n < 2 ^ 64 → Shows (decimal n)
number_shows n small = all_more is_ascii_digit is_visible_byte digit (decimal n) (digits_decimal own n small)

both_show : (xs ys : Bytes) → Shows xs → Shows ys → Shows (xs ++ ys)
both_show xs ys a b = list_all-append is_visible_byte xs ys ∙ and_from (list_all is_visible_byte xs) (list_all is_visible_byte ys) a b

account_dn_shows : (number at : ℕ) → number < 2 ^ 64 → at < 2 ^ 64 → Shows (account_dn number at)
account_dn_shows number at n a = both_show (provider_dn number ++ codes ".") (decimal at) (both_show (provider_dn number) (codes ".") (number_shows number n) refl) (number_shows at a)

-- ---- records

-- `none_in`: a test that passes for no byte that addresses have passes for no byte of an address
module _ (none_in : (test : ℕ → Bool) → Avoids test → (bytes : Bytes) → IsAddress bytes → list_all (λ byte. not (test byte)) bytes ≡ true) where
  address_shows : (address : Bytes) → IsLowerAddress address → Shows address
  address_shows address is = twice_not address (none_in (λ b. not (is_visible_byte b)) avoided address is.address)

  domain_shows : (domain : Bytes) → IsOwnDomain domain → Shows domain
  domain_shows domain is = address_shows (codes "posta-certificata@" ++ domain) is

  account_may : (number at : ℕ) (earlier : List Provider) (p : Provider) (account : Account) → number < 2 ^ 64 → at < 2 ^ 64 → IsNextAccount earlier p account
      → AreWritable (account_record number at account)
  account_may number at earlier p account n a next = (
    record { name = refl; value = account_dn_shows number at n a },
    (
      record { name = refl; value = refl },
      (
        record { name = refl; value = address_shows account.address next.address },
        (
          record { name = refl; value = number_shows account.quota (omega (arith, next.quota)) },
          (record { name = refl; value = text_shows longest_key account.key next.key }, tt),
        ),
      ),
    ),
  )

  more_may : (xs ys : List Attribute) → AreWritable xs → AreWritable ys → AreWritable (xs ++ ys)
  more_may [] ys a b = b
  more_may (x ∷ xs) ys a b = (a.0, more_may xs ys a.1 b)

  domains_may : (domains : List Bytes) → AllByRecursion IsOwnDomain domains → AreWritable (map (λ domain. said (codes "managedDomains") domain) domains)
  domains_may [] all = tt
  domains_may (domain ∷ domains) all = (record { name = refl; value = domain_shows domain all.0 }, domains_may domains all.1)

  provider_may : (number : ℕ) (earlier : List Provider) (p : Provider) → number < 2 ^ 64 → IsNext earlier p → AreWritable (provider_record number p)
  provider_may number earlier p n next =
      more_may (provider_front number p) (map (λ domain. said (codes "managedDomains") domain) p.domains ++ provider_back p) (
        record { name = refl; value = number_shows number n },
        (
          record { name = refl; value = refl },
          (
            record { name = refl; value = name_shows p.name next.name },
            (record { name = refl; value = address_shows p.receipts next.receipts }, tt),
          ),
        ),
      )
      (more_may (map (λ domain. said (codes "managedDomains") domain) p.domains) (provider_back p) (domains_may p.domains next.domains_are) (
        record { name = refl; value = all_more is_hex_byte is_visible_byte hex_byte (encode_lower p.key) (hex_digits p.key next.key.2) },
        (
          record { name = refl; value = text_shows longest_rule p.rule next.rule },
          (record { name = refl; value = number_shows p.limit (omega (arith, next.limit.1)) }, tt),
        ),
      ))

  no_change : (domains : List Bytes) (back : List Attribute) → list_any (λ attribute. has_name (codes "changetype") attribute) back ≡ false
      → list_any (λ attribute. has_name (codes "changetype") attribute) (map (λ domain. said (codes "managedDomains") domain) domains ++ back) ≡ false
  no_change [] back none = none
  no_change (domain ∷ domains) back none = no_change domains back none

  account_good : (number at : ℕ) (earlier : List Provider) (p : Provider) (account : Account) → number < 2 ^ 64 → at < 2 ^ 64 → IsNextAccount earlier p account
      → IsGood true (account_record number at account)
  unfolding is_account is_provider
  account_good number at earlier p account n a next = record { may = account_may number at earlier p account n a next; dn = refl; change = refl; own = refl }

  provider_good : (has : Bool) (number : ℕ) (earlier : List Provider) (p : Provider) → number < 2 ^ 64 → IsNext earlier p → IsGood has (provider_record number p)
  unfolding is_account is_provider
  provider_good has number earlier p n next =
      record { may = provider_may number earlier p n next; dn = refl; change = no_change p.domains (provider_back p) refl; own = refl }

  more_accounts : (earlier : List Provider) (p : Provider) (accounts : List Account) (number at : ℕ) (records : List (List Attribute)) → number < 2 ^ 64
      → at ≡ length p.accounts + 1 → AreNextAccounts earlier p accounts → AreGood true records → AreGood true (account_records number at accounts ++ records)
  more_accounts earlier p [] number at records n place next good = good
  more_accounts earlier p (account ∷ accounts) number at records n place next good = (
    account_good number at earlier p account n (omega (arith, place, next.0.room)) next.0,
    more_accounts earlier (provider_with p (p.accounts ++ account ∷ [])) accounts number (at + 1) records n (omega (arith, place, length-append p.accounts (account ∷ []))) next.1 good,
  )

  good_with : (has : Bool) (records : List (List Attribute)) (told : Bool) → told ≡ true → AreGood true records → AreGood (has || told) records
  good_with has records told is good = subst (λ t. AreGood t records) (sym (ap (λ t. has || t) is ∙ or-true has)) good

  provides_so : (number : ℕ) (p : Provider) → provides (provider_record number p) ≡ true
  unfolding is_provider
  provides_so number p = refl

  more_providers : (has : Bool) (earlier providers : List Provider) (number : ℕ) → number + length providers < 2 ^ 64 → AreNext earlier providers → AreGood has (records_from number providers)
  more_providers has earlier [] number few next = tt
  more_providers has earlier (p ∷ providers) number few next = (
    provider_good has number earlier p (omega (arith, few)) next.0,
    good_with has (account_records number 1 p.accounts ++ records_from (number + 1) providers) (provides (provider_record number p)) (provides_so number p)
        (more_accounts earlier (provider_with p []) p.accounts number 1 (records_from (number + 1) providers) (omega (arith, few)) refl next.0.accounts
        (more_providers true (earlier ++ p ∷ []) providers (number + 1) (omega (arith, few)) next.1)),
  )

  -- The records of a lawful directory meet no test.
  pub all_good : (providers : List Provider) → IsLawful providers → AreGood false (records_from 0 providers)
  all_good providers lawful = more_providers false [] providers 0 (omega (arith, lawful.few)) lawful.each

-- and each may be written
pub good_may : (has : Bool) (records : List (List Attribute)) → AreGood has records → AllWritable records
good_may has [] good = tt
good_may has (one ∷ records) good = (good.0.may, good_may (has || provides one) records good.1)
