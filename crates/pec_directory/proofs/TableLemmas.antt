-- What the tables say, where it is lawful, is what the walk finds: the other way of `LawfulLemmas`. The whole is
-- `directory_again`, at the end.
use Rattle.std.proofs.Common.{◌≡◌, ℕ, ◌+◌, ◌<◌, ◌≤◌, false, eqb, ltb, List, [], ◌∷◌, ◌++◌, length, codes, Option, Some, None, is_none, IsSome, option_and_then, Result, Ok, refl, sym, ap, ◌∙◌, arith, append-nil, append_assoc}
use Rattle.std.proofs.lemmas.Bool.{lt-leb}
use Rattle.std.proofs.lemmas.Bool.Decides.{nat_tests}
use Rattle.toml.specs.Data.{Data, Items, no_items, item}
use Rattle.jiff_tz.specs.PosixReader.{read_whole}
use Rattle.jiff_tz.specs.PosixText.{TzText}
use Rattle.pec_types.specs.Bytes.{Bytes}
use Rattle.pec_types.specs.Results.{◌>>=◌}
use Rattle.pec_directory.specs.Directory.{Account, Provider, accounts_of}
use Rattle.pec_directory.specs.Fields.{address_at, address_in, key_of, receipts_at, rule_at, seal_key_at, text_at}
use Rattle.pec_directory.specs.Lawful.{AreNext, AreNextAccounts, IsNext, IsNextAccount}
use Rattle.pec_directory.specs.Tables.{IsDirectory, IsOfTable, SayAccounts, SayProviders, SaysAccount, SaysFields, SaysProvider, fields_in}
use Rattle.pec_directory.specs.Walk.{Fields, account_in, accounts_from, count_of, directory_in, directory_of, fields_of, key_in, most_accounts, most_providers, or_fault, provider_in, providers_from, receipts_in, rule_in, settled, with_accounts}
use Rattle.pec_directory.specs.declared.faults.DirectoryFault.{DirectoryFault}
use Rattle.pec_directory.specs.declared.faults.DirectoryFault.TheVariants.{BadAddress, BadField, BadKey}
use Rattle.pec_directory.specs.declared.faults.Field.TheVariants as field

abbrev found : {A : Type 0} → A → Result A DirectoryFault
found x = Ok x

-- what was there for two steps that may each find nothing
twice : {A B : Type 0} (none other : DirectoryFault) (o : Option A) (f : A → Option B) (y : B) → option_and_then f o ≡ Some y → (or_fault none o >>= λ x. or_fault other (f x)) ≡ Ok y
twice none other None f y e = let no : ⊥ = cc in absurd no
twice none other (Some x) f y e = ap (or_fault other) e

receipts_again : (number : ℕ) (entry : Data) (receipts : Bytes) → receipts_at entry ≡ Some receipts → receipts_in number entry ≡ Ok receipts
unfolding receipts_at receipts_in
receipts_again number entry receipts e = twice (BadField number field.MailReceipt) (BadAddress number 0) (text_at (codes "mailReceipt") entry) address_in receipts e

key_again : (number : ℕ) (entry : Data) (key : Bytes) → seal_key_at entry ≡ Some key → key_in number entry ≡ Ok key
unfolding seal_key_at key_in
key_again number entry key e = twice (BadField number field.Key) (BadKey number) (text_at (codes "key") entry) key_of key e

there : (o : Option TzText) → IsSome o → is_none o ≡ false
there None is = absurd cc
there (Some x) is = refl

rule_again : (number : ℕ) (entry : Data) (rule : Bytes) → rule_at entry ≡ Some rule → IsSome (read_whole rule) → rule_in number entry ≡ Ok rule
unfolding rule_in
rule_again number entry rule e zone = rw (e, there (read_whole rule) zone) refl

pub fields_again : (number : ℕ) (entry : Data) (fields : Fields) → SaysFields entry fields → IsSome (read_whole fields.rule) → fields_of number entry ≡ Ok fields
unfolding fields_of
fields_again number entry f said zone =
    rw (said.name, receipts_again number entry f.receipts said.receipts, said.domains, key_again number entry f.key said.key, rule_again number entry f.rule said.rule zone, said.limit) refl

pub account_again : (earlier : List Provider) (fields : Fields) (before : List Account) (entry : Data) (account : Account) → IsNextAccount earlier (with_accounts fields before) account → SaysAccount entry account
    → account_in earlier fields before entry ≡ Ok account
unfolding account_in address_at
account_again earlier fields before entry account next said = by_text (text_at (codes "address") entry) refl said.address
  where
    by_text : (o : Option Bytes) → text_at (codes "address") entry ≡ o → option_and_then address_in o ≡ Some account.address → account_in earlier fields before entry ≡ Ok account
    by_text None there e = let no : ⊥ = cc in absurd no
    by_text (Some text) there e =
        rw (there, said.quota, said.key, e, next.inside, next.free, lt-leb most_accounts (length (accounts_of earlier) + length before) next.room) refl

accounts_again : (earlier : List Provider) (fields : Fields) (before : List Account) (tables : Items) (accounts : List Account) → AreNextAccounts earlier (with_accounts fields before) accounts
    → SayAccounts tables accounts → accounts_from earlier fields before tables ≡ Ok (before ++ accounts)
accounts_again earlier fields before no_items [] next said = ap found (sym (append-nil before))
accounts_again earlier fields before no_items (account ∷ accounts) next said = absurd said
accounts_again earlier fields before (item entry tables) [] next said = absurd said
accounts_again earlier fields before (item entry tables) (account ∷ accounts) next said =
    ap (λ r. r >>= (λ one. accounts_from earlier fields (before ++ one ∷ []) tables)) (account_again earlier fields before entry account next.0 said.0)
    ∙ accounts_again earlier fields (before ++ account ∷ []) tables accounts next.1 said.1
    ∙ ap found (append_assoc before (account ∷ []) accounts)

pub provider_again : (earlier : List Provider) (entry : Data) (provider : Provider) → IsNext earlier provider → SaysProvider entry provider → provider_in earlier entry ≡ Ok provider
unfolding provider_in settled
provider_again earlier entry p next said =
    rw (
      fields_again (length earlier) entry (fields_in p) said.fields next.zone,
      said.are_tables,
      next.name_once,
      next.domains_once,
      next.receipts_inside,
      accounts_again earlier (fields_in p) [] said.tables p.accounts next.accounts said.accounts,
    )
    refl

providers_again : (earlier : List Provider) (tables : Items) (providers : List Provider) → AreNext earlier providers → SayProviders tables providers
    → (providers_from earlier tables ≡ Ok (earlier ++ providers)) × (count_of tables ≡ length providers)
providers_again earlier no_items [] next said = (ap found (sym (append-nil earlier)), refl)
providers_again earlier no_items (provider ∷ providers) next said = absurd said
providers_again earlier (item entry tables) [] next said = absurd said
providers_again earlier (item entry tables) (provider ∷ providers) next said =
    let rest = providers_again (earlier ++ provider ∷ []) tables providers next.1 said.1 in (
      ap (λ r. r >>= (λ one. providers_from (earlier ++ one ∷ []) tables)) (provider_again earlier entry provider next.0 said.0) ∙ rest.0 ∙ ap found (append_assoc earlier (provider ∷ []) providers),
      omega (arith, rest.1),
    )

some_tables : (n : ℕ) → 0 < n → eqb n 0 ≡ false
some_tables n some = grind (arith, nat_tests)

few_tables : (n : ℕ) → n ≤ most_providers → ltb most_providers n ≡ false
few_tables n few = grind (arith, nat_tests)

pub table_again : (whole : Data) (providers : List Provider) → IsOfTable whole providers → directory_in whole ≡ Ok providers
unfolding directory_in
table_again whole providers is =
    let all = providers_again [] is.tables providers is.lawful.each is.say in
    let count = all.1 in
    rw (is.are_tables, some_tables (count_of is.tables) (omega (arith, count, is.lawful.some)), few_tables (count_of is.tables) (omega (arith, count, is.lawful.few)), all.0) refl

pub directory_again : (text : Bytes) (providers : List Provider) → IsDirectory text providers → directory_of text ≡ Ok providers
unfolding directory_of
directory_again text providers is =
    rw is.is_toml (table_again is.whole providers record { tables = is.tables; are_tables = is.are_tables; say = is.say; lawful = is.lawful })
