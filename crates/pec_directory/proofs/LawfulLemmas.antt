-- What the walk finds right is what the tables say, and is lawful: `directory_so`, at the end.
use Rattle.std.proofs.Common.{◌≡◌, ℕ, ℤ, pos, negsuc, ◌+◌, ◌<◌, ◌≤◌, Bool, true, false, ◌&&◌, List, [], ◌∷◌, ◌++◌, length, codes, eqb, leb, ltb, leb-true, leb-false, ltb-false, append-nil, append_assoc, Option, Some, None, is_none, IsSome, option_and_then, option_map, Result, Ok, Err, refl, sym, ap, subst, ◌∙◌, arith}
use Rattle.std.specs.List.{list_all, position, AllByRecursion}
use Rattle.std.specs.Result.{result_ok}
use Rattle.std.proofs.lemmas.Bool.{cond-true, eqb-false, false≢true, lt-ltb}
use Rattle.hex.proofs.HexLemmas.{decode_of-ok}
use Rattle.hex.specs.Hex.{IsBytes, decode_of}
use Rattle.hex.specs.declared.error.FromHexError.{FromHexError}
use Rattle.jiff_tz.specs.PosixReader.{read_whole}
use Rattle.jiff_tz.specs.PosixText.{TzText}
use Rattle.toml.specs.Data.{Data, Items, no_items, item, as_array, as_integer, as_str, get}
use Rattle.pec_types.specs.Address.{IsLowerAddress, IsReadAs, lowered}
use Rattle.pec_types.specs.AddressReading.{address_of, behind_sign, domain_of, is_at_sign}
use Rattle.pec_types.specs.Bytes.{Bytes}
use Rattle.pec_types.specs.Results.{◌>>=◌}
use Rattle.pec_types.specs.declared.addresses.AddressFault.{AddressFault}
use Rattle.pec_directory.specs.Directory.{Account, Provider, accounts_of}
use Rattle.pec_directory.specs.Fields.{accounts_at, address_at, address_in, domain_in, domain_of_item, domains_at, domains_of, greatest_limit, has_length, is_hex, is_hex_byte, is_name, is_some_list, is_visible, key_at, key_of, limit_at, limit_of, name_at, number_in, number_of, quota_at, receipts_at, rule_at, seal_key_at, service_at, text_at, where_true}
use Rattle.pec_directory.specs.Lawful.{AreNext, AreNextAccounts, IsLawful, IsNext, IsNextAccount, IsOwnDomain}
use Rattle.pec_directory.specs.Tables.{IsDirectory, IsOfTable, SayAccounts, SayProviders, SaysAccount, SaysProvider}
use Rattle.pec_directory.specs.Walk as walk
use Rattle.pec_directory.specs.Walk.{Fields, account_in, accounts_from, count_of, directory_in, directory_of, document_of, fault_if, fields_of, is_named, is_outside, is_taken, key_in, most_accounts, most_providers, or_fault, provider_in, providers_from, providers_in, receipts_in, rule_in, settled, stands_twice, with_accounts}
use Rattle.pec_directory.specs.declared.faults.DirectoryFault.{DirectoryFault}
use Rattle.pec_directory.specs.declared.faults.DirectoryFault.TheVariants.{NotToml, BadField, NameTwice, DomainTwice, BadAddress, AccountOutside, AccountTwice, BadKey, BadZone, TooMany, NoProvider}
use Rattle.pec_directory.specs.declared.faults.Field.TheVariants as field
use Rattle.pec_directory.proofs.AddressLaws.{AddressLaws}

-- ---- steps that were taken

bind_ok : {A B : Type 0} (r : Result A DirectoryFault) (f : A → Result B DirectoryFault) (y : B) → (r >>= f) ≡ Ok y → (x : A) × (r ≡ Ok x) × (f x ≡ Ok y)
bind_ok (Ok x) f y e = (x, refl, e)
bind_ok (Err fault) f y e = let h : ⊥ = cc in absurd h

or_ok : {A B : Type 0} (fault : DirectoryFault) (o : Option A) (f : A → Result B DirectoryFault) (y : B) → (or_fault fault o >>= f) ≡ Ok y → (x : A) × (o ≡ Some x) × (f x ≡ Ok y)
or_ok fault None f y e = let h : ⊥ = cc in absurd h
or_ok fault (Some x) f y e = (x, refl, e)

or_last : {A : Type 0} (fault : DirectoryFault) (o : Option A) (y : A) → or_fault fault o ≡ Ok y → o ≡ Some y
or_last fault None y e = let h : ⊥ = cc in absurd h
or_last fault (Some x) y e = cc

unless_ok : {A : Type 0} (test : Bool) (fault : DirectoryFault) (r : Result A DirectoryFault) (y : A) → fault_if test fault r ≡ Ok y → (test ≡ false) × (r ≡ Ok y)
unless_ok true fault r y e = let h : ⊥ = cc in absurd h
unless_ok false fault r y e = (refl, e)

then_some : {A B : Type 0} (o : Option A) (f : A → Option B) (y : B) → option_and_then f o ≡ Some y → (x : A) × (o ≡ Some x) × (f x ≡ Some y)
then_some None f y e = let h : ⊥ = cc in absurd h
then_some (Some x) f y e = (x, refl, e)

where_some : {A : Type 0} (test : Bool) (o : Option A) (y : A) → where_true test o ≡ Some y → (test ≡ true) × (o ≡ Some y)
where_some true o y e = (refl, e)
where_some false o y e = let h : ⊥ = cc in absurd h

same : {A : Type 0} (x y : A) → Some x ≡ Some y → x ≡ y
same x y e = cc

abbrev found : {A : Type 0} → A → Result A DirectoryFault
found x = Ok x

ok_same : {A : Type 0} (x y : A) → found x ≡ found y → x ≡ y
ok_same x y e = cc

map_some : {A B : Type 0} (f : A → B) (o : Option A) (y : B) → option_map f o ≡ Some y → (x : A) × (o ≡ Some x) × (f x ≡ y)
map_some f None y e = let h : ⊥ = cc in absurd h
map_some f (Some x) y e = (x, refl, cc)

both : (x y : Bool) → (x && y) ≡ true → (x ≡ true) × (y ≡ true)
both true y e = (refl, e)
both false y e = absurd (false≢true e)

-- ---- fields

read_so : AddressLaws → (text a : Bytes) (r : Result Bytes AddressFault) → address_of text ≡ r → result_ok r ≡ Some a → IsReadAs text a
read_so laws text a (Ok b) is e = let read = ((laws.told text).value b).0 is in (read.0, sym (same b a e) ∙ read.1)
read_so laws text a (Err fault) is e = let h : ⊥ = cc in absurd h

address_lower : AddressLaws → (text a : Bytes) → address_in text ≡ Some a → IsLowerAddress a
address_lower laws text a e = let read = read_so laws text a (address_of text) refl e in laws.lower text a read

pub named_so : (entry : Data) (name : Bytes) → name_at entry ≡ Some name → is_name name ≡ true
unfolding name_at
named_so entry name e =
    let text = then_some (text_at (codes "name") entry) (λ t. where_true (is_name t) (Some t)) name e in
    let fits = where_some (is_name text.0) (Some text.0) name text.2 in
    subst (λ t. is_name t ≡ true) (same text.0 name fits.1) fits.0

pub receipts_so : AddressLaws → (number : ℕ) (entry : Data) (address : Bytes) → receipts_in number entry ≡ Ok address → (receipts_at entry ≡ Some address) × IsLowerAddress address
unfolding receipts_in receipts_at
receipts_so laws number entry address e =
    let text = or_ok (BadField number field.MailReceipt) (text_at (codes "mailReceipt") entry) (λ t. or_fault (BadAddress number 0) (address_in t)) address e in
    let read = or_last (BadAddress number 0) (address_in text.0) address text.2 in
    (ap (option_and_then address_in) text.1 ∙ read, address_lower laws text.0 address read)

-- a text behind the service's name, in lower case
service_lower : (text : Bytes) → lowered (service_at text) ≡ service_at (lowered text)
service_lower text = refl

service_sign : (domain : Bytes) → position is_at_sign (service_at domain) ≡ Some 17
service_sign domain = cond-true (ltb 17 (length (service_at domain))) (Some 17) None (lt-ltb 17 (length (service_at domain)) (omega arith))

service_domain : (domain : Bytes) → domain_of (service_at domain) ≡ domain
unfolding domain_of
service_domain domain = ap (behind_sign (service_at domain)) (service_sign domain)

domain_own : AddressLaws → (text domain : Bytes) → domain_in text ≡ Some domain → IsOwnDomain domain
unfolding domain_in
domain_own laws text domain e =
    let address = then_some (address_in (service_at text)) (λ a. Some (domain_of a)) domain e in
    let read = read_so laws (service_at text) address.0 (address_of (service_at text)) refl address.1 in
    let whole : address.0 ≡ service_at (lowered text) = read.1 ∙ service_lower text in
    let is : domain ≡ lowered text = sym (same (domain_of address.0) domain address.2) ∙ ap domain_of whole ∙ service_domain (lowered text) in
    subst IsLowerAddress (whole ∙ ap service_at (sym is)) (address_lower laws (service_at text) address.0 address.1)

item_own : AddressLaws → (value : Data) (domain : Bytes) → domain_of_item value ≡ Some domain → IsOwnDomain domain
unfolding domain_of_item
item_own laws value domain e = let text = then_some (as_str value) domain_in domain e in domain_own laws text.0 domain text.2

all_own : AddressLaws → (values : Items) (domains : List Bytes) → domains_of values ≡ Some domains → AllByRecursion IsOwnDomain domains
all_own laws no_items domains e = subst (AllByRecursion IsOwnDomain) (same [] domains e) tt
all_own laws (item value values) domains e =
    let first = then_some (domain_of_item value) (λ d. option_map (λ rest. d ∷ rest) (domains_of values)) domains e in
    let rest = map_some (λ r. first.0 ∷ r) (domains_of values) domains first.2 in
    subst (AllByRecursion IsOwnDomain) rest.2 (item_own laws value first.0 first.1, all_own laws values rest.0 rest.1)

pub domains_so : AddressLaws → (entry : Data) (domains : List Bytes) → domains_at entry ≡ Some domains → (is_some_list domains ≡ true) × AllByRecursion IsOwnDomain domains
unfolding domains_at
domains_so laws entry domains e =
    let checked : List Bytes → Option (List Bytes) = λ d. where_true (is_some_list d) (Some d) in
    let list = then_some (get (codes "managedDomains") entry) (λ l. option_and_then (λ i. option_and_then checked (domains_of i)) (as_array l)) domains e in
    let items = then_some (as_array list.0) (λ i. option_and_then checked (domains_of i)) domains list.2 in
    let read = then_some (domains_of items.0) checked domains items.2 in
    let some = where_some (is_some_list read.0) (Some read.0) domains read.2 in
    let is = same read.0 domains some.1 in
    (subst (λ d. is_some_list d ≡ true) is some.0, subst (AllByRecursion IsOwnDomain) is (all_own laws items.0 read.0 read.1))

key_bytes : (text key : Bytes) (r : Result Bytes FromHexError) → decode_of text ≡ r → result_ok r ≡ Some key → has_length 32 128 text ≡ true → (16 ≤ length key) × (length key ≤ 64) × IsBytes key
key_bytes text key (Ok bytes) is e fits =
    let ok = decode_of-ok text bytes is in
    let within = both (leb 32 (length text)) (leb (length text) 128) fits in
    let long = leb-true 32 (length text) within.0 in
    let short = leb-true (length text) 128 within.1 in
    let b = same bytes key e in
    subst (λ k. (16 ≤ length k) × (length k ≤ 64) × IsBytes k) b (omega (arith, long, ok.2), omega (arith, short, ok.2), ok.3)
key_bytes text key (Err fault) is e fits = let h : ⊥ = cc in absurd h

pub seal_key_so : (number : ℕ) (entry : Data) (key : Bytes) → key_in number entry ≡ Ok key → seal_key_at entry ≡ Some key
unfolding key_in seal_key_at
seal_key_so number entry key e =
    let text = or_ok (BadField number field.Key) (text_at (codes "key") entry) (λ t. or_fault (BadKey number) (key_of t)) key e in
    ap (option_and_then key_of) text.1 ∙ or_last (BadKey number) (key_of text.0) key text.2

pub key_so : (number : ℕ) (entry : Data) (key : Bytes) → key_in number entry ≡ Ok key → (16 ≤ length key) × (length key ≤ 64) × IsBytes key
unfolding key_in key_of is_hex
key_so number entry key e =
    let text = or_ok (BadField number field.Key) (text_at (codes "key") entry) (λ t. or_fault (BadKey number) (key_of t)) key e in
    let found = where_some (is_hex text.0) (result_ok (decode_of text.0)) key (or_last (BadKey number) (key_of text.0) key text.2) in
    key_bytes text.0 key (decode_of text.0) refl found.1 (both (list_all is_hex_byte text.0) (has_length 32 128 text.0) found.0).1

test_is : (o : Option TzText) → is_none o ≡ false → IsSome o
test_is None e = absurd (false≢true (sym e))
test_is (Some x) e = refl

pub rule_said : (number : ℕ) (entry : Data) (rule : Bytes) → rule_in number entry ≡ Ok rule → rule_at entry ≡ Some rule
unfolding rule_in
rule_said number entry rule e =
    let text = or_ok (BadField number field.Zone) (rule_at entry) (λ r. fault_if (is_none (read_whole r)) (BadZone number) (Ok r)) rule e in
    let zone = unless_ok (is_none (read_whole text.0)) (BadZone number) (Ok text.0) rule text.2 in
    text.1 ∙ ap (λ r. Some r) (ok_same text.0 rule zone.1)

pub rule_so : (number : ℕ) (entry : Data) (rule : Bytes) → rule_in number entry ≡ Ok rule → (is_visible 128 rule ≡ true) × IsSome (read_whole rule)
unfolding rule_in rule_at
rule_so number entry rule e =
    let text = or_ok (BadField number field.Zone) (rule_at entry) (λ r. fault_if (is_none (read_whole r)) (BadZone number) (Ok r)) rule e in
    let zone = unless_ok (is_none (read_whole text.0)) (BadZone number) (Ok text.0) rule text.2 in
    let value = then_some (text_at (codes "zone") entry) (λ t. where_true (is_visible 128 t) (Some t)) text.0 text.1 in
    let seen = where_some (is_visible 128 value.0) (Some value.0) text.0 value.2 in
    let is = ok_same text.0 rule zone.1 in
    (subst (λ r. is_visible 128 r ≡ true) (same value.0 text.0 seen.1 ∙ is) seen.0, subst (λ r. IsSome (read_whole r)) is (test_is (read_whole text.0) zone.0))

number_so : (least most : ℕ) (z : ℤ) (n : ℕ) → number_in least most z ≡ Some n → (least ≤ n) × (n ≤ most)
number_so least most (pos m) n e =
    let within = where_some (leb least m && leb m most) (Some m) n e in
    let parts = both (leb least m) (leb m most) within.0 in
    subst (λ k. (least ≤ k) × (k ≤ most)) (same m n within.1) (leb-true least m parts.0, leb-true m most parts.1)
number_so least most (negsuc m) n e = let h : ⊥ = cc in absurd h

number_of_so : (least most : ℕ) (value : Data) (n : ℕ) → number_of least most value ≡ Some n → (least ≤ n) × (n ≤ most)
unfolding number_of
number_of_so least most value n e = let z = then_some (as_integer value) (number_in least most) n e in number_so least most z.0 n z.2

limit_of_so : (o : Option Data) (limit : ℕ) → limit_of o ≡ Some limit → (1 ≤ limit) × (limit ≤ greatest_limit)
limit_of_so None limit e = subst (λ l. (1 ≤ l) × (l ≤ greatest_limit)) (same greatest_limit limit e) (omega arith, omega arith)
limit_of_so (Some value) limit e = number_of_so 1 greatest_limit value limit e

pub limit_so : (entry : Data) (limit : ℕ) → limit_at entry ≡ Some limit → (1 ≤ limit) × (limit ≤ greatest_limit)
unfolding limit_at
limit_so entry limit e = limit_of_so (get (codes "limit") entry) limit e

pub quota_so : (entry : Data) (quota : ℕ) → quota_at entry ≡ Some quota → quota ≤ 1000000
unfolding quota_at
quota_so entry quota e = let value = then_some (get (codes "quota") entry) (number_of 0 1000000) quota e in (number_of_so 0 1000000 value.0 quota value.2).1

pub account_key_so : (entry : Data) (key : Bytes) → key_at entry ≡ Some key → is_visible 64 key ≡ true
unfolding key_at
account_key_so entry key e =
    let text = then_some (text_at (codes "key") entry) (λ t. where_true (is_visible 64 t) (Some t)) key e in
    let seen = where_some (is_visible 64 text.0) (Some text.0) key text.2 in
    subst (λ k. is_visible 64 k ≡ true) (same text.0 key seen.1) seen.0

-- ---- accounts

-- four texts or numbers that were there, the last one read of the first
four : {A B C D R : Type 0} (fa fb fc fd : DirectoryFault) (a : Option A) (b : Option B) (c : Option C) (d : A → Option D) (f : B → C → D → Result R DirectoryFault) (y : R)
    → (or_fault fa a >>= λ x. (or_fault fb b >>= λ z. (or_fault fc c >>= λ w. (or_fault fd (d x) >>= λ v. f z w v)))) ≡ Ok y
    → (x : A) × (z : B) × (w : C) × (v : D) × (a ≡ Some x) × (b ≡ Some z) × (c ≡ Some w) × (d x ≡ Some v) × (f z w v ≡ Ok y)
four fa fb fc fd None b c d f y e = let h : ⊥ = cc in absurd h
four fa fb fc fd (Some x) None c d f y e = let h : ⊥ = cc in absurd h
four fa fb fc fd (Some x) (Some z) None d f y e = let h : ⊥ = cc in absurd h
four fa fb fc fd (Some x) (Some z) (Some w) d f y e =
    let last = or_ok fd (d x) (f z w) y e in
    (x, z, w, last.0, refl, refl, refl, last.1, last.2)

pub account_so : AddressLaws → (earlier : List Provider) (fields : Fields) (before : List Account) (value : Data) (account : Account) → account_in earlier fields before value ≡ Ok account
    → IsNextAccount earlier (with_accounts fields before) account × SaysAccount value account
unfolding account_in address_at
account_so laws earlier fields before value account e =
    let number = length earlier in
    let at = length before + 1 in
    let checked : ℕ → Bytes → Bytes → Result Account DirectoryFault =
    λ quota key address. fault_if (is_outside fields.domains address) (AccountOutside number at) (
    fault_if (is_taken earlier fields.receipts before address) (AccountTwice number at) (
    fault_if (leb most_accounts (length (accounts_of earlier) + length before)) TooMany (
    Ok (record { address = address; quota = quota; key = key })))) in
    let said =
    four (BadField number field.Address) (BadField number field.Quota) (BadField number field.Key) (BadAddress number at) (text_at (codes "address") value) (quota_at value) (key_at value) address_in checked account e in
    let inside = unless_ok (is_outside fields.domains said.3) (AccountOutside number at) _ account said.8 in
    let free = unless_ok (is_taken earlier fields.receipts before said.3) (AccountTwice number at) _ account inside.1 in
    let room = unless_ok (leb most_accounts (length (accounts_of earlier) + length before)) TooMany _ account free.1 in
    let is = ok_same (record { address = said.3; quota = said.1; key = said.2 }) account room.1 in
    subst (λ a. IsNextAccount earlier (with_accounts fields before) a × SaysAccount value a) is (
      record {
        address = address_lower laws said.0 said.3 said.7;
        inside = inside.0;
        free = free.0;
        room = leb-false most_accounts (length (accounts_of earlier) + length before) room.0;
        quota = quota_so value said.1 said.5;
        key = account_key_so value said.2 said.6;
      },
      record { address = ap (option_and_then address_in) said.4 ∙ said.7; quota = said.5; key = said.6 },
    )

accounts_so : AddressLaws → (earlier : List Provider) (fields : Fields) (before : List Account) (values : Items) (all : List Account) → accounts_from earlier fields before values ≡ Ok all
    → (accounts : List Account) × (all ≡ before ++ accounts) × (AreNextAccounts earlier (with_accounts fields before) accounts × SayAccounts values accounts)
accounts_so laws earlier fields before no_items all e = ([], sym (ok_same before all e) ∙ sym (append-nil before), (tt, tt))
accounts_so laws earlier fields before (item value values) all e =
    let first = bind_ok (account_in earlier fields before value) (λ next. accounts_from earlier fields (before ++ next ∷ []) values) all e in
    let rest = accounts_so laws earlier fields (before ++ first.0 ∷ []) values all first.2 in
    let one = account_so laws earlier fields before value first.0 first.1 in
    (first.0 ∷ rest.0, rest.1 ∙ append_assoc before (first.0 ∷ []) rest.0, ((one.0, rest.2.0), (one.1, rest.2.1)))

-- ---- providers

-- six things that were all right
six : {A B C D E G R : Type 0} (a : Result A DirectoryFault) (b : Result B DirectoryFault) (c : Result C DirectoryFault) (d : Result D DirectoryFault) (e : Result E DirectoryFault) (g : Result G DirectoryFault)
    (f : A → B → C → D → E → G → R) (y : R) → (a >>= λ x. (b >>= λ z. (c >>= λ w. (d >>= λ v. (e >>= λ u. (g >>= λ t. Ok (f x z w v u t))))))) ≡ Ok y
    → (x : A) × (z : B) × (w : C) × (v : D) × (u : E) × (t : G) × (a ≡ Ok x) × (b ≡ Ok z) × (c ≡ Ok w) × (d ≡ Ok v) × (e ≡ Ok u) × (g ≡ Ok t) × (f x z w v u t ≡ y)
six (Err n) b c d e g f y h = let no : ⊥ = cc in absurd no
six (Ok x) (Err n) c d e g f y h = let no : ⊥ = cc in absurd no
six (Ok x) (Ok z) (Err n) d e g f y h = let no : ⊥ = cc in absurd no
six (Ok x) (Ok z) (Ok w) (Err n) e g f y h = let no : ⊥ = cc in absurd no
six (Ok x) (Ok z) (Ok w) (Ok v) (Err n) g f y h = let no : ⊥ = cc in absurd no
six (Ok x) (Ok z) (Ok w) (Ok v) (Ok u) (Err n) f y h = let no : ⊥ = cc in absurd no
six (Ok x) (Ok z) (Ok w) (Ok v) (Ok u) (Ok t) f y h = (x, z, w, v, u, t, refl, refl, refl, refl, refl, refl, ok_same _ _ h)

-- what holds of a provider's own fields
record OwnFields (entry : Data) (f : Fields) : Type 0 where
  name : (name_at entry ≡ Some f.name) × (is_name f.name ≡ true)
  receipts : (receipts_at entry ≡ Some f.receipts) × IsLowerAddress f.receipts
  domains_said : domains_at entry ≡ Some f.domains
  domains : (is_some_list f.domains ≡ true) × AllByRecursion IsOwnDomain f.domains
  key_said : seal_key_at entry ≡ Some f.key
  key : (16 ≤ length f.key) × (length f.key ≤ 64) × IsBytes f.key
  rule_said : rule_at entry ≡ Some f.rule
  rule : (is_visible 128 f.rule ≡ true) × IsSome (read_whole f.rule)
  limit_said : limit_at entry ≡ Some f.limit
  limit : (1 ≤ f.limit) × (f.limit ≤ greatest_limit)

fields_so : AddressLaws → (number : ℕ) (value : Data) (fields : Fields) → fields_of number value ≡ Ok fields → OwnFields value fields
unfolding fields_of
fields_so laws number value fields e =
    let made : Bytes → Bytes → List Bytes → Bytes → Bytes → ℕ → Fields =
    λ n r d k z l. record { name = n; receipts = r; domains = d; key = k; rule = z; limit = l } in
    let said =
    six (or_fault (BadField number field.Name) (name_at value)) (receipts_in number value) (or_fault (BadField number field.ManagedDomains) (domains_at value)) (key_in number value) (rule_in number value)
    (or_fault (BadField number field.Limit) (limit_at value)) made fields e in
    let name = or_last (BadField number field.Name) (name_at value) said.0 said.6 in
    let domains = or_last (BadField number field.ManagedDomains) (domains_at value) said.2 said.8 in
    let limit = or_last (BadField number field.Limit) (limit_at value) said.5 said.11 in
    subst (OwnFields value) said.12
    record {
      name = (name, named_so value said.0 name);
      receipts = receipts_so laws number value said.1 said.7;
      domains_said = domains;
      domains = domains_so laws value said.2 domains;
      key_said = seal_key_so number value said.3 said.9;
      key = key_so number value said.3 said.9;
      rule_said = rule_said number value said.4 said.10;
      rule = rule_so number value said.4 said.10;
      limit_said = limit;
      limit = limit_so value said.5 limit;
    }

settled_so : AddressLaws → (earlier : List Provider) (entry : Data) (fields : Fields) (values : Items) (provider : Provider) → OwnFields entry fields → accounts_at entry ≡ Some values
    → settled earlier fields values ≡ Ok provider → IsNext earlier provider × SaysProvider entry provider
unfolding settled
settled_so laws earlier entry fields values provider own there e =
    let number = length earlier in
    let name = unless_ok (is_named fields.name earlier) (NameTwice number) _ provider e in
    let once = unless_ok (stands_twice (walk.domains_of earlier) fields.domains) (DomainTwice number) _ provider name.1 in
    let inside = unless_ok (is_outside fields.domains fields.receipts) (AccountOutside number 0) _ provider once.1 in
    let read = bind_ok (accounts_from earlier fields [] values) (λ all. Ok (with_accounts fields all)) provider inside.1 in
    let accounts = accounts_so laws earlier fields [] values read.0 read.1 in
    subst (λ p. IsNext earlier p × SaysProvider entry p) (ok_same (with_accounts fields read.0) provider read.2) (
      record {
        name = own.name.1;
        name_once = name.0;
        receipts = own.receipts.1;
        receipts_inside = inside.0;
        domains = own.domains.0;
        domains_are = own.domains.1;
        domains_once = once.0;
        key = own.key;
        rule = own.rule.0;
        zone = own.rule.1;
        limit = own.limit;
        accounts = subst (AreNextAccounts earlier (with_accounts fields [])) (sym accounts.1) accounts.2.0;
      },
      record {
        fields = record { name = own.name.0; receipts = own.receipts.0; domains = own.domains_said; key = own.key_said; rule = own.rule_said; limit = own.limit_said };
        tables = values;
        are_tables = there;
        accounts = subst (SayAccounts values) (sym accounts.1) accounts.2.1;
      },
    )

pub provider_so : AddressLaws → (earlier : List Provider) (value : Data) (provider : Provider) → provider_in earlier value ≡ Ok provider → IsNext earlier provider × SaysProvider value provider
unfolding provider_in
provider_so laws earlier value provider e =
    let fields = bind_ok (fields_of (length earlier) value) (λ f. or_fault (BadField (length earlier) field.Account) (accounts_at value) >>= (λ a. settled earlier f a)) provider e in
    let accounts = or_ok (BadField (length earlier) field.Account) (accounts_at value) (settled earlier fields.0) provider fields.2 in
    settled_so laws earlier value fields.0 accounts.0 provider (fields_so laws (length earlier) value fields.0 fields.1) accounts.1 accounts.2

providers_so : AddressLaws → (earlier : List Provider) (values : Items) (all : List Provider) → providers_from earlier values ≡ Ok all
    → (providers : List Provider) × (all ≡ earlier ++ providers) × (AreNext earlier providers × SayProviders values providers) × (length providers ≡ count_of values)
providers_so laws earlier no_items all e = ([], sym (ok_same earlier all e) ∙ sym (append-nil earlier), (tt, tt), refl)
providers_so laws earlier (item value values) all e =
    let first = bind_ok (provider_in earlier value) (λ next. providers_from (earlier ++ next ∷ []) values) all e in
    let rest = providers_so laws (earlier ++ first.0 ∷ []) values all first.2 in
    let one = provider_so laws earlier value first.0 first.1 in
    (first.0 ∷ rest.0, rest.1 ∙ append_assoc earlier (first.0 ∷ []) rest.0, ((one.0, rest.2.0), (one.1, rest.2.1)), omega (arith, rest.3))

said_from : AddressLaws → (values : Items) (providers : List Provider) → 0 < count_of values → count_of values ≤ most_providers → providers_from [] values ≡ Ok providers
    → IsLawful providers × SayProviders values providers
said_from laws values providers some few e =
    let all = providers_so laws [] values providers e in
    subst (λ ps. IsLawful ps × SayProviders values ps) (sym all.1) (record { some = omega (arith, all.3); few = omega (arith, all.3); each = all.2.0 }, all.2.1)

pub lawful_from : AddressLaws → (values : Items) (providers : List Provider) → 0 < count_of values → count_of values ≤ most_providers → providers_from [] values ≡ Ok providers → IsLawful providers
lawful_from laws values providers some few e = (said_from laws values providers some few e).0

said_in : AddressLaws → (whole : Data) (providers : List Provider) → directory_in whole ≡ Ok providers → (values : Items) × (providers_in whole ≡ Some values) × (IsLawful providers × SayProviders values providers)
unfolding directory_in
said_in laws whole providers e =
    let values = or_ok NoProvider (providers_in whole) _ providers e in
    let some = unless_ok (eqb (count_of values.0) 0) NoProvider _ providers values.2 in
    let few = unless_ok (ltb most_providers (count_of values.0)) TooMany _ providers some.1 in
    let apart = eqb-false (count_of values.0) 0 some.0 in
    (values.0, values.1, said_from laws values.0 providers (omega arith) (ltb-false most_providers (count_of values.0) few.0) few.1)

pub table_so : AddressLaws → (whole : Data) (providers : List Provider) → directory_in whole ≡ Ok providers → IsOfTable whole providers
table_so laws whole providers e =
    let said = said_in laws whole providers e in
    record { tables = said.0; are_tables = said.1; say = said.2.1; lawful = said.2.0 }

pub directory_so : AddressLaws → (text : Bytes) (providers : List Provider) → directory_of text ≡ Ok providers → IsDirectory text providers
unfolding directory_of
directory_so laws text providers e =
    let whole = or_ok NotToml (document_of text) directory_in providers e in
    let said = said_in laws whole.0 providers whole.2 in
    record { whole = whole.0; is_toml = whole.1; tables = said.0; are_tables = said.1; say = said.2.1; lawful = said.2.0 }
