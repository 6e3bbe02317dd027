-- Lines and records that are put one behind the other are those of the text.
use Rattle.std.proofs.Common.{◌≡◌, ℕ, zero, suc, ◌+◌, List, [], ◌∷◌, ◌++◌, Some, ◌<◌, codes, get_or, take, drop, length, map, slice_get, sym, ◌∙◌, ap, arith, append-nil, append_assoc}
use Rattle.std.specs.List.{flat_map}
use Rattle.std.proofs.lemmas.Grind.{flat_map-append}
use Rattle.std.proofs.lemmas.List.{drop_more, map-append, take_more}
use Rattle.std.proofs.lemmas.Option.{none-some, same_Some}
use Rattle.pec_types.specs.Bytes.{Bytes, line_feed}
use Rattle.pec_directory.specs.Directory.{Account, Kept, providers_of}
use Rattle.pec_ldif.specs.Attributes.{Attribute}
use Rattle.pec_ldif.specs.Writing.{account_record, account_records, attribute_line, provider_records, record_text, records_from, said}

abbrev lines_of : List Attribute → Bytes
lines_of attributes = flat_map attribute_line attributes

-- ---- attributes

-- one line, put piece by piece
pub one_line : (t a b c : Bytes) (name piece : Bytes) (attribute : Attribute) → attribute_line attribute ≡ (name ++ piece) ++ line_feed ∷ []
    → a ≡ t ++ name → b ≡ a ++ piece → c ≡ b ++ line_feed ∷ [] → c ≡ t ++ lines_of (attribute ∷ [])
one_line t a b c name piece attribute is ea eb ec =
    ec ∙ ap (λ x. x ++ line_feed ∷ []) (eb ∙ ap (λ x. x ++ piece) ea ∙ append_assoc t name piece)
    ∙ append_assoc t (name ++ piece) (line_feed ∷ [])
    ∙ ap (λ x. t ++ x) (sym is ∙ sym (append-nil (attribute_line attribute)))

-- lines behind a record's
pub behind_record : (t a b : Bytes) (front back : List Attribute) → a ≡ t ++ record_text front → b ≡ a ++ lines_of back
    → b ≡ t ++ record_text (front ++ back)
behind_record t a b front back ea eb =
    eb ∙ ap (λ x. x ++ lines_of back) ea ∙ append_assoc t (record_text front) (lines_of back)
    ∙ ap (λ x. t ++ line_feed ∷ x) (sym (flat_map-append attribute_line front back))

-- one more line of a record
pub said_behind : (t a b : Bytes) (front : List Attribute) (name value given : Bytes) → a ≡ t ++ record_text front → given ≡ value
    → b ≡ a ++ lines_of (said name given ∷ []) → b ≡ t ++ record_text (front ++ said name value ∷ [])
said_behind t a b front name value given ea is eb =
    behind_record t a b front (said name value ∷ []) ea (eb ∙ ap (λ v. a ++ lines_of (said name v ∷ [])) is)

pub lines_behind : (t a b : Bytes) (front back : List Attribute) → a ≡ t ++ lines_of front → b ≡ a ++ lines_of back → b ≡ t ++ lines_of (front ++ back)
lines_behind t a b front back ea eb =
    eb ∙ ap (λ x. x ++ lines_of back) ea ∙ append_assoc t (lines_of front) (lines_of back)
    ∙ ap (λ x. t ++ x) (sym (flat_map-append attribute_line front back))

-- an empty line, and the first lines of a record
pub first_line : (t a b : Bytes) (attributes : List Attribute) → a ≡ t ++ line_feed ∷ [] → b ≡ a ++ lines_of attributes → b ≡ t ++ record_text attributes
first_line t a b attributes ea eb = eb ∙ ap (λ x. x ++ lines_of attributes) ea ∙ append_assoc t (line_feed ∷ []) (lines_of attributes)

-- ---- records

pub records_behind : (t a b : Bytes) (one : List Attribute) (records : List (List Attribute)) → a ≡ t ++ record_text one
    → b ≡ a ++ flat_map record_text records → b ≡ t ++ flat_map record_text (one ∷ records)
records_behind t a b one records ea eb = eb ∙ ap (λ x. x ++ flat_map record_text records) ea ∙ append_assoc t (record_text one) (flat_map record_text records)

-- the record of one account more, before those that are left
pub account_more : (all a b : Bytes) (number at : ℕ) (accounts : List Account) (i : ℕ) (account : Account) → i < length accounts → account ≡ get_or accounts i account
    → b ≡ a ++ record_text (account_record number at account)
    → a ++ flat_map record_text (account_records number at (drop i accounts)) ≡ all
    → b ++ flat_map record_text (account_records number (at + 1) (drop (i + 1) accounts)) ≡ all
account_more all a b number at accounts i account below is eb so =
    let behind = drop (i + 1) accounts in
    let parts : drop i accounts ≡ account ∷ behind = drop_more accounts i account below ∙ ap (λ x. x ∷ behind) (sym is) in
    ap (λ x. x ++ flat_map record_text (account_records number (at + 1) behind)) eb
    ∙ append_assoc a (record_text (account_record number at account)) (flat_map record_text (account_records number (at + 1) behind))
    ∙ ap (λ xs. a ++ flat_map record_text (account_records number at xs)) (sym parts) ∙ so

-- ---- providers

pub drop_one : {A : Type 0} (xs : List A) (n : ℕ) (x : A) → slice_get xs n ≡ Some x → drop n xs ≡ x ∷ drop (n + 1) xs
drop_one [] n x e = absurd (none-some x e)
drop_one (y ∷ ys) zero x e = ap (λ z. z ∷ ys) (same_Some y x e)
drop_one (y ∷ ys) (suc n) x e = drop_one ys n x e ∙ ap (λ k. x ∷ drop k (y ∷ ys)) (next n)
  where
    next : (k : ℕ) → suc (k + 1) ≡ suc k + 1
    next k = omega arith

pub provider_more : (a b all : Bytes) (kept : List Kept) (number : ℕ) (one : Kept) → slice_get kept number ≡ Some one
    → b ≡ a ++ flat_map record_text (provider_records number one.provider)
    → a ++ flat_map record_text (records_from number (providers_of (drop number kept))) ≡ all
    → b ++ flat_map record_text (records_from (number + 1) (providers_of (drop (number + 1) kept))) ≡ all
provider_more a b all kept number one is eb so =
    let rest = records_from (number + 1) (providers_of (drop (number + 1) kept)) in
    let own = provider_records number one.provider in
    ap (λ x. x ++ flat_map record_text rest) eb
    ∙ append_assoc a (flat_map record_text own) (flat_map record_text rest)
    ∙ ap (λ x. a ++ x) (sym (flat_map-append record_text own rest))
    ∙ ap (λ ks. a ++ flat_map record_text (records_from number (providers_of ks))) (sym (drop_one kept number one is))
    ∙ so

-- ---- domains

abbrev domain_said : Bytes → Attribute
domain_said domain = said (codes "managedDomains") domain

pub domain_more : (t a b : Bytes) (domains : List Bytes) (i : ℕ) (domain given : Bytes) → i < length domains → domain ≡ get_or domains i domain
    → given ≡ domain → a ≡ t ++ lines_of (map domain_said (take i domains)) → b ≡ a ++ lines_of (domain_said given ∷ [])
    → b ≡ t ++ lines_of (map domain_said (take (i + 1) domains))
domain_more t a b domains i domain given below is same ea eb =
    lines_behind t a b (map domain_said (take i domains)) (domain_said domain ∷ []) ea (eb ∙ ap (λ d. a ++ lines_of (domain_said d ∷ [])) same)
    ∙ ap (λ xs. t ++ lines_of xs)
    (ap (λ d. map domain_said (take i domains) ++ domain_said d ∷ []) is
    ∙ sym (map-append domain_said (take i domains) (get_or domains i domain ∷ []))
    ∙ ap (map domain_said) (sym (take_more domains i domain below)))

pub record_so : (t a b c : Bytes) (front back : List Attribute) (domains given : List Bytes) → given ≡ domains → a ≡ t ++ record_text front
    → b ≡ a ++ lines_of (map domain_said given) → c ≡ b ++ lines_of back → c ≡ t ++ record_text (front ++ (map domain_said domains ++ back))
record_so t a b c front back domains given same ea eb ec =
    behind_record t b c (front ++ map domain_said domains) back
    (behind_record t a b front (map domain_said domains) ea (eb ∙ ap (λ ds. a ++ lines_of (map domain_said ds)) same)) ec
    ∙ ap (λ xs. t ++ record_text xs) (append_assoc front (map domain_said domains) back)
