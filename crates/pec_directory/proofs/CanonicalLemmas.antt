-- A canonical text is that of one directory: its lines are cut at their ends, each line at its first space, and an
-- account's at its last two.
use Rattle.std.proofs.Common.{◌≡◌, ℕ, suc, zero, ◌+◌, ◌-◌, ◌*◌, ◌/◌, ◌%◌, ◌^◌, ◌<◌, ◌≤◌, Bool, true, false, not, ◌&&◌, eqb, List, [], ◌∷◌, ◌++◌, codes, get_or, Result, Ok, refl, sym, ap, subst, ◌∙◌, arith, rules, append_assoc}
use Rattle.std.specs.Prelude.{slice_index}
use Rattle.std.specs.Fmt.{decimal}
use Rattle.std.specs.List.{flat_map, list_all, AllByRecursion}
use Rattle.std.proofs.lemmas.Bool.{false≢true}
use Rattle.std.proofs.lemmas.Bool.Decides.{nat_tests}
use Rattle.std.proofs.lemmas.Fmt.{decimal_injective, digits_decimal}
use Rattle.std.proofs.lemmas.Str.Parse.{IsNumeralModel, numerals_by_fold}
use Rattle.std.specs.Char.{is_ascii_digit}
use Rattle.hex.proofs.HexLemmas.{decode_of-encode_lower}
use Rattle.hex.specs.declared.error.FromHexError.{FromHexError}
use Rattle.hex.specs.Hex.{IsBytes, decode_of, encode_lower, encode_with, lower_digits}
use Rattle.pec_types.specs.Text.{is_unprintable, AllPrintable}
use Rattle.pec_directory.specs.Canonical.{account_line, account_value, back_of, canonical, domain_line, front_of, line_of, provider_text}
use Rattle.pec_directory.specs.Directory.{Account, Provider}
use Rattle.pec_directory.specs.Fields.{has_length, is_visible, is_visible_byte}
use Rattle.pec_directory.specs.Lawful.{AreNext, AreNextAccounts, IsLawful, IsOwnDomain, provider_with}
use Rattle.pec_directory.proofs.AddressLaws.{PrintableByByte, PrintableLaws}
use Rattle.pec_directory.proofs.FormLemmas.{name_printable, own_printable, visible_printable}

-- ---- cutting at a byte

-- the byte isn't there
abbrev lacks : ℕ → List ℕ → Bool
lacks c [] = true
lacks c (b ∷ bs) = not (eqb b c) && lacks c bs

both : (x y : Bool) → (x && y) ≡ true → (x ≡ true) × (y ≡ true)
both true y e = (refl, e)
both false y e = absurd (false≢true e)

there : (c b : ℕ) → not (eqb b c) ≡ true → c ≡ b → ⊥
there c b e is = grind (arith, nat_tests)

head_same : (a b : ℕ) (xs ys : List ℕ) → a ∷ xs ≡ b ∷ ys → (a ≡ b) × (xs ≡ ys)
head_same a b xs ys e = (cc, cc)

-- at its first place
cut : (c : ℕ) (x y r s : List ℕ) → lacks c x ≡ true → lacks c y ≡ true → x ++ c ∷ r ≡ y ++ c ∷ s → (x ≡ y) × (r ≡ s)
cut c [] [] r s p q e = (refl, (head_same c c r s e).1)
cut c [] (b ∷ y) r s p q e = absurd (there c b (both _ _ q).0 (head_same c b r (y ++ c ∷ s) e).0)
cut c (a ∷ x) [] r s p q e = absurd (there c a (both _ _ p).0 (sym (head_same a c (x ++ c ∷ r) s e).0))
cut c (a ∷ x) (b ∷ y) r s p q e =
    let heads = head_same a b (x ++ c ∷ r) (y ++ c ∷ s) e in
    let rest = cut c x y r s (both _ _ p).1 (both _ _ q).1 heads.1 in
    (ap (λ h. h ∷ x) heads.0 ∙ ap (λ t. b ∷ t) rest.0, rest.1)

stands : (c : ℕ) (y s : List ℕ) → lacks c (y ++ c ∷ s) ≡ true → ⊥
stands c [] s e = there c c (both _ _ e).0 refl
stands c (b ∷ y) s e = stands c y s (both _ _ e).1

-- at its last place
cut_last : (c : ℕ) (x y r s : List ℕ) → lacks c r ≡ true → lacks c s ≡ true → x ++ c ∷ r ≡ y ++ c ∷ s → (x ≡ y) × (r ≡ s)
cut_last c [] [] r s p q e = (refl, (head_same c c r s e).1)
cut_last c [] (b ∷ y) r s p q e = absurd (stands c y s (subst (λ l. lacks c l ≡ true) (head_same c b r (y ++ c ∷ s) e).1 p))
cut_last c (a ∷ x) [] r s p q e = absurd (stands c x r (subst (λ l. lacks c l ≡ true) (sym (head_same a c (x ++ c ∷ r) s e).1) q))
cut_last c (a ∷ x) (b ∷ y) r s p q e =
    let heads = head_same a b (x ++ c ∷ r) (y ++ c ∷ s) e in
    let rest = cut_last c x y r s p q heads.1 in
    (ap (λ h. h ∷ x) heads.0 ∙ ap (λ t. b ∷ t) rest.0, rest.1)

-- ---- what is nowhere in texts of these forms

lacking : (c : ℕ) (P : ℕ → Type 0) → ((b : ℕ) → P b → not (eqb b c) ≡ true) → (text : List ℕ) → AllByRecursion P text → lacks c text ≡ true
lacking c P each [] all = refl
lacking c P each (b ∷ bs) all = ap (λ x. x && lacks c bs) (each b all.0) ∙ lacking c P each bs all.1

no_feed : (b : ℕ) → is_unprintable b ≡ false → not (eqb b 10) ≡ true
no_feed b e = grind (arith, nat_tests)

printed : PrintableByByte → (text : List ℕ) → AllPrintable text → lacks 10 text ≡ true
printed each text all = lacking 10 (λ b. is_unprintable b ≡ false) no_feed text ((each text).0 all)

no_byte : (c : ℕ) (t : List ℕ) → lacks c t ≡ true → not (eqb 0 c) ≡ true → (k : ℕ) → not (eqb (slice_index t k) c) ≡ true
no_byte c [] p zero_is k = zero_is
no_byte c (b ∷ t) p zero_is zero = (both _ _ p).0
no_byte c (b ∷ t) p zero_is (suc k) = no_byte c t (both _ _ p).1 zero_is k

hexed : (bytes : List ℕ) → lacks 10 (encode_with lower_digits bytes) ≡ true
unfolding encode_with
hexed [] = refl
hexed (b ∷ bytes) =
    ap (λ x. x && (not (eqb (slice_index lower_digits (b % 16)) 10) && lacks 10 (encode_with lower_digits bytes))) (no_byte 10 lower_digits refl refl (b / 16))
    ∙ ap (λ x. x && lacks 10 (encode_with lower_digits bytes)) (no_byte 10 lower_digits refl refl (b % 16))
    ∙ hexed bytes

-- ---- numbers

abbrev read_on : ℕ → List ℕ → ℕ
read_on n [] = n
read_on n (c ∷ cs) = read_on (10 * n + (c - 48)) cs

own : IsNumeralModel (λ ds. list_all is_ascii_digit ds ≡ true) (read_on 0)
own = numerals_by_fold _ (search rules) read_on (search rules)

digits_lack : (c : ℕ) → c < 48 → (ds : List ℕ) → list_all is_ascii_digit ds ≡ true → lacks c ds ≡ true
digits_lack c below [] all = refl
digits_lack c below (d ∷ ds) all =
    let parts = both (is_ascii_digit d) (list_all is_ascii_digit ds) all in
    let apart : not (eqb d c) ≡ true = digit_apart c d below parts.0 in
    ap (λ x. x && lacks c ds) apart ∙ digits_lack c below ds parts.1
  where
    digit_apart : (c d : ℕ) → c < 48 → is_ascii_digit d ≡ true → not (eqb d c) ≡ true
    digit_apart c d below is = grind (arith, nat_tests)

decimal_lacks : (c n : ℕ) → c < 48 → n < 2 ^ 64 → lacks c (decimal n) ≡ true
decimal_lacks c n below fits = digits_lack c below (decimal n) (digits_decimal own n fits)

-- ---- texts that are seen

seen : (most : ℕ) (text : List ℕ) → is_visible most text ≡ true → lacks 32 text ≡ true
unfolding is_visible
seen most text e = visible_lacks text (both (list_all is_visible_byte text) (has_length 1 most text) e).0
  where
    byte_apart : (b : ℕ) → is_visible_byte b ≡ true → not (eqb b 32) ≡ true
    byte_apart b is = grind (arith, nat_tests)

    visible_lacks : (text : List ℕ) → list_all is_visible_byte text ≡ true → lacks 32 text ≡ true
    visible_lacks [] all = refl
    visible_lacks (b ∷ bs) all =
        let parts = both (is_visible_byte b) (list_all is_visible_byte bs) all in
        ap (λ x. x && lacks 32 bs) (byte_apart b parts.0) ∙ visible_lacks bs parts.1

lacks-append : (c : ℕ) (x y : List ℕ) → lacks c x ≡ true → lacks c y ≡ true → lacks c (x ++ y) ≡ true
lacks-append c [] y p q = q
lacks-append c (b ∷ x) y p q = let parts = both (not (eqb b c)) (lacks c x) p in ap (λ t. t && lacks c (x ++ y)) parts.0 ∙ lacks-append c x y parts.1 q

-- ---- lines, as a word and a value each

abbrev Entry : Type 0
Entry = List ℕ × List ℕ

abbrev flatten : List Entry → List ℕ
flatten [] = []
flatten (e ∷ es) = line_of e.0 e.1 ++ flatten es

-- a word without spaces, and neither has a line feed
abbrev AreClean : List Entry → Type 0
AreClean [] = Unit {0}
AreClean (e ∷ es) = (lacks 32 e.0 ≡ true) × (lacks 10 e.1 ≡ true) × AreClean es

parts_of_line : (word value rest : List ℕ) → line_of word value ++ rest ≡ word ++ 32 ∷ (value ++ 10 ∷ rest)
parts_of_line word value rest = simp append_assoc

no_line : (word value rest : List ℕ) → [] ≡ line_of word value ++ rest → ⊥
no_line word value rest e = empty word (e ∙ parts_of_line word value rest)
  where
    empty : (word : List ℕ) → [] ≡ word ++ 32 ∷ (value ++ 10 ∷ rest) → ⊥
    empty [] e = cc
    empty (b ∷ bs) e = cc

lines_same : (es fs : List Entry) → AreClean es → AreClean fs → flatten es ≡ flatten fs → es ≡ fs
lines_same [] [] p q e = refl
lines_same [] (f ∷ fs) p q e = absurd (no_line f.0 f.1 (flatten fs) e)
lines_same (d ∷ es) [] p q e = absurd (no_line d.0 d.1 (flatten es) (sym e))
lines_same (d ∷ es) (f ∷ fs) p q e =
    let whole = sym (parts_of_line d.0 d.1 (flatten es)) ∙ e ∙ parts_of_line f.0 f.1 (flatten fs) in
    let word = cut 32 d.0 f.0 (d.1 ++ 10 ∷ flatten es) (f.1 ++ 10 ∷ flatten fs) p.0 q.0 whole in
    let value = cut 10 d.1 f.1 (flatten es) (flatten fs) p.1 q.1 word.1 in
    let rest = lines_same es fs p.2 q.2 value.1 in
    ap (λ w. (w, d.1) ∷ es) word.0 ∙ (ap (λ v. (f.0, v) ∷ es) value.0 ∙ ap (λ l. f ∷ l) rest)

-- ---- the lines of a directory

abbrev domain_entries : List (List ℕ) → List Entry
domain_entries [] = []
domain_entries (d ∷ ds) = (codes "domain", d) ∷ domain_entries ds

abbrev account_entries : List Account → List Entry
account_entries [] = []
account_entries (a ∷ xs) = (codes "account", account_value a) ∷ account_entries xs

abbrev entries_of : List Provider → List Entry
entries_of [] = []
entries_of (p ∷ ps) =
    (codes "provider", p.name) ∷ (codes "receipts", p.receipts) ∷ (domain_entries p.domains
    ++ ((codes "key", encode_lower p.key) ∷ (codes "zone", p.rule) ∷ (codes "limit", decimal p.limit) ∷ (account_entries p.accounts ++ entries_of ps)))

flatten-domains : (ds : List (List ℕ)) (rest : List Entry) → flatten (domain_entries ds ++ rest) ≡ flat_map domain_line ds ++ flatten rest
flatten-domains [] rest = refl
flatten-domains (d ∷ ds) rest =
    ap (λ l. domain_line d ++ l) (flatten-domains ds rest) ∙ sym (append_assoc (domain_line d) (flat_map domain_line ds) (flatten rest))

flatten-accounts : (xs : List Account) (rest : List Entry) → flatten (account_entries xs ++ rest) ≡ flat_map account_line xs ++ flatten rest
flatten-accounts [] rest = refl
flatten-accounts (a ∷ xs) rest =
    ap (λ l. account_line a ++ l) (flatten-accounts xs rest) ∙ sym (append_assoc (account_line a) (flat_map account_line xs) (flatten rest))

joined : (a b ds k z l xs rest : List ℕ) → (((((a ++ b) ++ ds) ++ ((k ++ z) ++ l)) ++ xs) ++ rest) ≡ a ++ (b ++ (ds ++ (k ++ (z ++ (l ++ (xs ++ rest))))))
joined a b ds k z l xs rest = simp append_assoc

canonical_lines : (ps : List Provider) → canonical ps ≡ flatten (entries_of ps)
unfolding canonical provider_text front_of back_of
canonical_lines [] = refl
canonical_lines (p ∷ ps) =
    let key = line_of (codes "key") (encode_lower p.key) in
    let zone = line_of (codes "zone") p.rule in
    let limit = line_of (codes "limit") (decimal p.limit) in
    joined (line_of (codes "provider") p.name) (line_of (codes "receipts") p.receipts) (flat_map domain_line p.domains) key zone limit (flat_map account_line p.accounts) (flat_map provider_text ps)
    ∙ ap (λ w. line_of (codes "provider") p.name ++ (line_of (codes "receipts") p.receipts ++ w))
    (ap (λ w. flat_map domain_line p.domains ++ (key ++ (zone ++ (limit ++ w))))
    (ap (λ w. flat_map account_line p.accounts ++ w) (canonical_lines ps) ∙ sym (flatten-accounts p.accounts (entries_of ps)))
    ∙ sym (flatten-domains p.domains _))

-- ---- what is said of a lawful directory is clean

clean-append : (es fs : List Entry) → AreClean es → AreClean fs → AreClean (es ++ fs)
clean-append [] fs p q = q
clean-append (e ∷ es) fs p q = (p.0, p.1, clean-append es fs p.2 q)

clean_domains : PrintableLaws → (ds : List (List ℕ)) → AllByRecursion IsOwnDomain ds → AreClean (domain_entries ds)
clean_domains laws [] all = tt
clean_domains laws (d ∷ ds) all = (refl, printed laws.each d (own_printable laws d all.0), clean_domains laws ds all.1)

small : (n most : ℕ) → n ≤ most → most < 2 ^ 64 → n < 2 ^ 64
small n most a b = omega arith

quota_fits : (n : ℕ) → n ≤ 1000000 → n < 2 ^ 64
quota_fits n a = omega arith

limit_fits : (n : ℕ) → n ≤ 31457280 → n < 2 ^ 64
limit_fits n a = omega arith

clean_value : PrintableByByte → (a : Account) → AllPrintable a.address → a.quota ≤ 1000000 → AllPrintable a.key → lacks 10 (account_value a) ≡ true
clean_value each a address quota key =
    lacks-append 10 (((a.address ++ codes " ") ++ decimal a.quota) ++ codes " ") a.key
    (lacks-append 10 ((a.address ++ codes " ") ++ decimal a.quota) (codes " ")
    (lacks-append 10 (a.address ++ codes " ") (decimal a.quota) (lacks-append 10 a.address (codes " ") (printed each a.address address) refl) (decimal_lacks 10 a.quota (omega arith) (quota_fits a.quota quota)))
    refl)
    (printed each a.key key)

clean_accounts : PrintableLaws → (earlier : List Provider) (p : Provider) (xs : List Account) → AreNextAccounts earlier p xs → AreClean (account_entries xs)
clean_accounts laws earlier p [] all = tt
clean_accounts laws earlier p (a ∷ xs) all =
    (refl, clean_value laws.each a (laws.address a.address all.0.address) all.0.quota (visible_printable laws.each 64 a.key all.0.key), clean_accounts laws earlier (provider_with p (p.accounts ++ a ∷ [])) xs all.1)

clean_providers : PrintableLaws → (earlier ps : List Provider) → AreNext earlier ps → AreClean (entries_of ps)
clean_providers laws earlier [] all = tt
clean_providers laws earlier (p ∷ ps) all =
    let accounts = clean_accounts laws earlier (provider_with p []) p.accounts all.0.accounts in
    let rest = clean_providers laws (earlier ++ p ∷ []) ps all.1 in (
      refl,
      printed laws.each p.name (name_printable laws.each p.name all.0.name),
      (
        refl,
        printed laws.each p.receipts (laws.address p.receipts all.0.receipts),
        clean-append (domain_entries p.domains) _ (clean_domains laws p.domains all.0.domains_are)
            (refl, hexed p.key, (refl, printed laws.each p.rule (visible_printable laws.each 128 p.rule all.0.rule), (refl, decimal_lacks 10 p.limit (omega arith) (limit_fits p.limit all.0.limit.1), clean-append (account_entries p.accounts) (entries_of ps) accounts rest))),
      ),
    )

-- ---- equal lines are those of equal directories

cons_same : {X : Type 0} (x y : X) (xs ys : List X) → x ∷ xs ≡ y ∷ ys → (x ≡ y) × (xs ≡ ys)
cons_same x y xs ys e = (cc, cc)

pair_same : (p q : Entry) → p ≡ q → (p.0 ≡ q.0) × (p.1 ≡ q.1)
pair_same p q e = (ap (λ (x : Entry). x.0) e, ap (λ (x : Entry). x.1) e)

first_byte : (word other : List ℕ) → word ≡ other → get_or word 0 0 ≡ get_or other 0 0
first_byte word other e = ap (λ l. get_or l 0 0) e

domains_same : (ds es : List (List ℕ)) (k l : List ℕ) (rest more : List Entry) → domain_entries ds ++ (codes "key", k) ∷ rest ≡ domain_entries es ++ (codes "key", l) ∷ more → (ds ≡ es) × (k ≡ l) × (rest ≡ more)
domains_same [] [] k l rest more e =
    let heads = cons_same _ _ rest more e in
    (refl, (pair_same (codes "key", k) (codes "key", l) heads.0).1, heads.1)
domains_same [] (d ∷ es) k l rest more e =
    let heads = cons_same _ _ rest _ e in
    let bytes : 107 ≡ 100 = first_byte (codes "key") (codes "domain") (pair_same (codes "key", k) (codes "domain", d) heads.0).0 in
    absurd (omega (arith, bytes))
domains_same (d ∷ ds) [] k l rest more e =
    let heads = cons_same _ _ _ more e in
    let bytes : 100 ≡ 107 = first_byte (codes "domain") (codes "key") (pair_same (codes "domain", d) (codes "key", l) heads.0).0 in
    absurd (omega (arith, bytes))
domains_same (d ∷ ds) (f ∷ es) k l rest more e =
    let heads = cons_same _ _ (domain_entries ds ++ (codes "key", k) ∷ rest) (domain_entries es ++ (codes "key", l) ∷ more) e in
    let others = domains_same ds es k l rest more heads.1 in
    (ap (λ x. x ∷ ds) (pair_same (codes "domain", d) (codes "domain", f) heads.0).1 ∙ ap (λ xs. f ∷ xs) others.0, others.1, others.2)

abbrev account_of : List ℕ → ℕ → List ℕ → Account
account_of address quota key = record { address = address; quota = quota; key = key }

abbrev provider_of : List ℕ → List ℕ → List (List ℕ) → List ℕ → List ℕ → ℕ → List Account → Provider
provider_of name receipts domains key rule limit accounts = record { name = name; receipts = receipts; domains = domains; key = key; rule = rule; limit = limit; accounts = accounts }

abbrev decoded : List ℕ → Result (List ℕ) FromHexError
decoded bytes = Ok bytes

-- what is cut from an account's value
value_parts : (address quota key : List ℕ) → (((address ++ codes " ") ++ quota) ++ codes " ") ++ key ≡ (address ++ 32 ∷ quota) ++ 32 ∷ key
value_parts address quota key = simp append_assoc

account_same : (a b : Account) → a.quota ≤ 1000000 → b.quota ≤ 1000000 → is_visible 64 a.key ≡ true → is_visible 64 b.key ≡ true → account_value a ≡ account_value b → a ≡ b
account_same a b small other seen_key other_key e =
    let whole = sym (value_parts a.address (decimal a.quota) a.key) ∙ e ∙ value_parts b.address (decimal b.quota) b.key in
    let key = cut_last 32 (a.address ++ 32 ∷ decimal a.quota) (b.address ++ 32 ∷ decimal b.quota) a.key b.key (seen 64 a.key seen_key) (seen 64 b.key other_key) whole in
    let quota =
    cut_last 32 a.address b.address (decimal a.quota) (decimal b.quota) (decimal_lacks 32 a.quota (omega arith) (quota_fits a.quota small)) (decimal_lacks 32 b.quota (omega arith) (quota_fits b.quota other)) key.0 in
    let number = decimal_injective a.quota b.quota (quota_fits a.quota small) (quota_fits b.quota other) quota.1 in
    made (a.address) (b.address) (a.quota) (b.quota) (a.key) (b.key) quota.0 number key.1
  where
    made : (a b : List ℕ) (m n : ℕ) (k l : List ℕ) → a ≡ b → m ≡ n → k ≡ l → account_of a m k ≡ account_of b n l
    made a b m n k l p q r = cc

module _ (e1 e2 : List Provider) where
  accounts_same : (p1 p2 : Provider) (xs ys : List Account) (ps qs : List Provider) → AreNextAccounts e1 p1 xs → AreNextAccounts e2 p2 ys
      → account_entries xs ++ entries_of ps ≡ account_entries ys ++ entries_of qs → (xs ≡ ys) × (entries_of ps ≡ entries_of qs)
  accounts_same p1 p2 [] [] ps qs p q e = (refl, e)
  accounts_same p1 p2 [] (y ∷ ys) [] qs p q e = let no : ⊥ = cc in absurd no
  accounts_same p1 p2 [] (y ∷ ys) (one ∷ ps) qs p q e =
      let heads = cons_same _ _ _ (account_entries ys ++ entries_of qs) e in
      let bytes : 112 ≡ 97 = first_byte (codes "provider") (codes "account") (pair_same (codes "provider", one.name) (codes "account", account_value y) heads.0).0 in
      absurd (omega (arith, bytes))
  accounts_same p1 p2 (x ∷ xs) [] ps [] p q e = let no : ⊥ = cc in absurd no
  accounts_same p1 p2 (x ∷ xs) [] ps (one ∷ qs) p q e =
      let heads = cons_same _ _ (account_entries xs ++ entries_of ps) _ e in
      let bytes : 97 ≡ 112 = first_byte (codes "account") (codes "provider") (pair_same (codes "account", account_value x) (codes "provider", one.name) heads.0).0 in
      absurd (omega (arith, bytes))
  accounts_same p1 p2 (x ∷ xs) (y ∷ ys) ps qs p q e =
      let heads = cons_same _ _ (account_entries xs ++ entries_of ps) (account_entries ys ++ entries_of qs) e in
      let first = account_same x y p.0.quota q.0.quota p.0.key q.0.key (pair_same (codes "account", account_value x) (codes "account", account_value y) heads.0).1 in
      let others = accounts_same (provider_with p1 (p1.accounts ++ x ∷ [])) (provider_with p2 (p2.accounts ++ y ∷ [])) xs ys ps qs p.1 q.1 heads.1 in
      (ap (λ a. a ∷ xs) first ∙ ap (λ l. y ∷ l) others.0, others.1)

hex_same : (xs ys : List ℕ) → IsBytes xs → IsBytes ys → encode_lower xs ≡ encode_lower ys → xs ≡ ys
hex_same xs ys p q e = decoded_same xs ys (sym (decode_of-encode_lower xs p) ∙ ap decode_of e ∙ decode_of-encode_lower ys q)
  where
    decoded_same : (xs ys : List ℕ) → decoded xs ≡ decoded ys → xs ≡ ys
    decoded_same xs ys e = cc

providers_same : (e1 e2 ps qs : List Provider) → AreNext e1 ps → AreNext e2 qs → entries_of ps ≡ entries_of qs → ps ≡ qs
providers_same e1 e2 [] [] p q e = refl
providers_same e1 e2 [] (b ∷ qs) p q e = let no : ⊥ = cc in absurd no
providers_same e1 e2 (a ∷ ps) [] p q e = let no : ⊥ = cc in absurd no
providers_same e1 e2 (a ∷ ps) (b ∷ qs) p q e =
    let name = cons_same _ _ _ _ e in
    let receipts = cons_same _ _ _ _ name.1 in
    let domains = domains_same a.domains b.domains (encode_lower a.key) (encode_lower b.key) _ _ receipts.1 in
    let rule = cons_same _ _ _ _ domains.2 in
    let limit = cons_same _ _ _ _ rule.1 in
    let accounts = accounts_same e1 e2 (provider_with a []) (provider_with b []) a.accounts b.accounts ps qs p.0.accounts q.0.accounts limit.1 in
    let rest = providers_same (e1 ++ a ∷ []) (e2 ++ b ∷ []) ps qs p.1 q.1 accounts.1 in
    let key = hex_same a.key b.key p.0.key.2 q.0.key.2 domains.1 in
    let number =
    decimal_injective a.limit b.limit (limit_fits a.limit p.0.limit.1) (limit_fits b.limit q.0.limit.1) (pair_same (codes "limit", decimal a.limit) (codes "limit", decimal b.limit) limit.0).1 in
    let first : a ≡ b =
    made a.name b.name a.receipts b.receipts a.domains b.domains a.key b.key a.rule b.rule a.limit b.limit a.accounts b.accounts (pair_same (codes "provider", a.name) (codes "provider", b.name) name.0).1
    (pair_same (codes "receipts", a.receipts) (codes "receipts", b.receipts) receipts.0).1 domains.0 key (pair_same (codes "zone", a.rule) (codes "zone", b.rule) rule.0).1 number accounts.0 in
    ap (λ x. x ∷ ps) first ∙ ap (λ l. b ∷ l) rest
  where
    made : (n1 n2 r1 r2 : List ℕ) (d1 d2 : List (List ℕ)) (k1 k2 z1 z2 : List ℕ) (l1 l2 : ℕ) (a1 a2 : List Account) → n1 ≡ n2 → r1 ≡ r2 → d1 ≡ d2 → k1 ≡ k2 → z1 ≡ z2 → l1 ≡ l2 → a1 ≡ a2
        → provider_of n1 r1 d1 k1 z1 l1 a1 ≡ provider_of n2 r2 d2 k2 z2 l2 a2
    made n1 n2 r1 r2 d1 d2 k1 k2 z1 z2 l1 l2 a1 a2 e1 e2 e3 e4 e5 e6 e7 = cc

pub one_directory : PrintableLaws → (ps qs : List Provider) → IsLawful ps → IsLawful qs → canonical ps ≡ canonical qs → ps ≡ qs
one_directory laws ps qs p q e =
    providers_same [] [] ps qs p.each q.each
    (lines_same (entries_of ps) (entries_of qs) (clean_providers laws [] ps p.each) (clean_providers laws [] qs q.each) (sym (canonical_lines ps) ∙ e ∙ canonical_lines qs))
