-- The first domains of a lawful directory's providers differ, and so a text names one message.
use Rattle.std.proofs.Common.{◌≡◌, ◌↔◌, ℕ, zero, suc, ◌+◌, ◌<◌, ◌≤◌, ◌||◌, Bool, true, false, cond, leb, List, [], ◌∷◌, ◌++◌, length, codes, Option, Some, None, Result, Ok, Err, IfOk, refl, sym, ap, subst, ◌∙◌, arith, append-nil}
use Rattle.std.specs.List.{position_from, AllByRecursion}
use Rattle.std.specs.Str.{bytes_eq}
use Rattle.std.specs.Cmp.Lexicographic.{bytes_decides}
use Rattle.std.proofs.lemmas.Bool.{false≢true, false_from_ne_true, leb-false, lt-leb}
use Rattle.std.proofs.lemmas.Grind.{flat_map-append}
use Rattle.std.proofs.lemmas.List.{append_cancel_left}
use Rattle.std.proofs.lemmas.List.Folds.{list_any-append}
use Rattle.pec_types.specs.Address.{IsLowerAddress}
use Rattle.pec_types.specs.Bytes.{Bytes}
use Rattle.pec_types.specs.Message.{Id}
use Rattle.pec_types.specs.Words.{id_text, number_in, seven_digits}
use Rattle.pec_types.specs.declared.messages.TheConstants.{MESSAGES}
use Rattle.pec_directory.specs.Directory.{Provider, first_domain, first_of}
use Rattle.pec_directory.specs.Fields.{is_some_list, service_at}
use Rattle.pec_directory.specs.Ids.{Names, id_at, id_of, number_named, prints, provider_named}
use Rattle.pec_directory.specs.Lawful.{AreNext, IsLawful, IsOwnDomain}
use Rattle.pec_directory.specs.Walk.{domains_of, is_among}
use Rattle.pec_directory.proofs.WalkLemmas.{neither, untwice}

-- ---- texts among others

same_text : (text : Bytes) → bytes_eq text text ≡ true
same_text text = (bytes_decides text text).1 refl

or_true : (a b : Bool) → a ≡ true → (a || b) ≡ true
or_true true b is = refl
or_true false b is = absurd (false≢true is)

or_later : (a b : Bool) → b ≡ true → (a || b) ≡ true
or_later true b is = refl
or_later false b is = is

first_among : (domains : List Bytes) → is_some_list domains ≡ true → is_among (first_of domains) domains ≡ true
first_among [] some = absurd (false≢true some)
first_among (domain ∷ domains) some = or_true (bytes_eq domain domain) (is_among domain domains) (same_text domain)

unlike_first : (text : Bytes) (domains : List Bytes) → is_some_list domains ≡ true → is_among text domains ≡ false → bytes_eq text (first_of domains) ≡ false
unlike_first text [] some apart = absurd (false≢true some)
unlike_first text (domain ∷ domains) some apart = (neither (bytes_eq text domain) (is_among text domains) apart).0

-- among the domains of providers and of one more behind them
among_push : (text : Bytes) (earlier : List Provider) (provider : Provider) → is_among text (domains_of (earlier ++ provider ∷ [])) ≡ (is_among text (domains_of earlier) || is_among text provider.domains)
among_push text earlier provider =
    ap (is_among text) (flat_map-append (λ (p : Provider). p.domains) earlier (provider ∷ []) ∙ ap (λ l. domains_of earlier ++ l) (append-nil provider.domains))
    ∙ list_any-append (λ o. bytes_eq text o) (domains_of earlier) provider.domains

-- ---- first domains

-- a first domain is none of those of providers before its own
apart_before : (earlier providers : List Provider) (number : ℕ) → AreNext earlier providers → number < length providers → is_among (first_domain providers number) (domains_of earlier) ≡ false
unfolding first_domain
apart_before earlier [] number all below = let no : ⊥ = omega arith in absurd no
apart_before earlier (provider ∷ providers) zero all below =
    untwice (domains_of earlier) provider.domains (first_of provider.domains) all.0.domains_once (first_among provider.domains all.0.domains)
apart_before earlier (provider ∷ providers) (suc number) all below =
    let later = apart_before (earlier ++ provider ∷ []) providers number all.1 (omega arith) in
    (neither (is_among (first_domain providers number) (domains_of earlier)) (is_among (first_domain providers number) provider.domains) (sym (among_push (first_domain providers number) earlier provider) ∙ later)).0

-- and not the first one of the provider that stands before it
apart_next : (earlier : List Provider) (provider : Provider) (providers : List Provider) (number : ℕ) → AreNext earlier (provider ∷ providers) → number < length providers
    → bytes_eq (first_domain providers number) (first_of provider.domains) ≡ false
apart_next earlier provider providers number all below =
    let later = apart_before (earlier ++ provider ∷ []) providers number all.1 below in
    let text = first_domain providers number in
    unlike_first text provider.domains all.0.domains (neither (is_among text (domains_of earlier)) (is_among text provider.domains) (sym (among_push text earlier provider) ∙ later)).1

-- ---- printing

-- names of different domains differ
printed_apart : (domain other : Bytes) (number : ℕ) → bytes_eq domain other ≡ false → bytes_eq (id_text domain number) (id_text other number) ≡ false
unfolding id_text seven_digits
printed_apart domain other number apart =
    false_from_ne_true (bytes_eq (id_text domain number) (id_text other number)) (λ same.
    let whole = (bytes_decides (id_text domain number) (id_text other number)).0 same in
    let numbered = append_cancel_left (codes "pec.") (seven_digits number ++ codes "@" ++ domain) (seven_digits number ++ codes "@" ++ other) whole in
    let marked = append_cancel_left (seven_digits number) (codes "@" ++ domain) (codes "@" ++ other) numbered in
    false≢true (sym apart ∙ (bytes_decides domain other).1 (append_cancel_left (codes "@") domain other marked)))

number_back : (domain : Bytes) (number : ℕ) → number < MESSAGES → number_named (id_text domain number) ≡ number
unfolding number_named id_text seven_digits number_in
number_back domain number below = omega arith

-- ---- the search

-- the name of a provider's message is found at that provider
found_at : (earlier providers : List Provider) (start number message : ℕ) → AreNext earlier providers → number < length providers
    → position_from (prints (id_text (first_domain providers number) message) message) start providers ≡ Some (start + number)
unfolding first_domain
found_at earlier [] start number message all below = let no : ⊥ = omega arith in absurd no
found_at earlier (provider ∷ providers) start zero message all below =
    ap (λ b. cond b (Some start) (position_from (prints (id_text (first_of provider.domains) message) message) (start + 1) providers)) (same_text (id_text (first_of provider.domains) message)) ∙ ap (λ n. Some n) (omega arith)
found_at earlier (provider ∷ providers) start (suc number) message all below =
    let text = id_text (first_domain providers number) message in
    let other : bytes_eq text (id_text (first_of provider.domains) message) ≡ false =
    printed_apart (first_domain providers number) (first_of provider.domains) message (apart_next earlier provider providers number all (omega arith)) in
    ap (λ b. cond b (Some start) (position_from (prints text message) (start + 1) providers)) other
    ∙ found_at (earlier ++ provider ∷ []) providers (start + 1) number message all.1 (omega arith)
    ∙ ap (λ n. Some n) (omega arith)

some_same : (a b : ℕ) → Some a ≡ Some b → a ≡ b
some_same a b e = cc

-- what is found prints as the text
record Found (text : Bytes) (message start : ℕ) (providers : List Provider) (found : ℕ) : Type 0 where
  number : ℕ
  is : found ≡ start + number
  below : number < length providers
  printed : text ≡ id_text (first_domain providers number) message

found_so : (text : Bytes) (message start : ℕ) (providers : List Provider) (found : ℕ) → position_from (prints text message) start providers ≡ Some found → Found text message start providers found
unfolding first_domain
found_so text message start [] found is = let no : ⊥ = cc in absurd no
found_so text message start (provider ∷ providers) found is =
    by_first (bytes_eq text (id_text (first_of provider.domains) message)) refl (found_so text message (start + 1) providers found) is
  where
    by_first : (b : Bool) → bytes_eq text (id_text (first_of provider.domains) message) ≡ b
        → (position_from (prints text message) (start + 1) providers ≡ Some found → Found text message (start + 1) providers found)
        → cond b (Some start) (position_from (prints text message) (start + 1) providers) ≡ Some found → Found text message start (provider ∷ providers) found
    by_first true same further is = record { number = 0; is = omega (arith, some_same start found is); below = omega arith; printed = (bytes_decides text (id_text (first_of provider.domains) message)).0 same }
    by_first false other further is =
        let rest = further is in
        record { number = suc rest.number; is = omega (arith, rest.is); below = omega (arith, rest.below); printed = rest.printed }

-- ---- the laws

id_same : (a b : Id) → Some a ≡ Some b → a ≡ b
id_same a b e = cc

pub named : (providers : List Provider) (id : Id) → IsLawful providers → id.provider < length providers → id.number < MESSAGES → id_of providers (id_text (first_domain providers id.provider) id.number) ≡ Some id
unfolding id_of provider_named
named providers id lawful within below =
    let text = id_text (first_domain providers id.provider) id.number in
    let number : number_named text ≡ id.number = number_back (first_domain providers id.provider) id.number below in
    let there : position_from (prints text id.number) 0 providers ≡ Some id.provider =
    found_at [] providers 0 id.provider id.number lawful.each within ∙ ap (λ n. Some n) (omega arith) in
    ap (λ n. cond (leb MESSAGES n) None (id_at n (position_from (prints text n) 0 providers))) number
    ∙ ap (λ b. cond b None (id_at id.number (position_from (prints text id.number) 0 providers))) (lt-leb MESSAGES id.number below)
    ∙ ap (id_at id.number) there

pub printed : (providers : List Provider) (text : Bytes) (id : Id) → id_of providers text ≡ Some id → Names providers text id
unfolding id_of provider_named
printed providers text id is = by_number (leb MESSAGES (number_named text)) refl is
  where
    by_place : (found : Option ℕ) → number_named text < MESSAGES → position_from (prints text (number_named text)) 0 providers ≡ found → id_at (number_named text) found ≡ Some id → Names providers text id
    by_place None below there is = let no : ⊥ = cc in absurd no
    by_place (Some place) below there is =
        let found = found_so text (number_named text) 0 providers place there in
        let at : place ≡ found.number = omega (arith, found.is) in
        subst (Names providers text) (id_same (record { provider = place; number = number_named text }) id is)
        record { provider = omega (arith, found.below); number = below; printed = found.printed ∙ ap (λ n. id_text (first_domain providers n) (number_named text)) (sym at) }

    by_number : (b : Bool) → leb MESSAGES (number_named text) ≡ b → cond b None (id_at (number_named text) (position_from (prints text (number_named text)) 0 providers)) ≡ Some id → Names providers text id
    by_number true many is = let no : ⊥ = cc in absurd no
    by_number false few is = by_place (position_from (prints text (number_named text)) 0 providers) (leb-false MESSAGES (number_named text) few) refl is

pub names : (providers : List Provider) (text : Bytes) (id : Id) → IsLawful providers → (id_of providers text ≡ Some id) ↔ Names providers text id
names providers text id lawful =
    (printed providers text id, λ (is : Names providers text id). ap (id_of providers) is.printed ∙ named providers id lawful is.provider is.number)

pub one : (providers : List Provider) (text : Bytes) (id other : Id) → IsLawful providers → Names providers text id → Names providers text other → id ≡ other
one providers text id other lawful is has =
    id_same id other (sym ((names providers text id lawful).1 is) ∙ (names providers text other lawful).1 has)

pub names_found : {E : Type 0} (providers : List Provider) (text : Bytes) (r : Result (Option Id) E) → IsLawful providers → IfOk r (λ found. found ≡ id_of providers text)
    → IfOk r (λ found. (id : Id) → (found ≡ Some id) ↔ Names providers text id)
names_found providers text (Ok found) lawful is = λ id. rw is (names providers text id lawful)
names_found providers text (Err fault) lawful is = tt

-- ---- domains

pub apart : (providers : List Provider) (number other : ℕ) → IsLawful providers → number < length providers → other < length providers
    → first_domain providers number ≡ first_domain providers other → number ≡ other
apart providers number other lawful below within same =
    let found = found_at [] providers 0 number 0 lawful.each below in
    let there = found_at [] providers 0 other 0 lawful.each within in
    let both = some_same (0 + number) (0 + other) (sym found ∙ ap (λ d. position_from (prints (id_text d 0) 0) 0 providers) same ∙ there) in
    omega (arith, both)

own_first : (providers : List Provider) (number : ℕ) (earlier : List Provider) → AreNext earlier providers → number < length providers → is_among (first_domain providers number) (domains_of providers) ≡ true
unfolding first_domain
own_first [] number earlier all below = let no : ⊥ = omega arith in absurd no
own_first (provider ∷ providers) zero earlier all below =
    list_any-append (λ o. bytes_eq (first_of provider.domains) o) provider.domains (domains_of providers)
    ∙ or_true (is_among (first_of provider.domains) provider.domains) _ (first_among provider.domains all.0.domains)
own_first (provider ∷ providers) (suc number) earlier all below =
    let text = first_domain providers number in
    list_any-append (λ o. bytes_eq text o) provider.domains (domains_of providers)
    ∙ or_later (is_among text provider.domains) _ (own_first providers number (earlier ++ provider ∷ []) all.1 (omega arith))

pub own : (providers : List Provider) (number : ℕ) → IsLawful providers → number < length providers → is_among (first_domain providers number) (domains_of providers) ≡ true
own providers number lawful below = own_first providers number [] lawful.each below

one_of : (domain : Bytes) (domains : List Bytes) → AllByRecursion IsOwnDomain domains → is_among domain domains ≡ true → IsOwnDomain domain
one_of domain [] all among = absurd (false≢true among)
one_of domain (first ∷ domains) all among = by_first (bytes_eq domain first) refl (one_of domain domains all.1) among
  where
    by_first : (b : Bool) → bytes_eq domain first ≡ b → (is_among domain domains ≡ true → IsOwnDomain domain) → (b || is_among domain domains) ≡ true → IsOwnDomain domain
    by_first true same further met = subst IsOwnDomain (sym ((bytes_decides domain first).0 same)) all.0
    by_first false other further met = further met

own_in : (domain : Bytes) (earlier providers : List Provider) → AreNext earlier providers → is_among domain (domains_of providers) ≡ true → IsOwnDomain domain
own_in domain earlier [] all among = absurd (false≢true among)
own_in domain earlier (provider ∷ providers) all among =
    by_own (is_among domain provider.domains) refl (own_in domain (earlier ++ provider ∷ []) providers all.1) (sym (list_any-append (λ o. bytes_eq domain o) provider.domains (domains_of providers)) ∙ among)
  where
    by_own : (b : Bool) → is_among domain provider.domains ≡ b → (is_among domain (domains_of providers) ≡ true → IsOwnDomain domain) → (b || is_among domain (domains_of providers)) ≡ true
        → IsOwnDomain domain
    by_own true met further either = one_of domain provider.domains all.0.domains_are met
    by_own false unmet further either = further either

pub address : (providers : List Provider) (domain : Bytes) → IsLawful providers → is_among domain (domains_of providers) ≡ true → IsLowerAddress (service_at domain)
address providers domain lawful among = own_in domain [] providers lawful.each among

pub short : (providers : List Provider) (domain : Bytes) → IsLawful providers → is_among domain (domains_of providers) ≡ true → length domain ≤ 236
short providers domain lawful among = omega (arith, (address providers domain lawful among).address.short)
