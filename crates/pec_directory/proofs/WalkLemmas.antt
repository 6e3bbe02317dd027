-- The tests of the walk by the indexes, and by the lists that they stand for.
use Rattle.std.proofs.Common.{◌≡◌, ℕ, suc, ◌+◌, ◌<◌, ◌||◌, Bool, true, false, cond, not, List, [], ◌∷◌, ◌++◌, length, Option, Some, None, is_some, refl, sym, ap, subst, ◌∙◌, arith, append-nil, append_assoc}
use Rattle.std.specs.List.{list_any}
use Rattle.std.specs.Str.{bytes_eq}
use Rattle.std.specs.Cmp.Lexicographic.{bytes_decides}
use Rattle.std.proofs.lemmas.Bool.{false≢true}
use Rattle.std.proofs.lemmas.Bool.Decides.{nat_tests}
use Rattle.std.proofs.lemmas.List.Folds.{list_any-append}
use Rattle.pec_index.specs.Entries.{Finds, IsAdded, value_at}
use Rattle.pec_directory.specs.Directory.{Account, Kept, Provider, accounts_of, providers_of}
use Rattle.pec_directory.specs.Indexes.{HasAccounts, HasDomains, deeds_from, deeds_of, is_here, spots_from, spots_of}
use Rattle.pec_directory.specs.Walk.{domains_of, is_address_of, is_among, is_service, is_taken, stands_twice, takes_receipts}
use Rattle.pec_directory.specs.declared.places.Place.{Place}
use Rattle.pec_directory.proofs.LookupLemmas.{value_at-deeds}

pub any_said : (test : Provider → Bool) (kept : List Kept) → list_any test (providers_of kept) ≡ list_any (λ (one : Kept). test one.provider) kept
any_said test [] = refl
any_said test (one ∷ kept) = ap (λ b. test one.provider || b) (any_said test kept)

pub neither : (x y : Bool) → (x || y) ≡ false → (x ≡ false) × (y ≡ false)
neither true y e = absurd (false≢true (sym e))
neither false y e = (refl, e)

either : {X : Type 0} (b c : Bool) (x rest : X) → cond b x (cond c x rest) ≡ cond (b || c) x rest
either true c x rest = refl
either false c x rest = refl

pub or_assoc : (a b c : Bool) → ((a || b) || c) ≡ (a || (b || c))
or_assoc true b c = refl
or_assoc false b c = refl

pub or_false : (a : Bool) → (a || false) ≡ a
or_false true = refl
or_false false = refl

-- ---- domains

-- what stands twice among texts isn't one of those before them
pub untwice : (before texts : List (List ℕ)) (text : List ℕ) → stands_twice before texts ≡ false → is_among text texts ≡ true → is_among text before ≡ false
untwice before [] text once among = absurd (false≢true among)
untwice before (first ∷ texts) text once among =
    let parts = neither (is_among first before) (stands_twice (before ++ first ∷ []) texts) once in
    by_first (bytes_eq text first) refl parts.0 (untwice (before ++ first ∷ []) texts text parts.1) among
  where
    by_first : (b : Bool) → bytes_eq text first ≡ b → is_among first before ≡ false → (is_among text texts ≡ true → is_among text (before ++ first ∷ []) ≡ false) → (b || is_among text texts) ≡ true
        → is_among text before ≡ false
    by_first true same other further met = ap (λ t. is_among t before) ((bytes_decides text first).0 same) ∙ other
    by_first false apart other further met =
        (neither (is_among text before) (is_among text (first ∷ [])) (sym (list_any-append (λ o. bytes_eq text o) before (first ∷ [])) ∙ further met)).0

here_first : (n k : ℕ) (b : Bool) (v : Option ℕ) → k < n → is_here n (cond b (Some k) v) ≡ cond b false (is_here n v)
here_first n k true v below = grind (arith, nat_tests)
here_first n k false v below = refl

here_from : (d : List ℕ) (n k : ℕ) (providers : List Provider) (rest : List (List ℕ × ℕ)) → k + length providers ≡ n
    → is_here n (value_at d (deeds_from k providers ++ rest)) ≡ cond (is_among d (domains_of providers)) false (is_here n (value_at d rest))
here_from d n k [] rest is = refl
here_from d n k (provider ∷ providers) rest is =
    ap (λ l. is_here n (value_at d l)) (append_assoc (deeds_of k provider.domains) (deeds_from (k + 1) providers) rest)
    ∙ ap (is_here n) (value_at-deeds d k provider.domains (deeds_from (k + 1) providers ++ rest))
    ∙ here_first n k (is_among d provider.domains) _ (omega (arith, is))
    ∙ ap (λ w. cond (is_among d provider.domains) false w) (here_from d n (k + 1) providers rest (omega (arith, is)))
    ∙ either (is_among d provider.domains) (is_among d (domains_of providers)) false (is_here n (value_at d rest))
    ∙ ap (λ b. cond b false (is_here n (value_at d rest))) (sym (list_any-append (λ o. bytes_eq d o) provider.domains (domains_of providers)))

here_own : (n : ℕ) (b : Bool) → is_here n (cond b (Some n) None) ≡ b
here_own n true = grind (arith, nat_tests)
here_own n false = refl

only : (a b : Bool) → (a ≡ true → b ≡ false) → cond b false a ≡ a
only true b apart = ap (λ x. cond x false true) (apart refl)
only false true apart = refl
only false false apart = refl

pub here_among : (earlier : List Provider) (domains : List (List ℕ)) (d : List ℕ) → stands_twice (domains_of earlier) domains ≡ false
    → is_here (length earlier) (value_at d (deeds_from 0 earlier ++ deeds_of (length earlier) domains)) ≡ is_among d domains
here_among earlier domains d once =
    here_from d (length earlier) 0 earlier (deeds_of (length earlier) domains) (omega arith)
    ∙ ap (λ w. cond (is_among d (domains_of earlier)) false w)
    (ap (λ l. is_here (length earlier) (value_at d l)) (sym (append-nil (deeds_of (length earlier) domains)))
    ∙ ap (is_here (length earlier)) (value_at-deeds d (length earlier) domains [])
    ∙ here_own (length earlier) (is_among d domains))
    ∙ only (is_among d domains) (is_among d (domains_of earlier)) (untwice (domains_of earlier) domains d once)

-- ---- accounts

pub some_first : {V : Type 0} (b : Bool) (x : V) (v : Option V) → is_some (cond b (Some x) v) ≡ (b || is_some v)
some_first true x v = refl
some_first false x v = refl

some_spot : (a : List ℕ) (n i : ℕ) (accounts : List Account) (rest : List (List ℕ × Place)) → is_some (value_at a (spots_of n i accounts ++ rest)) ≡ (is_address_of a accounts || is_some (value_at a rest))
some_spot a n i [] rest = refl
some_spot a n i (account ∷ accounts) rest =
    some_first (bytes_eq a account.address) _ _
    ∙ ap (λ w. bytes_eq a account.address || w) (some_spot a n (i + 1) accounts rest)
    ∙ sym (or_assoc (bytes_eq a account.address) (is_address_of a accounts) (is_some (value_at a rest)))

some_spots : (a : List ℕ) (n : ℕ) (providers : List Provider) (rest : List (List ℕ × Place)) → is_some (value_at a (spots_from n providers ++ rest)) ≡ (is_address_of a (accounts_of providers) || is_some (value_at a rest))
some_spots a n [] rest = refl
some_spots a n (provider ∷ providers) rest =
    ap (λ l. is_some (value_at a l)) (append_assoc (spots_of n 0 provider.accounts) (spots_from (n + 1) providers) rest)
    ∙ some_spot a n 0 provider.accounts (spots_from (n + 1) providers ++ rest)
    ∙ ap (λ w. is_address_of a provider.accounts || w) (some_spots a (n + 1) providers rest)
    ∙ sym (or_assoc (is_address_of a provider.accounts) (is_address_of a (accounts_of providers)) (is_some (value_at a rest)))
    ∙ ap (λ b. b || is_some (value_at a rest)) (sym (list_any-append (λ (x : Account). bytes_eq a x.address) provider.accounts (accounts_of providers)))

pub some_account : (a : List ℕ) (n : ℕ) (earlier : List Provider) (before : List Account) → is_some (value_at a (spots_from 0 earlier ++ spots_of n 0 before)) ≡ is_address_of a (accounts_of earlier ++ before)
some_account a n earlier before =
    some_spots a 0 earlier (spots_of n 0 before)
    ∙ ap (λ w. is_address_of a (accounts_of earlier) || w)
    (ap (λ l. is_some (value_at a l)) (sym (append-nil (spots_of n 0 before))) ∙ some_spot a n 0 before [] ∙ or_false (is_address_of a before))
    ∙ sym (list_any-append (λ (x : Account). bytes_eq a x.address) (accounts_of earlier) before)

spots-push : (n i : ℕ) (before : List Account) (account : Account) (at : ℕ) → i + length before ≡ at
    → spots_of n i (before ++ account ∷ []) ≡ spots_of n i before ++ (account.address, record { provider = n; account = at }) ∷ []
spots-push n i [] account at is = ap (λ m. (account.address, record { provider = n; account = m }) ∷ []) (omega (arith, is))
spots-push n i (first ∷ before) account at is = ap (λ l. (first.address, record { provider = n; account = i }) ∷ l) (spots-push n (i + 1) before account at (omega (arith, is)))

pub accounts_put : (places : List (List ℕ × Place)) (earlier : List Provider) (before : List Account) (account : Account) (a : List ℕ) → account.address ≡ a
    → Finds places ((spots_from 0 earlier ++ spots_of (length earlier) 0 before) ++ (a, record { provider = length earlier; account = length before }) ∷ [])
    → HasAccounts places earlier (before ++ account ∷ [])
accounts_put places earlier before account a is finds key =
    finds key
    ∙ ap (value_at key) (append_assoc (spots_from 0 earlier) (spots_of (length earlier) 0 before) ((a, record { provider = length earlier; account = length before }) ∷ []))
    ∙ ap (λ l. value_at key (spots_from 0 earlier ++ l))
    (ap (λ x. spots_of (length earlier) 0 before ++ (x, record { provider = length earlier; account = length before }) ∷ []) (sym is)
    ∙ sym (spots-push (length earlier) 0 before account (length before) (omega arith)))

-- ---- for what is kept of providers

pub length-said : (kept : List Kept) → length (providers_of kept) ≡ length kept
length-said [] = refl
length-said (one ∷ kept) = ap suc (length-said kept)

pub outside_here : (homes : List (List ℕ × ℕ)) (kept : List Kept) (domains : List (List ℕ)) (d : List ℕ) (n : ℕ) → n ≡ length kept → HasDomains homes (providers_of kept) domains
    → is_here n (value_at d homes) ≡ is_among d domains
outside_here homes kept domains d n is has =
    ap (λ m. is_here m (value_at d homes)) (is ∙ sym (length-said kept))
    ∙ ap (is_here (length (providers_of kept))) (has.0 d)
    ∙ here_among (providers_of kept) domains d has.1

module _ (places index : List (List ℕ × Place)) (kept : List Kept) (before : List Account) (a : List ℕ) (n : ℕ) (is : n ≡ length kept) (has : HasAccounts places (providers_of kept) before) where
  -- what the next account's address is put behind
  abbrev entries : List (List ℕ × Place)
  entries = spots_from 0 (providers_of kept) ++ spots_of (length (providers_of kept)) 0 before

  abbrev pub Answers : Bool → Type 0
  Answers added = (those : List (List ℕ × Place)) → Finds places those → IsAdded added index those a (record { provider = n; account = length before })

  found_taken : (added : Bool) → Answers added → not added ≡ is_address_of a (accounts_of (providers_of kept) ++ before)
  found_taken true answer = sym (ap is_some (answer entries has).0) ∙ some_account a (length (providers_of kept)) (providers_of kept) before
  found_taken false answer = sym (answer entries has) ∙ some_account a (length (providers_of kept)) (providers_of kept) before

  pub taken_is : (receipts : List ℕ) (added : Bool) → Answers added → (takes_receipts (providers_of kept) receipts a || is_service a) ≡ false
      → not added ≡ is_taken (providers_of kept) receipts before a
  taken_is receipts added answer free =
      found_taken added answer
      ∙ sym (or_false (is_address_of a (accounts_of (providers_of kept) ++ before)))
      ∙ ap (λ r. is_address_of a (accounts_of (providers_of kept) ++ before) || r) (sym free)

  pub put_there : (added : Bool) → Answers added → not added ≡ false → (account : Account) → account.address ≡ a → HasAccounts index (providers_of kept) (before ++ account ∷ [])
  put_there true answer put account same =
      accounts_put index (providers_of kept) before account a same
      (subst (λ m. Finds index (entries ++ (a, record { provider = m; account = length before }) ∷ [])) (is ∙ sym (length-said kept)) (answer entries has).1)
  put_there false answer put account same = absurd (false≢true (sym put))
