-- Entering a provider's domains into the index, one by one.
use Rattle.std.proofs.Common.{◌≡◌, ℕ, ◌+◌, ◌<◌, ◌||◌, Bool, true, false, List, [], ◌∷◌, ◌++◌, length, get_or, take, drop, is_some, refl, sym, ap, ◌∙◌, append-nil, append_assoc}
use Rattle.std.specs.Str.{bytes_eq}
use Rattle.std.proofs.lemmas.List.{at_drop_more, take_more}
use Rattle.std.proofs.lemmas.List.Folds.{list_any-append}
use Rattle.pec_index.specs.Entries.{Finds, IsAdded, value_at}
use Rattle.pec_directory.specs.Directory.{Kept, Provider, providers_of}
use Rattle.pec_directory.specs.Indexes.{deeds_from, deeds_of}
use Rattle.pec_directory.specs.Walk.{domains_of, is_among, stands_twice}
use Rattle.pec_directory.proofs.LookupLemmas.{value_at-deeds}
use Rattle.pec_directory.proofs.WalkLemmas.{length-said, or_assoc, or_false, some_first}

some_deed : (d : List ℕ) (n : ℕ) (domains : List (List ℕ)) (rest : List (List ℕ × ℕ)) → is_some (value_at d (deeds_of n domains ++ rest)) ≡ (is_among d domains || is_some (value_at d rest))
some_deed d n domains rest = ap is_some (value_at-deeds d n domains rest) ∙ some_first (is_among d domains) n (value_at d rest)

some_deeds : (d : List ℕ) (k : ℕ) (providers : List Provider) (rest : List (List ℕ × ℕ)) → is_some (value_at d (deeds_from k providers ++ rest)) ≡ (is_among d (domains_of providers) || is_some (value_at d rest))
some_deeds d k [] rest = refl
some_deeds d k (provider ∷ providers) rest =
    ap (λ l. is_some (value_at d l)) (append_assoc (deeds_of k provider.domains) (deeds_from (k + 1) providers) rest)
    ∙ some_deed d k provider.domains (deeds_from (k + 1) providers ++ rest)
    ∙ ap (λ w. is_among d provider.domains || w) (some_deeds d (k + 1) providers rest)
    ∙ sym (or_assoc (is_among d provider.domains) (is_among d (domains_of providers)) (is_some (value_at d rest)))
    ∙ ap (λ b. b || is_some (value_at d rest)) (sym (list_any-append (λ o. bytes_eq d o) provider.domains (domains_of providers)))

some_domain : (d : List ℕ) (n : ℕ) (earlier : List Provider) (domains : List (List ℕ)) → is_some (value_at d (deeds_from 0 earlier ++ deeds_of n domains)) ≡ is_among d (domains_of earlier ++ domains)
some_domain d n earlier domains =
    some_deeds d 0 earlier (deeds_of n domains)
    ∙ ap (λ w. is_among d (domains_of earlier) || w)
    (ap (λ l. is_some (value_at d l)) (sym (append-nil (deeds_of n domains))) ∙ some_deed d n domains [] ∙ or_false (is_among d domains))
    ∙ sym (list_any-append (λ o. bytes_eq d o) (domains_of earlier) domains)

deeds-push : (n : ℕ) (domains : List (List ℕ)) (d : List ℕ) → deeds_of n (domains ++ d ∷ []) ≡ deeds_of n domains ++ (d, n) ∷ []
deeds-push n [] d = refl
deeds-push n (first ∷ domains) d = ap (λ l. (first, n) ∷ l) (deeds-push n domains d)

module _ (index before : List (List ℕ × ℕ)) (kept : List Kept) (n : ℕ) (is : n ≡ length kept) (domains : List (List ℕ)) (i : ℕ) (d : List ℕ) (within : i < length domains)
    (at : d ≡ get_or domains i d) (finds : Finds before (deeds_from 0 (providers_of kept) ++ deeds_of (length (providers_of kept)) (take i domains))) where
  abbrev earlier : List Provider
  earlier = providers_of kept

  -- what the domain is entered behind
  abbrev entries : List (List ℕ × ℕ)
  entries = deeds_from 0 earlier ++ deeds_of (length earlier) (take i domains)

  abbrev pub Answers : Bool → Type 0
  Answers added = (those : List (List ℕ × ℕ)) → Finds before those → IsAdded added index those d n

  more : take (i + 1) domains ≡ take i domains ++ d ∷ []
  more = take_more domains i d within ∙ ap (λ x. take i domains ++ x ∷ []) (sym at)

  next : stands_twice (domains_of earlier ++ take i domains) (drop i domains) ≡ (is_among d (domains_of earlier ++ take i domains) || stands_twice (domains_of earlier ++ take (i + 1) domains) (drop (i + 1) domains))
  next =
      at_drop_more (stands_twice (domains_of earlier ++ take i domains)) domains i d within
      ∙ ap (λ x. is_among x (domains_of earlier ++ take i domains) || stands_twice ((domains_of earlier ++ take i domains) ++ x ∷ []) (drop (i + 1) domains)) (sym at)
      ∙ ap (λ l. is_among d (domains_of earlier ++ take i domains) || stands_twice l (drop (i + 1) domains)) (append_assoc (domains_of earlier) (take i domains) (d ∷ []) ∙ ap (λ l. domains_of earlier ++ l) (sym more))

  pub met : Answers false → stands_twice (domains_of earlier ++ take i domains) (drop i domains) ≡ true
  met answer =
      next ∙ ap (λ b. b || stands_twice (domains_of earlier ++ take (i + 1) domains) (drop (i + 1) domains)) (sym (some_domain d (length earlier) earlier (take i domains)) ∙ answer entries finds)

  pub unmet : Answers true → stands_twice (domains_of earlier ++ take (i + 1) domains) (drop (i + 1) domains) ≡ stands_twice (domains_of earlier ++ take i domains) (drop i domains)
  unmet answer =
      sym (next ∙ ap (λ b. b || stands_twice (domains_of earlier ++ take (i + 1) domains) (drop (i + 1) domains)) (sym (some_domain d (length earlier) earlier (take i domains)) ∙ ap is_some (answer entries finds).0))

  pub entered : Answers true → Finds index (deeds_from 0 earlier ++ deeds_of (length earlier) (take (i + 1) domains))
  entered answer key =
      (answer entries finds).1 key
      ∙ ap (value_at key) (append_assoc (deeds_from 0 earlier) (deeds_of (length earlier) (take i domains)) ((d, n) ∷ []))
      ∙ ap (λ l. value_at key (deeds_from 0 earlier ++ l))
      (ap (λ m. deeds_of (length earlier) (take i domains) ++ (d, m) ∷ []) (is ∙ sym (length-said kept)) ∙ sym (deeds-push (length earlier) (take i domains) d) ∙ ap (deeds_of (length earlier)) (sym more))
