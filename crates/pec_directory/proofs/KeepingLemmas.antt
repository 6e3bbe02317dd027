-- What the indexes, the count and the zones are once a provider is kept.
use Rattle.std.proofs.Common.{◌≡◌, ℕ, ◌+◌, List, [], ◌∷◌, ◌++◌, length, sym, ap, ◌∙◌, arith, append-nil, append_assoc, length-append}
use Rattle.std.proofs.lemmas.Grind.{flat_map-append}
use Rattle.pec_cert.specs.Zone.{IsRule}
use Rattle.pec_index.specs.Entries.{Finds, value_at}
use Rattle.pec_directory.specs.Directory.{Kept, Provider, accounts_of}
use Rattle.pec_directory.specs.Indexes.{deeds_from, deeds_of, spots_from, spots_of}
use Rattle.pec_directory.specs.Zones.{AreByRule}
use Rattle.pec_directory.specs.declared.places.Place.{Place}

deeds_from-push : (k n : ℕ) (earlier : List Provider) (provider : Provider) → k + length earlier ≡ n → deeds_from k (earlier ++ provider ∷ []) ≡ deeds_from k earlier ++ deeds_of n provider.domains
deeds_from-push k n [] provider is = append-nil (deeds_of k provider.domains) ∙ ap (λ m. deeds_of m provider.domains) (omega (arith, is))
deeds_from-push k n (first ∷ earlier) provider is =
    ap (λ l. deeds_of k first.domains ++ l) (deeds_from-push (k + 1) n earlier provider (omega (arith, is)))
    ∙ sym (append_assoc (deeds_of k first.domains) (deeds_from (k + 1) earlier) (deeds_of n provider.domains))

spots_from-push : (k n : ℕ) (earlier : List Provider) (provider : Provider) → k + length earlier ≡ n → spots_from k (earlier ++ provider ∷ []) ≡ spots_from k earlier ++ spots_of n 0 provider.accounts
spots_from-push k n [] provider is = append-nil (spots_of k 0 provider.accounts) ∙ ap (λ m. spots_of m 0 provider.accounts) (omega (arith, is))
spots_from-push k n (first ∷ earlier) provider is =
    ap (λ l. spots_of k 0 first.accounts ++ l) (spots_from-push (k + 1) n earlier provider (omega (arith, is)))
    ∙ sym (append_assoc (spots_of k 0 first.accounts) (spots_from (k + 1) earlier) (spots_of n 0 provider.accounts))

pub deeds_more : (index : List (List ℕ × ℕ)) (earlier : List Provider) (provider : Provider) → Finds index (deeds_from 0 earlier ++ deeds_of (length earlier) provider.domains)
    → Finds index (deeds_from 0 (earlier ++ provider ∷ []))
deeds_more index earlier provider finds key = finds key ∙ ap (value_at key) (sym (deeds_from-push 0 (length earlier) earlier provider (omega arith)))

pub spots_more : (index : List (List ℕ × Place)) (earlier : List Provider) (provider : Provider) → Finds index (spots_from 0 earlier ++ spots_of (length earlier) 0 provider.accounts)
    → Finds index (spots_from 0 (earlier ++ provider ∷ []))
spots_more index earlier provider finds key = finds key ∙ ap (value_at key) (sym (spots_from-push 0 (length earlier) earlier provider (omega arith)))

pub counted_more : (earlier : List Provider) (provider : Provider) → length (accounts_of (earlier ++ provider ∷ [])) ≡ length (accounts_of earlier) + length provider.accounts
counted_more earlier provider =
    ap length (flat_map-append (λ (p : Provider). p.accounts) earlier (provider ∷ []))
    ∙ length-append (accounts_of earlier) (provider.accounts ++ [])
    ∙ ap (λ l. length (accounts_of earlier) + length l) (append-nil provider.accounts)

pub zones_more : (earlier : List Kept) (one : Kept) → AreByRule earlier → IsRule one.provider.rule one.zone → AreByRule (earlier ++ one ∷ [])
zones_more [] one all last = (last, tt)
zones_more (first ∷ earlier) one all last = (all.0, zones_more earlier one all.1 last)
