-- The undecided pairs are exactly the taken ones on which nothing is decided.
use Rattle.std.proofs.Common.{◌≡◌, ◌↔◌, ℕ, List, [], ◌∷◌, true, inl, inr, map, refl, ap, sym, subst, ◌∙◌, None}
use Rattle.std.specs.Prelude.{Contains, is_none}
use Rattle.std.proofs.lemmas.Bool.{and_from, and_parts}
use Rattle.std.proofs.lemmas.List.Elements.{Contains-append_left, Contains-append_right}
use Rattle.pec_types.specs.Bytes.{Bytes}
use Rattle.pec_types.specs.Message.{Id}
use Rattle.pec_records.specs.declared.entries.Entry.{Entry}
use Rattle.pec_ledger.specs.Half.{Taken}
use Rattle.pec_ledger.specs.Lookups.{decided_of, taken_of}
use Rattle.pec_ledger.specs.Own.{IsTakenPair}
use Rattle.pec_ledger.specs.Pairs.{Pair, pair_of, same_id, same_pair}
use Rattle.pec_ledger.specs.Steps.{half}
use Rattle.pec_ledger.specs.Trade.{Trade}
use Rattle.pec_plays.specs.Decisions.{is_open, is_recipient_of, pairs_taken, undecided}
use Rattle.pec_plays.specs.Reception.{each_once}
use Rattle.pec_plays.proofs.ListLemmas.{address_there, contains_cases, contains_none, found_none, found_there, from_filter, into_filter, into_map, once_into, same_ids, same_pairs}
use Rattle.pec_plays.proofs.StepLemmas.{taken_pair}

taken_among : (rows : List Taken) (row : Taken) (recipient : Bytes) → Contains rows row → Contains row.recipients recipient → Contains (pairs_taken rows) (pair_of row.id recipient)
taken_among [] row recipient c among = absurd (contains_none row c)
taken_among (first ∷ rows) row recipient c among =
    elim (contains_cases first rows row c) [
      | inl same ↦ Contains-append_left (map (pair_of first.id) first.recipients) (pairs_taken rows) (pair_of row.id recipient)
          (subst (λ (r : Taken). Contains (map (pair_of r.id) r.recipients) (pair_of row.id recipient)) (sym same) (into_map (pair_of row.id) row.recipients recipient among))
      | inr there ↦ Contains-append_right (map (pair_of first.id) first.recipients) (pairs_taken rows) (pair_of row.id recipient) (taken_among rows row recipient there among)
    ]

ids_same : (a b : Id) → same_id a b ≡ true → (recipient : Bytes) → pair_of b recipient ≡ pair_of a recipient
ids_same a b e recipient =
    sym (ap (λ (i : Id). pair_of i recipient) (same_ids a b e))

module _ (trade : Trade) (p : ℕ) where
  pub undecided_says : (es : List Entry) (pair : Pair)
      → Contains (undecided trade p es) pair ↔ (IsTakenPair trade p (half trade p es) pair × (decided_of (half trade p es) pair ≡ None))
  unfolding undecided
  undecided_says es pair =
      let h = half trade p es
      in (
        (λ c.
            let kept = from_filter (is_open h) (each_once same_pair (pairs_taken h.taken)) pair c
            in let parts = and_parts (is_recipient_of pair.recipient (taken_of h pair.id)) (is_none (decided_of h pair)) kept.1
            in (taken_pair trade p es pair (taken_of h pair.id) refl parts.0, found_none (decided_of h pair) parts.1)),
        (λ is.
            let found = found_there (λ (taken : Taken). same_id pair.id taken.id) h.taken is.0.row is.0.taken
            in let there = subst (λ (q : Pair). Contains (pairs_taken h.taken) q) (ids_same pair.id is.0.row.id found.1 pair.recipient)
            (taken_among h.taken is.0.row pair.recipient found.0 is.0.recipient)
            in into_filter (is_open h) (each_once same_pair (pairs_taken h.taken)) pair (once_into same_pair same_pairs (pairs_taken h.taken) pair there)
            (and_from (is_recipient_of pair.recipient (taken_of h pair.id)) (is_none (decided_of h pair))
            (ap (is_recipient_of pair.recipient) is.0.taken ∙ address_there is.0.row.recipients pair.recipient is.0.recipient)
            (ap is_none is.1))),
      )

  pub undecided_open : (es : List Entry) (pair : Pair) → Contains (undecided trade p es) pair → is_open (half trade p es) pair ≡ true
  unfolding undecided
  undecided_open es pair c =
      (from_filter (is_open (half trade p es)) (each_once same_pair (pairs_taken (half trade p es).taken)) pair c).1
