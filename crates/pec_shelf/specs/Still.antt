-- Of which messages and decisions something is still owed, and of which pairs a clock call may still owe something, over
-- the rows that a shelf keeps: what the code follows.
use Rattle.std.specs.Prelude.{◌≡◌, ℕ, ◌==◌, Bool, true, ◌&&◌, ◌||◌, List, [], ◌∷◌, find, slice_get, Option, Some, None, is_some, if◌then◌else◌}
use Rattle.std.specs.List.{list_all}
use Rattle.pec_types.specs.Message.{Id}
use Rattle.pec_types.specs.declared.letters.Letter.{Letter}
use Rattle.pec_ledger.specs.Due.{is_unheard, outcome_on}
use Rattle.pec_ledger.specs.Half.{Charge, Fate, Half, Known, Mark}
use Rattle.pec_ledger.specs.Lookups.{is_notice}
use Rattle.pec_ledger.specs.Pairs.{Pair, id_of, pair_of, same_id, same_pair}
use Rattle.pec_shelf.specs.Lines.{envelope_at}
use Rattle.pec_shelf.specs.Sides.{Kept}
use Rattle.pec_shelf.specs.declared.certified.Certified.{Certified}

-- ---- envelopes

-- a recipient is heard of: the provider there took charge, or the outcome is known
abbrev pub is_answered : List Charge → List Known → Id → Certified → Bool
is_answered charged known id certified =
    is_some (find (λ (charge : Charge). same_id id charge.id && (certified.home == charge.by)) charged)
    || is_some (find (λ (row : Known). same_pair (pair_of id certified.address) row.pair) known)

-- each certified recipient of a message is heard of: nobody is owed its envelope
abbrev pub IsAnswered : ℕ → List Charge → List Known → ℕ → Kept → Type 0
IsAnswered me charged known number kept = list_all (is_answered charged known (id_of me number)) kept.certified ≡ true

abbrev pub envelope_of : ℕ → Half → ℕ → ℕ → Option Kept → List Letter
envelope_of me half to number None = []
envelope_of me half to number (Some kept) = envelope_at half to (id_of me number) kept

-- the envelope of the message of a number that is owed to a provider
abbrev pub envelope_in : ℕ → Half → ℕ → List Kept → ℕ → List Letter
envelope_in me half to rows number = envelope_of me half to number (slice_get rows number)

-- ---- outcomes

-- the provider of the message said that it knows what was decided
abbrev pub IsHeard : List Pair → ℕ → Fate → Type 0
IsHeard acked place fate = is_some (find (same_pair fate.pair) acked) ≡ true

abbrev pub outcome_of : Half → ℕ → Option Fate → List Letter
outcome_of half to None = []
outcome_of half to (Some fate) = if is_unheard half to fate then outcome_on fate ∷ [] else []

-- the outcome of the decision at a place that is owed to a provider
abbrev pub outcome_in : Half → ℕ → List Fate → ℕ → List Letter
outcome_in half to rows place = outcome_of half to (slice_get rows place)

-- ---- marks

-- no clock call owes anything on a recipient any more: the outcome is known, or the sender had notice
abbrev pub is_settled : List Mark → List Known → Id → Certified → Bool
is_settled marks known id certified =
    is_some (find (λ (row : Known). same_pair (pair_of id certified.address) row.pair) known)
    || is_some (find (λ (mark : Mark). is_notice mark.due && same_pair (pair_of id certified.address) mark.pair) marks)
