-- The letters that are due are the answers and then the others, up to the room; and frames come letter by letter.
use Rattle.std.proofs.Common.{◌≡◌, ℕ, zero, suc, ◌-◌, List, [], ◌∷◌, ◌++◌, length, take, Option, None, Some, refl, ap, sym, ◌∙◌, arith}
use Rattle.std.specs.List.{cons_option, filter_map}
use Rattle.std.specs.Option.{option_to_list}
use Rattle.std.proofs.lemmas.List.Elements.{filter_map-append}
use Rattle.pec_types.specs.declared.letters.Letter.{Letter}
use Rattle.pec_records.specs.declared.entries.Entry.{Entry}
use Rattle.pec_ledger.specs.Due.{answers_to, due_letters, envelopes_from, outcomes_to}
use Rattle.pec_ledger.specs.Half.{Half}
use Rattle.pec_ledger.specs.Trade.{Trade}
use Rattle.pec_plays.specs.Frames.{due_frames, frame_of}
use Rattle.pec_shelf.specs.Seen.{Seen}
use Rattle.pec_outgoing.specs.Desk.{IsHalfOf}

-- ---- all letters

-- what is taken of two lists is taken of the first, and then of the second
take_both : {X : Type 0} (n : ℕ) (xs ys : List X) → take n (xs ++ ys) ≡ take n xs ++ take (n - length (take n xs)) ys
take_both zero xs ys = refl
take_both (suc n) [] ys = ap (λ k. take k ys) (let e : suc n ≡ suc n - 0 = omega arith in e)
take_both (suc n) (x ∷ xs) ys =
    ap (λ zs. x ∷ zs) (take_both n xs ys)
    ∙ ap (λ k. x ∷ (take n xs ++ take k ys)) (let e : n - length (take n xs)
    ≡ suc n - length (x ∷ take n xs) = omega arith in e)

-- the answers that have room, and the other letters up to the room that is left
pub all_due : (trade : Trade) (me : ℕ) (h : Half) (to room : ℕ) (owed first rest : List Letter)
    → first ≡ take room (answers_to trade to owed) → rest ≡ due_letters trade me h to (room - length first) []
    → first ++ rest ≡ due_letters trade me h to room owed
unfolding due_letters
all_due trade me h to room owed first rest a b =
    let others : List Letter = outcomes_to h to ++ envelopes_from trade me h to 0 h.messages
    in ap (λ (xs : List Letter). first ++ xs) b
    ∙ ap (λ (xs : List Letter). xs ++ take (room - length xs) others) a
    ∙ sym (take_both room (answers_to trade to owed) others)

-- ---- frames

pub frames_due : (trade : Trade) (journal : List Entry) (shelf : Seen) (to room : ℕ) (owed : List Letter)
    → IsHalfOf trade journal shelf
    → filter_map (frame_of trade shelf.me journal) (due_letters trade shelf.me shelf.half to room owed)
    ≡ due_frames trade shelf.me journal to room owed
unfolding due_frames
frames_due trade journal shelf to room owed is =
    ap (λ (h : Half). filter_map (frame_of trade shelf.me journal) (due_letters trade shelf.me h to room owed)) is.half_is

one_or_none : {Y : Type 0} (o : Option Y) → cons_option o [] ≡ option_to_list o
one_or_none None = refl
one_or_none (Some y) = refl

pub one_more : {X Y : Type 0} (f : X → Option Y) (xs : List X) (x : X) → filter_map f (xs ++ x ∷ [])
    ≡ filter_map f xs ++ option_to_list (f x)
one_more f xs x = filter_map-append f xs (x ∷ []) ∙ ap (λ ys. filter_map f xs ++ ys) (one_or_none (f x))
