-- A book from the rows of its account alone.
use Rattle.std.proofs.Common.{◌≡◌, ℕ, suc, ◌+◌, ◌≤◌, ◌==◌, Bool, true, false, cond, List, [], ◌∷◌, ◌++◌, length, map, take, refl, sym, ap, ◌∙◌, arith, Some, slice_get}
use Rattle.std.specs.List.{flat_map}
use Rattle.std.specs.Str.{bytes_eq}
use Rattle.std.specs.Cmp.Lexicographic.{bytes_decides}
use Rattle.std.proofs.lemmas.Bool.{cases_Bool, false≢true}
use Rattle.std.proofs.lemmas.Bool.Decides.{nat_tests}
use Rattle.pec_types.specs.Bytes.{Bytes}
use Rattle.pec_types.specs.declared.messages.BookLine.{BookLine}
use Rattle.pec_ledger.specs.Half.{Half, Message}
use Rattle.pec_ledger.specs.Pairs.{id_of}
use Rattle.pec_shelf.specs.Drawers.{is_own, own_numbered}
use Rattle.pec_shelf.specs.Lines.{book_rows, line_at, lines_at, lines_by}
use Rattle.pec_shelf.specs.Sides.{Kept, booked_by}
use Rattle.pec_shelf.specs.declared.certified.Certified.{Certified}
use Rattle.pec_shelf.proofs.DrawerLemmas.{flat_more, took_all}
use mathlib.Core.Logic.{⊎_elim}

either_order : (a b : Bytes) → bytes_eq a b ≡ bytes_eq b a
either_order a b =
    ⊎_elim
    (λ yes. yes ∙ sym ((bytes_decides b a).1 (sym ((bytes_decides a b).0 yes))))
    (λ no.
    ⊎_elim
    (λ yes. absurd (false≢true (sym no ∙ (bytes_decides a b).1 (sym ((bytes_decides b a).0 yes)))))
    (λ other. no ∙ sym other)
    (cases_Bool (bytes_eq b a)))
    (cases_Bool (bytes_eq a b))

neither : {X : Type 0} (b : Bool) (xs : List X) → cond b xs xs ≡ xs
neither true xs = refl
neither false xs = refl

some_left : (n : ℕ) → (suc n == 0) ≡ false
some_left n = grind (arith, nat_tests)

-- a message of the account, or of another one
booked : (me : ℕ) (half : Half) (account : Bytes) (number : ℕ) (message : Message) (certified : List Certified) (rest : List (ℕ × Kept)) (lines : List BookLine)
    → flat_map (lines_by me half) rest ≡ lines
    → flat_map (lines_by me half) (cond (is_own account (booked_by (record { message = message; certified = certified }))) ((number, record { message = message; certified = certified }) ∷ rest) rest)
    ≡ lines_at half account (id_of me number) (record { message = message; certified = certified }) ++ lines
booked me half account number message [] rest lines more =
    more ∙ sym (ap (λ ls. ls ++ lines) (neither (bytes_eq message.sender account) []))
booked me half account number message (c ∷ cs) rest lines more =
    rw (some_left (length cs), either_order account message.sender) (by (bytes_eq message.sender account))
  where
    by : (b : Bool) → flat_map (lines_by me half) (cond b ((number, record { message = message; certified = c ∷ cs }) ∷ rest) rest)
        ≡ cond b (map (line_at half (id_of me number) message.moment) (c ∷ cs)) [] ++ lines
    by true = ap (λ ls. map (line_at half (id_of me number) message.moment) (c ∷ cs) ++ ls) more
    by false = more

own_lines : (me : ℕ) (half : Half) (account : Bytes) (number : ℕ) (rows : List Kept)
    → flat_map (lines_by me half) (own_numbered booked_by account number rows) ≡ book_rows me half account number rows
own_lines me half account number [] = refl
own_lines me half account number (row ∷ rows) =
    booked me half account number row.message row.certified (own_numbered booked_by account (number + 1) rows) (book_rows me half account (number + 1) rows)
    (own_lines me half account (number + 1) rows)

pub lines_more : (me : ℕ) (half : Half) (own : List (ℕ × Kept)) (n : ℕ) (numbered : ℕ × Kept) (old new : List BookLine) → old ≡ flat_map (lines_by me half) (take n own)
    → Some numbered ≡ slice_get own n → new ≡ old ++ lines_by me half numbered → new ≡ flat_map (lines_by me half) (take (n + 1) own)
lines_more me half own n numbered old new h got more = flat_more (lines_by me half) own n numbered old new h got more

pub all_lines : (me : ℕ) (half : Half) (account : Bytes) (rows : List Kept) (n : ℕ) (lines : List BookLine)
    → lines ≡ flat_map (lines_by me half) (take n (own_numbered booked_by account 0 rows)) → length (own_numbered booked_by account 0 rows) ≤ n
    → lines ≡ book_rows me half account 0 rows
all_lines me half account rows n lines h l =
    h ∙ ap (flat_map (lines_by me half)) (took_all (own_numbered booked_by account 0 rows) n l) ∙ own_lines me half account 0 rows
