-- The marks of a clock call and the faults of refused lines are read back from their texts.
use Rattle.std.proofs.Common.{◌≡◌, ◌≢◌, ℕ, ◌<◌, ◌^◌, false, List, [], ◌∷◌, ◌++◌, codes, map, Option, Some, None, refl, sym, ◌∙◌, ap, arith}
use Rattle.std.proofs.lemmas.Bool.{false≢true}
use Rattle.std.proofs.lemmas.Option.{same_Some}
use Rattle.std.proofs.lemmas.Slice.Eq.{bytes_eq-Decides}
use Rattle.std.specs.Fmt.{decimal}
use Rattle.std.specs.List.{AllByRecursion, flat_map}
use Rattle.std.specs.Prelude.{find}
use Rattle.std.specs.Str.{bytes_eq}
use Rattle.pec_directory.specs.Directory.{Provider}
use Rattle.pec_directory.specs.Lawful.{IsLawful}
use Rattle.pec_types.specs.Bytes.{Bytes}
use Rattle.pec_types.specs.Message.{Id}
use Rattle.pec_types.specs.declared.limits.Due.{Due}
use Rattle.pec_types.specs.declared.limits.Due.TheVariants as dues
use Rattle.pec_kinds.specs.declared.mailboxes.Mark.{Mark}
use Rattle.pec_script.specs.Printed.{IsLineRefusal, IsMark}
use Rattle.pec_script.specs.Rows.{AreRows, IsRow, IsWord}
use Rattle.pec_script.specs.Texts.{Row, id_of, mark_rows, mark_word, marked, marks_text, refused_rows, refused_text, text_of}
use Rattle.pec_script.specs.declared.faults.LineFault.{LineFault}
use Rattle.pec_script.specs.declared.faults.LineFault.TheVariants as faults
use Rattle.pec_script.proofs.RowLemmas.{CutsTold, one_text, same_front}
use Rattle.pec_script.proofs.WordLemmas.{NamesTold, address_word, decimal_word, id_of_word, one_decimal, one_id, text_word}

-- ---- marks

unfoldable word_in : Option Bytes → Bytes
word_in None = []
word_in (Some word) = word

-- the word of a mark of which something is due
word_of : Due → Bytes
word_of due = word_in (mark_word due)

due_of : Bytes → Option Due
due_of word = find (λ due. bytes_eq word (word_of due)) (dues.Warning ∷ dues.Notice ∷ dues.LateNotice ∷ [])

due_again : (due : Due) → due ≢ dues.Nothing → due_of (word_of due) ≡ Some due
unfolding due_of word_of word_in
due_again dues.Nothing some = absurd (some refl)
due_again dues.Warning some = refl
due_again dues.Notice some = refl
due_again dues.LateNotice some = refl

one_due : (due other : Due) → due ≢ dues.Nothing → other ≢ dues.Nothing → word_of due ≡ word_of other → due ≡ other
one_due due other some also e = same_Some due other (sym (due_again due some) ∙ (ap due_of e ∙ due_again other also))

due_is_word : (due : Due) → due ≢ dues.Nothing → IsWord (word_of due)
unfolding word_of word_in
due_is_word dues.Nothing some = absurd (some refl)
due_is_word dues.Warning some = text_word (codes "warned") refl
due_is_word dues.Notice some = text_word (codes "noticed") refl
due_is_word dues.LateNotice some = text_word (codes "noticed-late") refl

-- the line of a mark
row_of : List Provider → Mark → Row
row_of providers mark = word_of mark.due ∷ id_of providers mark.id ∷ mark.recipient ∷ []

marked_is : (words : Row) (due : Due) → due ≢ dues.Nothing → marked (mark_word due) words ≡ (word_of due ∷ words) ∷ []
unfolding word_of word_in
marked_is words dues.Nothing some = absurd (some refl)
marked_is words dues.Warning some = refl
marked_is words dues.Notice some = refl
marked_is words dues.LateNotice some = refl

rows_are : (providers : List Provider) (marks : List Mark) → AllByRecursion (IsMark providers) marks → flat_map (mark_rows providers) marks ≡ map (row_of providers) marks
unfolding row_of
rows_are providers [] all = refl
rows_are providers (mark ∷ marks) all =
    ap (λ rows. rows ++ flat_map (mark_rows providers) marks) (marked_is (id_of providers mark.id ∷ mark.recipient ∷ []) mark.due all.0.some)
    ∙ ap (λ rows. row_of providers mark ∷ rows) (rows_are providers marks all.1)

mark_is_row : NamesTold → (providers : List Provider) → IsLawful providers → (mark : Mark) → IsMark providers mark → IsRow (row_of providers mark)
unfolding row_of
mark_is_row told providers lawful mark is = record {
  some = omega arith;
  words = (due_is_word mark.due is.some, (id_of_word told providers mark.id lawful is.id, (address_word told.pass mark.recipient is.recipient, tt)));
}

marks_are_rows : NamesTold → (providers : List Provider) → IsLawful providers → (marks : List Mark) → AllByRecursion (IsMark providers) marks
    → (last : Row) → IsRow last → AreRows (map (row_of providers) marks ++ last ∷ [])
marks_are_rows told providers lawful [] all last is = (is, tt)
marks_are_rows told providers lawful (mark ∷ marks) all last is = (mark_is_row told providers lawful mark all.0, marks_are_rows told providers lawful marks all.1 last is)

mark_with : Id → Bytes → Due → Mark
mark_with id recipient due = record { id = id; recipient = recipient; due = due }

same_with : (i j : Id) (r q : Bytes) (d c : Due) → i ≡ j → r ≡ q → d ≡ c → mark_with i r d ≡ mark_with j q c
same_with i j r q d c ij rq dc = cc

same_mark : (mark other : Mark) → mark.id ≡ other.id → mark.recipient ≡ other.recipient → mark.due ≡ other.due → mark ≡ other
unfolding mark_with
same_mark mark other i r d = same_with mark.id other.id mark.recipient other.recipient mark.due other.due i r d

one_mark : NamesTold → (providers : List Provider) → IsLawful providers → (mark other : Mark) → IsMark providers mark → IsMark providers other
    → row_of providers mark ≡ row_of providers other → mark ≡ other
unfolding row_of
one_mark told providers lawful mark other is also e =
    let word : word_of mark.due ≡ word_of other.due = cc in
    let id : id_of providers mark.id ≡ id_of providers other.id = cc in
    let recipient : mark.recipient ≡ other.recipient = cc in
    same_mark mark other (one_id told providers mark.id other.id lawful is.id also.id id) recipient (one_due mark.due other.due is.some also.some word)

one_marks_rows : NamesTold → (providers : List Provider) → IsLawful providers → (marks others : List Mark) → AllByRecursion (IsMark providers) marks
    → AllByRecursion (IsMark providers) others → map (row_of providers) marks ≡ map (row_of providers) others → marks ≡ others
one_marks_rows told providers lawful [] [] all alls e = refl
one_marks_rows told providers lawful [] (other ∷ others) all alls e = absurd cc
one_marks_rows told providers lawful (mark ∷ marks) [] all alls e = absurd cc
one_marks_rows told providers lawful (mark ∷ marks) (other ∷ others) all alls e =
    let first : row_of providers mark ≡ row_of providers other = cc in
    let rest : map (row_of providers) marks ≡ map (row_of providers) others = cc in
    ap (λ m. m ∷ marks) (one_mark told providers lawful mark other all.0 alls.0 first)
    ∙ ap (λ ms. other ∷ ms) (one_marks_rows told providers lawful marks others all.1 alls.1 rest)

ticked : Row
ticked = codes "ticked" ∷ []

ticked_is_row : IsRow ticked
unfolding ticked
ticked_is_row = record { some = omega arith; words = (text_word (codes "ticked") refl, tt) }

pub one_marks : CutsTold → NamesTold → (providers : List Provider) → IsLawful providers → (marks others : List Mark) → AllByRecursion (IsMark providers) marks
    → AllByRecursion (IsMark providers) others → marks_text providers marks ≡ marks_text providers others → marks ≡ others
unfolding marks_text ticked
one_marks cuts told providers lawful marks others all alls e =
    let lines : (ms : List Mark) → List Row = λ ms. map (row_of providers) ms ++ ticked ∷ [] in
    one_marks_rows told providers lawful marks others all alls
    (same_front (map (row_of providers) marks) (map (row_of providers) others) ticked ticked
    (one_text cuts (lines marks) (lines others) (marks_are_rows told providers lawful marks all ticked ticked_is_row) (marks_are_rows told providers lawful others alls ticked ticked_is_row)
    (sym (ap (λ rows. text_of (rows ++ ticked ∷ [])) (rows_are providers marks all)) ∙ (e ∙ ap (λ rows. text_of (rows ++ ticked ∷ [])) (rows_are providers others alls)))))

-- ---- refused lines

refused_are_rows : (line : ℕ) → line < 2 ^ 64 → (fault : LineFault) → IsLineRefusal fault → AreRows (refused_rows line fault)
refused_are_rows line small faults.UnknownWord is =
    (record { some = omega arith; words = (text_word (codes "refused") refl, (text_word (codes "line") refl, (decimal_word line small, (text_word (codes "unknown-word") refl, tt)))) }, tt)
refused_are_rows line small faults.Arity is =
    (record { some = omega arith; words = (text_word (codes "refused") refl, (text_word (codes "line") refl, (decimal_word line small, (text_word (codes "arity") refl, tt)))) }, tt)
refused_are_rows line small (faults.BadNumber number) is =
    (record { some = omega arith; words = (text_word (codes "refused") refl, (text_word (codes "line") refl, (decimal_word line small, (text_word (codes "bad-number") refl, (decimal_word number (omega arith), tt))))) }, tt)
refused_are_rows line small (faults.BadAddress number) is =
    (record { some = omega arith; words = (text_word (codes "refused") refl, (text_word (codes "line") refl, (decimal_word line small, (text_word (codes "bad-address") refl, (decimal_word number (omega arith), tt))))) }, tt)
refused_are_rows line small (faults.BadBase64 number) is =
    (record { some = omega arith; words = (text_word (codes "refused") refl, (text_word (codes "line") refl, (decimal_word line small, (text_word (codes "bad-base64") refl, (decimal_word number (omega arith), tt))))) }, tt)
refused_are_rows line small (faults.UnknownProvider number) is =
    (record { some = omega arith; words = (text_word (codes "refused") refl, (text_word (codes "line") refl, (decimal_word line small, (text_word (codes "unknown-provider") refl, (decimal_word number (omega arith), tt))))) }, tt)
refused_are_rows line small faults.NoMemory is = absurd is

unfoldable behind : Row → Row
behind [] = []
behind (word ∷ words) = words

unfoldable begins : Row → Bytes
begins [] = []
begins (word ∷ words) = word

unfoldable only_row : List Row → Row
only_row [] = []
only_row (row ∷ rows) = row

-- the line's number, the fault's word, and the argument's number
line_in : List Row → Bytes
line_in rows = begins (behind (behind (only_row rows)))

word_at : List Row → Bytes
word_at rows = begins (behind (behind (behind (only_row rows))))

number_in : List Row → Bytes
number_in rows = begins (behind (behind (behind (behind (only_row rows)))))

word_apart : (rows others : List Row) → rows ≡ others → bytes_eq (word_at rows) (word_at others) ≡ false → ⊥
word_apart rows others e test = false≢true (sym test ∙ (bytes_eq-Decides (word_at rows) (word_at others)).1 (ap word_at e))

numbers : (n m : ℕ) → n < 256 → m < 256 → decimal n ≡ decimal m → n ≡ m
numbers n m small less e = one_decimal n m (omega arith) (omega arith) e

one_fault : (line also : ℕ) (fault other : LineFault) → IsLineRefusal fault → IsLineRefusal other → refused_rows line fault ≡ refused_rows also other → fault ≡ other
unfolding word_at number_in behind begins only_row
one_fault line also faults.UnknownWord faults.UnknownWord is too e = refl
one_fault line also faults.UnknownWord other is too e = absurd (word_apart _ _ e refl)
one_fault line also faults.Arity faults.Arity is too e = refl
one_fault line also faults.Arity other is too e = absurd (word_apart _ _ e refl)
one_fault line also (faults.BadNumber number) (faults.BadNumber more) is too e = ap (λ n. faults.BadNumber n) (numbers number more is too (ap number_in e))
one_fault line also (faults.BadNumber number) other is too e = absurd (word_apart _ _ e refl)
one_fault line also (faults.BadAddress number) (faults.BadAddress more) is too e = ap (λ n. faults.BadAddress n) (numbers number more is too (ap number_in e))
one_fault line also (faults.BadAddress number) other is too e = absurd (word_apart _ _ e refl)
one_fault line also (faults.BadBase64 number) (faults.BadBase64 more) is too e = ap (λ n. faults.BadBase64 n) (numbers number more is too (ap number_in e))
one_fault line also (faults.BadBase64 number) other is too e = absurd (word_apart _ _ e refl)
one_fault line also (faults.UnknownProvider number) (faults.UnknownProvider more) is too e = ap (λ n. faults.UnknownProvider n) (numbers number more is too (ap number_in e))
one_fault line also (faults.UnknownProvider number) other is too e = absurd (word_apart _ _ e refl)
one_fault line also faults.NoMemory other is too e = absurd is

line_told : (line : ℕ) (fault : LineFault) → IsLineRefusal fault → line_in (refused_rows line fault) ≡ decimal line
unfolding line_in behind begins only_row
line_told line faults.UnknownWord is = refl
line_told line faults.Arity is = refl
line_told line (faults.BadNumber number) is = refl
line_told line (faults.BadAddress number) is = refl
line_told line (faults.BadBase64 number) is = refl
line_told line (faults.UnknownProvider number) is = refl
line_told line faults.NoMemory is = absurd is

pub one_refused : CutsTold → (line also : ℕ) (fault other : LineFault) → line < 2 ^ 64 → also < 2 ^ 64 → IsLineRefusal fault → IsLineRefusal other
    → refused_text line fault ≡ refused_text also other → (line ≡ also) × (fault ≡ other)
unfolding refused_text
one_refused cuts line also fault other small less is too e =
    let rows : refused_rows line fault ≡ refused_rows also other = one_text cuts (refused_rows line fault) (refused_rows also other) (refused_are_rows line small fault is) (refused_are_rows also less other too) e in
    (one_decimal line also small less (sym (line_told line fault is) ∙ (ap line_in rows ∙ line_told also other too)), one_fault line also fault other is too rows)
