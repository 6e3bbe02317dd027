-- A book is read back from its text.
use Rattle.std.proofs.Common.{◌≡◌, ◌≢◌, ℕ, ◌<◌, ◌^◌, List, [], ◌∷◌, ◌++◌, codes, length, map, Option, Some, None, refl, sym, ◌∙◌, ap, arith}
use Rattle.std.proofs.lemmas.Bool.{false≢true}
use Rattle.std.proofs.lemmas.Option.{same_Some}
use Rattle.std.specs.Char.{is_ascii_digit}
use Rattle.std.specs.Fmt.{decimal}
use Rattle.std.specs.List.{AllByRecursion, list_all}
use Rattle.std.specs.Prelude.{find}
use Rattle.std.specs.Str.{bytes_eq}
use Rattle.pec_directory.specs.Directory.{Provider}
use Rattle.pec_directory.specs.Lawful.{IsLawful}
use Rattle.pec_types.specs.Bytes.{Bytes}
use Rattle.pec_types.specs.Message.{Id}
use Rattle.pec_types.specs.Words.{class_word, decision_word}
use Rattle.pec_types.specs.declared.messages.BookLine.{BookLine}
use Rattle.pec_types.specs.declared.messages.Class.{Class}
use Rattle.pec_types.specs.declared.messages.Class.TheVariants.{Primary, Copy}
use Rattle.pec_types.specs.declared.messages.Decision.{Decision}
use Rattle.pec_types.specs.declared.messages.Decision.TheVariants.{Placed, Refused}
use Rattle.pec_types.specs.declared.messages.Refusal.TheVariants.{NoMailbox, MailboxFull, Virus}
use Rattle.pec_script.specs.Printed.{IsBookLine, IsMomentOrNone, IsOutcome}
use Rattle.pec_script.specs.Rows.{AreRows, IsRow, IsWord}
use Rattle.pec_script.specs.Texts.{Row, book_row, book_text, id_of, moment_word, outcome_words}
use Rattle.pec_script.proofs.RowLemmas.{CutsTold, one_text, same_front}
use Rattle.pec_script.proofs.WordLemmas.{NamesTold, address_word, decimal_digits, decimal_word, id_of_word, one_decimal, one_id, text_word}

-- ---- words

pub class_is_word : (class : Class) → IsWord (class_word class)
class_is_word Primary = text_word (codes "primary") refl
class_is_word Copy = text_word (codes "copy") refl

pub decision_is_word : (decision : Decision) → IsWord (decision_word decision)
decision_is_word Placed = text_word (codes "delivered") refl
decision_is_word (Refused NoMailbox) = text_word (codes "no-mailbox") refl
decision_is_word (Refused MailboxFull) = text_word (codes "mailbox-full") refl
decision_is_word (Refused Virus) = text_word (codes "virus") refl

class_of : Bytes → Option Class
class_of word = find (λ class. bytes_eq word (class_word class)) (Primary ∷ Copy ∷ [])

class_again : (class : Class) → class_of (class_word class) ≡ Some class
unfolding class_of
class_again Primary = refl
class_again Copy = refl

pub one_class : (class other : Class) → class_word class ≡ class_word other → class ≡ other
one_class class other e = same_Some class other (sym (class_again class) ∙ (ap class_of e ∙ class_again other))

decision_of : Bytes → Option Decision
decision_of word = find (λ decision. bytes_eq word (decision_word decision)) (Placed ∷ Refused NoMailbox ∷ Refused MailboxFull ∷ Refused Virus ∷ [])

decision_again : (decision : Decision) → decision_of (decision_word decision) ≡ Some decision
unfolding decision_of
decision_again Placed = refl
decision_again (Refused NoMailbox) = refl
decision_again (Refused MailboxFull) = refl
decision_again (Refused Virus) = refl

pub one_decision : (decision other : Decision) → decision_word decision ≡ decision_word other → decision ≡ other
one_decision decision other e = same_Some decision other (sym (decision_again decision) ∙ (ap decision_of e ∙ decision_again other))

moment_is_word : (moment : Option ℕ) → IsMomentOrNone moment → IsWord (moment_word moment)
moment_is_word None is = text_word (codes "-") refl
moment_is_word (Some moment) is = decimal_word moment (omega arith)

-- a number isn't a hyphen
no_hyphen : (n : ℕ) → n < 2 ^ 64 → decimal n ≢ codes "-"
no_hyphen n small e = false≢true (sym (ap (list_all is_ascii_digit) e) ∙ decimal_digits n small)

one_moment : (moment other : Option ℕ) → IsMomentOrNone moment → IsMomentOrNone other → moment_word moment ≡ moment_word other → moment ≡ other
one_moment None None is also e = refl
one_moment None (Some other) is also e = absurd (no_hyphen other (omega arith) (sym e))
one_moment (Some moment) None is also e = absurd (no_hyphen moment (omega arith) e)
one_moment (Some moment) (Some other) is also e = ap (λ m. Some m) (one_decimal moment other (omega arith) (omega arith) e)

-- ---- rows

outcome_are_words : (outcome : Option (Decision × ℕ)) → IsOutcome outcome → AllByRecursion IsWord (outcome_words outcome)
outcome_are_words None is = (text_word (codes "open") refl, tt)
outcome_are_words (Some outcome) is = (decision_is_word outcome.0, (decimal_word outcome.1 (omega arith), tt))

abbrev decided : Decision → ℕ → Option (Decision × ℕ)
decided decision moment = Some (decision, moment)

one_outcome : (outcome other : Option (Decision × ℕ)) → IsOutcome outcome → IsOutcome other → outcome_words outcome ≡ outcome_words other → outcome ≡ other
one_outcome None None is also e = refl
one_outcome None (Some other) is also e = absurd cc
one_outcome (Some outcome) None is also e = absurd cc
one_outcome (Some outcome) (Some other) is also e =
    let word : decision_word outcome.0 ≡ decision_word other.0 = cc in
    let number : decimal outcome.1 ≡ decimal other.1 = cc in
    ap (λ decision. decided decision outcome.1) (one_decision outcome.0 other.0 word)
    ∙ ap (decided other.0) (one_decimal outcome.1 other.1 (omega arith) (omega arith) number)

book_is_row : NamesTold → (providers : List Provider) → IsLawful providers → (line : BookLine) → IsBookLine providers line → IsRow (book_row providers line)
unfolding book_row
book_is_row told providers lawful line is = record {
  some = omega arith;
  words = (
    id_of_word told providers line.id lawful is.id,
    (
      address_word told.pass line.recipient is.recipient,
      (
        class_is_word line.class,
        (
          decimal_word line.accepted (omega (arith, is.accepted)),
          (
            moment_is_word line.charged is.charged,
            (
              moment_is_word line.warned is.warned,
              (moment_is_word line.noticed is.noticed, outcome_are_words line.outcome is.outcome),
            ),
          ),
        ),
      ),
    ),
  );
}

line_with : Id → Bytes → Class → ℕ → Option ℕ → Option ℕ → Option ℕ → Option (Decision × ℕ) → BookLine
line_with id recipient class accepted charged warned noticed outcome =
    record { id = id; recipient = recipient; class = class; accepted = accepted; charged = charged; warned = warned; noticed = noticed; outcome = outcome }

same_with : (i j : Id) (r q : Bytes) (c d : Class) (a b : ℕ) (h k w x n m : Option ℕ) (o p : Option (Decision × ℕ)) → i ≡ j → r ≡ q → c ≡ d → a ≡ b → h ≡ k → w ≡ x → n ≡ m
    → o ≡ p → line_with i r c a h w n o ≡ line_with j q d b k x m p
same_with i j r q c d a b h k w x n m o p ij rq cd ab hk wx nm op = cc

-- a line is its parts
same : (line other : BookLine) → line.id ≡ other.id → line.recipient ≡ other.recipient → line.class ≡ other.class → line.accepted ≡ other.accepted
    → line.charged ≡ other.charged → line.warned ≡ other.warned → line.noticed ≡ other.noticed → line.outcome ≡ other.outcome → line ≡ other
unfolding line_with
same line other i r c a h w n o =
    same_with line.id other.id line.recipient other.recipient line.class other.class line.accepted other.accepted line.charged other.charged line.warned other.warned
    line.noticed other.noticed line.outcome other.outcome i r c a h w n o

one_book_line : NamesTold → (providers : List Provider) → IsLawful providers → (line other : BookLine) → IsBookLine providers line → IsBookLine providers other
    → book_row providers line ≡ book_row providers other → line ≡ other
unfolding book_row
one_book_line told providers lawful line other is also e =
    let id : id_of providers line.id ≡ id_of providers other.id = cc in
    let recipient : line.recipient ≡ other.recipient = cc in
    let class : class_word line.class ≡ class_word other.class = cc in
    let accepted : decimal line.accepted ≡ decimal other.accepted = cc in
    let charged : moment_word line.charged ≡ moment_word other.charged = cc in
    let warned : moment_word line.warned ≡ moment_word other.warned = cc in
    let noticed : moment_word line.noticed ≡ moment_word other.noticed = cc in
    let outcome : outcome_words line.outcome ≡ outcome_words other.outcome = cc in
    same line other
    (one_id told providers line.id other.id lawful is.id also.id id)
    recipient
    (one_class line.class other.class class)
    (one_decimal line.accepted other.accepted (omega (arith, is.accepted)) (omega (arith, also.accepted)) accepted)
    (one_moment line.charged other.charged is.charged also.charged charged)
    (one_moment line.warned other.warned is.warned also.warned warned)
    (one_moment line.noticed other.noticed is.noticed also.noticed noticed)
    (one_outcome line.outcome other.outcome is.outcome also.outcome outcome)

-- ---- books

books_are_rows : NamesTold → (providers : List Provider) → IsLawful providers → (lines : List BookLine) → AllByRecursion (IsBookLine providers) lines
    → (last : Row) → IsRow last → AreRows (map (book_row providers) lines ++ last ∷ [])
books_are_rows told providers lawful [] all last is = (is, tt)
books_are_rows told providers lawful (line ∷ lines) all last is = (book_is_row told providers lawful line all.0, books_are_rows told providers lawful lines all.1 last is)

one_book_rows : NamesTold → (providers : List Provider) → IsLawful providers → (lines others : List BookLine) → AllByRecursion (IsBookLine providers) lines
    → AllByRecursion (IsBookLine providers) others → map (book_row providers) lines ≡ map (book_row providers) others → lines ≡ others
one_book_rows told providers lawful [] [] all alls e = refl
one_book_rows told providers lawful [] (other ∷ others) all alls e = absurd cc
one_book_rows told providers lawful (line ∷ lines) [] all alls e = absurd cc
one_book_rows told providers lawful (line ∷ lines) (other ∷ others) all alls e =
    let first : book_row providers line ≡ book_row providers other = cc in
    let rest : map (book_row providers) lines ≡ map (book_row providers) others = cc in
    ap (λ l. l ∷ lines) (one_book_line told providers lawful line other all.0 alls.0 first)
    ∙ ap (λ ls. other ∷ ls) (one_book_rows told providers lawful lines others all.1 alls.1 rest)

pub count_is_row : (word : Bytes) → IsWord word → (count : ℕ) → count < 2 ^ 64 → IsRow (word ∷ decimal count ∷ [])
count_is_row word is count small = record { some = omega arith; words = (is, (decimal_word count small, tt)) }

pub one_book : CutsTold → NamesTold → (providers : List Provider) → IsLawful providers → (lines others : List BookLine) → AllByRecursion (IsBookLine providers) lines
    → AllByRecursion (IsBookLine providers) others → length lines < 2 ^ 64 → length others < 2 ^ 64 → book_text providers lines ≡ book_text providers others → lines ≡ others
unfolding book_text
one_book cuts told providers lawful lines others all alls few less e =
    let row : (ls : List BookLine) → Row = λ ls. codes "book" ∷ decimal (length ls) ∷ [] in
    one_book_rows told providers lawful lines others all alls
    (same_front (map (book_row providers) lines) (map (book_row providers) others) (row lines) (row others)
    (one_text cuts (map (book_row providers) lines ++ row lines ∷ []) (map (book_row providers) others ++ row others ∷ [])
    (books_are_rows told providers lawful lines all (row lines) (count_is_row (codes "book") (text_word (codes "book") refl) (length lines) few))
    (books_are_rows told providers lawful others alls (row others) (count_is_row (codes "book") (text_word (codes "book") refl) (length others) less)) e))
