-- A text of lines is read back, line by line and word by word.
use Rattle.std.proofs.Common.{◌≡◌, ℕ, ◌+◌, ◌<◌, ◌≤◌, ◌↔◌, List, [], ◌∷◌, ◌++◌, length, drop, map, refl, sym, ◌∙◌, ap, append_assoc, append-nil, arith}
use Rattle.std.proofs.lemmas.List.{at_drop_all, length-append}
use Rattle.std.proofs.lemmas.List.Splits.{length-slice_split}
use Rattle.std.specs.Prelude.{count_by}
use Rattle.std.specs.List.{AllByRecursion, flat_map, join_with_byte, slice_split}
use Rattle.pec_directory.specs.Directory.{Provider}
use Rattle.pec_types.specs.Bytes.{Bytes, line_feed, space}
use Rattle.pec_types.specs.declared.turns.Event.{Event}
use Rattle.pec_kinds.specs.declared.turns.Turn.{Turn}
use Rattle.pec_words.specs.Cuts.{IsCut, Lacks, is_at}
use Rattle.pec_script.specs.Pages.{line_after, only, rest_after, text_after, text_for}
use Rattle.pec_script.specs.Rows.{AreRows, IsRow, IsWord}
use Rattle.pec_script.specs.Texts.{Row, ended_rows, event_row, line_of, name_of, sent_rows, text_of, turn_rows}

-- there is one part more than there are separators
pub parts_count : (c : ℕ) (text : Bytes) → length (slice_split (is_at c) text) ≡ count_by (is_at c) text + 1
parts_count c text = length-slice_split (is_at c) text

pub lacks_append : (c : ℕ) (xs ys : Bytes) → Lacks c xs → Lacks c ys → Lacks c (xs ++ ys)
lacks_append c [] ys h k = k
lacks_append c (x ∷ xs) ys h k = (h.0, lacks_append c xs ys h.1 k)

feedless_words : (words : Row) → AllByRecursion IsWord words → Lacks line_feed (join_with_byte space words)
feedless_words [] all = tt
feedless_words (word ∷ []) all = all.0.feedless
feedless_words (word ∷ next ∷ words) all =
    lacks_append line_feed word (space ∷ join_with_byte space (next ∷ words)) all.0.feedless ((λ e. let h : ⊥ = omega arith in h), feedless_words (next ∷ words) all.1)

spaceless_words : (words : Row) → AllByRecursion IsWord words → AllByRecursion (Lacks space) words
spaceless_words [] all = tt
spaceless_words (word ∷ words) all = (all.0.spaceless, spaceless_words words all.1)

-- what stands before the line feeds
abbrev said : List Row → List Bytes
said rows = map (join_with_byte space) rows

-- with nothing behind the last line feed, a text is all these, joined by line feeds
text_joined : (rows : List Row) → text_of rows ≡ join_with_byte line_feed (said rows ++ [] ∷ [])
unfolding line_of
text_joined [] = refl
text_joined (row ∷ []) = append-nil (join_with_byte space row ++ line_feed ∷ [])
text_joined (row ∷ next ∷ rows) =
    append_assoc (join_with_byte space row) (line_feed ∷ []) (text_of (next ∷ rows))
    ∙ ap (λ t. join_with_byte space row ++ line_feed ∷ t) (text_joined (next ∷ rows))

feedless_rows : (rows : List Row) → AreRows rows → AllByRecursion (Lacks line_feed) (said rows ++ [] ∷ [])
feedless_rows [] all = (tt, tt)
feedless_rows (row ∷ rows) all = (feedless_words row all.0.words, feedless_rows rows all.1)

-- what a law of cuts says
abbrev pub CutsTold : Type 0
CutsTold = (separator : ℕ) (text : Bytes) (parts : List Bytes) → IsCut separator text parts ↔ (slice_split (is_at separator) text ≡ parts)

parts_again : CutsTold → (c : ℕ) (parts : List Bytes) → 0 < length parts → AllByRecursion (Lacks c) parts → slice_split (is_at c) (join_with_byte c parts) ≡ parts
parts_again cuts c parts some whole = (cuts c (join_with_byte c parts) parts).0 (record { some = some; joined = refl; whole = whole })

-- cut at its line feeds, a text is what its lines say, and nothing behind the last
lines_in : CutsTold → (rows : List Row) → AreRows rows → slice_split (is_at line_feed) (text_of rows) ≡ said rows ++ [] ∷ []
lines_in cuts rows all =
    ap (slice_split (is_at line_feed)) (text_joined rows)
    ∙ parts_again cuts line_feed (said rows ++ [] ∷ []) (omega (arith, length-append (said rows) ([] ∷ []))) (feedless_rows rows all)

pub same_front : {X : Type 0} (xs ys : List X) (x y : X) → xs ++ x ∷ [] ≡ ys ++ y ∷ [] → xs ≡ ys
same_front [] [] x y e = refl
same_front [] (b ∷ ys) x y e = absurd (omega (arith, ap (λ l. length l) e, length-append ys (y ∷ [])))
same_front (a ∷ xs) [] x y e = absurd (omega (arith, ap (λ l. length l) e, length-append xs (x ∷ [])))
same_front (a ∷ xs) (b ∷ ys) x y e =
    let first : a ≡ b = cc in
    let rest : xs ++ x ∷ [] ≡ ys ++ y ∷ [] = cc in
    ap (λ c. c ∷ xs) first ∙ ap (λ l. b ∷ l) (same_front xs ys x y rest)

words_in : CutsTold → (row other : Row) → IsRow row → IsRow other → join_with_byte space row ≡ join_with_byte space other → row ≡ other
words_in cuts row other first second e =
    sym (parts_again cuts space row first.some (spaceless_words row first.words))
    ∙ (ap (slice_split (is_at space)) e ∙ parts_again cuts space other second.some (spaceless_words other second.words))

rows_in : CutsTold → (rows others : List Row) → AreRows rows → AreRows others → said rows ≡ said others → rows ≡ others
rows_in cuts [] [] all alls e = refl
rows_in cuts [] (other ∷ others) all alls e = absurd cc
rows_in cuts (row ∷ rows) [] all alls e = absurd cc
rows_in cuts (row ∷ rows) (other ∷ others) all alls e =
    let first : join_with_byte space row ≡ join_with_byte space other = cc in
    let rest : said rows ≡ said others = cc in
    ap (λ r. r ∷ rows) (words_in cuts row other all.0 alls.0 first) ∙ ap (λ rs. other ∷ rs) (rows_in cuts rows others all.1 alls.1 rest)

-- a text is made of one list of lines
pub one_text : CutsTold → (rows others : List Row) → AreRows rows → AreRows others → text_of rows ≡ text_of others → rows ≡ others
one_text cuts rows others all alls e =
    rows_in cuts rows others all alls
    (same_front (said rows) (said others) [] [] (sym (lines_in cuts rows all) ∙ (ap (slice_split (is_at line_feed)) e ∙ lines_in cuts others alls)))

-- ---- lines that are put one after another

rest_is : (text word : Bytes) (words : Row) → rest_after (text ++ word) words ≡ text ++ (join_with_byte space (word ∷ words) ++ line_feed ∷ [])
rest_is text word [] = append_assoc text word (line_feed ∷ [])
rest_is text word (next ∷ words) =
    let further = join_with_byte space (next ∷ words) in
    rest_is ((text ++ word) ++ space ∷ []) next words
    ∙ (append_assoc (text ++ word) (space ∷ []) (further ++ line_feed ∷ [])
    ∙ (append_assoc text word (space ∷ (further ++ line_feed ∷ []))
    ∙ ap (λ t. text ++ t) (sym (append_assoc word (space ∷ further) (line_feed ∷ [])))))

pub line_is : (text : Bytes) (row : Row) → line_after text row ≡ text ++ line_of row
unfolding line_of
line_is text [] = refl
line_is text (word ∷ words) = rest_is text word words

pub text_after_is : (text : Bytes) (rows : List Row) → text_after text rows ≡ text ++ text_of rows
text_after_is text [] = sym (append-nil text)
text_after_is text (row ∷ rows) =
    text_after_is (line_after text row) rows
    ∙ (ap (λ t. t ++ text_of rows) (line_is text row) ∙ append_assoc text (line_of row) (text_of rows))

pub text_is : (rows : List Row) → text_after [] rows ≡ text_of rows
text_is rows = text_after_is [] rows

pub text_further : (text : Bytes) (rows more : List Row) → text_after text (rows ++ more) ≡ text_after (text_after text rows) more
text_further text [] more = refl
text_further text (row ∷ rows) more = text_further (line_after text row) rows more

pub text_for_is : {X : Type 0} (rows : X → List Row) (text : Bytes) (xs : List X) → text_for rows text xs ≡ text_after text (flat_map rows xs)
text_for_is rows text [] = refl
text_for_is rows text (x ∷ xs) = text_for_is rows (text_after text (rows x)) xs ∙ sym (text_further text (rows x) (flat_map rows xs))

pub only_map : {X : Type 0} (row : X → Row) (xs : List X) → flat_map (λ x. only (row x)) xs ≡ map row xs
only_map row [] = refl
only_map row (x ∷ xs) = ap (λ rest. row x ∷ rest) (only_map row xs)

-- a last line behind others
pub last_line : (rows : List Row) (last : Row) (text : Bytes) → text ≡ text_after [] rows → line_after text last ≡ text_of (rows ++ last ∷ [])
last_line rows last text e = ap (λ t. line_after t last) e ∙ (sym (text_further [] rows (last ∷ [])) ∙ text_is (rows ++ last ∷ []))

pub last_of_many : {X : Type 0} (rows : X → List Row) (xs : List X) (last : Row) (text : Bytes) → text ≡ text_for rows [] xs
    → line_after text last ≡ text_of (flat_map rows xs ++ last ∷ [])
last_of_many rows xs last text e = last_line (flat_map rows xs) last text (e ∙ text_for_is rows [] xs)

pub last_of_each : {X : Type 0} (row : X → Row) (xs : List X) (last : Row) (text : Bytes) → text ≡ text_for (λ x. only (row x)) [] xs
    → line_after text last ≡ text_of (map row xs ++ last ∷ [])
last_of_each row xs last text e = last_line (map row xs) last text (e ∙ (text_for_is (λ x. only (row x)) [] xs ∙ ap (text_after []) (only_map row xs)))

-- the three parts of a turn
pub three_parts : {X Y : Type 0} (row : X → Row) (rows : Y → List Row) (text : Bytes) (xs : List X) (ys : List Y) (end : List Row)
    → text_after (text_for rows (text_for (λ x. only (row x)) text xs) ys) end ≡ text_after text (map row xs ++ flat_map rows ys ++ end)
three_parts row rows text xs ys end =
    ap (λ t. text_after (text_for rows t ys) end) (text_for_is (λ x. only (row x)) text xs ∙ ap (text_after text) (only_map row xs))
    ∙ (ap (λ t. text_after t end) (text_for_is rows (text_after text (map row xs)) ys ∙ sym (text_further text (map row xs) (flat_map rows ys)))
    ∙ sym (text_further text (map row xs ++ flat_map rows ys) end))

-- ---- loops

-- behind the last one the text is whole
pub none_left : {X : Type 0} (rows : X → List Row) (text : Bytes) (xs : List X) (at : ℕ) (whole : Bytes) → length xs ≤ at
    → text_for rows text (drop at xs) ≡ whole → text ≡ whole
none_left rows text xs at whole past e = sym (at_drop_all (text_for rows text) xs at past) ∙ e

pub turn_text : (providers : List Provider) (turn : Turn) (name text first second third : Bytes) (events : List Event) (sent : List (ℕ × ℕ))
    → name ≡ name_of providers turn.provider → events ≡ turn.events → sent ≡ turn.sent
    → first ≡ text_for (λ (event : Event). only (event_row providers name event)) text events
    → second ≡ text_for (sent_rows providers name) first sent
    → third ≡ text_after second (ended_rows name turn.ended) → third ≡ text_after text (turn_rows providers turn)
unfolding turn_rows
turn_text providers turn name text first second third events sent n es ss a b c =
    c ∙ (ap (λ t. text_after t (ended_rows name turn.ended)) (b ∙ ap (λ t. text_for (sent_rows providers name) t sent) a)
    ∙ (three_parts (event_row providers name) (sent_rows providers name) text events sent (ended_rows name turn.ended)
    ∙ (ap (λ own. text_after text (map (event_row providers own) events ++ flat_map (sent_rows providers own) sent ++ ended_rows own turn.ended)) n
    ∙ (ap (λ all. text_after text (map (event_row providers (name_of providers turn.provider)) all ++ flat_map (sent_rows providers (name_of providers turn.provider)) sent ++ ended_rows (name_of providers turn.provider) turn.ended)) es
    ∙ ap (λ all. text_after text (map (event_row providers (name_of providers turn.provider)) turn.events ++ flat_map (sent_rows providers (name_of providers turn.provider)) all ++ ended_rows (name_of providers turn.provider) turn.ended)) ss))))
