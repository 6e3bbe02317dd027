-- The first line of a text, and the lines that go on with it.
use Rattle.std.proofs.Common.{◌≡◌, ℕ, ◌+◌, ◌<◌, ◌≤◌, Bool, true, false, not, ◌&&◌, cond, eqb, List, [], ◌∷◌, ◌++◌, Option, None, Some, length, take, drop, refl, sym, ◌∙◌, ap, subst, arith, add-one, append_assoc, append-nil, option_map}
use Rattle.std.proofs.Math.Seq.{drop-append-add, drop-length, take-length}
use Rattle.std.proofs.lemmas.Bool.{false≢true}
use Rattle.std.proofs.lemmas.List.{length-take-le, take-append-drop}
use Rattle.std.specs.List.{onto_first}
use Rattle.pec_types.specs.Bytes.{Bytes, line_feed, space}
use Rattle.pec_ldif.specs.Lines.{Line, begins_with, content_of, goes_on, in_front, is_empty, is_said, joined, placed, raw_lines, unfolded}
use Rattle.pec_ldif.specs.LinesReading.{feed_at, first_goes_on, kept, left_from, takes_in}

-- ---- the first line ends at the first line feed

abbrev all_one : Bytes → List Bytes
all_one [] = []
all_one (b ∷ bs) = (b ∷ bs) ∷ []

abbrev pub cut_at : Bytes → Option ℕ → List Bytes
cut_at text None = all_one text
cut_at text (Some at) = take (at + 1) text ∷ raw_lines (drop (at + 1) text)

first_cut : (b : ℕ) (bs : Bytes) (t : Bool) (o : Option ℕ) → raw_lines bs ≡ cut_at bs o
    → cond t ((b ∷ []) ∷ raw_lines bs) (onto_first b (raw_lines bs)) ≡ cut_at (b ∷ bs) (cond t (Some 0) (option_map (λ at. at + 1) o))
first_cut b bs true o h = refl
first_cut b [] false None h = refl
first_cut b (c ∷ cs) false None h = ap (onto_first b) h
first_cut b bs false (Some k) h =
    ap (onto_first b) h ∙ ap (λ n. take n (b ∷ bs) ∷ raw_lines (drop n (b ∷ bs))) (sym (add-one (k + 1)))

raw_is : (text : Bytes) → raw_lines text ≡ cut_at text (feed_at text)
raw_is [] = refl
raw_is (b ∷ bs) = first_cut b bs (eqb b line_feed) (feed_at bs) (raw_is bs)

pub raw_at : (text : Bytes) (at : ℕ) → Some at ≡ feed_at text
    → raw_lines text ≡ take (at + 1) text ∷ raw_lines (drop (at + 1) text)
raw_at text at e = raw_is text ∙ ap (cut_at text) (sym e)

last_one : (text : Bytes) → 0 < length text → all_one text ≡ take (length text) text ∷ raw_lines (drop (length text) text)
last_one [] some = absurd (omega (arith, some))
last_one (b ∷ bs) some = sym (
    ap (λ line. line ∷ raw_lines (drop (length (b ∷ bs)) (b ∷ bs))) (take-length (b ∷ bs))
    ∙ ap (λ rest. (b ∷ bs) ∷ raw_lines rest) (drop-length (b ∷ bs)))

pub raw_whole : (text : Bytes) → 0 < length text → None ≡ feed_at text
    → raw_lines text ≡ take (length text) text ∷ raw_lines (drop (length text) text)
raw_whole text some e = raw_is text ∙ (ap (cut_at text) (sym e) ∙ last_one text some)

-- ---- a line before others

abbrev line : ℕ → Bytes → Line
line at bytes = record { place = at; bytes = bytes }

front_more : (p q a c : ℕ) (rs cs : Bytes) (n : Line) (ls : List Line) (g : Bool) → eqb c space ≡ true
    → in_front (line p (a ∷ rs)) (cond g (joined (line q (c ∷ cs)) n ∷ ls) (line q (c ∷ cs) ∷ n ∷ ls))
    ≡ cond g (joined (line p ((a ∷ rs) ++ cs)) n ∷ ls) (line p ((a ∷ rs) ++ cs) ∷ n ∷ ls)
front_more p q a c rs cs n ls true e =
    ap (λ t. cond t (line p ((a ∷ rs) ++ (cs ++ drop 1 n.bytes)) ∷ ls) (line p (a ∷ rs) ∷ line q (c ∷ (cs ++ drop 1 n.bytes)) ∷ ls)) e
    ∙ ap (λ bytes. line p bytes ∷ ls) (sym (append_assoc (a ∷ rs) cs (drop 1 n.bytes)))
front_more p q a c rs cs n ls false e =
    ap (λ t. cond t (line p ((a ∷ rs) ++ cs) ∷ n ∷ ls) (line p (a ∷ rs) ∷ line q (c ∷ cs) ∷ n ∷ ls)) e

-- a line takes in the next one, whatever that would take in
pub fronts : (p q : ℕ) (a b : Bytes) (ls : List Line) → (not (is_empty a) && begins_with space b) ≡ true
    → in_front (line p a) (in_front (line q b) ls) ≡ in_front (line p (a ++ drop 1 b)) ls
fronts p q [] b ls e = absurd (false≢true e)
fronts p q (a ∷ rs) [] ls e = absurd (false≢true e)
fronts p q (a ∷ rs) (c ∷ cs) [] e = ap (λ t. cond t (line p ((a ∷ rs) ++ cs) ∷ []) (line p (a ∷ rs) ∷ line q (c ∷ cs) ∷ [])) e
fronts p q (a ∷ rs) (c ∷ cs) (n ∷ ls) e = front_more p q a c rs cs n ls (goes_on n) e

alone_more : (p q c : ℕ) (a cs : Bytes) (n : Line) (ls : List Line) (g : Bool) → (not (is_empty a) && eqb c space) ≡ false
    → in_front (line p a) (cond g (joined (line q (c ∷ cs)) n ∷ ls) (line q (c ∷ cs) ∷ n ∷ ls))
    ≡ line p a ∷ cond g (joined (line q (c ∷ cs)) n ∷ ls) (line q (c ∷ cs) ∷ n ∷ ls)
alone_more p q c a cs n ls true e =
    ap (λ t. cond t (line p (a ++ (cs ++ drop 1 n.bytes)) ∷ ls) (line p a ∷ line q (c ∷ (cs ++ drop 1 n.bytes)) ∷ ls)) e
alone_more p q c a cs n ls false e =
    ap (λ t. cond t (line p (a ++ cs) ∷ n ∷ ls) (line p a ∷ line q (c ∷ cs) ∷ n ∷ ls)) e

alone_before : (p q : ℕ) (a b : Bytes) (ls : List Line) → (not (is_empty a) && begins_with space b) ≡ false
    → in_front (line p a) (in_front (line q b) ls) ≡ line p a ∷ in_front (line q b) ls
alone_before p q a b [] e = ap (λ t. cond t (line p (a ++ drop 1 b) ∷ []) (line p a ∷ line q b ∷ [])) e
alone_before p q a [] (n ∷ ls) e = ap (λ t. cond t (line p (a ++ []) ∷ n ∷ ls) (line p a ∷ line q [] ∷ n ∷ ls)) e
alone_before p q a (c ∷ cs) (n ∷ ls) e = alone_more p q c a cs n ls (goes_on n) e

alone_raw : (p q : ℕ) (a : Bytes) (raws : List Bytes) → (not (is_empty a) && first_goes_on raws) ≡ false
    → in_front (line p a) (unfolded (placed q raws)) ≡ line p a ∷ unfolded (placed q raws)
alone_raw p q a [] e = refl
alone_raw p q a (raw ∷ raws) e = alone_before p q a (content_of raw) (unfolded (placed (q + length raw) raws)) e

-- a line that takes in no more
pub alone : (p q : ℕ) (a text : Bytes) → takes_in a text ≡ false
    → in_front (line p a) (left_from q text) ≡ line p a ∷ left_from q text
unfolding takes_in
alone p q a text e = alone_raw p q a (raw_lines text) e

-- ---- the first line of a text

pub begun : (at size : ℕ) (text : Bytes) → size ≤ length text → raw_lines text ≡ take size text ∷ raw_lines (drop size text)
    → left_from at text ≡ in_front (line at (content_of (take size text))) (left_from (at + size) (drop size text))
begun at size text within cut =
    ap (λ raws. unfolded (placed at raws)) cut
    ∙ ap (λ n. in_front (line at (content_of (take size text))) (left_from (at + n) (drop size text))) (length-take-le size text within)

pub drop_more : (n m : ℕ) (xs : Bytes) → n ≤ length xs → drop m (drop n xs) ≡ drop (n + m) xs
drop_more n m xs within = sym (
    ap (drop (n + m)) (sym (take-append-drop n xs))
    ∙ (ap (λ k. drop (k + m) (take n xs ++ drop n xs)) (sym (length-take-le n xs within)) ∙ drop-append-add (take n xs) (drop n xs) m))

takes_first : (bytes text raw : Bytes) (raws : List Bytes) → takes_in bytes text ≡ true → raw_lines text ≡ raw ∷ raws
    → (not (is_empty bytes) && begins_with space (content_of raw)) ≡ true
unfolding takes_in
takes_first bytes text raw raws e cut = subst (λ lines. (not (is_empty bytes) && first_goes_on lines) ≡ true) cut e

-- one more line was taken in: the rest of the text began with it
pub taken : (all : List Line) (p at size more : ℕ) (bytes shown added text rest : Bytes) → rest ≡ drop size text → shown ≡ bytes
    → size ≤ length text → all ≡ in_front (line p bytes) (left_from (at + size) (drop size text)) → true ≡ takes_in shown rest
    → raw_lines rest ≡ take more rest ∷ raw_lines (drop more rest) → more ≤ length rest
    → added ≡ bytes ++ drop 1 (content_of (take more rest))
    → all ≡ in_front (line p added) (left_from (at + (size + more)) (drop (size + more) text))
taken all p at size more bytes shown added text rest is_rest is_shown fits same takes cut within adds =
    let said = content_of (take more rest) in
    let place : at + size + more ≡ at + (size + more) = omega arith in
    let takes_it : takes_in bytes rest ≡ true = ap (λ b. takes_in b rest) (sym is_shown) ∙ sym takes in
    same
    ∙ (ap (λ xs. in_front (line p bytes) (left_from (at + size) xs)) (sym is_rest)
    ∙ (ap (in_front (line p bytes)) (begun (at + size) more rest within cut)
    ∙ (fronts p (at + size) bytes said (left_from (at + size + more) (drop more rest)) (takes_first bytes rest (take more rest) (raw_lines (drop more rest)) takes_it cut)
    ∙ (ap (λ b. in_front (line p b) (left_from (at + size + more) (drop more rest))) (sym adds)
    ∙ (ap (λ n. in_front (line p added) (left_from n (drop more rest))) place
    ∙ ap (λ xs. in_front (line p added) (left_from (at + (size + more)) xs)) (ap (drop more) is_rest ∙ drop_more size more text fits))))))

-- no more is taken in
pub ended : (all : List Line) (p at size : ℕ) (bytes shown said text rest : Bytes) → rest ≡ drop size text → shown ≡ bytes
    → said ≡ bytes → all ≡ in_front (line p bytes) (left_from (at + size) (drop size text)) → false ≡ takes_in shown rest
    → all ≡ line p said ∷ left_from (at + size) (drop size text)
ended all p at size bytes shown said text rest is_rest is_shown is_said same other =
    let no_more : takes_in bytes (drop size text) ≡ false =
    ap (takes_in bytes) (sym is_rest) ∙ (ap (λ b. takes_in b rest) (sym is_shown) ∙ sym other) in
    same
    ∙ (alone p (at + size) bytes (drop size text) no_more
    ∙ ap (λ b. line p b ∷ left_from (at + size) (drop size text)) (sym is_said))

-- ---- comments

kept_by : (xs ls : List Line) (l : Line) (t : Bool) → (xs ++ cond t (l ∷ []) []) ++ kept ls ≡ xs ++ cond t (l ∷ kept ls) (kept ls)
kept_by xs ls l true = append_assoc xs (l ∷ []) (kept ls)
kept_by xs ls l false = ap (λ ys. ys ++ kept ls) (append-nil xs)

-- a line was kept, or passed over
pub kept_more : (all left more : List Line) (xs ys : List Line) (l : Line) → xs ++ kept left ≡ all → left ≡ l ∷ more
    → ys ≡ xs ++ kept (l ∷ []) → ys ++ kept more ≡ all
kept_more all left more xs ys l same is adds =
    ap (λ zs. zs ++ kept more) adds ∙ (kept_by xs more l (is_said l) ∙ (ap (λ zs. xs ++ kept zs) (sym is) ∙ same))
