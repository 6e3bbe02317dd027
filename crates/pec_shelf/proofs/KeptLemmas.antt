-- Books, marks and envelopes over the rows that are kept are those of the ledger, where the homes that are kept are the
-- trade's.
use Rattle.std.proofs.Common.{◌≡◌, ℕ, ◌+◌, ◌==◌, Bool, true, false, cond, ◌&&◌, ◌||◌, List, [], ◌∷◌, ◌++◌, length, map, refl, sym, ap, ◌∙◌, Option, Some, None, is_some, nat_lt, take, arith}
use Rattle.std.specs.List.{cons_option, filter, filter_map, list_any}
use Rattle.std.specs.Option.{option_map}
use Rattle.std.specs.Str.{bytes_eq}
use Rattle.pec_types.specs.Bytes.{Bytes, Path}
use Rattle.pec_types.specs.Message.{Id}
use Rattle.pec_types.specs.declared.letters.Letter.TheVariants as letters
use Rattle.pec_types.specs.declared.messages.Facts.{Facts}
use Rattle.pec_types.specs.declared.messages.Recipient.{Recipient}
use Rattle.pec_records.specs.declared.entries.Entry.TheVariants as entries
use Rattle.pec_ledger.specs.Books.{book, line_of, lines_from, lines_of}
use Rattle.pec_ledger.specs.Due.{due_letters, envelope_to, envelopes_from, hears_of, outcomes_to}
use Rattle.pec_ledger.specs.Half.{Half, Message}
use Rattle.pec_ledger.specs.Lookups.{Accepted, accepted_of, at_home, is_home, known_of}
use Rattle.pec_ledger.specs.Marks.{mark_for, marks_from, marks_of}
use Rattle.pec_ledger.specs.Pairs.{id_of, pair_of}
use Rattle.pec_ledger.specs.Trade.{Trade}
use Rattle.pec_ledger.specs.Deadlines.{acceptances}
use Rattle.pec_shelf.specs.Deadlines.{clock_at}
use Rattle.pec_shelf.specs.Looked.{acceptances_seen}
use Rattle.pec_shelf.specs.Lines.{awaits_at, book_rows, envelope_rows, is_at, is_heard, line_at, mark_at, marks_rows}
use Rattle.pec_shelf.specs.Prepared.{AreRows, Prepared, nothing, with_marks}
use Rattle.pec_shelf.specs.Seen.{IsFor, Seen, certified_at, certified_by, certified_in, certified_of}
use Rattle.pec_shelf.specs.Sides.{Kept, certified_of_rows, messages_of}
use Rattle.pec_shelf.specs.declared.certified.Certified.{Certified}
use Rattle.pec_shelf.specs.declared.deadlines.Clock.{Clock}
use Rattle.pec_shelf.proofs.AcceptanceLemmas.{seen_are}

same_heads : {X : Type 0} (x y : X) (xs ys : List X) → x ∷ xs ≡ y ∷ ys → (x ≡ y) × (xs ≡ ys)
same_heads x y xs ys e = (cc, cc)

neither : {X : Type 0} (b : Bool) (xs : List X) → cond b xs xs ≡ xs
neither true xs = refl
neither false xs = refl

-- ---- books

line_is : (trade : Trade) (half : Half) (id : Id) (message : Accepted) (r : Recipient) (home : ℕ) → trade.home r.address ≡ Some home
    → line_at half id message.moment (certified_at r home) ≡ line_of trade half id message r
line_is trade half id message r home e = rw e refl

lines_step : (trade : Trade) (half : Half) (id : Id) (message : Accepted) (r : Recipient) (xs : List Certified) (ys : List Recipient)
    → map (line_at half id message.moment) xs ≡ map (line_of trade half id message) ys
    → (home : Option ℕ) → trade.home r.address ≡ home
    → map (line_at half id message.moment) (cons_option (option_map (certified_at r) home) xs) ≡ map (line_of trade half id message) (cond (is_some home) (r ∷ ys) ys)
lines_step trade half id message r xs ys more None e = more
lines_step trade half id message r xs ys more (Some home) e = let head = line_is trade half id message r home e in cc

lines_certified : (trade : Trade) (half : Half) (id : Id) (message : Accepted) (rs : List Recipient)
    → map (line_at half id message.moment) (filter_map (certified_of trade) rs)
    ≡ map (line_of trade half id message) (filter (λ (r : Recipient). is_some (trade.home r.address)) rs)
lines_certified trade half id message [] = refl
lines_certified trade half id message (r ∷ rs) =
    lines_step trade half id message r _ _ (lines_certified trade half id message rs) (trade.home r.address) refl

lines_message : (trade : Trade) (half : Half) (account : Bytes) (id : Id) (message : Message) (facts : Option Facts) → message.facts ≡ facts
    → cond (bytes_eq message.sender account) (map (line_at half id message.moment) (certified_in trade facts)) [] ≡ lines_of trade half account id (accepted_of message)
lines_message trade half account id message None e = rw e (neither (bytes_eq message.sender account) [])
lines_message trade half account id message (Some facts) e =
    rw e
    (ap (λ lines. cond (bytes_eq message.sender account) lines [])
    (lines_certified trade half id (record { moment = message.moment; sender = message.sender; facts = facts; entry = message.entry }) facts.recipients))

pub book_is : (trade : Trade) (me : ℕ) (half : Half) (account : Bytes) (number : ℕ) (rows : List Kept)
    → certified_of_rows rows ≡ map (certified_by trade) (messages_of rows)
    → book_rows me half account number rows ≡ lines_from trade me half account number (messages_of rows)
book_is trade me half account number [] e = refl
book_is trade me half account number (row ∷ rows) e =
    let parts = same_heads _ _ _ _ e in
    let here = lines_message trade half account (id_of me number) row.message row.message.facts refl in
    rw (parts.0, here, book_is trade me half account (number + 1) rows parts.1) refl

-- ---- marks

mark_is : (trade : Trade) (half : Half) (now : ℕ) (id : Id) (accepted : ℕ) (r : Recipient) (home : ℕ) → trade.home r.address ≡ Some home
    → mark_at half now id accepted (certified_at r home) ≡ mark_for trade half now accepted (pair_of id r.address)
mark_is trade half now id accepted r home e = rw e refl

marks_step : (trade : Trade) (half : Half) (now : ℕ) (id : Id) (accepted : ℕ) (r : Recipient) (xs : List Certified) (ys : Path)
    → filter_map (mark_at half now id accepted) xs ≡ filter_map (mark_for trade half now accepted) (map (pair_of id) ys)
    → (home : Option ℕ) → trade.home r.address ≡ home
    → filter_map (mark_at half now id accepted) (cons_option (option_map (certified_at r) home) xs)
    ≡ filter_map (mark_for trade half now accepted) (map (pair_of id) (cond (is_some home) (r.address ∷ ys) ys))
marks_step trade half now id accepted r xs ys more None e = more
marks_step trade half now id accepted r xs ys more (Some home) e = rw (mark_is trade half now id accepted r home e, more) refl

marks_certified : (trade : Trade) (half : Half) (now : ℕ) (id : Id) (accepted : ℕ) (rs : List Recipient)
    → filter_map (mark_at half now id accepted) (filter_map (certified_of trade) rs)
    ≡ filter_map (mark_for trade half now accepted)
    (map (pair_of id) (filter (λ (address : Bytes). is_some (trade.home address)) (map (λ (recipient : Recipient). recipient.address) rs)))
marks_certified trade half now id accepted [] = refl
marks_certified trade half now id accepted (r ∷ rs) =
    marks_step trade half now id accepted r _ _ (marks_certified trade half now id accepted rs) (trade.home r.address) refl

marks_message : (trade : Trade) (half : Half) (now : ℕ) (id : Id) (message : Message) (facts : Option Facts) → message.facts ≡ facts
    → filter_map (mark_at half now id message.moment) (certified_in trade facts) ≡ marks_of trade half now id (accepted_of message)
marks_message trade half now id message None e = rw e refl
marks_message trade half now id message (Some facts) e = rw e (marks_certified trade half now id message.moment facts.recipients)

pub marks_are : (trade : Trade) (me : ℕ) (half : Half) (now number : ℕ) (rows : List Kept)
    → certified_of_rows rows ≡ map (certified_by trade) (messages_of rows)
    → marks_rows me half now number rows ≡ marks_from trade me half now number (messages_of rows)
marks_are trade me half now number [] e = refl
marks_are trade me half now number (row ∷ rows) e =
    let parts = same_heads _ _ _ _ e in
    let here = marks_message trade half now (id_of me number) row.message row.message.facts refl in
    rw (parts.0, here, marks_are trade me half now (number + 1) rows parts.1) refl

-- ---- envelopes

there_step : (trade : Trade) (to : ℕ) (r : Recipient) (xs : List Certified) (ys : Path)
    → list_any (is_at to) xs ≡ nat_lt 0 (length ys)
    → (home : Option ℕ) → trade.home r.address ≡ home
    → list_any (is_at to) (cons_option (option_map (certified_at r) home) xs) ≡ nat_lt 0 (length (cond (is_home to home) (r.address ∷ ys) ys))
there_step trade to r xs ys more None e = more
there_step trade to r xs ys more (Some home) e = there_at (to == home) (list_any (is_at to) xs) r.address ys more
  where
    there_at : (b c : Bool) (address : Bytes) (ys : Path) → c ≡ nat_lt 0 (length ys) → b || c ≡ nat_lt 0 (length (cond b (address ∷ ys) ys))
    there_at true c address ys more = sym (grind arith)
    there_at false c address ys more = more

there_is : (trade : Trade) (to : ℕ) (rs : List Recipient)
    → list_any (is_at to) (filter_map (certified_of trade) rs) ≡ nat_lt 0 (length (at_home trade to (map (λ (recipient : Recipient). recipient.address) rs)))
there_is trade to [] = refl
there_is trade to (r ∷ rs) = there_step trade to r _ _ (there_is trade to rs) (trade.home r.address) refl

heard_at : (half : Half) (id : Id) (b c : Bool) (address : Bytes) (ys : Path) → c ≡ hears_of half id ys
    → (b && is_some (known_of half (pair_of id address))) || c ≡ hears_of half id (cond b (address ∷ ys) ys)
heard_at half id true c address ys more = rw more refl
heard_at half id false c address ys more = more

heard_step : (trade : Trade) (half : Half) (id : Id) (to : ℕ) (r : Recipient) (xs : List Certified) (ys : Path)
    → list_any (is_heard half id to) xs ≡ hears_of half id ys
    → (home : Option ℕ) → trade.home r.address ≡ home
    → list_any (is_heard half id to) (cons_option (option_map (certified_at r) home) xs) ≡ hears_of half id (cond (is_home to home) (r.address ∷ ys) ys)
heard_step trade half id to r xs ys more None e = more
heard_step trade half id to r xs ys more (Some home) e = heard_at half id (to == home) (list_any (is_heard half id to) xs) r.address ys more

heard_is : (trade : Trade) (half : Half) (id : Id) (to : ℕ) (rs : List Recipient)
    → list_any (is_heard half id to) (filter_map (certified_of trade) rs) ≡ hears_of half id (at_home trade to (map (λ (recipient : Recipient). recipient.address) rs))
heard_is trade half id to [] = refl
heard_is trade half id to (r ∷ rs) = heard_step trade half id to r _ _ (heard_is trade half id to rs) (trade.home r.address) refl

envelope_message : (trade : Trade) (half : Half) (to : ℕ) (id : Id) (message : Message) (facts : Option Facts) → message.facts ≡ facts
    → cond (awaits_at half to id (certified_in trade facts)) (letters.Envelope id to ∷ []) [] ≡ envelope_to trade half to id (accepted_of message)
envelope_message trade half to id message None e = rw e refl
envelope_message trade half to id message (Some facts) e = rw (e, there_is trade to facts.recipients, heard_is trade half id to facts.recipients) refl

pub envelopes_are : (trade : Trade) (me : ℕ) (half : Half) (to number : ℕ) (rows : List Kept)
    → certified_of_rows rows ≡ map (certified_by trade) (messages_of rows)
    → envelope_rows me half to number rows ≡ envelopes_from trade me half to number (messages_of rows)
envelopes_are trade me half to number [] e = refl
envelopes_are trade me half to number (row ∷ rows) e =
    let parts = same_heads _ _ _ _ e in
    let here = envelope_message trade half to (id_of me number) row.message row.message.facts refl in
    rw (parts.0, here, envelopes_are trade me half to (number + 1) rows parts.1) refl

-- ---- over the rows of a shelf

kept_for : (trade : Trade) (shelf : Seen) (rows : List Kept) → messages_of rows ≡ shelf.half.messages → certified_of_rows rows ≡ shelf.certified → IsFor trade shelf
    → certified_of_rows rows ≡ map (certified_by trade) (messages_of rows)
kept_for trade shelf rows messages certified for = certified ∙ for ∙ ap (map (certified_by trade)) (sym messages)

pub the_book : (trade : Trade) (shelf : Seen) (account : Bytes) (rows : List Kept) → messages_of rows ≡ shelf.half.messages → certified_of_rows rows ≡ shelf.certified
    → IsFor trade shelf → book_rows shelf.me shelf.half account 0 rows ≡ book trade shelf.me shelf.half account
unfolding book
the_book trade shelf account rows messages certified for =
    book_is trade shelf.me shelf.half account 0 rows (kept_for trade shelf rows messages certified for)
    ∙ ap (λ ms. lines_from trade shelf.me shelf.half account 0 ms) messages

pub the_marks : (trade : Trade) (shelf : Seen) (now : ℕ) (rows : List Kept) → messages_of rows ≡ shelf.half.messages → certified_of_rows rows ≡ shelf.certified
    → IsFor trade shelf → marks_rows shelf.me shelf.half now 0 rows ≡ marks_from trade shelf.me shelf.half now 0 shelf.half.messages
the_marks trade shelf now rows messages certified for =
    marks_are trade shelf.me shelf.half now 0 rows (kept_for trade shelf rows messages certified for)
    ∙ ap (λ ms. marks_from trade shelf.me shelf.half now 0 ms) messages

pub the_due : (trade : Trade) (shelf : Seen) (to room : ℕ) (rows : List Kept) → messages_of rows ≡ shelf.half.messages → certified_of_rows rows ≡ shelf.certified
    → IsFor trade shelf → take room (outcomes_to shelf.half to ++ envelope_rows shelf.me shelf.half to 0 rows) ≡ due_letters trade shelf.me shelf.half to room []
unfolding due_letters
the_due trade shelf to room rows messages certified for =
    let envelopes = envelopes_are trade shelf.me shelf.half to 0 rows (kept_for trade shelf rows messages certified for)
    ∙ ap (λ ms. envelopes_from trade shelf.me shelf.half to 0 ms) messages in
    ap (λ es. take room (outcomes_to shelf.half to ++ es)) envelopes

pub ticked_is : (trade : Trade) (shelf : Seen) (now : ℕ) (rows : List Kept) (clock : Clock) (marked ready : Prepared) → messages_of rows ≡ shelf.half.messages
    → certified_of_rows rows ≡ shelf.certified
    → IsFor trade shelf → marked ≡ with_marks shelf.half nothing (marks_rows shelf.me shelf.half now 0 rows) → ready ≡ record marked { clock = Some clock }
    → clock ≡ clock_at now (acceptances_seen shelf) → AreRows trade shelf.me shelf.half (entries.Ticked now) ready
ticked_is trade shelf now rows clock marked ready messages certified for is with told =
    let all = is ∙ ap (with_marks shelf.half nothing) (the_marks trade shelf now rows messages certified for) in
    let stands : clock ≡ clock_at now (acceptances trade shelf.half) = told ∙ ap (clock_at now) (seen_are trade shelf for) in
    with ∙ ap (λ (p : Prepared). record p { clock = Some clock }) all
    ∙ ap (λ (k : Clock). record (with_marks shelf.half nothing (marks_from trade shelf.me shelf.half now 0 shelf.half.messages)) { clock = Some k }) stands
