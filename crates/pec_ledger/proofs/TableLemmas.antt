-- The functions of marks, books and due letters give exactly what the tables say.
use Rattle.std.proofs.Common.{◌≡◌, ◌≢◌, ℕ, zero, suc, ◌+◌, ◌<◌, ◌↔◌, List, [], ◌∷◌, ◌++◌, Bool, true, false, not, ◌&&◌, ◌||◌, ◌⊎◌, inl, inr, length, map, refl, ap, sym, subst, ◌∙◌, arith, nat_lt, Option, Some, None}
use Rattle.std.specs.Prelude.{Contains, is_some, is_none, slice_get, filter, ◌==◌, if◌then◌else◌}
use Rattle.std.specs.Option.{option_and_then}
use Rattle.std.specs.Str.{bytes_eq}
use Rattle.std.proofs.lemmas.Bool.{and_from, and_parts, eq-eqb, eqb-true, false≢true, lt-ltb, ltb-true, not-true, not_from_false}
use Rattle.std.proofs.lemmas.List.Elements.{Contains-append_cases, Contains-append_left, Contains-append_right}
use Rattle.std.proofs.lemmas.Option.{none-some, same_Some}
use Rattle.pec_types.specs.Bytes.{Bytes, Path}
use Rattle.pec_types.specs.Limits.{Clocked, IsDue}
use Rattle.pec_types.specs.LimitsReading.{due_of}
use Rattle.pec_types.specs.Message.{Id}
use Rattle.pec_types.specs.declared.letters.Letter.{Letter}
use Rattle.pec_types.specs.declared.letters.Letter.TheVariants as letters
use Rattle.pec_types.specs.declared.limits.Due.{Due}
use Rattle.pec_types.specs.declared.limits.Due.TheVariants as dues
use Rattle.pec_types.specs.declared.messages.BookLine.{BookLine}
use Rattle.pec_types.specs.declared.messages.Recipient.{Recipient}
use Rattle.pec_ledger.specs.Books.{book, certified_recipients, line_of, lines_from, lines_of}
use Rattle.pec_ledger.specs.Due.{addressee, answers_to, awaits, envelope_to, envelopes_from, hears_of, is_unheard, outcome_on, outcomes_to, owed_letters}
use Rattle.pec_ledger.specs.Half.{Charge, Half, Known, Mark, Message}
use Rattle.pec_ledger.specs.Lookups.{Accepted, HasPairsAt, accepted_of, addresses_of, at_home, charge_of, charged_of, is_acked, is_home, is_notice, is_warning, known_of, notice_of, warning_of}
use Rattle.pec_ledger.specs.Marks.{clocked, mark_for, marked, marks_from}
use Rattle.pec_ledger.specs.Pairs.{Pair, id_of, pair_of, same_id, same_pair}
use Rattle.pec_ledger.specs.Tables.{IsCharged, IsKnown, IsLineOf, IsMarked, IsOwed, IsOwedEnvelope, IsOwedOutcome, Sees, WasNoticed, WasWarned}
use Rattle.pec_ledger.specs.Trade.{Trade}
use Rattle.pec_ledger.proofs.ListLemmas.{both_found, bound, contains_cases, contains_here, contains_none, contains_there, found_there, from_filter, from_map, into_filter, into_map, some_found}
use Rattle.pec_ledger.proofs.MarkLemmas.{Marked, marked_from, marks_hold}
use Rattle.pec_ledger.proofs.PairLemmas.{bytes_again, bytes_same, id_again, pair_again, same_ids, same_pairs}

-- ---- marks

abbrev SaysDue : Type 0
SaysDue = (pair : Clocked) (due : Due) → (due_of pair ≡ due) ↔ IsDue pair due

mark_says : (pair : Pair) (now : ℕ) (due : Due) (mark : Mark) → marked pair now due ≡ Some mark
    → (mark.pair ≡ pair) × (mark.due ≡ due) × (mark.due ≢ dues.Nothing) × (mark.moment ≡ now)
mark_says pair now dues.Nothing mark e = absurd (none-some mark e)
mark_says pair now dues.Warning mark e =
    let same = sym (same_Some _ mark e)
    in (ap (λ (m : Mark). m.pair) same, ap (λ (m : Mark). m.due) same, (λ none. let f = sym (ap (λ (m : Mark). m.due) same) ∙ none in cc), ap (λ (m : Mark). m.moment) same)
mark_says pair now dues.Notice mark e =
    let same = sym (same_Some _ mark e)
    in (ap (λ (m : Mark). m.pair) same, ap (λ (m : Mark). m.due) same, (λ none. let f = sym (ap (λ (m : Mark). m.due) same) ∙ none in cc), ap (λ (m : Mark). m.moment) same)
mark_says pair now dues.LateNotice mark e =
    let same = sym (same_Some _ mark e)
    in (ap (λ (m : Mark). m.pair) same, ap (λ (m : Mark). m.due) same, (λ none. let f = sym (ap (λ (m : Mark). m.due) same) ∙ none in cc), ap (λ (m : Mark). m.moment) same)

built : (a b : Pair) (d e : Due) (m n : ℕ) → a ≡ b → d ≡ e → m ≡ n
    → (let x : Mark = record { pair = a; due = d; moment = m } in let y : Mark = record { pair = b; due = e; moment = n } in x ≡ y)
built a b d e m n p q r = rw (p, q, r) refl

mark_again : (pair : Pair) (now : ℕ) (due : Due) (mark : Mark) → mark.pair ≡ pair → mark.due ≡ due → mark.due ≢ dues.Nothing → mark.moment ≡ now
    → marked pair now due ≡ Some mark
mark_again pair now dues.Nothing mark p d n m = absurd (n d)
mark_again pair now dues.Warning mark p d n m = ap (λ (x : Mark). Some x) (built pair mark.pair dues.Warning mark.due now mark.moment (sym p) (sym d) (sym m))
mark_again pair now dues.Notice mark p d n m = ap (λ (x : Mark). Some x) (built pair mark.pair dues.Notice mark.due now mark.moment (sym p) (sym d) (sym m))
mark_again pair now dues.LateNotice mark p d n m = ap (λ (x : Mark). Some x) (built pair mark.pair dues.LateNotice mark.due now mark.moment (sym p) (sym d) (sym m))

-- ---- lists by number: what stands at a number comes from its message

module _ {X : Type 0} (each : ℕ → Message → List X) where
  abbrev pub from_number : ℕ → List Message → List X
  from_number number [] = []
  from_number number (m ∷ ms) = each number m ++ from_number (number + 1) ms

  one_later : (number place : ℕ) → (number + 1) + place ≡ number + suc place
  one_later number place = omega arith

  pub comes_from : (number : ℕ) (ms : List Message) (x : X) → Contains (from_number number ms) x
      → (place : ℕ) × (row : Message) × (slice_get ms place ≡ Some row) × Contains (each (number + place) row) x
  comes_from number [] x c = absurd (contains_none x c)
  comes_from number (m ∷ ms) x c =
      elim (Contains-append_cases (each number m) (from_number (number + 1) ms) x c) [
        | inl here ↦ (0, m, refl, subst (λ k. Contains (each k m) x) (let z : number ≡ number + 0 = omega arith in z) here)
        | inr later ↦
            let more = comes_from (number + 1) ms x later
            in (suc more.0, more.1, more.2, subst (λ k. Contains (each k more.1) x) (one_later number more.0) more.3)
      ]

  pub stands_in : (number : ℕ) (ms : List Message) (place : ℕ) (row : Message) (x : X) → slice_get ms place ≡ Some row → Contains (each (number + place) row) x
      → Contains (from_number number ms) x
  stands_in number [] place row x e c = absurd (none-some row e)
  stands_in number (m ∷ ms) zero row x e c =
      Contains-append_left (each number m) (from_number (number + 1) ms) x
      (subst (λ k. Contains (each k m) x) (let z : number + 0 ≡ number = omega arith in z) (subst (λ r. Contains (each (number + 0) r) x) (sym (same_Some m row e)) c))
  stands_in number (m ∷ ms) (suc place) row x e c =
      Contains-append_right (each number m) (from_number (number + 1) ms) x
      (stands_in (number + 1) ms place row x e (subst (λ k. Contains (each k row) x) (sym (one_later number place)) c))

-- ---- what a clock call sees

same_test : {P : Type 0} (a b : Bool) → ((a ≡ true) ↔ P) → ((b ≡ true) ↔ P) → a ≡ b
same_test true true f g = refl
same_test true false f g = absurd (false≢true (g.1 (f.0 refl)))
same_test false true f g = absurd (false≢true (f.1 (g.0 refl)))
same_test false false f g = refl

found_some : {X : Type 0} (o : Option X) → is_some o ≡ true → (x : X) × (o ≡ Some x)
found_some None e = absurd (false≢true e)
found_some (Some x) e = (x, refl)

warning_is : (due : Due) → is_warning due ≡ true → due ≡ dues.Warning
warning_is dues.Nothing e = absurd (false≢true e)
warning_is dues.Warning e = refl
warning_is dues.Notice e = absurd (false≢true e)
warning_is dues.LateNotice e = absurd (false≢true e)

notice_is : (due : Due) → is_notice due ≡ true → (due ≡ dues.Notice) ⊎ (due ≡ dues.LateNotice)
notice_is dues.Nothing e = absurd (false≢true e)
notice_is dues.Warning e = absurd (false≢true e)
notice_is dues.Notice e = inl refl
notice_is dues.LateNotice e = inr refl

is_a_notice : (due : Due) → (due ≡ dues.Notice) ⊎ (due ≡ dues.LateNotice) → is_notice due ≡ true
is_a_notice due (inl e) = ap is_notice e
is_a_notice due (inr e) = ap is_notice e

clocks : (a b : ℕ) (c d e f : Bool) (a2 b2 : ℕ) (c2 d2 e2 f2 : Bool) → a ≡ a2 → b ≡ b2 → c ≡ c2 → d ≡ d2 → e ≡ e2 → f ≡ f2
    → (let x : Clocked = record { at = a; accepted = b; charged = c; warned = d; noticed = e; known = f } in
    let y : Clocked = record { at = a2; accepted = b2; charged = c2; warned = d2; noticed = e2; known = f2 } in x ≡ y)
clocks a b c d e f a2 b2 c2 d2 e2 f2 p q r s t u = rw (p, q, r, s, t, u) refl

module _ (trade : Trade) (p : ℕ) (h : Half) where
  charged_says : (pair : Pair) (home : Option ℕ) → trade.home pair.recipient ≡ home
      → (is_some (option_and_then (charged_of h pair.id) home) ≡ true) ↔ IsCharged trade p h pair
  charged_says pair None e = ((λ t. absurd (false≢true t)), (λ is. absurd (none-some is.charge.by (sym e ∙ is.by))))
  charged_says pair (Some home) e = (
    (λ t.
        let found = found_some (charged_of h pair.id home) t
        in let there = found_there (λ (charge : Charge). same_id pair.id charge.id && (home == charge.by)) h.charged found.0 found.1
        in let parts = and_parts (same_id pair.id found.0.id) (home == found.0.by) there.1
        in record {
          charge = found.0;
          there = there.0;
          of = sym (same_ids pair.id found.0.id parts.0);
          by = e ∙ ap (λ k. Some k) (eqb-true home found.0.by parts.1);
        }),
    (λ is.
        let at_home : home ≡ is.charge.by = same_Some home is.charge.by (sym e ∙ is.by)
        in let some = some_found (λ (charge : Charge). same_id pair.id charge.id && (home == charge.by)) h.charged is.charge is.there
        (and_from (same_id pair.id is.charge.id) (home == is.charge.by)
        (subst (λ (i : Id). same_id pair.id i ≡ true) (sym is.of) (id_again pair.id)) (eq-eqb home is.charge.by at_home))
        in ap is_some some.1),
  )

  warned_says : (pair : Pair) → (is_some (warning_of h pair) ≡ true) ↔ WasWarned trade p h pair
  warned_says pair = (
    (λ t.
        let found = found_some (warning_of h pair) t
        in let there = found_there (λ (mark : Mark). is_warning mark.due && same_pair pair mark.pair) h.marks found.0 found.1
        in let parts = and_parts (is_warning found.0.due) (same_pair pair found.0.pair) there.1
        in record { mark = found.0; there = there.0; of = sym (same_pairs pair found.0.pair parts.1); is = warning_is found.0.due parts.0 }),
    (λ is.
        let some = some_found (λ (mark : Mark). is_warning mark.due && same_pair pair mark.pair) h.marks is.mark is.there
        (and_from (is_warning is.mark.due) (same_pair pair is.mark.pair) (ap is_warning is.is)
        (subst (λ (q : Pair). same_pair pair q ≡ true) (sym is.of) (pair_again pair)))
        in ap is_some some.1),
  )

  noticed_says : (pair : Pair) → (is_some (notice_of h pair) ≡ true) ↔ WasNoticed trade p h pair
  noticed_says pair = (
    (λ t.
        let found = found_some (notice_of h pair) t
        in let there = found_there (λ (mark : Mark). is_notice mark.due && same_pair pair mark.pair) h.marks found.0 found.1
        in let parts = and_parts (is_notice found.0.due) (same_pair pair found.0.pair) there.1
        in record { mark = found.0; there = there.0; of = sym (same_pairs pair found.0.pair parts.1); is = notice_is found.0.due parts.0 }),
    (λ is.
        let some = some_found (λ (mark : Mark). is_notice mark.due && same_pair pair mark.pair) h.marks is.mark is.there
        (and_from (is_notice is.mark.due) (same_pair pair is.mark.pair) (is_a_notice is.mark.due is.is)
        (subst (λ (q : Pair). same_pair pair q ≡ true) (sym is.of) (pair_again pair)))
        in ap is_some some.1),
  )

  known_says : (pair : Pair) → (is_some (known_of h pair) ≡ true) ↔ IsKnown trade p h pair
  known_says pair = (
    (λ t.
        let found = found_some (known_of h pair) t
        in let there = found_there (λ (known : Known). same_pair pair known.pair) h.known found.0 found.1
        in record { known = found.0; there = there.0; of = sym (same_pairs pair found.0.pair there.1) }),
    (λ is.
        let some = some_found (λ (known : Known). same_pair pair known.pair) h.known is.known is.there
        (subst (λ (q : Pair). same_pair pair q ≡ true) (sym is.of) (pair_again pair))
        in ap is_some some.1),
  )

  pub sees_so : (now accepted : ℕ) (pair : Pair) → Sees trade p h now accepted pair (clocked trade h now accepted pair)
  sees_so now accepted pair = record {
    at = refl;
    since = refl;
    charged = charged_says pair (trade.home pair.recipient) refl;
    warned = warned_says pair;
    noticed = noticed_says pair;
    known = known_says pair;
  }

  seen_is : (now accepted : ℕ) (pair : Pair) (seen : Clocked) → Sees trade p h now accepted pair seen → clocked trade h now accepted pair ≡ seen
  seen_is now accepted pair seen is =
      let so = sees_so now accepted pair
      in clocks now accepted (is_some (charge_of trade h pair)) (is_some (warning_of h pair)) (is_some (notice_of h pair)) (is_some (known_of h pair))
      seen.at seen.accepted seen.charged seen.warned seen.noticed seen.known (sym is.at) (sym is.since)
      (same_test (is_some (charge_of trade h pair)) seen.charged so.charged is.charged)
      (same_test (is_some (warning_of h pair)) seen.warned so.warned is.warned)
      (same_test (is_some (notice_of h pair)) seen.noticed so.noticed is.noticed)
      (same_test (is_some (known_of h pair)) seen.known so.known is.known)

  pub marks_say : SaysDue → (now : ℕ) (mark : Mark) → Contains (marks_from trade p h now 0 h.messages) mark ↔ IsMarked trade p h now mark
  marks_say says now mark = (
    λ c.
        let is : Marked trade p h now 0 h.messages mark = marked_from trade p h now 0 h.messages mark c
        in let z : 0 + is.place ≡ is.place = omega arith
        in let pair = pair_of (id_of p is.place) is.recipient
        in let due = subst (λ (k : ℕ). mark_for trade h now is.message.moment (pair_of (id_of p k) is.recipient) ≡ Some mark) z is.due
        in let parts = mark_says pair now (due_of (clocked trade h now is.message.moment pair)) mark due
        in record {
          number = is.place;
          message = is.message;
          accepted = bound accepted_of (slice_get h.messages is.place) is.row is.message is.there is.accepted;
          recipient = is.recipient;
          has = is.has;
          pair = parts.0;
          seen = clocked trade h now is.message.moment pair;
          sees = sees_so now is.message.moment pair;
          due = (says (clocked trade h now is.message.moment pair) mark.due).0 (sym parts.1);
          some = parts.2;
          at = parts.3;
        },
    λ is.
        let pair = pair_of (id_of p is.number) is.recipient
        in let row = both_found accepted_of (slice_get h.messages is.number) is.message is.accepted
        in let z : is.number ≡ 0 + is.number = omega arith
        in let due = mark_again pair now (due_of (clocked trade h now is.message.moment pair)) mark is.pair
        (sym (ap due_of (seen_is now is.message.moment pair is.seen is.sees) ∙ (says is.seen mark.due).1 is.due)) is.some is.at
        in marks_hold trade p h now 0 h.messages is.number row.0 is.message is.recipient mark row.1 row.2 is.has
        (subst (λ (k : ℕ). mark_for trade h now is.message.moment (pair_of (id_of p k) is.recipient) ≡ Some mark) z due),
  )

  -- ---- books

  abbrev lines_by : Bytes → ℕ → Message → List BookLine
  lines_by account number m = lines_of trade h account (id_of p number) (accepted_of m)

  lines_are : (account : Bytes) (number : ℕ) (ms : List Message) → lines_from trade p h account number ms ≡ from_number (lines_by account) number ms
  lines_are account number [] = refl
  lines_are account number (m ∷ ms) = ap (λ l. lines_by account number m ++ l) (lines_are account (number + 1) ms)

  line_in : (account : Bytes) (id : Id) (message : Accepted) (line : BookLine) (own : Bool) → bytes_eq message.sender account ≡ own
      → Contains (if own then map (line_of trade h id message) (certified_recipients trade message) else []) line
      → (message.sender ≡ account) × ((recipient : Recipient) × Contains (certified_recipients trade message) recipient × (line ≡ line_of trade h id message recipient))
  line_in account id message line false e c = absurd (contains_none line c)
  line_in account id message line true e c =
      let from = from_map (line_of trade h id message) (certified_recipients trade message) line c
      in (bytes_same message.sender account e, (from.0, from.1, sym from.2))

  a_line : (account : Bytes) (place : ℕ) (line : BookLine) (row : Message) (found : Option Accepted) → accepted_of row ≡ found → slice_get h.messages place ≡ Some row
      → Contains (lines_of trade h account (id_of p place) found) line → IsLineOf trade p h account line
  a_line account place line row None e there c = absurd (contains_none line c)
  a_line account place line row (Some message) e there c =
      let parts = line_in account (id_of p place) message line (bytes_eq message.sender account) refl c
      in record {
        number = place;
        message = message;
        accepted = bound accepted_of (slice_get h.messages place) row message there e;
        owner = parts.0;
        recipient = parts.1.0;
        among = parts.1.1;
        is = parts.1.2;
      }

  line_there : (account : Bytes) (id : Id) (message : Accepted) (recipient : Recipient) (own : Bool) → own ≡ true → Contains (certified_recipients trade message) recipient
      → Contains (if own then map (line_of trade h id message) (certified_recipients trade message) else []) (line_of trade h id message recipient)
  line_there account id message recipient true e among = into_map (line_of trade h id message) (certified_recipients trade message) recipient among
  line_there account id message recipient false e among = absurd (false≢true e)

  pub book_says : (account : Bytes) (line : BookLine) → Contains (book trade p h account) line ↔ IsLineOf trade p h account line
  unfolding book
  book_says account line = (
    λ c.
        let from = comes_from (lines_by account) 0 h.messages line (subst (λ l. Contains l line) (lines_are account 0 h.messages) c)
        in let z : 0 + from.0 ≡ from.0 = omega arith
        in a_line account from.0 line from.1 (accepted_of from.1) refl from.2 (subst (λ k. Contains (lines_by account k from.1) line) z from.3),
    λ is.
        let row = both_found accepted_of (slice_get h.messages is.number) is.message is.accepted
        in let z : is.number ≡ 0 + is.number = omega arith
        in let here : Contains (lines_of trade h account (id_of p is.number) (Some is.message)) line =
        subst (λ l. Contains (lines_of trade h account (id_of p is.number) (Some is.message)) l) (sym is.is)
        (line_there account (id_of p is.number) is.message is.recipient (bytes_eq is.message.sender account)
        (subst (λ (a : Bytes). bytes_eq is.message.sender a ≡ true) is.owner (bytes_again is.message.sender)) is.among)
        in subst (λ l. Contains l line) (sym (lines_are account 0 h.messages))
        (stands_in (lines_by account) 0 h.messages is.number row.0 line row.1
        (subst (λ k. Contains (lines_by account k row.0) line) z
        (subst (λ (o : Option Accepted). Contains (lines_of trade h account (id_of p is.number) o) line) (sym row.2) here))),
  )

  -- ---- due letters

  home_is : (to : ℕ) (home : Option ℕ) → is_home to home ≡ true → home ≡ Some to
  home_is to None e = absurd (false≢true e)
  home_is to (Some q) e = ap (λ k. Some k) (sym (eqb-true to q e))

  is_its_home : (to : ℕ) (home : Option ℕ) → home ≡ Some to → is_home to home ≡ true
  is_its_home to home e = ap (is_home to) e ∙ eq-eqb to to refl

  pub outcomes_say : (to : ℕ) (letter : Letter) → Contains (outcomes_to h to) letter ↔ IsOwedOutcome trade p h to letter
  outcomes_say to letter = (
    λ c.
        let from = from_map outcome_on (filter (is_unheard h to) h.decided) letter c
        in let kept = from_filter (is_unheard h to) h.decided from.0 from.1
        in let parts = and_parts (from.0.pair.id.provider == to) (not (is_acked h from.0.pair)) kept.1
        in record {
          fate = from.0;
          decided = kept.0;
          for = eqb-true from.0.pair.id.provider to parts.0;
          unheard = not-true (is_acked h from.0.pair) parts.1;
          is = sym from.2;
        },
    λ is.
        subst (λ l. Contains (outcomes_to h to) l) (sym is.is)
        (into_map outcome_on (filter (is_unheard h to) h.decided) is.fate
        (into_filter (is_unheard h to) h.decided is.fate is.decided
        (and_from (is.fate.pair.id.provider == to) (not (is_acked h is.fate.pair)) (eq-eqb is.fate.pair.id.provider to is.for) (not_from_false (is_acked h is.fate.pair) is.unheard)))),
  )

  -- no outcome of the recipients at home there is known
  not_heard : (id : Id) (addresses : Path) → hears_of h id addresses ≡ false → (recipient : Bytes) → Contains addresses recipient → known_of h (pair_of id recipient) ≡ None
  not_heard id [] e recipient c = absurd (contains_none recipient c)
  not_heard id (address ∷ addresses) e recipient c =
      elim (contains_cases address addresses recipient c) [
        | inl same ↦ subst (λ (r : Bytes). known_of h (pair_of id r) ≡ None) same (none_known (known_of h (pair_of id address)) (first_false (is_some (known_of h (pair_of id address))) _ e))
        | inr there ↦ not_heard id addresses (rest_false (is_some (known_of h (pair_of id address))) _ e) recipient there
      ]
    where
      none_known : {X : Type 0} (o : Option X) → is_some o ≡ false → o ≡ None
      none_known None e = refl
      none_known (Some x) e = absurd (false≢true (sym e))

      first_false : (a b : Bool) → (a || b) ≡ false → a ≡ false
      first_false false b e = refl
      first_false true b e = absurd (false≢true (sym e))

      rest_false : (a b : Bool) → (a || b) ≡ false → b ≡ false
      rest_false false b e = e
      rest_false true b e = absurd (false≢true (sym e))

  none_heard : (id : Id) (addresses : Path) → ((recipient : Bytes) → Contains addresses recipient → known_of h (pair_of id recipient) ≡ None) → hears_of h id addresses ≡ false
  none_heard id [] none = refl
  none_heard id (address ∷ addresses) none =
      both_false (is_some (known_of h (pair_of id address))) (hears_of h id addresses) (ap is_some (none address (contains_here address addresses)))
      (none_heard id addresses (λ recipient c. none recipient (contains_there address addresses recipient c)))
    where
      both_false : (a b : Bool) → a ≡ false → b ≡ false → (a || b) ≡ false
      both_false false b e f = f
      both_false true b e f = absurd (false≢true (sym e))

  some_item : (xs : Path) → 0 < length xs → (x : Bytes) × Contains xs x
  some_item [] l = absurd (omega arith)
  some_item (x ∷ xs) l = (x, contains_here x xs)

  is_there : (xs : Path) (x : Bytes) → Contains xs x → 0 < length xs
  is_there xs x (k, l, e) = omega arith

  is_none_so : {X : Type 0} (o : Option X) → is_none o ≡ true → o ≡ None
  is_none_so None e = refl
  is_none_so (Some x) e = absurd (false≢true e)

  abbrev home_test : ℕ → Bytes → Bool
  home_test to address = is_home to (trade.home address)

  awaits_says : (to : ℕ) (id : Id) (message : Accepted) → awaits trade h to id message ≡ true
      → HasPairsAt trade message to × (charged_of h id to ≡ None)
      × ((recipient : Bytes) → Contains (addresses_of message.facts) recipient → trade.home recipient ≡ Some to → known_of h (pair_of id recipient) ≡ None)
  awaits_says to id message e =
      let first = and_parts (nat_lt 0 (length (at_home trade to (addresses_of message.facts)))) _ e
      in let second = and_parts (is_none (charged_of h id to)) (not (hears_of h id (at_home trade to (addresses_of message.facts)))) first.1
      in let some = some_item (at_home trade to (addresses_of message.facts)) (ltb-true 0 (length (at_home trade to (addresses_of message.facts))) first.0)
      in let kept = from_filter (home_test to) (addresses_of message.facts) some.0 some.1
      in (
        (some.0, kept.0, home_is to (trade.home some.0) kept.1),
        is_none_so (charged_of h id to) second.0,
        λ recipient among home. not_heard id (at_home trade to (addresses_of message.facts)) (not-true (hears_of h id (at_home trade to (addresses_of message.facts))) second.1) recipient
            (into_filter (home_test to) (addresses_of message.facts) recipient among (is_its_home to (trade.home recipient) home)),
      )

  says_awaits : (to : ℕ) (id : Id) (message : Accepted) → HasPairsAt trade message to → charged_of h id to ≡ None
      → ((recipient : Bytes) → Contains (addresses_of message.facts) recipient → trade.home recipient ≡ Some to → known_of h (pair_of id recipient) ≡ None)
      → awaits trade h to id message ≡ true
  says_awaits to id message pairs uncharged unheard =
      and_from (nat_lt 0 (length (at_home trade to (addresses_of message.facts)))) _
      (lt-ltb 0 (length (at_home trade to (addresses_of message.facts)))
      (is_there (at_home trade to (addresses_of message.facts)) pairs.0 (into_filter (home_test to) (addresses_of message.facts) pairs.0 pairs.1 (is_its_home to (trade.home pairs.0) pairs.2))))
      (and_from (is_none (charged_of h id to)) (not (hears_of h id (at_home trade to (addresses_of message.facts)))) (ap is_none uncharged)
      (not_from_false (hears_of h id (at_home trade to (addresses_of message.facts)))
      (none_heard id (at_home trade to (addresses_of message.facts))
      (λ recipient c.
      let kept = from_filter (home_test to) (addresses_of message.facts) recipient c
      in unheard recipient kept.0 (home_is to (trade.home recipient) kept.1)))))

  abbrev envelopes_by : ℕ → ℕ → Message → List Letter
  envelopes_by to number m = envelope_to trade h to (id_of p number) (accepted_of m)

  envelopes_are : (to number : ℕ) (ms : List Message) → envelopes_from trade p h to number ms ≡ from_number (envelopes_by to) number ms
  envelopes_are to number [] = refl
  envelopes_are to number (m ∷ ms) = ap (λ l. envelopes_by to number m ++ l) (envelopes_are to (number + 1) ms)

  one_letter : (b : Bool) (l letter : Letter) → Contains (if b then l ∷ [] else []) letter → (b ≡ true) × (letter ≡ l)
  one_letter true l letter c = elim (contains_cases l [] letter c) [ inl same ↦ (refl, sym same) | inr none ↦ absurd (contains_none letter none) ]
  one_letter false l letter c = absurd (contains_none letter c)

  letter_there : (b : Bool) (l : Letter) → b ≡ true → Contains (if b then l ∷ [] else []) l
  letter_there true l e = contains_here l []
  letter_there false l e = absurd (false≢true e)

  an_envelope : (to place : ℕ) (letter : Letter) (row : Message) (found : Option Accepted) → accepted_of row ≡ found → slice_get h.messages place ≡ Some row
      → Contains (envelope_to trade h to (id_of p place) found) letter → IsOwedEnvelope trade p h to letter
  an_envelope to place letter row None e there c = absurd (contains_none letter c)
  an_envelope to place letter row (Some message) e there c =
      let one = one_letter (awaits trade h to (id_of p place) message) (letters.Envelope (id_of p place) to) letter c
      in let says = awaits_says to (id_of p place) message one.0
      in record {
        number = place;
        message = message;
        accepted = bound accepted_of (slice_get h.messages place) row message there e;
        pairs = says.0;
        uncharged = says.1;
        unheard = says.2;
        is = one.1;
      }

  pub envelopes_say : (to : ℕ) (letter : Letter) → Contains (envelopes_from trade p h to 0 h.messages) letter ↔ IsOwedEnvelope trade p h to letter
  envelopes_say to letter = (
    λ c.
        let from = comes_from (envelopes_by to) 0 h.messages letter (subst (λ l. Contains l letter) (envelopes_are to 0 h.messages) c)
        in let z : 0 + from.0 ≡ from.0 = omega arith
        in an_envelope to from.0 letter from.1 (accepted_of from.1) refl from.2 (subst (λ k. Contains (envelopes_by to k from.1) letter) z from.3),
    λ is.
        let row = both_found accepted_of (slice_get h.messages is.number) is.message is.accepted
        in let z : is.number ≡ 0 + is.number = omega arith
        in let here : Contains (envelope_to trade h to (id_of p is.number) (Some is.message)) letter =
        subst (λ l. Contains (envelope_to trade h to (id_of p is.number) (Some is.message)) l) (sym is.is)
        (letter_there (awaits trade h to (id_of p is.number) is.message) (letters.Envelope (id_of p is.number) to)
        (says_awaits to (id_of p is.number) is.message is.pairs is.uncharged is.unheard))
        in subst (λ l. Contains l letter) (sym (envelopes_are to 0 h.messages))
        (stands_in (envelopes_by to) 0 h.messages is.number row.0 letter row.1
        (subst (λ k. Contains (envelopes_by to k row.0) letter) z
        (subst (λ (o : Option Accepted). Contains (envelope_to trade h to (id_of p is.number) o) letter) (sym row.2) here))),
  )

  pub owed_say : (to : ℕ) (owed : List Letter) (letter : Letter) → Contains (owed_letters trade p h to owed) letter ↔ IsOwed trade p h to owed letter
  owed_say to owed letter = (
    λ c. elim (Contains-append_cases (answers_to trade to owed) (outcomes_to h to ++ envelopes_from trade p h to 0 h.messages) letter c) [
      | inl answer ↦
          let kept = from_filter (λ (l : Letter). is_home to (addressee trade l)) owed letter answer
          in inl (kept.0, home_is to (addressee trade letter) kept.1)
      | inr rest ↦ elim (Contains-append_cases (outcomes_to h to) (envelopes_from trade p h to 0 h.messages) letter rest) [
        | inl outcome ↦ inr (inl ((outcomes_say to letter).0 outcome))
        | inr envelope ↦ inr (inr ((envelopes_say to letter).0 envelope))
      ]
    ],
    λ is. elim is [
      | inl answer ↦ Contains-append_left (answers_to trade to owed) (outcomes_to h to ++ envelopes_from trade p h to 0 h.messages) letter
          (into_filter (λ (l : Letter). is_home to (addressee trade l)) owed letter answer.0 (is_its_home to (addressee trade letter) answer.1))
      | inr rest ↦ Contains-append_right (answers_to trade to owed) (outcomes_to h to ++ envelopes_from trade p h to 0 h.messages) letter
          (elim rest [
            | inl outcome ↦ Contains-append_left (outcomes_to h to) (envelopes_from trade p h to 0 h.messages) letter ((outcomes_say to letter).1 outcome)
            | inr envelope ↦ Contains-append_right (outcomes_to h to) (envelopes_from trade p h to 0 h.messages) letter ((envelopes_say to letter).1 envelope)
          ])
    ],
  )
