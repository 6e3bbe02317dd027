-- The line of a seal is a field of the sealed text's head, so the head of an envelope names its recipients also before it is opened.
use Rattle.std.proofs.Common.{◌≡◌, ◌↔◌, ℕ, zero, suc, ◌+◌, ◌-◌, ◌<◌, ◌≤◌, ◌==◌, nat_lt, Bool, true, false, not, cond, List, [], ◌∷◌, ◌++◌, length, map, take, drop, get_or, position, Option, None, Some, Result, Ok, Err, codes, refl, ap, sym, ◌∙◌, subst, arith, length-append}
use Rattle.std.specs.Prelude.{unwrap_or}
use Rattle.std.specs.List.{AllByRecursion, join_with_byte, list_all}
use Rattle.std.specs.Option.{option_and_then, option_map}
use Rattle.std.specs.Result.{result_ok}
use Rattle.std.specs.Str.{bytes_eq}
use Rattle.std.proofs.lemmas.Bool.{and_from, eqb-true, ltb-false}
use Rattle.std.proofs.lemmas.Bool.Decides.{nat_tests}
use Rattle.std.proofs.lemmas.List.{length-take, take-append-drop}
use Rattle.std.proofs.lemmas.List.Quantifiers.{position-Some}
use Rattle.std.proofs.lemmas.Option.{none-some, same_Some}
use Rattle.std.proofs.lemmas.Slice.Eq.{bytes_eq-Decides}
use Rattle.pec_types.specs.Answers.{TellsExactly}
use Rattle.pec_types.specs.Bytes.{Bytes, Path, after_front, comma}
use Rattle.pec_types.specs.Text.{AllPrintable, is_unprintable}
use Rattle.pec_heads.specs.Bytes.{NonePass}
use Rattle.pec_heads.specs.FactsReading.{copies_of, listed}
use Rattle.pec_heads.specs.HeadReading.{read_of}
use Rattle.pec_heads.specs.Heads.{FieldLines, IsFaulty, IsHead, IsLine, IsRead, NamedValue, is_control, is_name, unfolded, values_of}
use Rattle.pec_heads.specs.ListReading.{list_of}
use Rattle.pec_heads.specs.Lines.{HasNoFeed, content_of, is_feed, size, whole_lines}
use Rattle.pec_heads.specs.declared.faults.HeadFault.{HeadFault}
use Rattle.pec_seal.specs.Opening.{before_back, cut_last, first_line, known_at, line_at, opened_at, opened_of, tag_at}
use Rattle.pec_seal.specs.Seals.{Line, Seals}
use Rattle.pec_seal.specs.declared.seals.SealFault.{SealFault}
use Rattle.pec_seal.specs.declared.seals.SealFault.TheVariants.{WrongTag}
use Rattle.pec_letters.specs.Seen.{addresses_in, named_in}
use Rattle.pec_ledger.specs.OfDirectory.{fields_of, named_by, recipients_named}
use Rattle.pec_trade.proofs.PathLemmas.{then_some}

-- ---- the line of a seal

front_by : (front text rest : Bytes) (t : Bool) → bytes_eq (take (length front) text) front ≡ t → cond t (Some (drop (length front) text)) None ≡ Some rest
    → text ≡ front ++ rest
front_by front text rest true e f =
    sym (take-append-drop (length front) text) ∙ ap (λ (x : Bytes). x ++ drop (length front) text) ((bytes_eq-Decides (take (length front) text) front).0 e)
    ∙ ap (λ (x : Bytes). front ++ x) (same_Some (drop (length front) text) rest f)
front_by front text rest false e f = absurd (none-some rest f)

behind_front : (front text rest : Bytes) → after_front front text ≡ Some rest → text ≡ front ++ rest
unfolding after_front
behind_front front text rest e = front_by front text rest (bytes_eq (take (length front) text) front) refl e

-- the bytes before the first that doesn't show all show
all_show : (text : Bytes) (n : ℕ) → ((k : ℕ) → k < n → is_unprintable (get_or text k 0) ≡ false) → AllByRecursion (λ (b : ℕ). is_unprintable b ≡ false) (take n text)
all_show text zero each = tt
all_show [] (suc n) each = tt
all_show (b ∷ text) (suc n) each = (each 0 (omega arith), all_show text n (λ k below. each (suc k) (omega arith)))

-- the first line of a text shows
first_of : (text front bytes : Bytes) → first_line text ≡ Some (front, bytes) → AllByRecursion (λ (b : ℕ). is_unprintable b ≡ false) front × (text ≡ front ++ 13 ∷ 10 ∷ bytes)
unfolding first_line
first_of text front bytes e =
    let end = then_some (position is_unprintable text) (λ at. option_and_then (λ (rest : Bytes). Some (take at text, rest)) (after_front (codes "\r\n") (drop at text))) (front, bytes) e
    in let rest = then_some (after_front (codes "\r\n") (drop end.0 text)) (λ (rest : Bytes). Some (take end.0 text, rest)) (front, bytes) end.1.1
    in let pair = same_Some (take end.0 text, rest.0) (front, bytes) rest.1.1
    in let shows = all_show text end.0 (position-Some is_unprintable text end.0 0 end.1.0).2
    in let parted = sym (take-append-drop end.0 text) ∙ ap (λ (x : Bytes). take end.0 text ++ x) (behind_front (codes "\r\n") (drop end.0 text) rest.0 rest.1.0)
    in (
      subst (λ (x : Bytes). AllByRecursion (λ (b : ℕ). is_unprintable b ≡ false) x) (ap (λ (p : Bytes × Bytes). p.0) pair) shows,
      parted ∙ ap (λ (p : Bytes × Bytes). p.0 ++ 13 ∷ 10 ∷ p.1) pair,
    )

cut_by : (count : ℕ) (text front back : Bytes) (t : Bool) → nat_lt (length text) count ≡ t
    → cond {A = Option (Bytes × Bytes)} t None (Some (take (length text - count) text, drop (length text - count) text)) ≡ Some (front, back) → length text ≡ length front + count
cut_by count text front back true e f = absurd (none-some (front, back) f)
cut_by count text front back false e f =
    omega (
      arith,
      ltb-false (length text) count e,
      length-take (length text - count) text,
      ap (λ (p : Bytes × Bytes). length p.0) (same_Some (take (length text - count) text, drop (length text - count) text) (front, back) f),
    )

back_by : (back text front : Bytes) (t : Bool) → cond t (Some (take (length text - length back) text)) None ≡ Some front → length text ≤ length front + length back
back_by back text front true f =
    omega (arith, length-take (length text - length back) text, ap length (same_Some (take (length text - length back) text) front f))
back_by back text front false f = absurd (none-some front f)

-- The line of a seal, as a line of a head.
pub record SealLine (seals : Seals) (text : Bytes) (provider : ℕ) (bytes : Bytes) : Type 0 where
  pub seal : Bytes
  pub name : Bytes
  pub named : seals.number_of name ≡ Some provider
  pub shows : AllByRecursion (λ (b : ℕ). is_unprintable b ≡ false) (codes "X-Sigillo: " ++ seal)
  pub parts : text ≡ (codes "X-Sigillo: " ++ seal) ++ 13 ∷ 10 ∷ bytes
  pub short : length seal ≤ length name + 46

ok_is : {X E : Type 0} (r : Result X E) (x y : X) → r ≡ Ok x → r ≡ Ok y → x ≡ y
ok_is r x y a b = cc

known_by : (seals : Seals) (line : Line) (number : Option ℕ) (provider : ℕ) (bytes : Bytes) → known_at seals line number ≡ Ok (provider, bytes)
    → (number ≡ Some provider) × (line.bytes ≡ bytes)
known_by seals line None provider bytes e = absurd cc
known_by seals line (Some other) provider bytes e = here (bytes_eq line.tag (seals.tag_of other line.bytes)) e
  where
    here : (t : Bool) → cond {A = Result (ℕ × Bytes) SealFault} t (Ok (other, line.bytes)) (Err WrongTag) ≡ Ok (provider, bytes)
        → (Some other ≡ Some provider) × (line.bytes ≡ bytes)
    here true f =
        let same = ok_is (Ok (other, line.bytes)) (other, line.bytes) (provider, bytes) refl f
        in (ap (λ (p : ℕ × Bytes). Some p.0) same, ap (λ (p : ℕ × Bytes). p.1) same)
    here false f = absurd cc

-- what is left of the steps by which a line is read, from the last to the first

abbrev made : Bytes × Bytes → Bytes → Bytes → Line
made first name tag = record { name = name; tag = tag; bytes = first.1 }

abbrev on_tag : Bytes × Bytes → Bytes × Bytes → Bytes → Option Line
on_tag first parts name = option_and_then (λ (tag : Bytes). Some (made first name tag)) (tag_at parts.1)

abbrev on_name : Bytes × Bytes → Bytes × Bytes → Option Line
on_name first parts = option_and_then (λ (name : Bytes). on_tag first parts name) (before_back (codes "; ") parts.0)

abbrev on_parts : Bytes × Bytes → Bytes → Option Line
on_parts first seal = option_and_then (λ (parts : Bytes × Bytes). on_name first parts) (cut_last 44 seal)

abbrev on_seal : Bytes × Bytes → Option Line
on_seal first = option_and_then (λ (seal : Bytes). on_parts first seal) (after_front (codes "X-Sigillo: ") first.0)

line_parts : (seals : Seals) (text : Bytes) (line : Line) (provider : ℕ) → line_at text ≡ Some line → seals.number_of line.name ≡ Some provider → SealLine seals text provider line.bytes
unfolding line_at
line_parts seals text line provider e named =
    let first = then_some (first_line text) on_seal line e
    in let seal = then_some (after_front (codes "X-Sigillo: ") first.0.0) (on_parts first.0) line first.1.1
    in let cut = then_some (cut_last 44 seal.0) (on_name first.0) line seal.1.1
    in let name = then_some (before_back (codes "; ") cut.0.0) (on_tag first.0 cut.0) line cut.1.1
    in let tag = then_some (tag_at cut.0.1) (λ (t : Bytes). Some (made first.0 name.0 t)) line name.1.1
    in let same = same_Some (made first.0 name.0 tag.0) line tag.1.1
    in let parted = first_of text first.0.0 first.0.1 first.1.0
    in let sealed = behind_front (codes "X-Sigillo: ") first.0.0 seal.0 seal.1.0
    in record {
      seal = seal.0;
      name = line.name;
      named = named;
      shows = subst (λ (x : Bytes). AllByRecursion (λ (b : ℕ). is_unprintable b ≡ false) x) sealed parted.0;
      parts = parted.1 ∙ ap (λ (x : Bytes). x ++ 13 ∷ 10 ∷ first.0.1) sealed ∙ ap (λ (l : Line). (codes "X-Sigillo: " ++ seal.0) ++ 13 ∷ 10 ∷ l.bytes) same;
      short =
          omega (
            arith,
            cut_by 44 seal.0 cut.0.0 cut.0.1 (nat_lt (length seal.0) 44) refl cut.1.0,
            back_by (codes "; ") cut.0.0 name.0 (bytes_eq (drop (length cut.0.0 - length (codes "; ")) cut.0.0) (codes "; ")) name.1.0,
            ap (λ (l : Line). length l.name) same,
          );
    }

opened_by : (seals : Seals) (text : Bytes) (found : Option Line) (provider : ℕ) (bytes : Bytes) → line_at text ≡ found → opened_at seals found ≡ Ok (provider, bytes)
    → SealLine seals text provider bytes
opened_by seals text None provider bytes e f = absurd cc
opened_by seals text (Some line) provider bytes e f =
    let known = known_by seals line (seals.number_of line.name) provider bytes f
    in subst (λ (x : Bytes). SealLine seals text provider x) known.1 (line_parts seals text line provider e known.0)

-- a text that opens begins with the line of a seal
pub seal_line : (seals : Seals) (text : Bytes) (provider : ℕ) (bytes : Bytes) → opened_of seals text ≡ Ok (provider, bytes) → SealLine seals text provider bytes
unfolding opened_of
seal_line seals text provider bytes e = opened_by seals text (line_at text) provider bytes refl e

-- ---- its field

no_feed : (b : ℕ) → is_unprintable b ≡ false → not (is_feed b) ≡ true
no_feed b shows = grind (arith, nat_tests)

no_feeds : (line : Bytes) → AllByRecursion (λ (b : ℕ). is_unprintable b ≡ false) line → HasNoFeed line
no_feeds [] shows = refl
no_feeds (b ∷ line) shows = and_from (not (is_feed b)) (list_all (λ (c : ℕ). not (is_feed c)) line) (no_feed b shows.0) (no_feeds line shows.1)

-- the laws of lines, heads and texts
pub record Lines : Type 0 where
  pub told : (text : Bytes) → TellsExactly (IsRead text) (IsFaulty text) (read_of text)
  pub each : (bytes : Bytes) → AllPrintable bytes ↔ AllByRecursion (λ b. is_unprintable b ≡ false) bytes
  pub plain : (value : Bytes) → AllPrintable value → NonePass is_control value
  pub returned : (line : Bytes) → content_of (line ++ 13 ∷ []) ≡ line
  pub next : (line more : Bytes) → HasNoFeed line → whole_lines (line ++ 13 ∷ 10 ∷ more) ≡ (line ++ 13 ∷ []) ∷ whole_lines more

abbrev pub seal_field : Bytes → FieldLines
seal_field seal = record { name = codes "X-Sigillo"; rest = 32 ∷ seal; more = [] }

module _ (laws : Lines) where
  -- A head behind the line of a seal is a head with one more field.
  behind_seal : (seal bytes : Bytes) (fields : List NamedValue) (place : ℕ) → AllByRecursion (λ (b : ℕ). is_unprintable b ≡ false) (codes "X-Sigillo: " ++ seal)
      → length seal ≤ 900 → IsHead bytes fields place
      → (at : ℕ) × IsHead ((codes "X-Sigillo: " ++ seal) ++ 13 ∷ 10 ∷ bytes) (unfolded (seal_field seal) ∷ fields) at
  unfolding is_name
  behind_seal seal bytes fields place shows short head =
      let line = codes "X-Sigillo: " ++ seal
      in let first = line ++ 13 ∷ []
      in let is_line : IsLine line = record {
        short = omega (arith, length-append (codes "X-Sigillo: ") seal);
        plain = laws.plain line ((laws.each line).1 shows);
      }
      in (
        size (first ∷ head.before) + (length head.last + 1),
        record {
          trees = seal_field seal ∷ head.trees;
          before = first ∷ head.before;
          last = head.last;
          after = head.after;
          each = (record { name = refl; first = is_line; more = tt }, head.each);
          lines = laws.next line bytes (no_feeds line shows) ∙ ap (λ (xs : List Bytes). first ∷ xs) head.lines;
          contents = ap (λ (x : Bytes). x ∷ map content_of head.before) (laws.returned line) ∙ ap (λ (xs : List Bytes). line ∷ xs) head.contents;
          empty = head.empty;
          fields_are = ap (λ (xs : List NamedValue). unfolded (seal_field seal) ∷ xs) head.fields_are;
          place_is = refl;
        },
      )

  -- the fields of a text that opens
  pub sealed_fields : (seals : Seals) (text : Bytes) (provider : ℕ) (bytes : Bytes) (fields : List NamedValue) (place : ℕ) → (line : SealLine seals text provider bytes)
      → length line.name ≤ 32 → IsHead bytes fields place → fields_of text ≡ Some (unfolded (seal_field line.seal) ∷ fields)
  sealed_fields seals text provider bytes fields place line short head =
      let here = behind_seal line.seal bytes fields place line.shows (omega (arith, line.short, short)) head
      in ap fields_of line.parts
      ∙ ap (λ (r : Result (List NamedValue × ℕ) HeadFault). option_map (λ (read : List NamedValue × ℕ). read.0) (result_ok r))
      (((laws.told ((codes "X-Sigillo: " ++ line.seal) ++ 13 ∷ 10 ∷ bytes)).value (unfolded (seal_field line.seal) ∷ fields, here.0)).1 here.1)

-- ---- addresses

-- `To` and `Cc` of a head with one more field of a seal
same_names : (seal : Bytes) (fields : List NamedValue) → named_by (unfolded (seal_field seal) ∷ fields) ≡ named_by fields
same_names seal fields = refl

to_by : (fields : List NamedValue) (path : Path) (t : Bool) → (length (values_of (codes "To") fields) == 0) ≡ t → named_in fields ≡ Some path
    → 0 < length (values_of (codes "To") fields) → named_by fields ≡ Some path
unfolding named_in addresses_in
to_by fields path true none e some = absurd (omega (arith, eqb-true (length (values_of (codes "To") fields)) 0 none))
to_by fields path false none e some =
    sym (ap (λ (t : Bool). option_and_then (λ (to : Path). option_map (λ (copies : Path). to ++ copies) (copies_of fields))
    (cond t (Some []) (listed (codes "To") fields))) none) ∙ e

-- Where there is a `To`, the two readings of a head are one.
pub named_are : (fields : List NamedValue) (path : Path) → named_in fields ≡ Some path → 0 < length (values_of (codes "To") fields) → named_by fields ≡ Some path
named_are fields path e some = to_by fields path (length (values_of (codes "To") fields) == 0) refl e some

nothing_listed : result_ok (list_of []) ≡ None
unfolding list_of
nothing_listed = refl

abbrev named_with : List NamedValue → Option Path → Option Path
named_with fields to = option_and_then (λ (path : Path). option_map (λ (copies : Path). path ++ copies) (copies_of fields)) to

none_named : (fields : List NamedValue) → values_of (codes "To") fields ≡ [] → named_by fields ≡ None
none_named fields e =
    ap (λ (values : List Bytes). named_with fields (result_ok (list_of (join_with_byte comma values)))) e ∙ ap (named_with fields) nothing_listed

to_there : (fields : List NamedValue) (values : List Bytes) → values_of (codes "To") fields ≡ values → 0 < length (unwrap_or (named_by fields) []) → 0 < length (values_of (codes "To") fields)
to_there fields (value ∷ values) e some = omega (arith, ap length e)
to_there fields [] e some =
    let none : length (unwrap_or (named_by fields) []) ≡ 0 = ap (λ (o : Option Path). length (unwrap_or o [])) (none_named fields e)
    in absurd (omega (arith, none, some))

-- a head that names somebody has a `To`
pub has_to : (fields : List NamedValue) → 0 < length (unwrap_or (named_by fields) []) → 0 < length (values_of (codes "To") fields)
has_to fields some = to_there fields (values_of (codes "To") fields) refl some

-- the addresses that a sealed text names
pub recipients_are : (text seal : Bytes) (fields : List NamedValue) → fields_of text ≡ Some (unfolded (seal_field seal) ∷ fields)
    → recipients_named text ≡ unwrap_or (named_by fields) []
unfolding recipients_named
recipients_are text seal fields e =
    ap (λ (o : Option (List NamedValue)). unwrap_or (option_and_then named_by o) []) e
    ∙ ap (λ (o : Option Path). unwrap_or o []) (same_names seal fields)
