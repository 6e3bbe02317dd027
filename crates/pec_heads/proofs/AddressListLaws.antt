-- Addresses joined by commas are a list, and so is what is read of a field of addresses as it is written.
use Rattle.std.proofs.Common.{◌≡◌, ℕ, ◌+◌, ◌<◌, ◌≤◌, ◌==◌, List, [], ◌∷◌, ◌++◌, map, Bool, true, false, not, length, inl, inr, refl, ap, subst, sym, ◌∙◌, arith, append_assoc, length-append}
use Rattle.std.proofs.lemmas.Bool.{and_from, and_parts, both_ways, eqb-true, ne_eqb, not-true, not_from_false, or_cases, or_from}
use Rattle.std.proofs.lemmas.List.{append-nil}
use Rattle.std.specs.Char.{is_ascii_alphanumeric}
use Rattle.std.specs.List.{AllByRecursion, flat_map, join_with_byte, list_all}
use Rattle.pec_types.specs.Address.{Avoids, IsAddress, IsLowerAddress, is_atom_byte, lowered}
use Rattle.pec_types.proofs.AddressBytes.{none_in}
use Rattle.pec_heads.specs.Bytes.{AreBlanks, NonePass, begins_blank, ends_blank, is_blank, trimmed}
use Rattle.pec_heads.specs.Heads.{IsLine, is_control, is_name}
use Rattle.pec_types.specs.Bytes.{is_quote}
use Rattle.pec_heads.specs.Lists.{AllBare, AllPieces, AllRead, AreEntries, IsBare, IsClosed, IsList, bare, is_all_blank, is_comma, piece_text}
use Rattle.pec_heads.specs.Lines.{ended_line}
use Rattle.pec_heads.specs.WrittenHeads.{CanStand, address_entries, address_lines, addresses_text, behind_address, field_text, folded_from, folded_lines, list_field, opening_line, shown, spaced, value_text}
use Rattle.pec_heads.specs.declared.TheConstants.{LINE_LIMIT}
use Rattle.pec_heads.proofs.BlankLemmas.{trimmed_is, trimmed_kept}
use Rattle.pec_heads.proofs.EntryForms.{forms}
use Rattle.pec_heads.proofs.EntryReading.{some_ink}
use Rattle.pec_heads.proofs.FactSteps.{address_printable}
use Rattle.pec_heads.proofs.ListLaws.{read_before}
use Rattle.pec_heads.proofs.WrittenLaws.{first_blank, first_plain, first_size, none_append, printable_plain}

-- ---- bytes that stand in no address

abbrev is_byte : ℕ → ℕ → Bool
is_byte k b = b == k

-- a byte that is neither of an atom nor a letter or digit
differs : (test : ℕ → Bool) (k b : ℕ) → test k ≡ false → test b ≡ true → is_byte k b ≡ false
differs test k b e h = ne_eqb b k (λ q. both_ways (test k) e (rw (← q) h))

avoids : (k : ℕ) → is_atom_byte k ≡ false → is_ascii_alphanumeric k ≡ false → is_byte k 45 ≡ false → is_byte k 46 ≡ false → is_byte k 64 ≡ false → Avoids (is_byte k)
avoids k atom letter hyphen dot at = record {
  atom = λ b h. differs is_atom_byte k b atom h;
  alphanumeric = λ b h. differs is_ascii_alphanumeric k b letter h;
  hyphen = hyphen;
  dot = dot;
  at = at;
}

no_quote : (address : List ℕ) → IsAddress address → NonePass is_quote address
unfolding is_atom_byte
no_quote address h = none_in is_quote (avoids 34 refl refl refl refl refl) address h

no_comma : (address : List ℕ) → IsAddress address → NonePass is_comma address
unfolding is_atom_byte
no_comma address h = none_in is_comma (avoids 44 refl refl refl refl refl) address h

no_space : (address : List ℕ) → IsAddress address → NonePass (is_byte 32) address
unfolding is_atom_byte
no_space address h = none_in (is_byte 32) (avoids 32 refl refl refl refl refl) address h

no_tab : (address : List ℕ) → IsAddress address → NonePass (is_byte 9) address
unfolding is_atom_byte
no_tab address h = none_in (is_byte 9) (avoids 9 refl refl refl refl refl) address h

none_of_both : (bytes : List ℕ) → NonePass (is_byte 32) bytes → NonePass (is_byte 9) bytes → NonePass is_blank bytes
none_of_both [] h k = refl
none_of_both (b ∷ bs) h k =
    let p = and_parts (not (is_byte 32 b)) (list_all (λ x. not (is_byte 32 x)) bs) h
    in let q = and_parts (not (is_byte 9 b)) (list_all (λ x. not (is_byte 9 x)) bs) k
    in and_from (not (is_blank b)) (list_all (λ x. not (is_blank x)) bs)
    (not_from_false (is_blank b) (or_from (is_byte 32 b) (is_byte 9 b) (not-true (is_byte 32 b) p.0) (not-true (is_byte 9 b) q.0)))
    (none_of_both bs p.1 q.1)

pub no_blank : (address : List ℕ) → IsAddress address → NonePass is_blank address
no_blank address h = none_of_both address (no_space address h) (no_tab address h)

pub not_nothing : IsAddress [] → ⊥
not_nothing h = absurd (omega (arith, ap length h.parts, length-append h.local (64 ∷ h.domain)))

-- ---- entries with one address each

blank_differs : (k b : ℕ) → is_byte k 32 ≡ false → is_byte k 9 ≡ false → is_blank b ≡ true → is_byte k b ≡ false
blank_differs k b e f h = elim (or_cases (b == 32) (b == 9) h) [ inl s ↦ rw (eqb-true b 32 s) e | inr t ↦ rw (eqb-true b 9 t) f ]

none_blank : (k : ℕ) (blanks : List ℕ) → is_byte k 32 ≡ false → is_byte k 9 ≡ false → AreBlanks blanks → NonePass (is_byte k) blanks
none_blank k [] e f h = refl
none_blank k (b ∷ bs) e f h =
    let p = and_parts (is_blank b) (list_all is_blank bs) h
    in and_from (not (is_byte k b)) (list_all (λ x. not (is_byte k x)) bs) (not_from_false (is_byte k b) (blank_differs k b e f p.0)) (none_blank k bs e f p.1)

none_round : (k : ℕ) (entry : List ℕ) → is_byte k 32 ≡ false → is_byte k 9 ≡ false → NonePass (is_byte k) (trimmed entry) → NonePass (is_byte k) entry
none_round k entry e f h =
    let t = trimmed_is entry
    in ap (list_all (λ b. not (is_byte k b))) t.parts
    ∙ none_append (is_byte k) (t.left ++ trimmed entry) t.right (none_append (is_byte k) t.left (trimmed entry) (none_blank k t.left e f t.left_blank) h) (none_blank k t.right e f t.right_blank)

bare_pieces : (bytes : List ℕ) → NonePass is_quote bytes → NonePass is_comma bytes → AllPieces (λ b. not (is_comma b)) (map bare bytes)
bare_pieces [] h k = tt
bare_pieces (b ∷ bs) h k =
    let p = and_parts (not (is_quote b)) (list_all (λ x. not (is_quote x)) bs) h
    in let q = and_parts (not (is_comma b)) (list_all (λ x. not (is_comma x)) bs) k
    in (not-true (is_quote b) p.0, q.0, bare_pieces bs p.1 q.1)

bare_text : (bytes : List ℕ) → bytes ≡ flat_map piece_text (map bare bytes)
bare_text [] = refl
bare_text (b ∷ bs) = ap (λ xs. b ∷ xs) (bare_text bs)

closed : (entry address : List ℕ) → IsBare entry address → IsClosed entry
closed entry address h = record {
  pieces = map bare entry;
  each = bare_pieces entry (none_round 34 entry refl refl (no_quote (trimmed entry) h.address_is)) (none_round 44 entry refl refl (no_comma (trimmed entry) h.address_is));
  text = bare_text entry;
}

has_ink : (entry address : List ℕ) → IsBare entry address → is_all_blank entry ≡ false
has_ink entry address h =
    let t = trimmed_is entry
    in let a = h.address_is
    in ap is_all_blank (
    t.parts
    ∙ ap (λ v. t.left ++ v ++ t.right) a.parts
    ∙ ap (λ v. v ++ t.right) (sym (append_assoc t.left a.local (64 ∷ a.domain)))
    ∙ append_assoc (t.left ++ a.local) (64 ∷ a.domain) t.right
    )
    ∙ some_ink (t.left ++ a.local) (a.domain ++ t.right) 64 refl

all_read : (entries addresses : List (List ℕ)) → AllBare entries addresses → AllRead entries addresses
all_read [] addresses h = h
all_read (entry ∷ entries) [] h = absurd h
all_read (entry ∷ entries) (address ∷ addresses) h =
    read_before entry address entries addresses (has_ink entry address h.0) ((forms entry address).1 (inl h.0)) (all_read entries addresses h.1)

all_closed : (entry address : List ℕ) (entries addresses : List (List ℕ)) → AllBare (entry ∷ entries) (address ∷ addresses) → AreEntries (entry ∷ entries)
all_closed entry address [] addresses h = inl (closed entry address h.0)
all_closed entry address (next ∷ entries) [] h = absurd h.1
all_closed entry address (next ∷ entries) (other ∷ addresses) h = (closed entry address h.0, all_closed next other entries addresses h.1)

pub joined_list : (entries addresses : List (List ℕ)) → 0 < length addresses → AllBare entries addresses → IsList (join_with_byte 44 entries) addresses
joined_list [] addresses some h = absurd (omega (arith, some, ap length h))
joined_list (entry ∷ entries) [] some h = absurd h
joined_list (entry ∷ entries) (address ∷ addresses) some h = record {
  entries = entry ∷ entries;
  parted = record { each = all_closed entry address entries addresses h; text_is = refl };
  read = all_read (entry ∷ entries) (address ∷ addresses) h;
  some = some;
}

-- ---- addresses in lower case

pub begins_ink : (bytes : List ℕ) → NonePass is_blank bytes → begins_blank bytes ≡ false
begins_ink [] h = refl
begins_ink (b ∷ bs) h = not-true (is_blank b) (and_parts (not (is_blank b)) (list_all (λ x. not (is_blank x)) bs) h).0

pub ends_ink : (bytes : List ℕ) → NonePass is_blank bytes → ends_blank bytes ≡ false
ends_ink [] h = refl
ends_ink (b ∷ []) h = not-true (is_blank b) (and_parts (not (is_blank b)) true h).0
ends_ink (b ∷ c ∷ bs) h = ends_ink (c ∷ bs) (and_parts (not (is_blank b)) (list_all (λ x. not (is_blank x)) (c ∷ bs)) h).1

pub address_trimmed : (address : List ℕ) → IsAddress address → trimmed address ≡ address
address_trimmed address h = let n = no_blank address h in trimmed_kept address (begins_ink address n) (ends_ink address n)

bare_again : (entry address : List ℕ) → IsLowerAddress address → trimmed entry ≡ address → IsBare entry address
bare_again entry address h e = record { address_is = rw e h.address; lower = sym (ap lowered e ∙ h.lower) }

spaced_bare : (addresses : List (List ℕ)) → AllByRecursion IsLowerAddress addresses → AllBare (map spaced addresses) addresses
spaced_bare [] h = refl
spaced_bare (address ∷ addresses) h =
    (bare_again (spaced address) address h.0 (first_blank address ∙ address_trimmed address h.0.address), spaced_bare addresses h.1)

entries_bare : (addresses : List (List ℕ)) → AllByRecursion IsLowerAddress addresses → AllBare (address_entries addresses) addresses
entries_bare [] h = refl
entries_bare (address ∷ addresses) h = (bare_again address address h.0 (address_trimmed address h.0.address), spaced_bare addresses h.1)

pub text_list : (addresses : List (List ℕ)) → 0 < length addresses → AllByRecursion IsLowerAddress addresses → IsList (addresses_text addresses) addresses
text_list addresses some h = joined_list (address_entries addresses) addresses some (entries_bare addresses h)

-- ---- what is read of a field of addresses

further_lines : (address : List ℕ) (addresses : List (List ℕ)) → flat_map spaced (address_lines (address ∷ addresses)) ≡ join_with_byte 44 (spaced address ∷ map spaced addresses)
further_lines address [] = append-nil (spaced address)
further_lines address (next ∷ addresses) =
    append_assoc (spaced address) (44 ∷ []) (flat_map spaced (address_lines (next ∷ addresses)))
    ∙ ap (λ xs. spaced address ++ 44 ∷ xs) (further_lines next addresses)

value_lines : (addresses : List (List ℕ)) → opening_line (address_lines addresses) ++ flat_map spaced (folded_lines (address_lines addresses)) ≡ addresses_text addresses
value_lines [] = refl
value_lines (address ∷ []) = append-nil address
value_lines (address ∷ next ∷ addresses) =
    append_assoc address (44 ∷ []) (flat_map spaced (address_lines (next ∷ addresses))) ∙ ap (λ xs. address ++ 44 ∷ xs) (further_lines next addresses)

ends_behind : (front : List ℕ) (b : ℕ) (back : List ℕ) → ends_blank (front ++ b ∷ back) ≡ ends_blank (b ∷ back)
ends_behind [] b back = refl
ends_behind (c ∷ []) b back = refl
ends_behind (c ∷ d ∷ front) b back = ends_behind (d ∷ front) b back

behind_ink : (b : ℕ) (bytes : List ℕ) → is_blank b ≡ false → ends_blank bytes ≡ false → ends_blank (b ∷ bytes) ≡ false
behind_ink b [] e h = e
behind_ink b (c ∷ bytes) e h = h

spaced_end : (address : List ℕ) → IsAddress address → ends_blank (spaced address) ≡ false
spaced_end [] h = absurd (not_nothing h)
spaced_end (b ∷ bs) h = ends_ink (b ∷ bs) (no_blank (b ∷ bs) h)

spaced_ends : (address : List ℕ) (addresses : List (List ℕ)) → IsLowerAddress address → AllByRecursion IsLowerAddress addresses
    → ends_blank (join_with_byte 44 (spaced address ∷ map spaced addresses)) ≡ false
spaced_ends address [] a h = spaced_end address a.address
spaced_ends address (next ∷ addresses) a h =
    ends_behind (spaced address) 44 (join_with_byte 44 (spaced next ∷ map spaced addresses))
    ∙ behind_ink 44 (join_with_byte 44 (spaced next ∷ map spaced addresses)) refl (spaced_ends next addresses h.0 h.1)

text_ends : (addresses : List (List ℕ)) → AllByRecursion IsLowerAddress addresses → ends_blank (addresses_text addresses) ≡ false
text_ends [] h = refl
text_ends (address ∷ []) h = ends_ink address (no_blank address h.0.address)
text_ends (address ∷ next ∷ addresses) h =
    ends_behind address 44 (join_with_byte 44 (spaced next ∷ map spaced addresses))
    ∙ behind_ink 44 (join_with_byte 44 (spaced next ∷ map spaced addresses)) refl (spaced_ends next addresses h.1.0 h.1.1)

text_begins : (addresses : List (List ℕ)) → AllByRecursion IsLowerAddress addresses → begins_blank (addresses_text addresses) ≡ false
text_begins [] h = refl
text_begins ([] ∷ addresses) h = absurd (not_nothing h.0.address)
text_begins ((b ∷ bs) ∷ []) h = begins_ink (b ∷ bs) (no_blank (b ∷ bs) h.0.address)
text_begins ((b ∷ bs) ∷ next ∷ addresses) h = begins_ink (b ∷ bs) (no_blank (b ∷ bs) h.0.address)

list_value : (name : List ℕ) (addresses : List (List ℕ)) → AllByRecursion IsLowerAddress addresses → trimmed (value_text (list_field name addresses)) ≡ addresses_text addresses
list_value name addresses h = ap trimmed (value_lines addresses) ∙ trimmed_kept (addresses_text addresses) (text_begins addresses h) (text_ends addresses h)

pub list_shown : (name : List ℕ) (addresses : List (List ℕ)) → AllByRecursion IsLowerAddress addresses
    → shown (list_field name addresses) ≡ record { name = name; value = addresses_text addresses }
list_shown name addresses h = ap (λ v. record { name = name; value = v }) (list_value name addresses h)

pub folded_list : (name : List ℕ) (addresses : List (List ℕ)) → 0 < length addresses → AllByRecursion IsLowerAddress addresses → IsList (shown (list_field name addresses)).value addresses
folded_list name addresses some h = subst (λ v. IsList v addresses) (sym (list_value name addresses h)) (text_list addresses some h)

-- ---- such a field may be written

record IsAddressLine (line : List ℕ) : Type 0 where
  plain : NonePass is_control line
  short : length line ≤ 255

address_plain : (address : List ℕ) → IsLowerAddress address → NonePass is_control address
address_plain address h = printable_plain address (address_printable address h)

lines_plain : (addresses : List (List ℕ)) → AllByRecursion IsLowerAddress addresses → AllByRecursion IsAddressLine (address_lines addresses)
lines_plain [] h = tt
lines_plain (address ∷ []) h = (record { plain = address_plain address h.0; short = omega (arith, h.0.address.short) }, tt)
lines_plain (address ∷ next ∷ addresses) h = (
  record {
    plain = none_append is_control address (44 ∷ []) (address_plain address h.0) refl;
    short = omega (arith, h.0.address.short, length-append address (44 ∷ []));
  },
  lines_plain (next ∷ addresses) h.1,
)

first_line_is : (lines : List (List ℕ)) → AllByRecursion IsAddressLine lines → IsAddressLine (opening_line lines)
first_line_is [] h = record { plain = refl; short = omega arith }
first_line_is (line ∷ lines) h = h.0

spaced_lines : (lines : List (List ℕ)) → AllByRecursion IsAddressLine lines → AllByRecursion IsLine (map spaced lines)
spaced_lines [] h = tt
spaced_lines (line ∷ lines) h = (record { short = omega (arith, h.0.short); plain = h.0.plain }, spaced_lines lines h.1)

rest_lines : (lines : List (List ℕ)) → AllByRecursion IsAddressLine lines → AllByRecursion IsLine (map spaced (folded_lines lines))
rest_lines [] h = tt
rest_lines (line ∷ lines) h = spaced_lines lines h.1

pub list_stands : (name : List ℕ) (addresses : List (List ℕ)) → is_name name ≡ true → length name + 257 ≤ LINE_LIMIT → AllByRecursion IsLowerAddress addresses
    → CanStand (list_field name addresses)
list_stands name addresses n short h =
    let lines = lines_plain addresses h
    in let first = first_line_is (address_lines addresses) lines
    in record {
      name = n;
      lines = (
        record {
          short = omega (arith, short, first.short, first_size name (opening_line (address_lines addresses)));
          plain = first_plain name (opening_line (address_lines addresses)) n first.plain;
        },
        rest_lines (address_lines addresses) lines,
      );
    }

-- ---- as the code puts it

further_text : (address : List ℕ) (addresses : List (List ℕ)) → flat_map ended_line (map spaced (address_lines (address ∷ addresses))) ≡ spaced (folded_from (address ∷ addresses))
further_text address [] = append-nil (ended_line (spaced address))
further_text address (next ∷ addresses) =
    let more = folded_from (next ∷ addresses)
    in ap (λ t. ended_line (spaced (address ++ 44 ∷ [])) ++ t) (further_text next addresses)
    ∙ append_assoc (spaced (address ++ 44 ∷ [])) (13 ∷ 10 ∷ []) (spaced more)
    ∙ ap spaced (append_assoc address (44 ∷ []) (13 ∷ 10 ∷ 32 ∷ more) ∙ sym (append_assoc address (behind_address false) more))

list_text : (name address : List ℕ) (addresses : List (List ℕ)) → field_text (list_field name (address ∷ addresses)) ≡ (name ++ 58 ∷ 32 ∷ []) ++ folded_from (address ∷ addresses)
list_text name address [] =
    append-nil (ended_line (name ++ 58 ∷ spaced address))
    ∙ append_assoc name (58 ∷ spaced address) (13 ∷ 10 ∷ [])
    ∙ sym (append_assoc name (58 ∷ 32 ∷ []) (folded_from (address ∷ [])))
list_text name address (next ∷ addresses) =
    let more = folded_from (next ∷ addresses)
    in ap (λ t. ended_line (name ++ 58 ∷ spaced (address ++ 44 ∷ [])) ++ t) (further_text next addresses)
    ∙ append_assoc (name ++ 58 ∷ spaced (address ++ 44 ∷ [])) (13 ∷ 10 ∷ []) (spaced more)
    ∙ append_assoc name (58 ∷ spaced (address ++ 44 ∷ [])) (13 ∷ 10 ∷ spaced more)
    ∙ ap (λ t. name ++ 58 ∷ spaced t) (append_assoc address (44 ∷ []) (13 ∷ 10 ∷ spaced more) ∙ sym (append_assoc address (behind_address false) more))
    ∙ sym (append_assoc name (58 ∷ 32 ∷ []) (folded_from (address ∷ next ∷ addresses)))

pub list_put : {X : Type 0} (seen : X → List ℕ) (name before named after : List ℕ) (addresses : List X) → (length addresses == 0) ≡ false → named ≡ before ++ (name ++ 58 ∷ 32 ∷ [])
    → after ≡ named ++ folded_from (map seen addresses) → after ≡ before ++ field_text (list_field name (map seen addresses))
list_put seen name before named after [] some n e = absurd cc
list_put seen name before named after (address ∷ addresses) some n e =
    e ∙ ap (λ t. t ++ folded_from (map seen (address ∷ addresses))) n
    ∙ append_assoc before (name ++ 58 ∷ 32 ∷ []) (folded_from (map seen (address ∷ addresses)))
    ∙ ap (λ t. before ++ t) (sym (list_text name (seen address) (map seen addresses)))
