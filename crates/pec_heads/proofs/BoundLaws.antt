-- What is always so of the facts of a head.
use Rattle.std.proofs.Common.{◌≡◌, ℕ, ◌<◌, ◌≤◌, ◌==◌, nat_le, List, [], ◌∷◌, ◌++◌, Bool, true, false, not, ◌||◌, cond, map, length, inl, inr, MatchBool, codes, Option, Some, None, refl, ap, subst, sym, ◌∙◌, arith, length-append}
use Rattle.std.proofs.lemmas.Bool.{and_parts, both_ways, cond_both, eqb-false, eqb-true, leb-true, ne_eqb, not-true, or_from, or_left, or_right}
use Rattle.std.proofs.lemmas.List.{length-map, length-take}
use Rattle.std.proofs.lemmas.List.Folds.{list_any-append}
use Rattle.std.proofs.lemmas.Slice.Eq.{bytes_eq-Decides}
use Rattle.std.specs.List.{AllByRecursion, concat, slice_get}
use Rattle.std.specs.Option.{IfSome, option_and_then}
use Rattle.std.specs.Str.{bytes_eq}
use Rattle.pec_types.specs.Address.{IsLowerAddress, IsReadAs}
use Rattle.pec_types.specs.Bytes.{Bytes, Path}
use Rattle.pec_types.specs.Text.{is_unprintable}
use Rattle.pec_types.specs.declared.messages.Class.TheVariants.{Primary, Copy}
use Rattle.pec_types.specs.declared.messages.Facts.{Facts}
use Rattle.pec_types.specs.declared.messages.Recipient.{Recipient}
use Rattle.pec_heads.specs.BoundedFacts.{AllDifferent, AreBounded, AreRecipients, IsShortText, addresses_of, addresses_where, is_copy, is_primary}
use Rattle.pec_heads.specs.Bytes.{begins_blank, ends_blank, is_blank, trimmed}
use Rattle.pec_heads.specs.FactsOfHeads.{AreCopies, IsFacts, first_value, fresh, front_of, has_address, may_reply, printed, printed_byte, recipient, recipients_of, reply_or, short_text}
use Rattle.pec_heads.specs.Heads.{FieldLines, IsHead, NamedValue, is_named, joined_values, unfolded, values_of}
use Rattle.pec_heads.specs.Lists.{AllRead, IsEntry, IsList, ReadsFirst, is_all_blank}
use Rattle.pec_heads.specs.declared.TheConstants.{TEXT_LIMIT}
use Rattle.pec_heads.proofs.AddressFacts.{AddressesTold}
use Rattle.pec_heads.proofs.AddressListLaws.{begins_ink, ends_ink, no_blank, not_nothing}
use Rattle.pec_heads.proofs.BlankLemmas.{trimmed_is}
use Rattle.pec_heads.proofs.EntryForms.{forms}
use Rattle.pec_heads.proofs.FactSteps.{address_printable, front_printable, printed_printable, trimmed_printable}
use Rattle.pec_heads.proofs.ListLaws.{one_list}
use Rattle.pec_heads.proofs.RecipientLaws.{fresh_set, same_addresses}

-- ---- addresses of a list

-- what pec_types says of addresses that are read
abbrev pub ReadInLower : Type 0
ReadInLower = (text address : Bytes) → IsReadAs text address → IsLowerAddress address

entry_lower : ReadInLower → (entry address : Bytes) → IsEntry entry address → IsLowerAddress address
entry_lower reads entry address h =
    elim ((forms entry address).0 h) [
      | inl bare ↦ reads (trimmed entry) address (bare.address_is, bare.lower)
      | inr angled ↦ reads (trimmed angled.inside) address (angled.address_is, angled.lower)
    ]

lower_case : ReadInLower → (t : Bool) (entry : Bytes) (entries addresses : Path) → MatchBool t (AllRead entries addresses) (ReadsFirst entry (AllRead entries) addresses)
    → ((others : Path) → AllRead entries others → AllByRecursion IsLowerAddress others) → AllByRecursion IsLowerAddress addresses
lower_case reads true entry entries addresses h all = all addresses h
lower_case reads false entry entries addresses h all = subst (AllByRecursion IsLowerAddress) (sym h.parts) (entry_lower reads entry h.address h.entry_is, all h.others h.others_are)

all_lower : ReadInLower → (entries addresses : Path) → AllRead entries addresses → AllByRecursion IsLowerAddress addresses
all_lower reads [] addresses h = subst (AllByRecursion IsLowerAddress) (sym h) tt
all_lower reads (entry ∷ entries) addresses h = lower_case reads (is_all_blank entry) entry entries addresses h (λ others. all_lower reads entries others)

list_lower : ReadInLower → (text : Bytes) (addresses : Path) → IsList text addresses → AllByRecursion IsLowerAddress addresses
list_lower reads text addresses h = all_lower reads h.entries addresses h.read

-- ---- short texts

trimmed_size : (bytes : Bytes) → length (trimmed bytes) ≤ length bytes
trimmed_size bytes =
    let t = trimmed_is bytes
    in omega (arith, ap length t.parts, length-append (t.left ++ trimmed bytes) t.right, length-append t.left (trimmed bytes))

front_size : (value : Bytes) → length (front_of value) ≤ TEXT_LIMIT
unfolding front_of
front_size value = omega (arith, length-take TEXT_LIMIT value)

short_case : (text : Bytes) (t : Bool) → (length text == 0) ≡ t → (0 < length text → IsShortText text) → IfSome (cond t None (Some text)) IsShortText
short_case text true e h = tt
short_case text false e h = let n = eqb-false (length text) 0 e in h (omega (arith, n))

short_is_short : (value : Bytes) → IfSome (short_text value) IsShortText
unfolding short_text
short_is_short value =
    let text = trimmed (front_of (printed value))
    in let t = trimmed_is (front_of (printed value))
    in short_case text (length text == 0) refl (λ some. record {
      printable = trimmed_printable (front_of (printed value)) (front_printable value);
      some = some;
      short = omega (arith, trimmed_size (front_of (printed value)), front_size (printed value));
      begins = t.begins;
      ends = t.ends;
    })

pub first_short : (found : Option Bytes) → IfSome (option_and_then short_text found) IsShortText
first_short None = tt
first_short (Some value) = short_is_short value

-- ---- replies

blank_kept : (b : ℕ) (t u : Bool) → (b == 9) ≡ t → is_unprintable b ≡ u → is_blank (cond t 32 (cond u 63 b)) ≡ is_blank b
blank_kept b true u e f = rw (eqb-true b 9 e) refl
blank_kept b false true e f = sym (or_from (b == 32) (b == 9) (ne_eqb b 32 (λ q. both_ways (is_unprintable b) (rw q refl) f)) e)
blank_kept b false false e f = refl

same_blank : (b : ℕ) → is_blank (printed_byte b) ≡ is_blank b
same_blank b = blank_kept b (b == 9) (is_unprintable b) refl refl

printed_begins : (value : Bytes) → begins_blank (printed value) ≡ begins_blank value
printed_begins [] = refl
printed_begins (b ∷ bs) = same_blank b

printed_ends : (value : Bytes) → ends_blank (printed value) ≡ ends_blank value
printed_ends [] = refl
printed_ends (b ∷ []) = same_blank b
printed_ends (b ∷ c ∷ bs) = printed_ends (c ∷ bs)

record IsTrim (value : Bytes) : Type 0 where
  begins : begins_blank value ≡ false
  ends : ends_blank value ≡ false

some_value : (value : Bytes) → is_all_blank value ≡ false → 0 < length value
some_value [] e = absurd cc
some_value (b ∷ bs) e = omega arith

reply_value : (value : Bytes) → IsTrim value → may_reply value ≡ true → IsShortText (printed value)
reply_value value t e =
    let p = and_parts (not (is_all_blank value)) (nat_le (length value) TEXT_LIMIT) e
    in record {
      printable = printed_printable value;
      some = omega (arith, some_value value (not-true (is_all_blank value) p.0), length-map value printed_byte);
      short = omega (arith, leb-true (length value) TEXT_LIMIT p.1, length-map value printed_byte);
      begins = printed_begins value ∙ t.begins;
      ends = printed_ends value ∙ t.ends;
    }

some_address : (address : Bytes) → IsLowerAddress address → 0 < length address
some_address [] h = absurd (not_nothing h.address)
some_address (b ∷ bs) h = omega arith

reply_sender : (sender : Bytes) → IsLowerAddress sender → IsShortText sender
reply_sender sender h = record {
  printable = address_printable sender h;
  some = some_address sender h;
  short = omega (arith, h.address.short);
  begins = begins_ink sender (no_blank sender h.address);
  ends = ends_ink sender (no_blank sender h.address);
}

reply_short : (sender : Bytes) (found : Option Bytes) → IsLowerAddress sender → IfSome found IsTrim → IsShortText (reply_or sender found)
reply_short sender None h t = reply_sender sender h
reply_short sender (Some value) h t = cond_both (may_reply value) (printed value) sender IsShortText (λ e. reply_value value t e) (λ e. reply_sender sender h)

-- the values of a head are cut at both ends
values_trim : (name : Bytes) (trees : List FieldLines) → AllByRecursion IsTrim (values_of name (map unfolded trees))
values_trim name [] = tt
values_trim name (f ∷ trees) =
    let t = trimmed_is (f.rest ++ concat f.more)
    in cond_both (is_named name (unfolded f)) ((unfolded f).value ∷ values_of name (map unfolded trees)) (values_of name (map unfolded trees)) (AllByRecursion IsTrim)
    (λ e. (record { begins = t.begins; ends = t.ends }, values_trim name trees))
    (λ e. values_trim name trees)

first_trim : (values : Path) → AllByRecursion IsTrim values → IfSome (slice_get values 0) IsTrim
first_trim [] h = tt
first_trim (value ∷ values) h = h.0

head_trim : (name text : Bytes) (fields : List NamedValue) (place : ℕ) → IsHead text fields place → IfSome (first_value name fields) IsTrim
head_trim name text fields place h =
    subst (λ fs. IfSome (first_value name fs) IsTrim) (sym h.fields_are) (first_trim (values_of name (map unfolded h.trees)) (values_trim name h.trees))

-- ---- recipients

fresh_lower : (before xs : Path) → AllByRecursion IsLowerAddress xs → AllByRecursion IsLowerAddress (fresh before xs)
fresh_lower before [] h = tt
fresh_lower before (x ∷ xs) h =
    cond_both (has_address before x) (fresh before xs) (x ∷ fresh (before ++ x ∷ []) xs) (AllByRecursion IsLowerAddress)
    (λ e. fresh_lower before xs h.1)
    (λ e. (h.0, fresh_lower (before ++ x ∷ []) xs h.1))

abbrev HasLower : Recipient → Type 0
HasLower r = IsLowerAddress r.address

made_lower : (make : Bytes → Recipient) → ((x : Bytes) → (make x).address ≡ x) → (xs : Path) (more : List Recipient) → AllByRecursion IsLowerAddress xs → AllByRecursion HasLower more
    → AllByRecursion HasLower (map make xs ++ more)
made_lower make same [] more h k = k
made_lower make same (x ∷ xs) more h k = (subst IsLowerAddress (sym (same x)) h.0, made_lower make same xs more h.1 k)

copies_lower : ReadInLower → (fields : List NamedValue) (copies : Path) → AreCopies fields copies → AllByRecursion IsLowerAddress copies
copies_lower reads fields copies h = elim h [ inl none ↦ subst (AllByRecursion IsLowerAddress) (sym none.1) tt | inr some ↦ list_lower reads (joined_values (codes "Cc") fields) copies some.1 ]

map_lower : (make : Bytes → Recipient) → ((x : Bytes) → (make x).address ≡ x) → (xs : Path) → AllByRecursion IsLowerAddress xs → AllByRecursion HasLower (map make xs)
map_lower make same [] h = tt
map_lower make same (x ∷ xs) h = (subst IsLowerAddress (sym (same x)) h.0, map_lower make same xs h.1)

recipients_lower : (to copies : Path) → AllByRecursion IsLowerAddress to → AllByRecursion IsLowerAddress copies → AllByRecursion HasLower (recipients_of to copies)
unfolding recipients_of
recipients_lower to copies h k =
    made_lower (recipient Primary) (λ x. refl) (fresh [] to) (map (recipient Copy) (fresh to copies)) (fresh_lower [] to h)
    (map_lower (recipient Copy) (λ x. refl) (fresh to copies) (fresh_lower to copies k))

pub bounded : ReadInLower → (text : Bytes) (fields : List NamedValue) (place : ℕ) (facts : Facts) → IsHead text fields place → IsFacts fields facts → AreBounded facts
bounded reads text fields place facts h f =
    let sender = (list_lower reads f.from (facts.sender ∷ []) f.one_sender).0
    in record {
      sender = sender;
      recipients = subst (AllByRecursion HasLower) (sym f.recipients_are)
          (recipients_lower f.to f.copies (list_lower reads (joined_values (codes "To") fields) f.to f.to_is) (copies_lower reads fields f.copies f.copies_are));
      subject = subst (λ t. IfSome t IsShortText) (sym f.subject_is) (first_short (first_value (codes "Subject") fields));
      reference = subst (λ t. IfSome t IsShortText) (sym f.reference_is) (first_short (first_value (codes "Message-ID") fields));
      reply = subst IsShortText (sym f.reply_is) (reply_short facts.sender (first_value (codes "Reply-To") fields) sender (head_trim (codes "Reply-To") text fields place h));
    }

-- ---- no address twice

has_itself : (before : Path) (x : Bytes) → has_address (before ++ x ∷ []) x ≡ true
has_itself before x =
    list_any-append (λ o. bytes_eq o x) before (x ∷ []) ∙ or_right (has_address before x) (has_address (x ∷ []) x) (or_left (bytes_eq x x) false ((bytes_eq-Decides x x).1 refl))

has_more : (before : Path) (y x : Bytes) → has_address before x ≡ true → has_address (before ++ y ∷ []) x ≡ true
has_more before y x e = list_any-append (λ o. bytes_eq o x) before (y ∷ []) ∙ or_left (has_address before x) (has_address (y ∷ []) x) e

other_than : (before : Path) (y x : Bytes) → has_address before x ≡ true → has_address before y ≡ false → (t : Bool) → bytes_eq y x ≡ t → t ≡ false
other_than before y x e f true g = absurd (both_ways (has_address before x) (rw ((bytes_eq-Decides y x).0 g) at f) e)
other_than before y x e f false g = refl

none_again : (before xs : Path) (x : Bytes) → has_address before x ≡ true → has_address (fresh before xs) x ≡ false
none_again before [] x e = refl
none_again before (y ∷ xs) x e =
    cond_both (has_address before y) (fresh before xs) (y ∷ fresh (before ++ y ∷ []) xs) (λ ys. has_address ys x ≡ false)
    (λ t. none_again before xs x e)
    (λ t. or_from (bytes_eq y x) (has_address (fresh (before ++ y ∷ []) xs) x) (other_than before y x e t (bytes_eq y x) refl) (none_again (before ++ y ∷ []) xs x (has_more before y x e)))

fresh_different : (before xs : Path) → AllDifferent (fresh before xs)
fresh_different before [] = tt
fresh_different before (y ∷ xs) =
    cond_both (has_address before y) (fresh before xs) (y ∷ fresh (before ++ y ∷ []) xs) AllDifferent
    (λ t. fresh_different before xs)
    (λ t. (none_again (before ++ y ∷ []) xs y (has_itself before y), fresh_different (before ++ y ∷ []) xs))

has_first : (x : Bytes) (xs : Path) → has_address (x ∷ xs) x ≡ true
has_first x xs = or_left (bytes_eq x x) (has_address xs x) ((bytes_eq-Decides x x).1 refl)

both_different : (xs ys : Path) → AllDifferent xs → AllDifferent ys → ((x : Bytes) → has_address xs x ≡ true → has_address ys x ≡ false) → AllDifferent (xs ++ ys)
both_different [] ys h k apart = k
both_different (x ∷ xs) ys h k apart = (
  list_any-append (λ o. bytes_eq o x) xs ys ∙ or_from (has_address xs x) (has_address ys x) h.0 (apart x (has_first x xs)),
  both_different xs ys h.1 k (λ z e. apart z (or_right (bytes_eq x z) (has_address xs z) e)),
)

-- ---- the recipients of `To` and `Cc`

primary_of : (xs ys : Path) → addresses_where is_primary (map (recipient Primary) xs ++ map (recipient Copy) ys) ≡ xs
primary_of [] [] = refl
primary_of [] (y ∷ ys) = primary_of [] ys
primary_of (x ∷ xs) ys = ap (λ zs. x ∷ zs) (primary_of xs ys)

copies_of : (xs ys : Path) → addresses_where is_copy (map (recipient Primary) xs ++ map (recipient Copy) ys) ≡ ys
copies_of [] [] = refl
copies_of [] (y ∷ ys) = ap (λ zs. y ∷ zs) (copies_of [] ys)
copies_of (x ∷ xs) ys = copies_of xs ys

all_of : (xs ys : Path) → addresses_of (map (recipient Primary) xs ++ map (recipient Copy) ys) ≡ xs ++ ys
all_of [] ys = same_addresses Copy ys
all_of (x ∷ xs) ys = ap (λ zs. x ∷ zs) (all_of xs ys)

some_fresh : (to : Path) → 0 < length to → 0 < length (fresh [] to)
some_fresh [] h = h
some_fresh (x ∷ to) h = omega arith

each_of : (to copies : Path) (x : Bytes) → has_address (fresh [] to ++ fresh to copies) x ≡ has_address (to ++ copies) x
each_of to copies x =
    list_any-append (λ o. bytes_eq o x) (fresh [] to) (fresh to copies)
    ∙ ap (λ t. t || has_address (fresh to copies) x) (fresh_set [] to x)
    ∙ sym (list_any-append (λ o. bytes_eq o x) to (fresh to copies))
    ∙ fresh_set to copies x

pub recipients_of_both : (to copies : Path) → 0 < length to → AreRecipients to copies (recipients_of to copies)
unfolding recipients_of
recipients_of_both to copies some =
    let xs = fresh [] to
    in let ys = fresh to copies
    in record {
      some = subst (λ zs. 0 < length zs) (sym (primary_of xs ys)) (some_fresh to some);
      different = subst AllDifferent (sym (all_of xs ys)) (both_different xs ys (fresh_different [] to) (fresh_different to copies) (λ x e. none_again to copies x (sym (fresh_set [] to x) ∙ e)));
      each = λ x. ap (λ zs. has_address zs x) (all_of xs ys) ∙ each_of to copies x;
      primary = λ x. ap (λ zs. has_address zs x) (primary_of xs ys) ∙ fresh_set [] to x;
      order = sym (ap (λ zs. map (recipient Primary) zs ++ map (recipient Copy) (addresses_where is_copy (map (recipient Primary) xs ++ map (recipient Copy) ys))) (primary_of xs ys)
          ∙ ap (λ zs. map (recipient Primary) xs ++ map (recipient Copy) zs) (copies_of xs ys));
    }

pub gathered : (to copies : Path) (x : Bytes) → has_address (addresses_of (recipients_of to copies)) x ≡ has_address (to ++ copies) x
unfolding recipients_of
gathered to copies x = ap (λ zs. has_address zs x) (all_of (fresh [] to) (fresh to copies)) ∙ each_of to copies x

-- what the law of addresses says
module _ (told : AddressesTold) where
  one_copies : (fields : List NamedValue) (copies others : Path) → AreCopies fields copies → AreCopies fields others → copies ≡ others
  one_copies fields copies others h k =
      elim h [
        | inl none ↦ elim k [ inl also ↦ none.1 ∙ sym also.1 | inr some ↦ absurd (some.0 none.0) ]
        | inr some ↦ elim k [ inl none ↦ absurd (some.0 none.0) | inr also ↦ one_list told (joined_values (codes "Cc") fields) copies others some.1 also.1 ]
      ]

  pub recipients_are_both : (fields : List NamedValue) (facts : Facts) (to copies : Path) → IsFacts fields facts → IsList (joined_values (codes "To") fields) to → AreCopies fields copies
      → AreRecipients to copies facts.recipients
  recipients_are_both fields facts to copies f h k =
      let same_to = one_list told (joined_values (codes "To") fields) f.to to f.to_is h
      in let same_copies = one_copies fields f.copies copies f.copies_are k
      in subst (AreRecipients to copies) (sym (f.recipients_are ∙ ap (λ xs. recipients_of xs f.copies) same_to ∙ ap (recipients_of to) same_copies)) (recipients_of_both to copies h.some)
