-- Records, read from their lines: what the lines say is read, and what is read they say.
use Rattle.std.proofs.Common.{◌≡◌, ◌⊎◌, inl, inr, ℕ, Bool, List, [], ◌∷◌, ◌++◌, Option, None, Some, Result, Ok, Err, refl, sym, ◌∙◌, ap, append_assoc, append-nil, Decides}
use Rattle.std.specs.List.{find}
use Rattle.pec_types.specs.Results.{◌>>=◌}
use Rattle.pec_types.specs.Tables.{IsFirst, NoneApplies, first_again, first_is, none_again, none_is}
use Rattle.pec_ldif.specs.Attributes.{Attribute, IsAttribute}
use Rattle.pec_ldif.specs.AttributesReading.{attribute_of}
use Rattle.pec_ldif.specs.Lines.{Line}
use Rattle.pec_ldif.specs.Records.{AreAttributes, AreEntries, AttributesStop, EntriesStop, Entry, IsEntry, IsEntryFault, IsMet, Row, SayEntry, rows_of}
use Rattle.pec_ldif.specs.RecordsReading.{attributes_from, entries_from, entry_of, or_row, tested}
use Rattle.pec_ldif.specs.declared.faults.LdifFault.{LdifFault}
use Rattle.pec_ldif.proofs.AttributeLemmas.{attribute_told}

-- ---- the lines of a record

abbrev next_attribute : List Attribute → List Line → Result Attribute LdifFault → Result (List Attribute) LdifFault
next_attribute before lines r = r >>= λ attribute. attributes_from (before ++ attribute ∷ []) lines

abbrev many : List Attribute → Result (List Attribute) LdifFault
many attributes = Ok attributes

attributes_read : (before : List Attribute) (lines : List Line) (attributes : List Attribute) → AreAttributes lines attributes
    → attributes_from before lines ≡ Ok (before ++ attributes)
attributes_read before [] [] is = ap many (sym (append-nil before))
attributes_read before [] (a ∷ rest) is = absurd is
attributes_read before (l ∷ ls) [] is = absurd is
attributes_read before (l ∷ ls) (a ∷ rest) is =
    ap (next_attribute before ls) (((attribute_told l).value a).1 is.0)
    ∙ (attributes_read (before ++ a ∷ []) ls rest is.1 ∙ ap many (append_assoc before (a ∷ []) rest))

attributes_stop : (before : List Attribute) (lines : List Line) (fault : LdifFault) → AttributesStop lines fault
    → attributes_from before lines ≡ Err fault
attributes_stop before [] fault is = absurd is
attributes_stop before (l ∷ ls) fault (inl wrong) = ap (next_attribute before ls) (((attribute_told l).fault fault).1 wrong)
attributes_stop before (l ∷ ls) fault (inr more) =
    ap (next_attribute before ls) (((attribute_told l).value more.0).1 more.1) ∙ attributes_stop (before ++ more.0 ∷ []) ls fault more.2

abbrev HaveAttributes : List Line → Type 0
HaveAttributes lines = ((attributes : List Attribute) × AreAttributes lines attributes) ⊎ ((fault : LdifFault) × AttributesStop lines fault)

attributes_behind : (l : Line) (ls : List Line) (a : Attribute) → IsAttribute l a → HaveAttributes ls → HaveAttributes (l ∷ ls)
attributes_behind l ls a is (inl more) = inl (a ∷ more.0, (is, more.1))
attributes_behind l ls a is (inr stop) = inr (stop.0, inr (a, is, stop.1))

attributes_by : (l : Line) (ls : List Line) (r : Result Attribute LdifFault) → attribute_of l ≡ r → HaveAttributes ls → HaveAttributes (l ∷ ls)
attributes_by l ls (Ok a) e more = attributes_behind l ls a (((attribute_told l).value a).0 e) more
attributes_by l ls (Err fault) e more = inr (fault, inl (((attribute_told l).fault fault).0 e))

have_attributes : (lines : List Line) → HaveAttributes lines
have_attributes [] = inl ([], tt)
have_attributes (l ∷ ls) = attributes_by l ls (attribute_of l) refl (have_attributes ls)

-- ---- the tests on a record

met : (row : Row) → Decides row.0 (IsMet row)
met row = (λ e. e, λ e. e)

test : Row → Bool
test row = row.0

tested_kept : (earlier : List Entry) (entry : Entry) → NoneApplies IsMet (rows_of earlier entry) → tested earlier entry ≡ Ok entry
unfolding tested
tested_kept earlier entry none = ap (or_row entry) (none_again (λ (row : Row). row.0) IsMet met (rows_of earlier entry) none)

tested_stops : (earlier : List Entry) (entry : Entry) (row : Row) → IsFirst IsMet (rows_of earlier entry) row → tested earlier entry ≡ Err row.1
unfolding tested
tested_stops earlier entry row first = ap (or_row entry) (first_again (λ (row : Row). row.0) IsMet met (rows_of earlier entry) row first)

abbrev IsTested : List Entry → Entry → Type 0
IsTested earlier entry = NoneApplies IsMet (rows_of earlier entry) ⊎ ((row : Row) × IsFirst IsMet (rows_of earlier entry) row)

tested_by : (earlier : List Entry) (entry : Entry) (found : Option Row) → find (λ (row : Row). row.0) (rows_of earlier entry) ≡ found → IsTested earlier entry
tested_by earlier entry None e = inl (none_is (λ (row : Row). row.0) IsMet met (rows_of earlier entry) e)
tested_by earlier entry (Some row) e = inr (row, first_is (λ (row : Row). row.0) IsMet met (rows_of earlier entry) row e)

is_tested : (earlier : List Entry) (entry : Entry) → IsTested earlier entry
is_tested earlier entry = tested_by earlier entry (find (λ (row : Row). row.0) (rows_of earlier entry)) refl

-- ---- a record

abbrev entry_at : ℕ → List Attribute → Entry
entry_at place attributes = record { place = place; attributes = attributes }

abbrev next_entry : List Entry → ℕ → Result (List Attribute) LdifFault → Result Entry LdifFault
next_entry earlier place r = r >>= λ attributes. tested earlier (entry_at place attributes)

said_entry : (earlier : List Entry) (first : Line) (lines : List Line) (entry : Entry) → SayEntry first lines entry
    → entry_of earlier first.place (first ∷ lines) ≡ tested earlier entry
unfolding entry_of
said_entry earlier first lines entry says =
    ap (next_entry earlier first.place) (attributes_read [] (first ∷ lines) entry.attributes says.1)
    ∙ ap (λ place. tested earlier (entry_at place entry.attributes)) (sym says.0)

entry_read : (earlier : List Entry) (first : Line) (lines : List Line) (entry : Entry) → IsEntry earlier first lines entry
    → entry_of earlier first.place (first ∷ lines) ≡ Ok entry
entry_read earlier first lines entry is = said_entry earlier first lines entry is.0 ∙ tested_kept earlier entry is.1

abbrev one : LdifFault → Result Entry LdifFault
one fault = Err fault

entry_stops : (earlier : List Entry) (first : Line) (lines : List Line) (fault : LdifFault) → IsEntryFault earlier first lines fault
    → entry_of earlier first.place (first ∷ lines) ≡ Err fault
unfolding entry_of
entry_stops earlier first lines fault (inl stop) = ap (next_entry earlier first.place) (attributes_stop [] (first ∷ lines) fault stop)
entry_stops earlier first lines fault (inr is) =
    said_entry earlier first lines is.0 is.2 ∙ (tested_stops earlier is.0 is.1 is.3 ∙ ap one is.4)

abbrev HasEntry : List Entry → Line → List Line → Type 0
HasEntry earlier first lines =
    ((entry : Entry) × IsEntry earlier first lines entry) ⊎ ((fault : LdifFault) × IsEntryFault earlier first lines fault)

entry_tested : (earlier : List Entry) (first : Line) (lines : List Line) (entry : Entry) → SayEntry first lines entry → IsTested earlier entry
    → HasEntry earlier first lines
entry_tested earlier first lines entry says (inl none) = inl (entry, (says, none))
entry_tested earlier first lines entry says (inr first_met) = inr (first_met.0.1, inr (entry, first_met.0, says, first_met.1, refl))

entry_by : (earlier : List Entry) (first : Line) (lines : List Line) → HaveAttributes (first ∷ lines) → HasEntry earlier first lines
entry_by earlier first lines (inl are) =
    entry_tested earlier first lines (entry_at first.place are.0) (refl, are.1) (is_tested earlier (entry_at first.place are.0))
entry_by earlier first lines (inr stop) = inr (stop.0, inl stop.1)

has_entry : (earlier : List Entry) (first : Line) (lines : List Line) → HasEntry earlier first lines
has_entry earlier first lines = entry_by earlier first lines (have_attributes (first ∷ lines))

-- ---- records

abbrev with_next : List Entry → List (List Line) → Result Entry LdifFault → Result (List Entry) LdifFault
with_next earlier groups r = (r >>= λ entry. Ok (earlier ++ entry ∷ [])) >>= λ more. entries_from more groups

abbrev all : List Entry → Result (List Entry) LdifFault
all entries = Ok entries

pub entries_read : (earlier : List Entry) (groups : List (List Line)) (entries : List Entry) → AreEntries earlier groups entries
    → entries_from earlier groups ≡ Ok (earlier ++ entries)
entries_read earlier [] [] is = ap all (sym (append-nil earlier))
entries_read earlier [] (e ∷ es) is = absurd is
entries_read earlier ([] ∷ groups) [] is = entries_read earlier groups [] is
entries_read earlier ([] ∷ groups) (e ∷ es) is = entries_read earlier groups (e ∷ es) is
entries_read earlier ((first ∷ lines) ∷ groups) [] is = absurd is
entries_read earlier ((first ∷ lines) ∷ groups) (e ∷ es) is =
    ap (with_next earlier groups) (entry_read earlier first lines e is.0)
    ∙ (entries_read (earlier ++ e ∷ []) groups es is.1 ∙ ap all (append_assoc earlier (e ∷ []) es))

pub entries_stop : (earlier : List Entry) (groups : List (List Line)) (fault : LdifFault) → EntriesStop earlier groups fault
    → entries_from earlier groups ≡ Err fault
entries_stop earlier [] fault is = absurd is
entries_stop earlier ([] ∷ groups) fault is = entries_stop earlier groups fault is
entries_stop earlier ((first ∷ lines) ∷ groups) fault (inl wrong) =
    ap (with_next earlier groups) (entry_stops earlier first lines fault wrong)
entries_stop earlier ((first ∷ lines) ∷ groups) fault (inr more) =
    ap (with_next earlier groups) (entry_read earlier first lines more.0 more.1)
    ∙ entries_stop (earlier ++ more.0 ∷ []) groups fault more.2

abbrev pub HaveEntries : List Entry → List (List Line) → Type 0
HaveEntries earlier groups =
    ((entries : List Entry) × AreEntries earlier groups entries) ⊎ ((fault : LdifFault) × EntriesStop earlier groups fault)

blank_first : (earlier : List Entry) (groups : List (List Line)) → HaveEntries earlier groups → HaveEntries earlier ([] ∷ groups)
blank_first earlier groups (inl are) = inl (are.0, blank_are are.0 are.1)
  where
    blank_are : (entries : List Entry) → AreEntries earlier groups entries → AreEntries earlier ([] ∷ groups) entries
    blank_are entries is = is
blank_first earlier groups (inr stop) = inr stop

entries_behind : (earlier : List Entry) (first : Line) (lines : List Line) (groups : List (List Line)) (entry : Entry)
    → IsEntry earlier first lines entry → HaveEntries (earlier ++ entry ∷ []) groups → HaveEntries earlier ((first ∷ lines) ∷ groups)
entries_behind earlier first lines groups entry is (inl are) = inl (entry ∷ are.0, (is, are.1))
entries_behind earlier first lines groups entry is (inr stop) = inr (stop.0, inr (entry, is, stop.1))

entries_by : (earlier : List Entry) (first : Line) (lines : List Line) (groups : List (List Line)) → HasEntry earlier first lines
    → ((more : List Entry) → HaveEntries more groups) → HaveEntries earlier ((first ∷ lines) ∷ groups)
entries_by earlier first lines groups (inl has) more =
    entries_behind earlier first lines groups has.0 has.1 (more (earlier ++ has.0 ∷ []))
entries_by earlier first lines groups (inr wrong) more = inr (wrong.0, inl wrong.1)

pub have_entries : (groups : List (List Line)) (earlier : List Entry) → HaveEntries earlier groups
have_entries [] earlier = inl ([], tt)
have_entries ([] ∷ groups) earlier = blank_first earlier groups (have_entries groups earlier)
have_entries ((first ∷ lines) ∷ groups) earlier = entries_by earlier first lines groups (has_entry earlier first lines) (have_entries groups)
