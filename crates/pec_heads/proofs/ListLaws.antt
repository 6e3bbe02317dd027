-- `list_of` and the relations on whole texts: what it gives is so, and what is so it gives.
use Rattle.std.proofs.Common.{◌≡◌, ℕ, ◌+◌, ◌<◌, ◌==◌, List, [], ◌∷◌, ◌++◌, true, false, ◌⊎◌, inl, inr, length, Option, Some, None, Result, Ok, Err, refl, ap, sym, ◌∙◌, arith, append_assoc, zero-add, add-zero}
use Rattle.std.proofs.Math.Dec.{eqb-suc-zero}
use Rattle.std.proofs.lemmas.Bool.{cond_both, both_ways, eqb-false}
use Rattle.std.proofs.lemmas.List.{append-nil}
use Rattle.std.specs.List.{position}
use Rattle.pec_heads.specs.Lines.{size}
use Rattle.pec_types.specs.Results.{◌>>=◌}
use Rattle.pec_heads.specs.Lists.{is_ink, is_all_blank, IsEntry, EntryFault, ReadsFirst, AllRead, IsList, HasWrongEntry, IsListFault, HasList, HasListFault}
use Rattle.pec_heads.specs.ListReading.{entries_from, entry_of, with_entry, list_from, unless_empty, list_of}
use Rattle.pec_heads.specs.declared.faults.ListFault.{ListFault}
use Rattle.pec_heads.specs.declared.faults.ListFault.TheVariants.{Syntax, BadAddress, Empty, NoMemory}
use Rattle.pec_heads.specs.declared.quoting.Quoting.TheVariants.{Outside}
use Rattle.pec_heads.proofs.Tools.{ok_is, err_is}
use Rattle.pec_heads.proofs.AddressFacts.{AddressesTold}
use Rattle.pec_heads.proofs.EntryLaws.{entries_are, only_entries}
use Rattle.pec_heads.proofs.EntryReading.{EntrySays, entry_says, entry_again, entry_fault_again, blank_none, blank_some}

-- ---- from the function to the relation

-- entries that were read, and the addresses before them
pub record AllIn (entries addresses read : List (List ℕ)) : Type 0 where
  pub new : List (List ℕ)
  pub each : AllRead entries new
  pub read_is : read ≡ addresses ++ new

pub record WrongIn (place : ℕ) (entries : List (List ℕ)) (fault : ListFault) : Type 0 where
  pub before : List (List ℕ)
  pub wrong : List ℕ
  pub after : List (List ℕ)
  pub new : List (List ℕ)
  pub parts : entries ≡ before ++ wrong ∷ after
  pub each : AllRead before new
  pub ink : is_all_blank wrong ≡ false
  pub fault_is : EntryFault (place + size before) wrong fault

abbrev pub ListSays : List (List ℕ) → ℕ → List (List ℕ) → Result (List (List ℕ)) ListFault → Type 0
ListSays addresses place entries (Ok read) = AllIn entries addresses read
ListSays addresses place entries (Err fault) = WrongIn place entries fault

farther : (p n s : ℕ) → p + (n + 1 + s) ≡ p + (n + 1) + s
farther p n s = omega arith

-- a blank entry before
blank_before : (entry : List ℕ) (entries new : List (List ℕ)) → is_all_blank entry ≡ true → AllRead entries new → AllRead (entry ∷ entries) new
blank_before entry entries new e h = rw e h

pub read_before : (entry address : List ℕ) (entries new : List (List ℕ)) → is_all_blank entry ≡ false → IsEntry entry address → AllRead entries new → AllRead (entry ∷ entries) (address ∷ new)
read_before entry address entries new e a h = rw e (record { address = address; others = new; entry_is = a; others_are = h; parts = refl })

says_blank : (addresses : List (List ℕ)) (place : ℕ) (entry : List ℕ) (entries : List (List ℕ)) → is_all_blank entry ≡ true
    → (r : Result (List (List ℕ)) ListFault) → ListSays addresses (place + (length entry + 1)) entries r → ListSays addresses place (entry ∷ entries) r
says_blank addresses place entry entries e (Ok read) h = record { new = h.new; each = blank_before entry entries h.new e h.each; read_is = h.read_is }
says_blank addresses place entry entries e (Err fault) h = record {
  before = entry ∷ h.before;
  wrong = h.wrong;
  after = h.after;
  new = h.new;
  parts = ap (λ es. entry ∷ es) h.parts;
  each = blank_before entry h.before h.new e h.each;
  ink = h.ink;
  fault_is = rw (farther place (length entry) (size h.before)) h.fault_is;
}

says_read : (addresses : List (List ℕ)) (place : ℕ) (entry address : List ℕ) (entries : List (List ℕ)) → is_all_blank entry ≡ false → IsEntry entry address
    → (r : Result (List (List ℕ)) ListFault) → ListSays (addresses ++ address ∷ []) (place + (length entry + 1)) entries r → ListSays addresses place (entry ∷ entries) r
says_read addresses place entry address entries e a (Ok read) h = record {
  new = address ∷ h.new;
  each = read_before entry address entries h.new e a h.each;
  read_is = h.read_is ∙ append_assoc addresses (address ∷ []) h.new;
}
says_read addresses place entry address entries e a (Err fault) h = record {
  before = entry ∷ h.before;
  wrong = h.wrong;
  after = h.after;
  new = address ∷ h.new;
  parts = ap (λ es. entry ∷ es) h.parts;
  each = read_before entry address h.before h.new e a h.each;
  ink = h.ink;
  fault_is = rw (farther place (length entry) (size h.before)) h.fault_is;
}

says_wrong : (addresses : List (List ℕ)) (place : ℕ) (entry : List ℕ) (entries : List (List ℕ)) (fault : ListFault) → is_all_blank entry ≡ false → EntryFault place entry fault
    → ListSays addresses place (entry ∷ entries) (Err fault)
says_wrong addresses place entry entries fault e f = record {
  before = [];
  wrong = entry;
  after = entries;
  new = [];
  parts = refl;
  each = refl;
  ink = e;
  fault_is = rw (add-zero) f;
}

says_entry : (addresses : List (List ℕ)) (place : ℕ) (entry : List ℕ) (entries : List (List ℕ)) → is_all_blank entry ≡ false → (r : Result (List ℕ) ListFault) → EntrySays place entry r
    → ((more : List (List ℕ)) → ListSays more (place + (length entry + 1)) entries (list_from more (place + (length entry + 1)) entries))
    → ListSays addresses place (entry ∷ entries) ((r >>= λ address. Ok (addresses ++ address ∷ [])) >>= λ more. list_from more (place + (length entry + 1)) entries)
says_entry addresses place entry entries e (Ok address) h ih =
    says_read addresses place entry address entries e h (list_from (addresses ++ address ∷ []) (place + (length entry + 1)) entries) (ih (addresses ++ address ∷ []))
says_entry addresses place entry entries e (Err fault) h ih = says_wrong addresses place entry entries fault e h

abbrev pub TextSays : List ℕ → Result (List (List ℕ)) ListFault → Type 0
TextSays text (Ok addresses) = IsList text addresses
TextSays text (Err fault) = IsListFault text fault

-- what the law of addresses says
module _ (told : AddressesTold) where
  says_next : (addresses : List (List ℕ)) (place : ℕ) (entry : List ℕ) (entries : List (List ℕ)) (o : Option ℕ) → position is_ink entry ≡ o
      → ((more : List (List ℕ)) → ListSays more (place + (length entry + 1)) entries (list_from more (place + (length entry + 1)) entries))
      → ListSays addresses place (entry ∷ entries) (with_entry addresses place entry o >>= λ more. list_from more (place + (length entry + 1)) entries)
  says_next addresses place entry entries None e ih =
      says_blank addresses place entry entries (blank_none entry e) (list_from addresses (place + (length entry + 1)) entries) (ih addresses)
  says_next addresses place entry entries (Some at) e ih =
      says_entry addresses place entry entries (blank_some entry at e) (entry_of place at entry) (entry_says told place at entry e) ih

  says_all : (addresses : List (List ℕ)) (place : ℕ) (entries : List (List ℕ)) → ListSays addresses place entries (list_from addresses place entries)
  says_all addresses place [] = record { new = []; each = refl; read_is = sym (append-nil addresses) }
  says_all addresses place (entry ∷ entries) = says_next addresses place entry entries (position is_ink entry) refl (λ more. says_all more (place + (length entry + 1)) entries)

  -- ---- and back

  over_some : (entry : List ℕ) (before new addresses : List (List ℕ)) (place : ℕ) (rest : List (List ℕ)) (at : ℕ) → ReadsFirst entry (AllRead before) new
      → ((newer : List (List ℕ)) → AllRead before newer → (gained : List (List ℕ)) (from : ℕ) (left : List (List ℕ)) → list_from gained from (before ++ left) ≡ list_from (gained ++ newer) (from + size before) left)
      → (with_entry addresses place entry (Some at) >>= λ more. list_from more (place + (length entry + 1)) (before ++ rest)) ≡ list_from (addresses ++ new) (place + (length entry + 1 + size before)) rest
  over_some entry before new addresses place rest at h ih =
      rw (entry_again told place at entry h.address h.entry_is)
      (ih h.others h.others_are (addresses ++ h.address ∷ []) (place + (length entry + 1)) rest
      ∙ rw (h.parts, append_assoc, farther place (length entry) (size before)) refl)

  over_case : (entry : List ℕ) (before new addresses : List (List ℕ)) (place : ℕ) (rest : List (List ℕ)) (o : Option ℕ) → position is_ink entry ≡ o → AllRead (entry ∷ before) new
      → ((newer : List (List ℕ)) → AllRead before newer → (gained : List (List ℕ)) (from : ℕ) (left : List (List ℕ)) → list_from gained from (before ++ left) ≡ list_from (gained ++ newer) (from + size before) left)
      → (with_entry addresses place entry o >>= λ more. list_from more (place + (length entry + 1)) (before ++ rest)) ≡ list_from (addresses ++ new) (place + (length entry + 1 + size before)) rest
  over_case entry before new addresses place rest None e h ih = ih new (rw (blank_none entry e) at h) addresses (place + (length entry + 1)) rest ∙ rw (farther place (length entry) (size before)) refl
  over_case entry before new addresses place rest (Some at) e h ih = over_some entry before new addresses place rest at (rw (blank_some entry at e) at h) ih

  over_read : (before new : List (List ℕ)) → AllRead before new → (addresses : List (List ℕ)) (place : ℕ) (rest : List (List ℕ))
      → list_from addresses place (before ++ rest) ≡ list_from (addresses ++ new) (place + size before) rest
  over_read [] new h addresses place rest = rw (h, append-nil, add-zero) refl
  over_read (entry ∷ before) new h addresses place rest = over_case entry before new addresses place rest (position is_ink entry) refl h (λ newer k. over_read before newer k)

  has_ink : (entry : List ℕ) (o : Option ℕ) → position is_ink entry ≡ o → is_all_blank entry ≡ false → (at : ℕ) × (position is_ink entry ≡ Some at)
  has_ink entry None e f = absurd (both_ways (is_all_blank entry) f (blank_none entry e))
  has_ink entry (Some at) e f = (at, e)

  wrong_there : (addresses : List (List ℕ)) (place : ℕ) (wrong : List ℕ) (after : List (List ℕ)) (fault : ListFault) → is_all_blank wrong ≡ false → EntryFault place wrong fault
      → list_from addresses place (wrong ∷ after) ≡ Err fault
  wrong_there addresses place wrong after fault e f =
      let i = has_ink wrong (position is_ink wrong) refl e
      in rw (i.1, entry_fault_again told place i.0 wrong fault i.1 f) refl

  -- ---- whole texts

  no_items : (xs : List (List ℕ)) → (length xs == 0) ≡ true → xs ≡ []
  no_items [] e = refl
  no_items (x ∷ xs) e = absurd (both_ways (length (x ∷ xs) == 0) (eqb-suc-zero (length xs)) e)

  some_items : (xs : List (List ℕ)) → (length xs == 0) ≡ false → 0 < length xs
  some_items xs e = let n = eqb-false (length xs) 0 e in omega arith

  wrong_entry : (text : List ℕ) (fault : ListFault) → WrongIn 0 (entries_from Outside text) fault → HasWrongEntry text fault
  wrong_entry text fault h = record {
    before = h.before;
    wrong = h.wrong;
    after = h.after;
    parted = rw (← h.parts) (entries_are text);
    addresses = h.new;
    read = h.each;
    ink = h.ink;
    fault_is = rw (zero-add) at h.fault_is;
  }

  text_says : (text : List ℕ) (r : Result (List (List ℕ)) ListFault) → ListSays [] 0 (entries_from Outside text) r → TextSays text (r >>= λ addresses. unless_empty addresses)
  text_says text (Ok read) h =
      cond_both (length read == 0) (Err Empty) (Ok read) (TextSays text)
      (λ t. record { entries = entries_from Outside text; parted = entries_are text; blank = rw (sym h.read_is ∙ no_items read t) at h.each })
      (λ t. record { entries = entries_from Outside text; parted = entries_are text; read = rw (← h.read_is) at h.each; some = some_items read t })
  text_says text (Err (Syntax p)) h = wrong_entry text (Syntax p) h
  text_says text (Err (BadAddress p f)) h = wrong_entry text (BadAddress p f) h
  text_says text (Err Empty) h = absurd h.fault_is
  text_says text (Err NoMemory) h = absurd h.fault_is

  pub list_says : (text : List ℕ) → TextSays text (list_of text)
  unfolding list_of
  list_says text = text_says text (list_from [] 0 (entries_from Outside text)) (says_all [] 0 (entries_from Outside text))

  some_length : (xs : List (List ℕ)) → 0 < length xs → (length xs == 0) ≡ false
  some_length [] e = absurd (omega arith)
  some_length (x ∷ xs) e = eqb-suc-zero (length xs)

  all_again : (entries new : List (List ℕ)) → AllRead entries new → list_from [] 0 entries ≡ Ok new
  all_again entries new h = ap (list_from [] 0) (sym (append-nil entries)) ∙ over_read entries new h [] 0 []

  pub list_again : (text : List ℕ) (addresses : List (List ℕ)) → IsList text addresses → list_of text ≡ Ok addresses
  unfolding list_of
  list_again text addresses h =
      rw (← only_entries text h.entries h.parted, all_again h.entries addresses h.read, some_length addresses h.some) refl

  wrong_again : (text : List ℕ) (fault : ListFault) → HasWrongEntry text fault → list_of text ≡ Err fault
  unfolding list_of
  wrong_again text fault h =
      rw (
        ← only_entries text (h.before ++ h.wrong ∷ h.after) h.parted,
        over_read h.before h.addresses h.read [] 0 (h.wrong ∷ h.after),
        wrong_there h.addresses (0 + size h.before) h.wrong h.after fault h.ink (rw (zero-add) h.fault_is),
      ) refl

  pub list_fault_again : (text : List ℕ) (fault : ListFault) → IsListFault text fault → list_of text ≡ Err fault
  unfolding list_of
  list_fault_again text (Syntax p) h = wrong_again text (Syntax p) h
  list_fault_again text (BadAddress p f) h = wrong_again text (BadAddress p f) h
  list_fault_again text Empty h = rw (← only_entries text h.entries h.parted, all_again h.entries [] h.blank) refl
  list_fault_again text NoMemory h = absurd h

  -- ---- one reading

  pub one_list : (text : List ℕ) (addresses others : List (List ℕ)) → IsList text addresses → IsList text others → addresses ≡ others
  one_list text addresses others h k = ok_is addresses others (sym (list_again text addresses h) ∙ list_again text others k)

  pub one_list_fault : (text : List ℕ) (fault other : ListFault) → IsListFault text fault → IsListFault text other → fault ≡ other
  one_list_fault text fault other h k = err_is fault other (sym (list_fault_again text fault h) ∙ list_fault_again text other k)

  list_no_fault : (text : List ℕ) (addresses : List (List ℕ)) (fault : ListFault) → list_of text ≡ Ok addresses → list_of text ≡ Err fault → ⊥
  list_no_fault text addresses fault e f = absurd cc

  pub not_list_and_fault : (text : List ℕ) (addresses : List (List ℕ)) (fault : ListFault) → IsList text addresses → IsListFault text fault → ⊥
  not_list_and_fault text addresses fault h k = list_no_fault text addresses fault (list_again text addresses h) (list_fault_again text fault k)

  either_says : (text : List ℕ) (r : Result (List (List ℕ)) ListFault) → TextSays text r → HasList text ⊎ HasListFault text
  either_says text (Ok addresses) h = inl (addresses, h)
  either_says text (Err fault) h = inr (fault, h)

  pub list_or_fault : (text : List ℕ) → HasList text ⊎ HasListFault text
  list_or_fault text = either_says text (list_of text) (list_says text)

  pub list_never_both : (text : List ℕ) → HasList text → HasListFault text → ⊥
  list_never_both text h f = not_list_and_fault text h.0 f.0 h.1 f.1
