-- What is found in the head of a composed letter, by the names of its fields, whatever fields of other names stand behind its heading.
use Rattle.std.proofs.Common.{◌≡◌, ℕ, Bool, true, false, cond, List, [], ◌∷◌, ◌++◌, map, slice_get, Option, None, Some, option_map, codes, refl, ap, sym, ◌∙◌, subst}
use Rattle.std.proofs.lemmas.List.{append-nil}
use Rattle.std.specs.List.{AllByRecursion}
use Rattle.std.specs.Option.{IfSome}
use Rattle.std.specs.Str.{str_eq_ignore_ascii_case}
use Rattle.pec_types.specs.Address.{IsLowerAddress}
use Rattle.pec_types.specs.Bytes.{Bytes, Path}
use Rattle.pec_types.specs.Words.{wish_word}
use Rattle.pec_types.specs.declared.messages.Wish.{Wish}
use Rattle.pec_types.specs.declared.messages.Wish.TheVariants.{Full, Brief, Concise}
use Rattle.pec_heads.specs.Bytes.{begins_blank, ends_blank, trimmed}
use Rattle.pec_heads.specs.FactsOfHeads.{first_value}
use Rattle.pec_heads.specs.Heads.{NamedValue, is_named, values_of}
use Rattle.pec_heads.specs.WrittenHeads.{Written, addresses_text, field, list_field, shown}
use Rattle.pec_bodies.specs.Composing.{composed_type}
use Rattle.pec_cert.specs.HeaderDate.{header_date_of}
use Rattle.pec_cert.specs.Stamp.{Instant}
use Rattle.pec_letter_parts.specs.Headings.{Heading, address_field, angled, heading_fields, letter_fields, marking_name, marks_of, multipart_fields, names_of, optional_field, parties_of, virus_field}
use Rattle.pec_letter_parts.specs.declared.headings.Marking.{Marking}
use Rattle.pec_letter_parts.specs.declared.headings.Marking.TheVariants.{Transport, Receipt, Reply}
use Rattle.pec_letter_facts.proofs.LineLemmas.{all_append, angled_whole, date_whole}
use Rattle.pec_letter_facts.specs.Questions.{marked_or, marking_of}
use Rattle.pec_letter_facts.specs.ReadBack.{CanBeHeaded, IsFound, IsWholeLine, listed_values}

-- what is read of fields that were written, by their name
abbrev vals : Bytes → List Written → List Bytes
vals name fields = values_of name (map shown fields)

-- the field has another name
abbrev Other : Bytes → Written → Type 0
Other name w = str_eq_ignore_ascii_case w.name name ≡ false

onto : (t : Bool) (x : Bytes) (xs ys zs : List Bytes) → xs ≡ ys ++ zs → cond t (x ∷ xs) xs ≡ cond t (x ∷ ys) ys ++ zs
onto true x xs ys zs e = ap (λ (l : List Bytes). x ∷ l) e
onto false x xs ys zs e = e

vals_append : (name : Bytes) (a b : List Written) → vals name (a ++ b) ≡ vals name a ++ vals name b
vals_append name [] b = refl
vals_append name (w ∷ a) b = onto (is_named name (shown w)) (shown w).value (vals name (a ++ b)) (vals name a) (vals name b) (vals_append name a b)

skipped : (t : Bool) (x : Bytes) (xs : List Bytes) → t ≡ false → cond t (x ∷ xs) xs ≡ xs
skipped true x xs e = absurd cc
skipped false x xs e = refl

none : (name : Bytes) (fields : List Written) → AllByRecursion (Other name) fields → vals name fields ≡ []
none name [] a = refl
none name (w ∷ fields) a = skipped (is_named name (shown w)) (shown w).value (vals name fields) a.0 ∙ none name fields a.1

-- ---- names that are others

-- the name is none of these
abbrev Apart : Bytes → List Bytes → Type 0
Apart name names = AllByRecursion (λ (other : Bytes). str_eq_ignore_ascii_case other name ≡ false) names

abbrev mark_names : List Bytes
mark_names = codes "X-VerificaSicurezza" ∷ codes "X-TipoRicevuta" ∷ codes "X-Trasporto" ∷ codes "X-Ricevuta" ∷ codes "X-Riscontro" ∷ []

abbrev name_names : List Bytes
name_names = codes "Message-ID" ∷ codes "X-Riferimento-Message-ID" ∷ codes "Date" ∷ []

abbrev party_names : List Bytes
party_names = codes "From" ∷ codes "Reply-To" ∷ codes "To" ∷ codes "Cc" ∷ []

virus_other : (name : Bytes) (v : Bool) → str_eq_ignore_ascii_case (codes "X-VerificaSicurezza") name ≡ false → AllByRecursion (Other name) (virus_field v)
virus_other name true e = (e, tt)
virus_other name false e = tt

optional_other : (name other : Bytes) (v : Option Bytes) → str_eq_ignore_ascii_case other name ≡ false → AllByRecursion (Other name) (optional_field other v)
optional_other name other None e = tt
optional_other name other (Some v) e = (e, tt)

address_other : (name other : Bytes) (path : Path) → str_eq_ignore_ascii_case other name ≡ false → AllByRecursion (Other name) (address_field other path)
address_other name other [] e = tt
address_other name other (a ∷ path) e = (e, tt)

marking_other : (name : Bytes) (m : Marking) → Apart name mark_names → str_eq_ignore_ascii_case (marking_name m) name ≡ false
marking_other name Transport a = a.1.1.0
marking_other name Receipt a = a.1.1.1.0
marking_other name Reply a = a.1.1.1.1.0

marks_other : (name : Bytes) (h : Heading) → Apart name mark_names → vals name (marks_of h) ≡ []
marks_other name h a =
    none name (marks_of h) (
      marking_other name h.marking a,
      all_append (Other name) (virus_field h.virus) (optional_field (codes "X-TipoRicevuta") (option_map wish_word h.wish)) (virus_other name h.virus a.0)
          (optional_other name (codes "X-TipoRicevuta") (option_map wish_word h.wish) a.1.0),
    )

names_other : (name : Bytes) (h : Heading) → Apart name name_names → vals name (names_of h) ≡ []
names_other name h a =
    none name (names_of h) (
      a.0,
      all_append (Other name) (optional_field (codes "X-Riferimento-Message-ID") h.reference) (field (codes "Date") (header_date_of h.stamp) ∷ [])
          (optional_other name (codes "X-Riferimento-Message-ID") h.reference a.1.0) (a.1.1.0, tt),
    )

parties_other : (name : Bytes) (h : Heading) → Apart name party_names → vals name (parties_of h) ≡ []
parties_other name h a =
    none name (parties_of h) (
      a.0,
      all_append (Other name) (optional_field (codes "Reply-To") h.reply) (address_field (codes "To") h.to ++ address_field (codes "Cc") h.copies)
          (optional_other name (codes "Reply-To") h.reply a.1.0)
          (all_append (Other name) (address_field (codes "To") h.to) (address_field (codes "Cc") h.copies) (address_other name (codes "To") h.to a.1.1.0) (address_other name (codes "Cc") h.copies a.1.1.1.0)),
    )

-- ---- group by group

abbrev subject_of : Heading → List Written
subject_of h = field (codes "Subject") h.subject ∷ []

-- what the groups of fields have of a name is what all fields have
at_name : (name : Bytes) (h : Heading) (more : List Written) (m k p s t : List Bytes)
    → vals name (marks_of h) ≡ m → vals name (names_of h) ≡ k → vals name (parties_of h) ≡ p → vals name (subject_of h) ≡ s → vals name more ≡ t
    → vals name (heading_fields h ++ more) ≡ (m ++ (k ++ (p ++ s))) ++ t
unfolding heading_fields
at_name name h more m k p s t em ek ep es et =
    let a = vals_append name (heading_fields h) more
    in let b = vals_append name (marks_of h) (names_of h ++ (parties_of h ++ subject_of h))
    in let c = vals_append name (names_of h) (parties_of h ++ subject_of h)
    in let d = vals_append name (parties_of h) (subject_of h)
    in a ∙ ap (λ (x : List Bytes). x ++ vals name more) (b ∙ ap (λ (x : List Bytes). vals name (marks_of h) ++ x) (c ∙ ap (λ (x : List Bytes). vals name (names_of h) ++ x) d))
    ∙ ap (λ (x : List Bytes). (x ++ (vals name (names_of h) ++ (vals name (parties_of h) ++ vals name (subject_of h)))) ++ vals name more) em
    ∙ ap (λ (x : List Bytes). (m ++ (x ++ (vals name (parties_of h) ++ vals name (subject_of h)))) ++ vals name more) ek
    ∙ ap (λ (x : List Bytes). (m ++ (k ++ (x ++ vals name (subject_of h)))) ++ vals name more) ep
    ∙ ap (λ (x : List Bytes). (m ++ (k ++ (p ++ x))) ++ vals name more) es
    ∙ ap (λ (x : List Bytes). (m ++ (k ++ (p ++ s))) ++ x) et

-- one value, or none
abbrev one_of : Option Bytes → List Bytes
one_of None = []
one_of (Some value) = value ∷ []

multi_other : (name : Bytes) (n : ℕ) → Apart name (codes "MIME-Version" ∷ codes "Content-Type" ∷ []) → vals name (multipart_fields n) ≡ []
unfolding multipart_fields
multi_other name n a = none name (multipart_fields n) (a.0, (a.1.0, tt))

subject_other : (name : Bytes) (h : Heading) → str_eq_ignore_ascii_case (codes "Subject") name ≡ false → vals name (subject_of h) ≡ []
subject_other name h e = none name (subject_of h) (e, tt)

-- ---- the names that are looked for

pub type_found : (h : Heading) (n : ℕ) → (shown (field (codes "Content-Type") (composed_type n))).value ≡ composed_type n → vals (codes "Content-Type") (letter_fields h n) ≡ composed_type n ∷ []
unfolding multipart_fields
type_found h n read =
    at_name (codes "Content-Type") h (multipart_fields n) [] [] [] [] (composed_type n ∷ [])
    (marks_other (codes "Content-Type") h (refl, (refl, (refl, (refl, (refl, tt)))))) (names_other (codes "Content-Type") h (refl, (refl, (refl, tt))))
    (parties_other (codes "Content-Type") h (refl, (refl, (refl, (refl, tt))))) (subject_other (codes "Content-Type") h refl)
    (ap (λ (x : Bytes). x ∷ []) read)

-- fields that have none of the names that are looked for
pub record Lacks (more : List Written) : Type 0 where
  pub marking : (x : Marking) → vals (marking_name x) more ≡ []
  pub wish : vals (codes "X-TipoRicevuta") more ≡ []
  pub name : vals (codes "Message-ID") more ≡ []
  pub reference : vals (codes "X-Riferimento-Message-ID") more ≡ []
  pub date : vals (codes "Date") more ≡ []
  pub to : vals (codes "To") more ≡ []
  pub copies : vals (codes "Cc") more ≡ []

nothing_lacks : Lacks []
nothing_lacks = record { marking = λ x. refl; wish = refl; name = refl; reference = refl; date = refl; to = refl; copies = refl }

marking_multi : (n : ℕ) (x : Marking) → vals (marking_name x) (multipart_fields n) ≡ []
marking_multi n Transport = multi_other (codes "X-Trasporto") n (refl, (refl, tt))
marking_multi n Receipt = multi_other (codes "X-Ricevuta") n (refl, (refl, tt))
marking_multi n Reply = multi_other (codes "X-Riscontro") n (refl, (refl, tt))

multi_lacks : (n : ℕ) → Lacks (multipart_fields n)
multi_lacks n = record {
  marking = marking_multi n;
  wish = multi_other (codes "X-TipoRicevuta") n (refl, (refl, tt));
  name = multi_other (codes "Message-ID") n (refl, (refl, tt));
  reference = multi_other (codes "X-Riferimento-Message-ID") n (refl, (refl, tt));
  date = multi_other (codes "Date") n (refl, (refl, tt));
  to = multi_other (codes "To") n (refl, (refl, tt));
  copies = multi_other (codes "Cc") n (refl, (refl, tt));
}

name_first : (h : Heading) → trimmed (angled h.name) ≡ angled h.name → vals (codes "Message-ID") (names_of h) ≡ angled h.name ∷ []
name_first h whole =
    ap (λ (l : List Bytes). trimmed (angled h.name ++ []) ∷ l)
    (none (codes "Message-ID") (optional_field (codes "X-Riferimento-Message-ID") h.reference ++ field (codes "Date") (header_date_of h.stamp) ∷ [])
    (all_append (Other (codes "Message-ID")) (optional_field (codes "X-Riferimento-Message-ID") h.reference) (field (codes "Date") (header_date_of h.stamp) ∷ [])
    (optional_other (codes "Message-ID") (codes "X-Riferimento-Message-ID") h.reference refl) (refl, tt)))
    ∙ ap (λ (x : Bytes). trimmed x ∷ []) (append-nil (angled h.name)) ∙ ap (λ (x : Bytes). x ∷ []) whole

name_found : (h : Heading) (more : List Written) → Lacks more → trimmed (angled h.name) ≡ angled h.name → first_value (codes "Message-ID") (map shown (heading_fields h ++ more)) ≡ Some (angled h.name)
name_found h more lacks whole =
    ap (λ (l : List Bytes). slice_get l 0)
    (at_name (codes "Message-ID") h more [] (angled h.name ∷ []) [] [] []
    (marks_other (codes "Message-ID") h (refl, (refl, (refl, (refl, (refl, tt)))))) (name_first h whole)
    (parties_other (codes "Message-ID") h (refl, (refl, (refl, (refl, tt))))) (subject_other (codes "Message-ID") h refl)
    lacks.name)

date_last : (h : Heading) → trimmed (header_date_of h.stamp) ≡ header_date_of h.stamp → vals (codes "Date") (names_of h) ≡ header_date_of h.stamp ∷ []
date_last h whole =
    vals_append (codes "Date") (optional_field (codes "X-Riferimento-Message-ID") h.reference) (field (codes "Date") (header_date_of h.stamp) ∷ [])
    ∙ ap (λ (l : List Bytes). l ++ (trimmed (header_date_of h.stamp ++ []) ∷ [])) (none (codes "Date") (optional_field (codes "X-Riferimento-Message-ID") h.reference) (optional_other (codes "Date") (codes "X-Riferimento-Message-ID") h.reference refl))
    ∙ ap (λ (x : Bytes). trimmed x ∷ []) (append-nil (header_date_of h.stamp)) ∙ ap (λ (x : Bytes). x ∷ []) whole

date_found : (h : Heading) (more : List Written) → Lacks more → trimmed (header_date_of h.stamp) ≡ header_date_of h.stamp → first_value (codes "Date") (map shown (heading_fields h ++ more)) ≡ Some (header_date_of h.stamp)
date_found h more lacks whole =
    ap (λ (l : List Bytes). slice_get l 0)
    (at_name (codes "Date") h more [] (header_date_of h.stamp ∷ []) [] [] []
    (marks_other (codes "Date") h (refl, (refl, (refl, (refl, (refl, tt)))))) (date_last h whole)
    (parties_other (codes "Date") h (refl, (refl, (refl, (refl, tt))))) (subject_other (codes "Date") h refl)
    lacks.date)

-- one value that may be absent is the first of what all groups have
first_one : (o : Option Bytes) → slice_get ((one_of o ++ ([] ++ ([] ++ []))) ++ []) 0 ≡ o
first_one None = refl
first_one (Some value) = refl

reference_value : (v : Option Bytes) → IfSome v IsWholeLine → vals (codes "X-Riferimento-Message-ID") (optional_field (codes "X-Riferimento-Message-ID") v) ≡ one_of v
reference_value None can = refl
reference_value (Some v) can = ap (λ (x : Bytes). trimmed x ∷ []) (append-nil v) ∙ ap (λ (x : Bytes). x ∷ []) can.whole

reference_in : (h : Heading) → CanBeHeaded h → vals (codes "X-Riferimento-Message-ID") (names_of h) ≡ one_of h.reference ++ []
reference_in h can =
    vals_append (codes "X-Riferimento-Message-ID") (optional_field (codes "X-Riferimento-Message-ID") h.reference) (field (codes "Date") (header_date_of h.stamp) ∷ [])
    ∙ ap (λ (l : List Bytes). l ++ []) (reference_value h.reference can.reference)

first_two : (o : Option Bytes) → slice_get (([] ++ ((one_of o ++ []) ++ ([] ++ []))) ++ []) 0 ≡ o
first_two None = refl
first_two (Some value) = refl

reference_found : (h : Heading) (more : List Written) → Lacks more → CanBeHeaded h → first_value (codes "X-Riferimento-Message-ID") (map shown (heading_fields h ++ more)) ≡ h.reference
reference_found h more lacks can =
    ap (λ (l : List Bytes). slice_get l 0)
    (at_name (codes "X-Riferimento-Message-ID") h more [] (one_of h.reference ++ []) [] [] []
    (marks_other (codes "X-Riferimento-Message-ID") h (refl, (refl, (refl, (refl, (refl, tt)))))) (reference_in h can)
    (parties_other (codes "X-Riferimento-Message-ID") h (refl, (refl, (refl, (refl, tt))))) (subject_other (codes "X-Riferimento-Message-ID") h refl)
    lacks.reference)
    ∙ first_two h.reference

wish_value : (w : Option Wish) → vals (codes "X-TipoRicevuta") (optional_field (codes "X-TipoRicevuta") (option_map wish_word w)) ≡ one_of (option_map wish_word w)
unfolding trimmed
wish_value None = refl
wish_value (Some Full) = refl
wish_value (Some Brief) = refl
wish_value (Some Concise) = refl

marking_wish : (m : Marking) → str_eq_ignore_ascii_case (marking_name m) (codes "X-TipoRicevuta") ≡ false
marking_wish Transport = refl
marking_wish Receipt = refl
marking_wish Reply = refl

wish_in : (h : Heading) → vals (codes "X-TipoRicevuta") (marks_of h) ≡ one_of (option_map wish_word h.wish)
wish_in h =
    vals_append (codes "X-TipoRicevuta") (field (marking_name h.marking) h.kind ∷ virus_field h.virus) (optional_field (codes "X-TipoRicevuta") (option_map wish_word h.wish))
    ∙ ap (λ (l : List Bytes). l ++ vals (codes "X-TipoRicevuta") (optional_field (codes "X-TipoRicevuta") (option_map wish_word h.wish)))
    (none (codes "X-TipoRicevuta") (field (marking_name h.marking) h.kind ∷ virus_field h.virus) (marking_wish h.marking, virus_other (codes "X-TipoRicevuta") h.virus refl))
    ∙ wish_value h.wish

wish_found : (h : Heading) (more : List Written) → Lacks more → first_value (codes "X-TipoRicevuta") (map shown (heading_fields h ++ more)) ≡ option_map wish_word h.wish
wish_found h more lacks =
    ap (λ (l : List Bytes). slice_get l 0)
    (at_name (codes "X-TipoRicevuta") h more (one_of (option_map wish_word h.wish)) [] [] [] []
    (wish_in h) (names_other (codes "X-TipoRicevuta") h (refl, (refl, (refl, tt))))
    (parties_other (codes "X-TipoRicevuta") h (refl, (refl, (refl, (refl, tt))))) (subject_other (codes "X-TipoRicevuta") h refl)
    lacks.wish)
    ∙ first_one (option_map wish_word h.wish)

-- ---- lists of addresses

-- what the law of folded lists says
abbrev pub Folded : Type 0
Folded = (name : Bytes) (addresses : Path) → AllByRecursion IsLowerAddress addresses → shown (list_field name addresses) ≡ record { name = name; value = addresses_text addresses }

to_value : Folded → (path : Path) → AllByRecursion IsLowerAddress path → vals (codes "To") (address_field (codes "To") path) ≡ listed_values path
to_value folded [] lower = refl
to_value folded (a ∷ path) lower = ap (λ (v : NamedValue). v.value ∷ []) (folded (codes "To") (a ∷ path) lower)

copies_value : Folded → (path : Path) → AllByRecursion IsLowerAddress path → vals (codes "Cc") (address_field (codes "Cc") path) ≡ listed_values path
copies_value folded [] lower = refl
copies_value folded (a ∷ path) lower = ap (λ (v : NamedValue). v.value ∷ []) (folded (codes "Cc") (a ∷ path) lower)

-- the fields of the parties before their lists
abbrev writers_of : Heading → List Written
writers_of h = field (codes "From") h.from ∷ optional_field (codes "Reply-To") h.reply

writers_other : (name : Bytes) (h : Heading) → str_eq_ignore_ascii_case (codes "From") name ≡ false → str_eq_ignore_ascii_case (codes "Reply-To") name ≡ false → vals name (writers_of h) ≡ []
writers_other name h e f = none name (writers_of h) (e, optional_other name (codes "Reply-To") h.reply f)

lists_in : (name : Bytes) (h : Heading) (t c : List Bytes) → str_eq_ignore_ascii_case (codes "From") name ≡ false → str_eq_ignore_ascii_case (codes "Reply-To") name ≡ false
    → vals name (address_field (codes "To") h.to) ≡ t → vals name (address_field (codes "Cc") h.copies) ≡ c → vals name (parties_of h) ≡ t ++ c
lists_in name h t c e f et ec =
    vals_append name (writers_of h) (address_field (codes "To") h.to ++ address_field (codes "Cc") h.copies)
    ∙ ap (λ (l : List Bytes). l ++ vals name (address_field (codes "To") h.to ++ address_field (codes "Cc") h.copies)) (writers_other name h e f)
    ∙ vals_append name (address_field (codes "To") h.to) (address_field (codes "Cc") h.copies)
    ∙ ap (λ (l : List Bytes). l ++ vals name (address_field (codes "Cc") h.copies)) et
    ∙ ap (λ (l : List Bytes). t ++ l) ec

to_found : Folded → (h : Heading) (more : List Written) → Lacks more → CanBeHeaded h → vals (codes "To") (heading_fields h ++ more) ≡ listed_values h.to
to_found folded h more lacks can =
    at_name (codes "To") h more [] [] (listed_values h.to ++ []) [] []
    (marks_other (codes "To") h (refl, (refl, (refl, (refl, (refl, tt)))))) (names_other (codes "To") h (refl, (refl, (refl, tt))))
    (lists_in (codes "To") h (listed_values h.to) [] refl refl (to_value folded h.to can.to) (none (codes "To") (address_field (codes "Cc") h.copies) (address_other (codes "To") (codes "Cc") h.copies refl)))
    (subject_other (codes "To") h refl) lacks.to
    ∙ append-nil ((listed_values h.to ++ []) ++ []) ∙ append-nil (listed_values h.to ++ []) ∙ append-nil (listed_values h.to)

copies_found : Folded → (h : Heading) (more : List Written) → Lacks more → CanBeHeaded h → vals (codes "Cc") (heading_fields h ++ more) ≡ listed_values h.copies
copies_found folded h more lacks can =
    at_name (codes "Cc") h more [] [] (listed_values h.copies) [] []
    (marks_other (codes "Cc") h (refl, (refl, (refl, (refl, (refl, tt)))))) (names_other (codes "Cc") h (refl, (refl, (refl, tt))))
    (lists_in (codes "Cc") h [] (listed_values h.copies) refl refl (none (codes "Cc") (address_field (codes "To") h.to) (address_other (codes "Cc") (codes "To") h.to refl)) (copies_value folded h.copies can.copies))
    (subject_other (codes "Cc") h refl) lacks.copies
    ∙ append-nil (listed_values h.copies ++ []) ∙ append-nil (listed_values h.copies)

-- ---- what the letter is

-- what the fields of one marking have, where the letter has this one
abbrev marked_values : Marking → Marking → Bytes → List Bytes
marked_values Transport Transport kind = kind ∷ []
marked_values Receipt Receipt kind = kind ∷ []
marked_values Reply Reply kind = kind ∷ []
marked_values other marking kind = []

abbrev rest_of : Heading → List Written
rest_of h = virus_field h.virus ++ optional_field (codes "X-TipoRicevuta") (option_map wish_word h.wish)

rest_none : (name : Bytes) (h : Heading) → str_eq_ignore_ascii_case (codes "X-VerificaSicurezza") name ≡ false → str_eq_ignore_ascii_case (codes "X-TipoRicevuta") name ≡ false → vals name (rest_of h) ≡ []
rest_none name h e f =
    none name (rest_of h)
    (all_append (Other name) (virus_field h.virus) (optional_field (codes "X-TipoRicevuta") (option_map wish_word h.wish)) (virus_other name h.virus e) (optional_other name (codes "X-TipoRicevuta") (option_map wish_word h.wish) f))

rest_marking : (x : Marking) (h : Heading) → vals (marking_name x) (rest_of h) ≡ []
rest_marking Transport h = rest_none (codes "X-Trasporto") h refl refl
rest_marking Receipt h = rest_none (codes "X-Ricevuta") h refl refl
rest_marking Reply h = rest_none (codes "X-Riscontro") h refl refl

mark_values : (x m : Marking) (kind : Bytes) → trimmed kind ≡ kind → (rest : List Written) → vals (marking_name x) rest ≡ [] → vals (marking_name x) (field (marking_name m) kind ∷ rest) ≡ marked_values x m kind
mark_values Transport Transport kind whole rest e = ap (λ (l : List Bytes). trimmed (kind ++ []) ∷ l) e ∙ ap (λ (v : Bytes). trimmed v ∷ []) (append-nil kind) ∙ ap (λ (v : Bytes). v ∷ []) whole
mark_values Transport Receipt kind whole rest e = e
mark_values Transport Reply kind whole rest e = e
mark_values Receipt Transport kind whole rest e = e
mark_values Receipt Receipt kind whole rest e = ap (λ (l : List Bytes). trimmed (kind ++ []) ∷ l) e ∙ ap (λ (v : Bytes). trimmed v ∷ []) (append-nil kind) ∙ ap (λ (v : Bytes). v ∷ []) whole
mark_values Receipt Reply kind whole rest e = e
mark_values Reply Transport kind whole rest e = e
mark_values Reply Receipt kind whole rest e = e
mark_values Reply Reply kind whole rest e = ap (λ (l : List Bytes). trimmed (kind ++ []) ∷ l) e ∙ ap (λ (v : Bytes). trimmed v ∷ []) (append-nil kind) ∙ ap (λ (v : Bytes). v ∷ []) whole

mark_at : (x : Marking) (h : Heading) (more : List Written) → Lacks more → CanBeHeaded h → vals (marking_name x) (heading_fields h ++ more) ≡ (marked_values x h.marking h.kind ++ []) ++ []
mark_at Transport h more lacks can =
    at_name (codes "X-Trasporto") h more (marked_values Transport h.marking h.kind) [] [] [] [] (mark_values Transport h.marking h.kind can.kind.whole (rest_of h) (rest_marking Transport h))
    (names_other (codes "X-Trasporto") h (refl, (refl, (refl, tt)))) (parties_other (codes "X-Trasporto") h (refl, (refl, (refl, (refl, tt))))) (subject_other (codes "X-Trasporto") h refl)
    (lacks.marking Transport)
mark_at Receipt h more lacks can =
    at_name (codes "X-Ricevuta") h more (marked_values Receipt h.marking h.kind) [] [] [] [] (mark_values Receipt h.marking h.kind can.kind.whole (rest_of h) (rest_marking Receipt h))
    (names_other (codes "X-Ricevuta") h (refl, (refl, (refl, tt)))) (parties_other (codes "X-Ricevuta") h (refl, (refl, (refl, (refl, tt))))) (subject_other (codes "X-Ricevuta") h refl)
    (lacks.marking Receipt)
mark_at Reply h more lacks can =
    at_name (codes "X-Riscontro") h more (marked_values Reply h.marking h.kind) [] [] [] [] (mark_values Reply h.marking h.kind can.kind.whole (rest_of h) (rest_marking Reply h))
    (names_other (codes "X-Riscontro") h (refl, (refl, (refl, tt)))) (parties_other (codes "X-Riscontro") h (refl, (refl, (refl, (refl, tt))))) (subject_other (codes "X-Riscontro") h refl)
    (lacks.marking Reply)

abbrev firsts : List Bytes → Option Bytes
firsts l = slice_get l 0

chosen : (m : Marking) (kind : Bytes)
    → marked_or Reply (firsts ((marked_values Reply m kind ++ []) ++ [])) (marked_or Receipt (firsts ((marked_values Receipt m kind ++ []) ++ [])) (marked_or Transport (firsts ((marked_values Transport m kind ++ []) ++ [])) None)) ≡ Some (m, kind)
chosen Transport kind = refl
chosen Receipt kind = refl
chosen Reply kind = refl

marking_found : (h : Heading) (more : List Written) → Lacks more → CanBeHeaded h → marking_of (map shown (heading_fields h ++ more)) ≡ Some (h.marking, h.kind)
unfolding marking_of
marking_found h more lacks can =
    ap (λ (a : List Bytes). marked_or Reply (firsts a) (marked_or Receipt (first_value (marking_name Receipt) (map shown (heading_fields h ++ more))) (marked_or Transport (first_value (marking_name Transport) (map shown (heading_fields h ++ more))) None))) (mark_at Reply h more lacks can)
    ∙ ap (λ (a : List Bytes). marked_or Reply (firsts ((marked_values Reply h.marking h.kind ++ []) ++ [])) (marked_or Receipt (firsts a) (marked_or Transport (first_value (marking_name Transport) (map shown (heading_fields h ++ more))) None))) (mark_at Receipt h more lacks can)
    ∙ ap (λ (a : List Bytes). marked_or Reply (firsts ((marked_values Reply h.marking h.kind ++ []) ++ [])) (marked_or Receipt (firsts ((marked_values Receipt h.marking h.kind ++ []) ++ [])) (marked_or Transport (firsts a) None))) (mark_at Transport h more lacks can)
    ∙ chosen h.marking h.kind

-- All that is looked for is found in a heading and fields of other names behind it.
found : Folded → ((value : Bytes) → begins_blank value ≡ false → ends_blank value ≡ false → trimmed value ≡ value)
    → (h : Heading) (more : List Written) → Lacks more → CanBeHeaded h → IsFound h (map shown (heading_fields h ++ more))
found folded kept h more lacks can = record {
  marking = marking_found h more lacks can;
  wish = wish_found h more lacks;
  name = name_found h more lacks (angled_whole kept h.name);
  reference = reference_found h more lacks can;
  date = date_found h more lacks (date_whole kept h.stamp);
  to = to_found folded h more lacks can;
  copies = copies_found folded h more lacks can;
}

pub found_in_letter : Folded → ((value : Bytes) → begins_blank value ≡ false → ends_blank value ≡ false → trimmed value ≡ value)
    → (h : Heading) (n : ℕ) → CanBeHeaded h → IsFound h (map shown (letter_fields h n))
found_in_letter folded kept h n can = found folded kept h (multipart_fields n) (multi_lacks n) can

pub found_in_heading : Folded → ((value : Bytes) → begins_blank value ≡ false → ends_blank value ≡ false → trimmed value ≡ value)
    → (h : Heading) → CanBeHeaded h → IsFound h (map shown (heading_fields h))
found_in_heading folded kept h can =
    subst (λ (fields : List Written). IsFound h (map shown fields)) (append-nil (heading_fields h)) (found folded kept h [] nothing_lacks can)
