-- A mailbox and the marks of a clock call are read back from their texts.
use Rattle.std.proofs.Common.{◌≡◌, ◌≢◌, ℕ, ◌+◌, ◌<◌, ◌^◌, List, [], ◌∷◌, ◌++◌, codes, length, Option, Some, None, refl, sym, ap, subst, arith}
use Rattle.std.proofs.lemmas.Bool.{false≢true}
use Rattle.std.specs.Fmt.{decimal}
use Rattle.std.specs.List.{AllByRecursion}
use Rattle.pec_directory.specs.Directory.{Provider}
use Rattle.pec_directory.specs.Lawful.{IsLawful}
use Rattle.pec_types.specs.Bytes.{Bytes}
use Rattle.pec_types.specs.Message.{Id}
use Rattle.pec_types.specs.declared.mailboxes.ItemKind.{ItemKind}
use Rattle.pec_types.specs.declared.mailboxes.ItemKind.TheVariants as items
use Rattle.pec_types.specs.declared.mailboxes.ItemLine.{ItemLine}
use Rattle.pec_types.specs.declared.receipts.Kind.TheVariants as kinds
use Rattle.pec_types.specs.AddressReading.{step_of}
use Rattle.pec_types.specs.AddressSteps.{further}
use Rattle.pec_types.specs.Address.{IsLowerAddress, is_atom_byte}
use Rattle.pec_types.specs.Words.{id_text}
use Rattle.pec_script.specs.Printed.{AreAlike, IsAddressOrNone, IsItemLine, IsNamedOrNone}
use Rattle.pec_script.specs.Rows.{AreRows, IsRow, IsWord}
use Rattle.pec_script.specs.Texts.{Row, id_of, id_word, item_row, item_rows, items_text, kind_word, recipient_word, text_of, vault_text}
use Rattle.pec_script.proofs.BookLemmas.{count_is_row}
use Rattle.pec_script.proofs.RowLemmas.{CutsTold, one_text, same_front}
use Rattle.pec_script.proofs.WordLemmas.{NamesTold, address_word, decimal_word, id_of_word, one_id, text_word}

-- ---- items

kind_is_word : (kind : ItemKind) → IsWord (kind_word kind)
kind_is_word items.Envelope = text_word (codes "envelope") refl
kind_is_word items.Anomaly = text_word (codes "anomaly") refl
kind_is_word (items.Receipt kinds.Acceptance) = text_word (codes "acceptance") refl
kind_is_word (items.Receipt (kinds.NonAcceptance cause)) = text_word (codes "non-acceptance") refl
kind_is_word (items.Receipt kinds.Charge) = text_word (codes "charge") refl
kind_is_word (items.Receipt kinds.Delivery) = text_word (codes "delivery") refl
kind_is_word (items.Receipt (kinds.DeliveryError refusal)) = text_word (codes "delivery-error") refl
kind_is_word (items.Receipt kinds.VirusFound) = text_word (codes "virus-found") refl
kind_is_word (items.Receipt kinds.Warning) = text_word (codes "warning") refl
kind_is_word (items.Receipt kinds.Notice) = text_word (codes "notice") refl
kind_is_word (items.Receipt kinds.LateNotice) = text_word (codes "late-notice") refl
kind_is_word (items.Receipt kinds.Ack) = text_word (codes "ack") refl

id_is_word : NamesTold → (providers : List Provider) → IsLawful providers → (id : Option Id) → IsNamedOrNone providers id → IsWord (id_word providers id)
id_is_word told providers lawful None is = text_word (codes "-") refl
id_is_word told providers lawful (Some id) is = id_of_word told providers id lawful is

recipient_is_word : NamesTold → (recipient : Option Bytes) → IsAddressOrNone recipient → IsWord (recipient_word recipient)
recipient_is_word told None is = text_word (codes "-") refl
recipient_is_word told (Some address) is = address_word told.pass address is

one_id_or_none : NamesTold → (providers : List Provider) → IsLawful providers → (id other : Option Id) → IsNamedOrNone providers id → IsNamedOrNone providers other
    → id_word providers id ≡ id_word providers other → id ≡ other
unfolding id_of id_text
one_id_or_none told providers lawful None None is also e = refl
one_id_or_none told providers lawful None (Some other) is also e = absurd cc
one_id_or_none told providers lawful (Some id) None is also e = absurd cc
one_id_or_none told providers lawful (Some id) (Some other) is also e = ap (λ i. Some i) (one_id told providers id other lawful is also e)

-- no address is a hyphen
not_hyphen : NamesTold → (address : Bytes) → IsLowerAddress address → address ≢ codes "-"
unfolding further step_of is_atom_byte
not_hyphen told address is e = false≢true ((told.pass (codes "-")).0 (subst IsLowerAddress e is)).0

one_recipient : NamesTold → (recipient other : Option Bytes) → IsAddressOrNone recipient → IsAddressOrNone other
    → recipient_word recipient ≡ recipient_word other → recipient ≡ other
one_recipient told None None is also e = refl
one_recipient told None (Some other) is also e = absurd (not_hyphen told other also (sym e))
one_recipient told (Some recipient) None is also e = absurd (not_hyphen told recipient is e)
one_recipient told (Some recipient) (Some other) is also e = ap (λ r. Some r) e

item_is_row : NamesTold → (providers : List Provider) → IsLawful providers → (place : ℕ) → place < 2 ^ 64 → (line : ItemLine) → IsItemLine providers line
    → IsRow (item_row providers place line)
unfolding item_row
item_is_row told providers lawful place small line is = record {
  some = omega arith;
  words = (decimal_word place small, (kind_is_word line.kind, (id_is_word told providers lawful line.id is.id, (recipient_is_word told line.recipient is.recipient, tt))));
}

items_are_rows : NamesTold → (providers : List Provider) → IsLawful providers → (place : ℕ) (lines : List ItemLine) → place + length lines < 2 ^ 64
    → AllByRecursion (IsItemLine providers) lines → (last : Row) → IsRow last → AreRows (item_rows providers place lines ++ last ∷ [])
items_are_rows told providers lawful place [] few all last is = (is, tt)
items_are_rows told providers lawful place (line ∷ lines) few all last is =
    (item_is_row told providers lawful place (omega arith) line all.0, items_are_rows told providers lawful (place + 1) lines (omega arith) all.1 last is)

by_row : (providers : List Provider) (place : ℕ) (line other : ItemLine) → item_row providers place line ≡ item_row providers place other
    → (kind_word line.kind ≡ kind_word other.kind) × (id_word providers line.id ≡ id_word providers other.id) × (recipient_word line.recipient ≡ recipient_word other.recipient)
unfolding item_row
by_row providers place line other e = (cc, cc, cc)

alike_rows : NamesTold → (providers : List Provider) → IsLawful providers → (place : ℕ) (lines others : List ItemLine) → AllByRecursion (IsItemLine providers) lines
    → AllByRecursion (IsItemLine providers) others → item_rows providers place lines ≡ item_rows providers place others → AreAlike lines others
alike_rows told providers lawful place [] [] all alls e = tt
alike_rows told providers lawful place [] (other ∷ others) all alls e = absurd cc
alike_rows told providers lawful place (line ∷ lines) [] all alls e = absurd cc
alike_rows told providers lawful place (line ∷ lines) (other ∷ others) all alls e =
    let first : item_row providers place line ≡ item_row providers place other = cc in
    let rest : item_rows providers (place + 1) lines ≡ item_rows providers (place + 1) others = cc in
    let words : (kind_word line.kind ≡ kind_word other.kind) × (id_word providers line.id ≡ id_word providers other.id) × (recipient_word line.recipient ≡ recipient_word other.recipient) = by_row providers place line other first in (
      words.0,
      one_id_or_none told providers lawful line.id other.id all.0.id alls.0.id words.1,
      one_recipient told line.recipient other.recipient all.0.recipient alls.0.recipient words.2,
      alike_rows told providers lawful (place + 1) lines others all.1 alls.1 rest,
    )

-- lines of items, behind which a word and their number stand
alike_counted : CutsTold → NamesTold → (providers : List Provider) → IsLawful providers → (word : Bytes) → IsWord word → (lines others : List ItemLine)
    → AllByRecursion (IsItemLine providers) lines → AllByRecursion (IsItemLine providers) others → length lines < 2 ^ 64 → length others < 2 ^ 64
    → text_of (item_rows providers 0 lines ++ (word ∷ decimal (length lines) ∷ []) ∷ []) ≡ text_of (item_rows providers 0 others ++ (word ∷ decimal (length others) ∷ []) ∷ [])
    → AreAlike lines others
alike_counted cuts told providers lawful word is_word lines others all alls few less e =
    let row : (ls : List ItemLine) → Row = λ ls. word ∷ decimal (length ls) ∷ [] in
    alike_rows told providers lawful 0 lines others all alls
    (same_front (item_rows providers 0 lines) (item_rows providers 0 others) (row lines) (row others)
    (one_text cuts (item_rows providers 0 lines ++ row lines ∷ []) (item_rows providers 0 others ++ row others ∷ [])
    (items_are_rows told providers lawful 0 lines (omega arith) all (row lines) (count_is_row word is_word (length lines) few))
    (items_are_rows told providers lawful 0 others (omega arith) alls (row others) (count_is_row word is_word (length others) less)) e))

pub alike_items : CutsTold → NamesTold → (providers : List Provider) → IsLawful providers → (lines others : List ItemLine) → AllByRecursion (IsItemLine providers) lines
    → AllByRecursion (IsItemLine providers) others → length lines < 2 ^ 64 → length others < 2 ^ 64 → items_text providers lines ≡ items_text providers others → AreAlike lines others
unfolding items_text
alike_items cuts told providers lawful lines others all alls few less e =
    alike_counted cuts told providers lawful (codes "mailbox") (text_word (codes "mailbox") refl) lines others all alls few less e

pub alike_vaults : CutsTold → NamesTold → (providers : List Provider) → IsLawful providers → (lines others : List ItemLine) → AllByRecursion (IsItemLine providers) lines
    → AllByRecursion (IsItemLine providers) others → length lines < 2 ^ 64 → length others < 2 ^ 64 → vault_text providers lines ≡ vault_text providers others → AreAlike lines others
unfolding vault_text
alike_vaults cuts told providers lawful lines others all alls few less e =
    alike_counted cuts told providers lawful (codes "vault") (text_word (codes "vault") refl) lines others all alls few less e
