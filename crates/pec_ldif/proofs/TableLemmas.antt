-- Tables as maps of the code and as members in the order of their keys, and loops that put tables one behind the other.
use Rattle.std.proofs.Common.{◌≡◌, true, false, cond, List, [], ◌∷◌, ◌++◌, map, String, Global, Ordering, Less, Equal, Greater, string_bytes, refl, sym, ◌∙◌, ap, append-nil, append_assoc}
use Rattle.std.proofs.lemmas.List.{map-append}
use Rattle.std.specs.BTreeMap.{insert_entry}
use Rattle.std.specs.Ordering.{match_ordering}
use Rattle.std.specs.String.{string_cmp}
use Rattle.toml.specs.Data.{Data, member, string}
use Rattle.toml.specs.View.{members_view, view}
use Rattle.toml.specs.declared.value.Value.{Value}
use Rattle.pec_types.specs.Bytes.{Bytes}
use Rattle.pec_ldif.specs.Attributes.{Attribute}
use Rattle.pec_ldif.specs.Records.{Entry, is_provider}
use Rattle.pec_ldif.specs.Tables.{account_tables, if_account, put_member, value_named, values_named}

abbrev pub Member : Type 0
Member = String Global × Value

-- ---- one member more

placed_by : (o : Ordering) (a b c : List Member) → members_view (match_ordering o a b c) ≡ match_ordering o (members_view a) (members_view b) (members_view c)
placed_by Less a b c = refl
placed_by Equal a b c = refl
placed_by Greater a b c = refl

pub inserted : (members : List Member) (key : String Global) (value : Value)
    → members_view (insert_entry string_cmp members key value) ≡ put_member (string_bytes key) (view value) (members_view members)
inserted [] key value = refl
inserted (m ∷ ms) key value =
    placed_by (string_cmp key m.0) ((key, value) ∷ m ∷ ms) ((m.0, value) ∷ ms) (m ∷ insert_entry string_cmp ms key value)
    ∙ ap (λ more. match_ordering (string_cmp key m.0) (members_view ((key, value) ∷ m ∷ ms)) (members_view ((m.0, value) ∷ ms)) (member (string_bytes m.0) (view m.1) more))
    (inserted ms key value)

pub put_so : (members : List Member) (key : String Global) (value : Value) (name : Bytes) → string_bytes key ≡ name
    → members_view (insert_entry string_cmp members key value) ≡ put_member name (view value) (members_view members)
put_so members key value name is = inserted members key value ∙ ap (λ k. put_member k (view value) (members_view members)) is

-- ---- values, one behind the other

pub pushed : (values : List Value) (value : Value) (seen : Data) → view value ≡ seen → map view (values ++ value ∷ []) ≡ map view values ++ seen ∷ []
pushed values value seen is = map-append view values (value ∷ []) ∙ ap (λ d. map view values ++ d ∷ []) is

-- what was put behind, before what is left
pub goes_on : {A : Type 0} (before more now rest all : List A) → now ≡ before ++ more → before ++ (more ++ rest) ≡ all → now ++ rest ≡ all
goes_on before more now rest all is so = ap (λ xs. xs ++ rest) is ∙ (append_assoc before more rest ∙ so)

pub none_more : (values : List Value) (all : List Data) → map view values ++ [] ≡ all → map view values ≡ all
none_more values all so = sym (append-nil (map view values)) ∙ so

pub stops_at : (values : List Value) (entry : Entry) (behind : List Entry) (all : List Data) → is_provider entry ≡ true
    → map view values ++ account_tables (entry ∷ behind) ≡ all → map view values ≡ all
stops_at values entry behind all is so =
    none_more values all (ap (λ t. map view values ++ cond t [] (if_account entry ++ account_tables behind)) (sym is) ∙ so)

pub accounts_go_on : (before now : List Data) (entry : Entry) (behind : List Entry) (all : List Data) → is_provider entry ≡ false
    → now ≡ before ++ if_account entry → before ++ account_tables (entry ∷ behind) ≡ all → now ++ account_tables behind ≡ all
accounts_go_on before now entry behind all is put so =
    goes_on before (if_account entry) now (account_tables behind) all put
    (ap (λ t. before ++ cond t [] (if_account entry ++ account_tables behind)) (sym is) ∙ so)

pub values_go_on : (name : Bytes) (before now : List Data) (attribute : Attribute) (behind : List Attribute) (all : List Data)
    → now ≡ before ++ map string (value_named name attribute) → before ++ map string (values_named name (attribute ∷ behind)) ≡ all
    → now ++ map string (values_named name behind) ≡ all
values_go_on name before now attribute behind all put so =
    goes_on before (map string (value_named name attribute)) now (map string (values_named name behind)) all put
    (ap (λ xs. before ++ xs) (sym (map-append string (value_named name attribute) (values_named name behind))) ∙ so)
