-- What was composed passes the questions of readers.
use Rattle.std.proofs.Common.{◌≡◌, ℕ, ◌<◌, ◌==◌, Bool, true, false, not, ◌&&◌, List, [], ◌∷◌, map, slice_get, Option, None, Some, cond, codes, eq-eqb, refl, ap, ◌∙◌}
use Rattle.std.proofs.lemmas.Bool.{and_from}
use Rattle.std.specs.Cmp.Lexicographic.{bytes_decides}
use Rattle.std.specs.List.{list_all}
use Rattle.std.specs.Str.{bytes_eq}
use Rattle.pec_types.specs.Bytes.{Bytes}
use Rattle.pec_types.specs.Message.{Id}
use Rattle.pec_types.specs.Words.{wish_word}
use Rattle.pec_types.specs.declared.messages.Recipient.{Recipient}
use Rattle.pec_types.specs.declared.messages.Wish.{Wish}
use Rattle.pec_heads.specs.FactsOfHeads.{first_value}
use Rattle.pec_heads.specs.Heads.{NamedValue}
use Rattle.pec_cert.specs.HeaderDate.{header_date_of}
use Rattle.pec_cert.specs.declared.certificates.CertRecipient.{CertRecipient}
use Rattle.pec_directory.specs.Directory.{Provider, home_of, is_certified, is_number}
use Rattle.pec_directory.specs.Ids.{id_of}
use Rattle.pec_letter_parts.specs.Headings.{angled}
use Rattle.pec_letter_parts.specs.Letters.{Letter, is_value}
use Rattle.pec_letter_facts.specs.Certifying.{name_of, typed}
use Rattle.pec_letter_facts.specs.Questions.{are_typed, id_named, is_called, is_dated, is_first, is_from_home, is_sealed_by_issuer, is_typed, is_wish_marked}

same_text : (text : Bytes) → bytes_eq text text ≡ true
same_text text = (bytes_decides text text).1 refl

first_is : (name wanted : Bytes) (head : List NamedValue) → first_value name head ≡ Some wanted → is_first name wanted head ≡ true
unfolding is_first
first_is name wanted head e = ap (is_value wanted) e ∙ same_text wanted

pub id_passes : (providers : List Provider) (id : Id) (field : Bytes) (letter : Letter) → letter.cert.id ≡ name_of providers id
    → id_of providers (name_of providers id) ≡ Some id → first_value field letter.head ≡ Some (angled (name_of providers id)) → id_named providers field letter ≡ Some id
unfolding id_named
id_passes providers id field letter same named e =
    ap (λ (name : Bytes). cond (is_first field (angled name) letter.head) (id_of providers name) None) same
    ∙ ap (λ (t : Bool). cond t (id_of providers (name_of providers id)) None) (first_is field (angled (name_of providers id)) letter.head e)
    ∙ named

pub issuer_passes : (providers : List Provider) (issuer : Provider) (letter : Letter) → slice_get providers letter.sealer ≡ Some issuer → letter.cert.provider ≡ issuer.name
    → is_sealed_by_issuer providers letter ≡ true
unfolding is_sealed_by_issuer
issuer_passes providers issuer letter e called = ap (is_called letter.cert.provider) e ∙ ap (λ (name : Bytes). bytes_eq name issuer.name) called ∙ same_text issuer.name

pub home_passes : (providers : List Provider) (id : Id) (letter : Letter) → home_of providers letter.cert.sender ≡ Some id.provider → is_from_home providers id letter ≡ true
unfolding is_from_home
home_passes providers id letter e = ap (is_number id.provider) e ∙ eq-eqb id.provider id.provider refl

right_type : (t : Bool) → cond t t (not t) ≡ true
right_type true = refl
right_type false = refl

all_typed : (providers : List Provider) (recipients : List Recipient) → list_all (is_typed providers) (map (typed providers) recipients) ≡ true
all_typed providers [] = refl
all_typed providers (r ∷ recipients) = and_from (is_typed providers (typed providers r)) (list_all (is_typed providers) (map (typed providers) recipients)) (right_type (is_certified providers r.address)) (all_typed providers recipients)

pub types_pass : (providers : List Provider) (recipients : List Recipient) (letter : Letter) → letter.cert.recipients ≡ map (typed providers) recipients → are_typed providers letter ≡ true
unfolding are_typed
types_pass providers recipients letter e = ap (list_all (is_typed providers)) e ∙ all_typed providers recipients

pub wish_passes : (wish : Wish) (head : List NamedValue) → first_value (codes "X-TipoRicevuta") head ≡ Some (wish_word wish) → is_wish_marked wish head ≡ true
unfolding is_wish_marked
wish_passes wish head e = first_is (codes "X-TipoRicevuta") (wish_word wish) head e

pub date_passes : (letter : Letter) → first_value (codes "Date") letter.head ≡ Some (header_date_of letter.cert.stamp) → is_dated letter ≡ true
unfolding is_dated
date_passes letter e = first_is (codes "Date") (header_date_of letter.cert.stamp) letter.head e
