-- Parts are read as a path exactly where they are one.
use Rattle.std.proofs.Common.{◌≡◌, ◌+◌, ◌<◌, ◌≤◌, ◌↔◌, Bool, true, false, cond, eqb, List, [], ◌∷◌, ◌++◌, length, map, Option, Some, None, option_and_then, option_map, Result, Ok, Err, refl, sym, ◌∙◌, ap, append_assoc, append-nil, arith}
use Rattle.std.proofs.lemmas.Bool.{eqb-false, ne_eqb}
use Rattle.std.proofs.lemmas.List.{length-append}
use Rattle.std.proofs.lemmas.Option.{none-some, same_Some}
use Rattle.std.specs.List.{AllByRecursion, slice_split}
use Rattle.std.specs.Result.{result_ok}
use Rattle.pec_types.specs.Address.{IsAddress, IsAddressFault, IsReadAs, lowered}
use Rattle.pec_types.specs.AddressReading.{address_of}
use Rattle.pec_types.specs.Answers.{TellsExactly}
use Rattle.pec_types.specs.Bytes.{Bytes, Path, comma}
use Rattle.pec_words.specs.Cuts.{is_at}
use Rattle.pec_words.specs.Paths.{ArePath, IsPath, path_of, path_with, with_address}
use Rattle.pec_words.specs.declared.paths.TheConstants.{MOST_ADDRESSES}
use Rattle.pec_words.proofs.CutLemmas.{split_again, split_is}

-- what a law of addresses says
abbrev pub AddressesTold : Type 0
AddressesTold = (text : Bytes) → TellsExactly (IsReadAs text) (IsAddressFault text) (address_of text)

ok_told : {T E : Type 0} (r : Result T E) (x : T) → result_ok r ≡ Some x → r ≡ Ok x
ok_told (Ok y) x e = cc
ok_told (Err f) x e = absurd cc

address_is : AddressesTold → (text address : Bytes) → result_ok (address_of text) ≡ Some address → IsReadAs text address
address_is law text address e = ((law text).value address).0 (ok_told (address_of text) address e)

address_again : AddressesTold → (text address : Bytes) → IsReadAs text address → result_ok (address_of text) ≡ Some address
address_again law text address is = ap result_ok (((law text).value address).1 is)

-- ---- one more address

-- a part that is an address, where there is room for it
record IsAdded (path : Path) (part : Bytes) (more : Path) : Type 0 where
  room : length path ≡ MOST_ADDRESSES → ⊥
  is : IsAddress part
  more_is : more ≡ path ++ lowered part ∷ []

by_address : AddressesTold → (path : Path) (part : Bytes) (more : Path) (o : Option Bytes) → result_ok (address_of part) ≡ o → eqb (length path) MOST_ADDRESSES ≡ false
    → option_map (λ address. path ++ address ∷ []) o ≡ Some more → IsAdded path part more
by_address law path part more None e room h = absurd (none-some more h)
by_address law path part more (Some address) e room h =
    let read : IsReadAs part address = address_is law part address e in
    record {
      room = eqb-false (length path) MOST_ADDRESSES room;
      is = read.0;
      more_is = sym (same_Some (path ++ address ∷ []) more h) ∙ ap (λ a. path ++ a ∷ []) read.1;
    }

by_room : AddressesTold → (path : Path) (part : Bytes) (more : Path) (x : Bool) → eqb (length path) MOST_ADDRESSES ≡ x
    → cond x None (option_map (λ address. path ++ address ∷ []) (result_ok (address_of part))) ≡ Some more → IsAdded path part more
by_room law path part more true full h = absurd (none-some more h)
by_room law path part more false room h = by_address law path part more (result_ok (address_of part)) refl room h

added : AddressesTold → (path : Path) (part : Bytes) (more : Path) → with_address path part ≡ Some more → IsAdded path part more
unfolding with_address
added law path part more e = by_room law path part more (eqb (length path) MOST_ADDRESSES) refl e

added_again : AddressesTold → (path : Path) (part : Bytes) → IsAddress part → length path < MOST_ADDRESSES → with_address path part ≡ Some (path ++ lowered part ∷ [])
unfolding with_address
added_again law path part is room =
    let fits : eqb (length path) MOST_ADDRESSES ≡ false = ne_eqb (length path) MOST_ADDRESSES (λ e. let h : ⊥ = omega arith in h) in
    ap (λ x. cond x None (option_map (λ address. path ++ address ∷ []) (result_ok (address_of part)))) fits
    ∙ ap (option_map (λ address. path ++ address ∷ [])) (address_again law part (lowered part) (is, refl))

-- ---- addresses behind others

-- what is read of the parts that are left
record Reads (path : Path) (parts : List Bytes) (all : Path) : Type 0 where
  each : AllByRecursion IsAddress parts
  all_is : all ≡ path ++ map lowered parts
  within : length path + length parts ≤ MOST_ADDRESSES

one_more : AddressesTold → (path : Path) (part : Bytes) (parts : List Bytes) (all : Path) (o : Option Path) → with_address path part ≡ o
    → ((more : Path) → path_with more parts ≡ Some all → length more ≤ MOST_ADDRESSES → Reads more parts all)
    → length path ≤ MOST_ADDRESSES → option_and_then (λ more. path_with more parts) o ≡ Some all → Reads path (part ∷ parts) all
one_more law path part parts all None e next few h = absurd (none-some all h)
one_more law path part parts all (Some more) e next few h =
    let is : IsAdded path part more = added law path part more e in
    let size : length more ≡ length path + 1 = ap (λ l. length l) is.more_is ∙ length-append path (lowered part ∷ []) in
    let room : length path ≡ MOST_ADDRESSES → ⊥ = is.room in
    let short : length more ≤ MOST_ADDRESSES = omega (arith, room) in
    let rest : Reads more parts all = next more h short in
    record {
      each = (is.is, rest.each);
      all_is = rest.all_is ∙ (ap (λ front. front ++ map lowered parts) is.more_is ∙ append_assoc path (lowered part ∷ []) (map lowered parts));
      within = omega (arith, rest.within);
    }

read_from : AddressesTold → (path : Path) (parts : List Bytes) (all : Path) → length path ≤ MOST_ADDRESSES → path_with path parts ≡ Some all → Reads path parts all
read_from law path [] all few e = record { each = tt; all_is = sym (same_Some path all e) ∙ sym (append-nil path); within = omega arith }
read_from law path (part ∷ parts) all few e =
    one_more law path part parts all (with_address path part) refl (λ more h short. read_from law more parts all short h) few e

again_from : AddressesTold → (path : Path) (parts : List Bytes) → AllByRecursion IsAddress parts → length path + length parts ≤ MOST_ADDRESSES
    → path_with path parts ≡ Some (path ++ map lowered parts)
again_from law path [] each within = ap (λ p. Some p) (sym (append-nil path))
again_from law path (part ∷ parts) each within =
    let size : length (path ++ lowered part ∷ []) ≡ length path + 1 = length-append path (lowered part ∷ []) in
    ap (option_and_then (λ more. path_with more parts)) (added_again law path part each.0 (omega arith))
    ∙ (again_from law (path ++ lowered part ∷ []) parts each.1 (omega arith)
    ∙ ap (λ p. Some p) (append_assoc path (lowered part ∷ []) (map lowered parts)))

are_path : AddressesTold → (parts : List Bytes) (path : Path) → path_with [] parts ≡ Some path → ArePath parts path
are_path law parts path e =
    let all : Reads [] parts path = read_from law [] parts path (omega arith) e in
    record { each = all.each; within = omega (arith, all.within); path_is = all.all_is }

path_again : AddressesTold → (parts : List Bytes) (path : Path) → ArePath parts path → path_with [] parts ≡ Some path
path_again law parts path are = again_from law [] parts are.each (omega (arith, are.within)) ∙ ap (λ p. Some p) (sym are.path_is)

pub one_path : AddressesTold → (parts : List Bytes) (path : Path) → (path_with [] parts ≡ Some path) ↔ ArePath parts path
one_path law parts path = ((λ e. are_path law parts path e), (λ are. path_again law parts path are))

pub one_reading : AddressesTold → (text : Bytes) (path : Path) → (path_of text ≡ Some path) ↔ IsPath text path
unfolding path_of
one_reading law text path =
    let parts = slice_split (is_at comma) text in (
      (λ e. record { parts = parts; cut = split_is comma text parts refl; are = are_path law parts path e }),
      (λ is. ap (path_with []) (split_again comma text is.parts is.cut) ∙ path_again law is.parts path is.are),
    )
