-- Texts of these forms are printable, and items that are seen of values.
use Rattle.std.proofs.Common.{◌≡◌, ℕ, ◌+◌, ◌<◌, Bool, true, false, ◌&&◌, List, [], ◌∷◌, ◌++◌, length, get_or, drop, refl, sym, ap, ◌∙◌, arith, drop-cons, suc, append_assoc, Option, Some, None, option_and_then, option_map}
use Rattle.std.specs.Prelude.{is_some}
use Rattle.std.specs.List.{list_all, AllByRecursion}
use Rattle.std.proofs.lemmas.Bool.{false≢true}
use Rattle.std.proofs.lemmas.Bool.Decides.{nat_tests}
use Rattle.toml.specs.Data.{as_table, item}
use Rattle.toml.specs.View.{items_view, view}
use Rattle.toml.specs.declared.value.Value.{Value}
use Rattle.pec_types.specs.Address.{IsLowerAddress, HasDomain}
use Rattle.pec_types.specs.Text.{is_unprintable, AllPrintable}
use Rattle.pec_directory.specs.Fields.{are_tables, domain_of_item, domains_of, has_length, is_name, is_name_byte, is_visible, is_visible_byte, service_at}
use Rattle.pec_directory.specs.Lawful.{IsOwnDomain}
use Rattle.pec_directory.proofs.AddressLaws.{PrintableByByte, PrintableLaws}

both : (x y : Bool) → (x && y) ≡ true → (x ≡ true) × (y ≡ true)
both true y e = (refl, e)
both false y e = absurd (false≢true e)

all_of : (p : ℕ → Bool) → ((b : ℕ) → p b ≡ true → is_unprintable b ≡ false) → (text : List ℕ) → list_all p text ≡ true → AllByRecursion (λ c. is_unprintable c ≡ false) text
all_of p each [] e = tt
all_of p each (b ∷ bs) e = let parts = both (p b) (list_all p bs) e in (each b parts.0, all_of p each bs parts.1)

name_byte : (b : ℕ) → is_name_byte b ≡ true → is_unprintable b ≡ false
name_byte b e = grind (arith, nat_tests)

visible_byte : (b : ℕ) → is_visible_byte b ≡ true → is_unprintable b ≡ false
visible_byte b e = grind (arith, nat_tests)

pub name_printable : PrintableByByte → (text : List ℕ) → is_name text ≡ true → AllPrintable text
unfolding is_name
name_printable each text e = (each text).1 (all_of is_name_byte name_byte text (both _ (has_length 1 32 text) e).0)

pub visible_printable : PrintableByByte → (most : ℕ) (text : List ℕ) → is_visible most text ≡ true → AllPrintable text
unfolding is_visible
visible_printable each most text e = (each text).1 (all_of is_visible_byte visible_byte text (both _ (has_length 1 most text) e).0)

behind : (front back : List ℕ) → AllByRecursion (λ c. is_unprintable c ≡ false) (front ++ back) → AllByRecursion (λ c. is_unprintable c ≡ false) back
behind [] back all = all
behind (b ∷ front) back all = behind front back all.1

-- each byte of an address is printable
address_bytes : PrintableLaws → (address : List ℕ) → IsLowerAddress address → AllByRecursion (λ c. is_unprintable c ≡ false) address
address_bytes laws address lower = (laws.each address).0 (laws.address address lower)

pub domain_printable : PrintableLaws → (address domain : List ℕ) → IsLowerAddress address → HasDomain address domain → AllPrintable domain
domain_printable laws address domain lower parts = (laws.each domain).1 (behind parts.local (64 ∷ domain) (rw parts.parts at (address_bytes laws address lower))).1

pub own_printable : PrintableLaws → (domain : List ℕ) → IsOwnDomain domain → AllPrintable domain
own_printable laws domain own = (laws.each domain).1 (behind (service_at []) domain (address_bytes laws (service_at domain) own))

pub are_tables_view : (values : List Value) → are_tables (items_view values) ≡ list_all (λ value. is_some (as_table (view value))) values
are_tables_view [] = refl
are_tables_view (value ∷ values) = ap (λ x. is_some (as_table (view value)) && x) (are_tables_view values)

-- the items from one on
pub items_view-step : (values : List Value) (i : ℕ) (value : Value) → i < length values → value ≡ get_or values i value → items_view (drop i values) ≡ item (view value) (items_view (drop (i + 1) values))
items_view-step values i value within is =
    ap items_view (drop-cons values i value within ∙ (ap (λ v. v ∷ drop (suc i) values) (sym is) ∙ ap (λ n. value ∷ drop n values) (sym add_one)))
  where
    add_one : i + 1 ≡ suc i
    add_one = omega arith

-- ---- domains, one by one

onto_more : (all : List (List ℕ)) (domain : List ℕ) (found : Option (List (List ℕ))) → option_map (λ rest. all ++ rest) (option_map (λ rest. domain ∷ rest) found) ≡ option_map (λ rest. (all ++ domain ∷ []) ++ rest) found
onto_more all domain None = refl
onto_more all domain (Some rest) = ap (λ x. Some x) (sym (append_assoc all (domain ∷ []) rest))

module _ (values : List Value) (i : ℕ) (value : Value) (within : i < length values) (is : value ≡ get_or values i value) (all : List (List ℕ))
    (so_far : domains_of (items_view values) ≡ option_map (λ rest. all ++ rest) (domains_of (items_view (drop i values)))) where
  read_next : (o : Option (List ℕ)) → domain_of_item (view value) ≡ o
      → domains_of (items_view values) ≡ option_map (λ rest. all ++ rest) (option_and_then (λ domain. option_map (λ rest. domain ∷ rest) (domains_of (items_view (drop (i + 1) values)))) o)
  read_next o read =
      so_far ∙ ap (λ vs. option_map (λ rest. all ++ rest) (domains_of vs)) (items_view-step values i value within is)
      ∙ ap (λ d. option_map (λ rest. all ++ rest) (option_and_then (λ domain. option_map (λ rest. domain ∷ rest) (domains_of (items_view (drop (i + 1) values)))) d)) read

  pub domain_step : (domain : List ℕ) → domain_of_item (view value) ≡ Some domain
      → domains_of (items_view values) ≡ option_map (λ rest. (all ++ domain ∷ []) ++ rest) (domains_of (items_view (drop (i + 1) values)))
  domain_step domain read = read_next (Some domain) read ∙ onto_more all domain (domains_of (items_view (drop (i + 1) values)))

  pub domain_none : domain_of_item (view value) ≡ None → domains_of (items_view values) ≡ None
  domain_none read = read_next None read
