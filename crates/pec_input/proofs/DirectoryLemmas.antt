-- Bytes are one directory, or are refused for one reason: what is told of texts of LDIF and of TOML is put together.
use Rattle.std.proofs.Common.{◌≡◌, Bool, true, false, cond, List, Result, Ok, Err, refl, sym, ◌∙◌, ap}
use Rattle.std.proofs.lemmas.Bool.{false≢true}
use Rattle.std.specs.Str.{is_utf8}
use Rattle.pec_types.specs.Answers.{TellsExactly}
use Rattle.pec_types.specs.Bytes.{Bytes}
use Rattle.pec_directory.specs.Directory.{Provider}
use Rattle.pec_directory.specs.Faults.{IsDirectoryFault}
use Rattle.pec_directory.specs.Lawful.{IsLawful}
use Rattle.pec_directory.specs.Tables.{IsDirectory}
use Rattle.pec_directory.specs.Walk.{directory_of}
use Rattle.pec_directory.specs.declared.faults.DirectoryFault.{DirectoryFault}
use Rattle.pec_directory.specs.declared.faults.DirectoryFault.TheVariants.{NotToml}
use Rattle.pec_ldif.specs.Directories.{IsLdifDirectory, IsLdifRefusal, directory_in_ldif, of_table}
use Rattle.pec_ldif.specs.FirstLine.{is_ldif}
use Rattle.pec_ldif.specs.Writing.{ldif_text}
use Rattle.pec_ldif.specs.declared.refusals.LdifRefused.TheVariants.{Directory}
use Rattle.pec_input.specs.Directory.{IsDirectoryIn, IsRefusal, Refusal, RefusedAsBytes, RefusedAsLdif, RefusedAsToml, SaidInLdif, SaidInToml, directory_in, directory_in_toml}

abbrev pub LdifTold : Type 0
LdifTold = (text : Bytes) → TellsExactly (IsLdifDirectory text) (IsLdifRefusal text) (directory_in_ldif text)

abbrev pub TomlTold : Type 0
TomlTold = (text : Bytes) → TellsExactly (IsDirectory text) (IsDirectoryFault text) (directory_of text)

abbrev Answer : Type 0
Answer = Result (List Provider) Refusal

abbrev answered : List Provider → Answer
answered providers = Ok providers

abbrev refused : Refusal → Answer
refused why = Err why

abbrev said : List Provider → Result (List Provider) DirectoryFault
said providers = Ok providers

abbrev stopped : DirectoryFault → Result (List Provider) DirectoryFault
stopped fault = Err fault

no_answer : (why : Refusal) (providers : List Provider) → refused why ≡ answered providers → ⊥
no_answer why providers e = cc

same_why : (why other : Refusal) → refused why ≡ refused other → why ≡ other
same_why why other e = cc

by_value : (d : Result (List Provider) DirectoryFault) (providers : List Provider) → of_table d ≡ answered providers → d ≡ said providers
by_value (Ok some) providers e = cc
by_value (Err fault) providers e = absurd cc

by_fault : (d : Result (List Provider) DirectoryFault) (why : Refusal) → of_table d ≡ refused why → (fault : DirectoryFault) × (d ≡ stopped fault) × (why ≡ Directory fault)
by_fault (Ok some) why e = absurd cc
by_fault (Err fault) why e = (fault, refl, cc)

module _ (ldif : LdifTold) (toml : TomlTold) (bytes : Bytes) where
  module _ (first : is_ldif bytes ≡ true) where
    ldif_again : (providers : List Provider) → IsDirectoryIn bytes providers → directory_in_ldif bytes ≡ answered providers
    ldif_again providers (SaidInLdif is said) = ((ldif bytes).value providers).1 said
    ldif_again providers (SaidInToml other utf8 said) = absurd (false≢true (sym other ∙ first))

    why_ldif : (why : Refusal) → IsRefusal bytes why → directory_in_ldif bytes ≡ refused why
    why_ldif why (RefusedAsLdif is told) = ((ldif bytes).fault why).1 told
    why_ldif why (RefusedAsBytes other utf8 same) = absurd (false≢true (sym other ∙ first))
    why_ldif why (RefusedAsToml fault other utf8 told same) = absurd (false≢true (sym other ∙ first))

    of_ldif : TellsExactly (IsDirectoryIn bytes) (IsRefusal bytes) (directory_in_ldif bytes)
    of_ldif = record {
      value = λ providers. (λ e. SaidInLdif first (((ldif bytes).value providers).0 e), ldif_again providers);
      fault = λ why. (λ e. RefusedAsLdif first (((ldif bytes).fault why).0 e), why_ldif why);
    }

  module _ (first : is_ldif bytes ≡ false) where
    module _ (utf8 : is_utf8 bytes ≡ true) where
      toml_again : (providers : List Provider) → IsDirectoryIn bytes providers → of_table (directory_of bytes) ≡ answered providers
      toml_again providers (SaidInLdif other said) = absurd (false≢true (sym first ∙ other))
      toml_again providers (SaidInToml is text said) = ap of_table (((toml bytes).value providers).1 said)

      why_toml : (why : Refusal) → IsRefusal bytes why → of_table (directory_of bytes) ≡ refused why
      why_toml why (RefusedAsLdif other told) = absurd (false≢true (sym first ∙ other))
      why_toml why (RefusedAsBytes is other same) = absurd (false≢true (sym other ∙ utf8))
      why_toml why (RefusedAsToml fault is text told same) = ap of_table (((toml bytes).fault fault).1 told) ∙ ap (λ w. refused w) (sym same)

      so_toml : (why : Refusal) → of_table (directory_of bytes) ≡ refused why → IsRefusal bytes why
      so_toml why e =
          let one = by_fault (directory_of bytes) why e in
          RefusedAsToml one.0 first utf8 (((toml bytes).fault one.0).0 one.1) one.2

      of_toml : TellsExactly (IsDirectoryIn bytes) (IsRefusal bytes) (of_table (directory_of bytes))
      of_toml = record {
        value = λ providers. (λ e. SaidInToml first utf8 (((toml bytes).value providers).0 (by_value (directory_of bytes) providers e)), toml_again providers);
        fault = λ why. (so_toml why, why_toml why);
      }

    module _ (utf8 : is_utf8 bytes ≡ false) where
      none_again : (providers : List Provider) → IsDirectoryIn bytes providers → ⊥
      none_again providers (SaidInLdif other said) = false≢true (sym first ∙ other)
      none_again providers (SaidInToml is other said) = false≢true (sym utf8 ∙ other)

      why_bytes : (why : Refusal) → IsRefusal bytes why → refused (Directory NotToml) ≡ refused why
      why_bytes why (RefusedAsLdif other told) = absurd (false≢true (sym first ∙ other))
      why_bytes why (RefusedAsBytes is text same) = ap (λ w. refused w) (sym same)
      why_bytes why (RefusedAsToml fault is other told same) = absurd (false≢true (sym utf8 ∙ other))

      of_bytes : TellsExactly (IsDirectoryIn bytes) (IsRefusal bytes) (refused (Directory NotToml))
      of_bytes = record {
        value = λ providers. (λ e. absurd (no_answer (Directory NotToml) providers e), λ it. absurd (none_again providers it));
        fault = λ why. (λ e. RefusedAsBytes first utf8 (sym (same_why (Directory NotToml) why e)), why_bytes why);
      }

    by_utf8 : (t : Bool) → is_utf8 bytes ≡ t
        → TellsExactly (IsDirectoryIn bytes) (IsRefusal bytes) (cond t (of_table (directory_of bytes)) (refused (Directory NotToml)))
    by_utf8 true is = of_toml is
    by_utf8 false is = of_bytes is

  by_line : (t : Bool) → is_ldif bytes ≡ t → TellsExactly (IsDirectoryIn bytes) (IsRefusal bytes) (cond t (directory_in_ldif bytes) (directory_in_toml bytes))
  unfolding directory_in_toml
  by_line true is = of_ldif is
  by_line false is = by_utf8 is (is_utf8 bytes) refl

  -- The bytes are one directory, or are refused for one reason.
  pub one_form : TellsExactly (IsDirectoryIn bytes) (IsRefusal bytes) (directory_in bytes)
  unfolding directory_in
  one_form = by_line (is_ldif bytes) refl

-- ---- a directory and its text in LDIF

lawful_by : (bytes : Bytes) (providers : List Provider) → IsDirectoryIn bytes providers → IsLawful providers
lawful_by bytes providers (SaidInLdif is said) = said.is_table.lawful
lawful_by bytes providers (SaidInToml is text said) = said.lawful

-- What is read is read again from its text in LDIF.
pub read_again : ((bytes : Bytes) → TellsExactly (IsDirectoryIn bytes) (IsRefusal bytes) (directory_in bytes))
    → ((providers : List Provider) → is_ldif (ldif_text providers) ≡ true)
    → ((providers : List Provider) → IsLawful providers → directory_in_ldif (ldif_text providers) ≡ answered providers)
    → (bytes : Bytes) (providers : List Provider) → directory_in bytes ≡ answered providers
    → directory_in (ldif_text providers) ≡ answered providers
unfolding directory_in
read_again told first read bytes providers e =
    let text = ldif_text providers in
    ap (λ (t : Bool). cond t (directory_in_ldif text) (directory_in_toml text)) (first providers)
    ∙ read providers (lawful_by bytes providers (((told bytes).value providers).0 e))
