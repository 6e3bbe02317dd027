-- The directory of a load is computed: it is TOML, parted from a script, and read.
use Rattle.std.proofs.Common.{◌≡◌, ◌≤◌, true, false, length, Some, Ok, refl, arith}
use Rattle.std.specs.Fmt.{digits}
use Rattle.std.specs.Str.{is_utf8}
use Rattle.hex.proofs.OnLiterals.{hex_on_literals}
use Rattle.jiff_tz.proofs.OnLiterals.{jiff_tz_on_literals, jiff_tz_tables_on_literals}
use Rattle.toml.proofs.OnLiterals.{toml_on_literals}
use Rattle.pec_types.specs.Address.{is_atom_byte}
use Rattle.pec_types.specs.AddressReading.{address_of, domain_of, in_label, step_of}
use Rattle.pec_types.specs.Bytes.{Bytes}
use Rattle.pec_directory.specs.Fields.{accounts_at, domain_in, domain_of_item, domains_at, is_hex, is_name, is_visible, key_at, key_of, limit_at, name_at, number_of, quota_at, rule_at, tables_of, text_at}
use Rattle.pec_directory.specs.Walk.{account_in, directory_in, directory_of, document_of, fields_of, key_in, provider_in, providers_in, receipts_in, rule_in, settled}
use Rattle.pec_input.specs.Lines.{content_of, raw_lines}
use Rattle.pec_input.specs.Parts.{parts_of}
use Rattle.pec_ldif.specs.FirstLine.{is_ldif}
use Rattle.pec_ldif.specs.Lines.{content_of as said_in}
use Rattle.pec_load.specs.Accounts.{account_text, load_directory, load_providers, provider_text}
use Rattle.pec_load.specs.Heard.{parted_by_mark}

pub is_toml : is_ldif load_directory ≡ false
unfolding is_ldif said_in load_directory provider_text account_text digits
is_toml = refl

pub is_text : is_utf8 load_directory ≡ true
unfolding jiff_tz_tables_on_literals load_directory provider_text account_text digits
is_text = refl

pub directory_said : directory_of load_directory ≡ Ok load_providers
unfolding digits hex_on_literals jiff_tz_on_literals toml_on_literals is_atom_byte address_of domain_of in_label step_of accounts_at domain_in domain_of_item domains_at is_hex is_name is_visible key_at key_of limit_at name_at number_of quota_at rule_at tables_of text_at account_in directory_in directory_of document_of fields_of key_in provider_in providers_in receipts_in rule_in settled load_directory provider_text account_text
directory_said = refl

pub directory_parted : (script : Bytes) → parts_of (raw_lines (parted_by_mark load_directory script))
    ≡ record { directory = load_directory; script = Some (raw_lines script) }
unfolding content_of load_directory provider_text account_text digits
directory_parted script = refl

pub directory_short : length load_directory ≤ 1048576
unfolding load_directory provider_text account_text digits
directory_short = omega arith
