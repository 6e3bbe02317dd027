-- The records that were put and those of the providers that are left are together all of them.
use Rattle.std.proofs.Common.{◌≡◌, ◌++◌, drop}
use Rattle.std.specs.List.{flat_map}
use Rattle.pec_directory.specs.Directory.{providers_of}
use Rattle.pec_ldif.specs.Writing.{ldif_text, record_text, records_from}
use Rattle.pec_ldif.proofs.writing.ldif_of.Given as goal

abbrev pub invariant-loop-number : goal.invariant-loop-number
invariant-loop-number l =
    l.text.items ++ flat_map record_text (records_from l.number (providers_of (drop l.number l.directory))) ≡ ldif_text (providers_of l.directory)
