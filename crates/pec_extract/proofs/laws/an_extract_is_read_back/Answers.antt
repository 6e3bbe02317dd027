use Rattle.std.proofs.Common.{refl}
use Rattle.csv.specs.Writing.{fields_text, is_blank}
use Rattle.pec_extract.specs.Records.{record_text}
use Rattle.pec_extract.proofs.ReadBackLemmas.{read_back_all}
use Rattle.pec_extract.proofs.laws.an_extract_is_read_back.Goals as goal

pub returns : goal.returns
unfolding record_text fields_text is_blank
returns c = record { read = read_back_all; line = refl }
