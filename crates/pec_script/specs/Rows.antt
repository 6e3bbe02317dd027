-- Lines of output as lists of words: `AreRows` says of which lists of words a text is made in one way.
use Rattle.std.specs.Prelude.{◌<◌, List, length}
use Rattle.std.specs.List.{AllByRecursion}
use Rattle.pec_types.specs.Bytes.{Bytes, line_feed, space}
use Rattle.pec_words.specs.Cuts.{Lacks}
use Rattle.pec_script.specs.Texts.{Row}

-- neither a space nor a line feed stands in a word
pub record IsWord (word : Bytes) : Type 0 where
  pub spaceless : Lacks space word
  pub feedless : Lacks line_feed word

-- one word or more
pub record IsRow (row : Row) : Type 0 where
  pub some : 0 < length row
  pub words : AllByRecursion IsWord row

abbrev pub AreRows : List Row → Type 0
AreRows rows = AllByRecursion IsRow rows
