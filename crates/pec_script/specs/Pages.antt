-- How lines are put one after another, word by word. That this is the text of `Texts` is a lemma of the crate.
use Rattle.std.specs.Prelude.{List, [], ◌∷◌, ◌++◌, codes}
use Rattle.pec_types.specs.Bytes.{Bytes}
use Rattle.pec_script.specs.Texts.{Row}

-- a text, with the rest of a line behind it
abbrev pub rest_after : Bytes → Row → Bytes
rest_after text [] = text ++ codes "\n"
rest_after text (word ∷ words) = rest_after (text ++ codes " " ++ word) words

-- a text, with a line of these words behind it
abbrev pub line_after : Bytes → Row → Bytes
line_after text [] = text ++ codes "\n"
line_after text (word ∷ words) = rest_after (text ++ word) words

-- a text, with lines behind it
abbrev pub text_after : Bytes → List Row → Bytes
text_after text [] = text
text_after text (row ∷ rows) = text_after (line_after text row) rows

-- a text, with the lines of things behind it, one after another
abbrev pub text_for : {X : Type 0} → (X → List Row) → Bytes → List X → Bytes
text_for rows text [] = text
text_for rows text (one ∷ others) = text_for rows (text_after text (rows one)) others

-- one line
abbrev pub only : Row → List Row
only row = row ∷ []
