-- What is wrong in a text that doesn't have the shape of a certification text: the first wrong value that stands in it,
-- all before which goes on as certification texts do (`IsWrongIn`, at the end). An address stands there up to the tag
-- behind it, and a date up to the end of its last line. A text is looked at part by part (`Part`); that looking is exact
-- stands in `a_text_has_one_answer`.
use Rattle.std.specs.Prelude.{◌≡◌, ◌⊎◌, ℕ, zero, suc, ◌-◌, Bool, ◌++◌, length, Option, Some, None, Result, Ok, Err, codes, if◌then◌else◌}
use Rattle.std.specs.List.{flat_map}
use Rattle.pec_types.specs.Address.{IsLowerAddress}
use Rattle.pec_types.specs.Bytes.{Bytes}
use Rattle.pec_types.specs.Text.{AllPrintable}
use Rattle.pec_types.specs.declared.messages.Wish.{Wish}
use Rattle.pec_grammar.specs.Grammar.{Cursor, Read, Grammar, word, led_at, ended_at, choice_at}
use Rattle.pec_cert.specs.Lines.{front_text, addressee_opening, shown_text, wish_text}
use Rattle.pec_cert.specs.LinesReading.{class_table, front_at, shown_at, wish_at, content_at, element_at}
use Rattle.pec_cert.specs.Markup.{escape}
use Rattle.pec_cert.specs.Shown.{HasDigits, IsShown, AnswersShown, before_part}
use Rattle.pec_cert.specs.Stamp.{Instant}
use Rattle.pec_cert.specs.ValueTests.{is_lower, stamp_in}
use Rattle.pec_cert.specs.declared.certificates.CertKind.{CertKind}
use Rattle.pec_cert.specs.declared.certificates.CertError.{CertError}
use Rattle.pec_cert.specs.declared.dates.Part.{Part as DatePart}
use Rattle.pec_cert.specs.declared.faults.CertFault.{CertFault}
use Rattle.pec_cert.specs.declared.faults.CertFault.TheVariants.{BadDate, BadAddress}
use Rattle.pec_cert.specs.declared.stamps.Shown.{Shown}

-- how a look at a text ends: what is behind the part that stands there; or the wrong value in it, or None where
-- certification texts don't go on so
abbrev pub Looked : Type 0
Looked = Result Bytes (Option CertFault)

-- A part of a text: a text goes on with it, to what is behind it; or a value in it is wrong, and this is its fault. The
-- look at a text tells both.
pub record Part : Type 1 where
  pub Goes : Bytes → Bytes → Type 0
  pub IsWrong : Bytes → CertFault → Type 0
  pub look : Bytes → Result Bytes (Option CertFault)

-- the text neither goes on with the part, nor with a wrong value of it
abbrev pub Lacks : Part → Bytes → Type 0
Lacks part text = ((rest : Bytes) → part.Goes text rest → ⊥) × ((fault : CertFault) → part.IsWrong text fault → ⊥)

-- where the text goes on, what is behind is looked at
infixl 10 ◌>=>◌
abbrev pub ◌>=>◌ : Looked → (Bytes → Looked) → Looked
(Ok rest) >=> next = next rest
(Err fault) >=> next = Err fault

-- one part and then another
abbrev pub in_turn : Part → Part → Part
in_turn first second = record {
  Goes = λ text rest. (middle : Bytes) × first.Goes text middle × second.Goes middle rest;
  IsWrong = λ text fault. first.IsWrong text fault ⊎ ((middle : Bytes) × first.Goes text middle × second.IsWrong middle fault);
  look = λ text. first.look text >=> second.look;
}

-- what is behind that which was read
abbrev pub behind : {A : Type 0} → Read A → Looked
behind (Ok taken) = Ok taken.1.rest
behind (Err stop) = Err None

-- a part in which no value can be wrong
abbrev pub plain : {A : Type 0} → Grammar A → Part
plain {A} g = record {
  Goes = λ text rest. (x : A) × g.Fits x × (text ≡ g.spell x ++ rest);
  IsWrong = λ text fault. ⊥;
  look = λ text. behind (g.read (record { rest = text; farthest = text }));
}

-- what is behind a part, or the same text where it isn't there
abbrev pub if_there : Looked → Bytes → Looked
if_there (Ok rest) text = Ok rest
if_there (Err None) text = Ok text
if_there (Err (Some fault)) text = Err (Some fault)

-- a part that may be absent
abbrev pub absent_or : Part → Part
absent_or part = record {
  Goes = λ text rest. part.Goes text rest ⊎ (Lacks part text × (rest ≡ text));
  IsWrong = part.IsWrong;
  look = λ text. if_there (part.look text) text;
}

-- a part so many times, and no more
abbrev pub GoesOften : Part → ℕ → Bytes → Bytes → Type 0
GoesOften part zero text rest = Lacks part text × (rest ≡ text)
GoesOften part (suc n) text rest = (middle : Bytes) × part.Goes text middle × GoesOften part n middle rest

-- a part so many times, and then one with a wrong value
abbrev pub IsWrongBehind : Part → ℕ → Bytes → CertFault → Type 0
IsWrongBehind part zero text fault = part.IsWrong text fault
IsWrongBehind part (suc n) text fault = (middle : Bytes) × part.Goes text middle × IsWrongBehind part n middle fault

-- the same part once more
abbrev pub once_more : Looked → Bytes → (Bytes → Looked) → Looked
once_more (Ok rest) text more = more rest
once_more (Err None) text more = Ok text
once_more (Err (Some fault)) text more = Err (Some fault)

-- at most so many of them
unfoldable pub look_often : (Bytes → Looked) → ℕ → Bytes → Looked
look_often look zero text = Err None
look_often look (suc n) text = once_more (look text) text (look_often look n)

-- a part as often as it stands there
abbrev pub often : Part → Part
often part = record {
  Goes = λ text rest. (n : ℕ) × GoesOften part n text rest;
  IsWrong = λ text fault. (n : ℕ) × IsWrongBehind part n text fault;
  look = λ text. look_often part.look (suc (length text)) text;
}

-- Values.

-- what was read, by whether it is an address in lower case; it began at this place
abbrev pub judged : ℕ → Read Bytes → Looked
judged place (Ok taken) = if is_lower taken.0 then Ok taken.1.rest else Err (Some (BadAddress place))
judged place (Err stop) = Err None

-- an address and the first byte of the tag behind it, in a text of this size
abbrev pub address_part : ℕ → Part
address_part size = record {
  Goes = λ text rest. (bytes : Bytes) × IsLowerAddress bytes × (text ≡ (flat_map escape bytes ++ codes "<") ++ rest);
  IsWrong = λ text fault. (bytes : Bytes) × (rest : Bytes) × AllPrintable bytes
      × (text ≡ (flat_map escape bytes ++ codes "<") ++ rest) × (IsLowerAddress bytes → ⊥)
      × (fault ≡ BadAddress (size - length text));
  look = λ text. judged (size - length text) (content_at (codes "<") (record { rest = text; farthest = text }));
}

-- the place of a part of a date, in a text of this size, where so many bytes are left from the date's first line on
abbrev pub date_place : ℕ → ℕ → Shown → DatePart → ℕ
date_place size left shown part = size - (left - length (before_part (codes "<data zona=\"") shown part))

-- a date, by whether it is in range
abbrev pub ranged : ℕ → ℕ → Shown → Bytes → Result Instant DatePart → Looked
ranged size left shown rest (Ok stamp) = Ok rest
ranged size left shown rest (Err part) = Err (Some (BadDate (date_place size left shown part)))

-- what was read, by whether it is a date in range
abbrev pub dated_so : ℕ → ℕ → Read Shown → Looked
dated_so size left (Ok taken) = ranged size left taken.0 taken.1.rest (stamp_in taken.0)
dated_so size left (Err stop) = Err None

-- the lines of a date, in a text of this size
abbrev pub date_part : ℕ → Part
date_part size = record {
  Goes = λ text rest. (shown : Shown) × (stamp : Instant) × HasDigits shown × IsShown shown stamp × (text ≡ shown_text shown ++ rest);
  IsWrong = λ text fault. (shown : Shown) × (part : DatePart) × (rest : Bytes) × HasDigits shown × (text ≡ shown_text shown ++ rest)
      × AnswersShown shown (Err part) × (fault ≡ BadDate (date_place size (length text) shown part));
  look = λ text. dated_so size (length text) (shown_at (record { rest = text; farthest = text }));
}

-- Lines.

abbrev pub tag_part : Bytes → Part
tag_part bytes = plain (word bytes)

abbrev pub tagged : Bytes → Bytes → Grammar Bytes
tagged start_tag end_tag = record { Fits = AllPrintable; spell = λ text. start_tag ++ (flat_map escape text ++ end_tag); read = element_at start_tag end_tag }

abbrev pub tagged_part : Bytes → Bytes → Part
tagged_part start_tag end_tag = plain (tagged start_tag end_tag)

-- the first three lines
abbrev pub front : Grammar (CertKind × CertError)
front = record { Fits = λ p. Unit {0}; spell = λ p. front_text p.0 p.1; read = front_at }

abbrev pub front_part : Part
front_part = plain front

-- the tag in front of a recipient's address
unfoldable pub opening_at : Cursor → Read Bool
opening_at = led_at (codes "<destinatari tipo=\"") (ended_at (choice_at class_table) (codes "\">"))

abbrev pub opening : Grammar Bool
opening = record { Fits = λ b. Unit {0}; spell = addressee_opening; read = opening_at }

abbrev pub opening_part : Part
opening_part = plain opening

abbrev pub wish : Grammar Wish
wish = record { Fits = λ w. Unit {0}; spell = wish_text; read = wish_at }

abbrev pub wish_part : Part
wish_part = plain wish

-- an address and the rest of its line, in a text of this size
abbrev pub line_part : ℕ → Bytes → Part
line_part size end_tag = in_turn (address_part size) (tag_part end_tag)

-- the lines up to that of the sender
unfoldable pub sender_part : ℕ → Part
sender_part size = in_turn front_part (in_turn (tag_part (codes "<mittente>")) (line_part size (codes "/mittente>\r\n")))

unfoldable pub recipient_part : ℕ → Part
recipient_part size = in_turn opening_part (line_part size (codes "/destinatari>\r\n"))

-- the lines from the recipients to the date
unfoldable pub heading_part : Part
heading_part =
    in_turn (tagged_part (codes "<risposte>") (codes "</risposte>\r\n"))
    (in_turn (absent_or (tagged_part (codes "<oggetto>") (codes "</oggetto>\r\n")))
    (in_turn (tag_part (codes "</intestazione>\r\n<dati>\r\n"))
    (tagged_part (codes "<gestore-emittente>") (codes "</gestore-emittente>\r\n"))))

-- the lines from the date to the addresses behind it
unfoldable pub names_part : Part
names_part =
    in_turn (tagged_part (codes "<identificativo>") (codes "</identificativo>\r\n"))
    (in_turn (absent_or (tagged_part (codes "<msgid>") (codes "</msgid>\r\n")))
    (absent_or wish_part))

unfoldable pub delivered_part : ℕ → Part
delivered_part size = in_turn (tag_part (codes "<consegna>")) (line_part size (codes "/consegna>\r\n"))

unfoldable pub received_part : ℕ → Part
received_part size = in_turn (tag_part (codes "<ricezione>")) (line_part size (codes "/ricezione>\r\n"))

-- a text up to the last of its values
unfoldable pub values_part : ℕ → Part
values_part size =
    in_turn (sender_part size)
    (in_turn (recipient_part size)
    (in_turn (often (recipient_part size))
    (in_turn heading_part
    (in_turn (date_part size)
    (in_turn names_part
    (in_turn (absent_or (delivered_part size))
    (often (received_part size))))))))

-- a value that stands in a text is wrong, all before goes on as certification texts do, and this is its fault
abbrev pub IsWrongIn : Bytes → CertFault → Type 0
IsWrongIn text fault = (values_part (length text)).IsWrong text fault

-- the fault that a look found
abbrev pub found : Looked → Option CertFault
found (Ok rest) = None
found (Err fault) = fault

-- the same as a function
unfoldable pub wrong_in : Bytes → Option CertFault
wrong_in text = found ((values_part (length text)).look text)
