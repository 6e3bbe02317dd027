-- Each line of a load's script says its command, and so do all of them.
use Rattle.std.proofs.Common.{◌≡◌, ℕ, zero, suc, ◌+◌, ◌*◌, ◌^◌, ◌<◌, ◌≤◌, Bool, true, false, cond, eqb, List, [], ◌∷◌, ◌++◌, codes, length, Some, refl, sym, ◌∙◌, ap, subst, arith, append_assoc, ◌↔◌}
use Rattle.std.proofs.lemmas.Fmt.{length-decimal-le}
use Rattle.std.proofs.lemmas.List.{length-append}
use Rattle.std.specs.Fmt.{decimal}
use Rattle.std.specs.List.{AllByRecursion, flat_map, join_with_byte, range_with_len}
use Rattle.base64.specs.Engines.{standard}
use Rattle.base64.specs.GeneralPurpose.{encode_of}
use Rattle.pec_types.specs.Address.{IsAddressFault, IsReadAs}
use Rattle.pec_types.specs.AddressReading.{address_of}
use Rattle.pec_types.specs.Answers.{TellsExactly}
use Rattle.pec_types.specs.Bytes.{Bytes, Path, carriage_return, line_feed, space}
use Rattle.pec_directory.specs.Directory.{named}
use Rattle.pec_input.specs.Lines.{HasNoEnd, raw_lines}
use Rattle.pec_script.specs.Lines.{IsCommand}
use Rattle.pec_script.specs.Texts.{Row, line_of, text_of}
use Rattle.pec_script.specs.declared.commands.Command.{Command}
use Rattle.pec_script.specs.declared.commands.Command.TheVariants as written
use Rattle.pec_script.specs.declared.verbs.Verb.TheVariants as verbs
use Rattle.pec_words.specs.Cuts.{IsCut, Lacks}
use Rattle.pec_words.specs.Paths.{IsPath, path_of}
use Rattle.pec_load.specs.Accounts.{load_providers}
use Rattle.pec_load.specs.Generated.{commands_at, commands_of, end_commands, end_moment, end_rows, ends_batch, generated, message_of, moment_of, recipient_of, round_row, rows_at, rows_of, sender_of, submission, submit_row, tick_row}
use Rattle.pec_load.specs.Heard.{AreHeard, IsHeard}
use Rattle.pec_load.proofs.AccountLemmas.{message_back, message_short, plain_recipient, plain_sender, recipient_reads, recipient_short, sender_reads, sender_short}
use Rattle.pec_load.proofs.LineLemmas.{content_is}
use Rattle.pec_load.proofs.PlainLemmas.{IsPlain, base64_short, lacks_append, plain_base64, plain_decimal, plain_text}
use Rattle.pec_load.proofs.RangeLemmas.{over_few}

-- what laws of lower crates say
pub record Told : Type 0 where
  pub lines : (said more : Bytes) → HasNoEnd said → raw_lines (said ++ line_feed ∷ more) ≡ (said ++ line_feed ∷ []) ∷ raw_lines more
  pub address : (text : Bytes) → TellsExactly (IsReadAs text) (IsAddressFault text) (address_of text)
  pub path : (text : Bytes) (path : Path) → (path_of text ≡ Some path) ↔ IsPath text path

-- a line by its words: what it says, and that its end is found
record Says (row : Row) (command : Command) : Type 0 where
  pub plain : AllByRecursion IsPlain row
  pub says : IsCommand load_providers (join_with_byte space row) command
  pub short : length (join_with_byte space row) ≤ 1000

-- ---- joined words

feedless : (row : Row) → AllByRecursion IsPlain row → Lacks line_feed (join_with_byte space row)
feedless [] all = tt
feedless (word ∷ []) all = all.0.feedless
feedless (word ∷ next ∷ words) all =
    lacks_append line_feed word (space ∷ join_with_byte space (next ∷ words)) all.0.feedless
    ((λ e. let h : ⊥ = omega arith in h), feedless (next ∷ words) all.1)

returnless : (row : Row) → AllByRecursion IsPlain row → Lacks carriage_return (join_with_byte space row)
returnless [] all = tt
returnless (word ∷ []) all = all.0.returnless
returnless (word ∷ next ∷ words) all =
    lacks_append carriage_return word (space ∷ join_with_byte space (next ∷ words)) all.0.returnless
    ((λ e. let h : ⊥ = omega arith in h), returnless (next ∷ words) all.1)

spaceless : (row : Row) → AllByRecursion IsPlain row → AllByRecursion (Lacks space) row
spaceless [] all = tt
spaceless (word ∷ words) all = (all.0.spaceless, spaceless words all.1)

cut_again : (word : Bytes) (words : Row) → AllByRecursion IsPlain (word ∷ words)
    → IsCut space (join_with_byte space (word ∷ words)) (word ∷ words)
cut_again word words all = record { some = omega arith; joined = refl; whole = spaceless (word ∷ words) all }

-- so many words, none longer than this
joined_short : (most : ℕ) (row : Row) → AllByRecursion (λ word. length word ≤ most) row
    → length (join_with_byte space row) ≤ (most + 1) * length row
joined_short most [] all = omega arith
joined_short most (word ∷ []) all = let short : length word ≤ most = all.0 in omega arith
joined_short most (word ∷ next ∷ words) all =
    let short : length word ≤ most = all.0 in
    let rest : length (join_with_byte space (next ∷ words)) ≤ (most + 1) * length (next ∷ words) =
    joined_short most (next ∷ words) all.1 in
    omega (arith, length-append word (space ∷ join_with_byte space (next ∷ words)))

-- ---- one line

decimal_fits : (n : ℕ) → n < 10 ^ 10 → length (decimal n) ≤ 150
decimal_fits n h = let short : length (decimal n) ≤ 10 = length-decimal-le 10 n (omega arith) h (omega arith) in omega arith

named_alfa : named load_providers (codes "alfa") ≡ Some 0
unfolding named
named_alfa = refl

submit_says : Told → (number : ℕ) → number < 20000 → Says (submit_row number) (submission number)
submit_says told number few = record {
  plain = plain;
  says = record {
    verb = verbs.Submit;
    arguments = codes "alfa" ∷ decimal (moment_of number) ∷ sender_of number ∷ recipient_of number ∷ encode_of standard (message_of number) ∷ [];
    said = (0, (moment_of number, (sender_of number, (recipient_of number ∷ [], (message_of number, tt)))));
    line_is = cut_again (codes "submit") (codes "alfa" ∷ decimal (moment_of number) ∷ sender_of number ∷ recipient_of number ∷ encode_of standard (message_of number) ∷ []) plain;
    arguments_say = (
      named_alfa,
      (
        (refl, omega arith),
        (
          ((told.address (sender_of number)).value (sender_of number)).0 (sender_reads number),
          ((told.path (recipient_of number) (recipient_of number ∷ [])).0 (recipient_reads number), (message_back number (omega arith), tt)),
        ),
      ),
    );
    command_is = refl;
  };
  short = short;
}
  where
    plain : AllByRecursion IsPlain (submit_row number)
    plain = (
      plain_text (codes "submit") refl,
      (
        plain_text (codes "alfa") refl,
        (
          plain_decimal (moment_of number) (omega arith),
          (plain_sender number, (plain_recipient number, (plain_base64 (message_of number), tt))),
        ),
      ),
    )

    long : length (encode_of standard (message_of number)) ≤ 152
    long = omega (arith, base64_short (message_of number), message_short number (omega arith))

    short : length (join_with_byte space (submit_row number)) ≤ 1000
    short =
        let all = joined_short 152 (submit_row number)
        (omega arith, (omega arith, (omega (arith, decimal_fits (moment_of number) (omega arith)), (omega (arith, sender_short number), (omega (arith, recipient_short number), (long, tt)))))) in
        omega (arith, all)

tick_says : (moment : ℕ) → moment < 4000000000 → Says (tick_row moment) (written.Tick 0 moment)
tick_says moment few = record {
  plain = plain;
  says = record {
    verb = verbs.Tick;
    arguments = codes "alfa" ∷ decimal moment ∷ [];
    said = (0, (moment, tt));
    line_is = cut_again (codes "tick") (codes "alfa" ∷ decimal moment ∷ []) plain;
    arguments_say = (named_alfa, ((refl, omega arith), tt));
    command_is = refl;
  };
  short = short;
}
  where
    plain : AllByRecursion IsPlain (tick_row moment)
    plain = (plain_text (codes "tick") refl, (plain_text (codes "alfa") refl, (plain_decimal moment (omega arith), tt)))

    short : length (join_with_byte space (tick_row moment)) ≤ 1000
    short =
        let all = joined_short 150 (tick_row moment) (omega arith, (omega arith, (decimal_fits moment (omega arith), tt))) in
        omega (arith, all)

round_says : (moment : ℕ) → moment < 4000000000 → Says (round_row moment) (written.Round moment)
round_says moment few = record {
  plain = plain;
  says = record {
    verb = verbs.Round;
    arguments = decimal moment ∷ [];
    said = (moment, tt);
    line_is = cut_again (codes "round") (decimal moment ∷ []) plain;
    arguments_say = ((refl, omega arith), tt);
    command_is = refl;
  };
  short = short;
}
  where
    plain : AllByRecursion IsPlain (round_row moment)
    plain = (plain_text (codes "round") refl, (plain_decimal moment (omega arith), tt))

    short : length (join_with_byte space (round_row moment)) ≤ 1000
    short =
        let all = joined_short 150 (round_row moment) (omega arith, (decimal_fits moment (omega arith), tt)) in
        omega (arith, all)

-- ---- all lines

abbrev AllSay : List Row → List Command → Type 0
AllSay [] [] = Unit {0}
AllSay [] (command ∷ commands) = ⊥
AllSay (row ∷ rows) [] = ⊥
AllSay (row ∷ rows) (command ∷ commands) = Says row command × AllSay rows commands

say_both : (rows more : List Row) (commands further : List Command) → AllSay rows commands → AllSay more further
    → AllSay (rows ++ more) (commands ++ further)
say_both [] more [] further h k = k
say_both [] more (command ∷ commands) further h k = absurd h
say_both (row ∷ rows) more [] further h k = absurd h
say_both (row ∷ rows) more (command ∷ commands) further h k = (h.0, say_both rows more commands further h.1 k)

end_says : (moment : ℕ) → moment < 4000000000 → AllSay (end_rows moment) (end_commands moment)
end_says moment few =
    (tick_says moment few, (round_says moment few, (round_says moment few, (round_says moment few, (round_says moment few, tt)))))

wait_short : (x : Bool) (number : ℕ) → number < 20000 → moment_of number + cond x 79200 0 < 4000000000
wait_short true number few = omega arith
wait_short false number few = omega arith

end_if : (x : Bool) (moment : ℕ) → moment < 4000000000 → AllSay (cond x (end_rows moment) []) (cond x (end_commands moment) [])
end_if true moment few = end_says moment few
end_if false moment few = tt

part_says : Told → (count number : ℕ) → number < 20000 → AllSay (rows_at count number) (commands_at count number)
part_says told count number few =
    (submit_says told number few, end_if (ends_batch count number) (end_moment count number) (wait_short (eqb (number + 1) count) number few))

parts_say : Told → (count a n : ℕ) → a + n ≤ 20000
    → AllSay (flat_map (rows_at count) (range_with_len a n)) (flat_map (commands_at count) (range_with_len a n))
parts_say told count a zero few = tt
parts_say told count a (suc n) few =
    say_both (rows_at count a) (flat_map (rows_at count) (range_with_len (a + 1) n))
    (commands_at count a) (flat_map (commands_at count) (range_with_len (a + 1) n))
    (part_says told count a (omega arith)) (parts_say told count (a + 1) n (omega arith))

line_found : Told → (row : Row) (rows : List Row) → AllByRecursion IsPlain row
    → raw_lines (text_of (row ∷ rows)) ≡ line_of row ∷ raw_lines (text_of rows)
unfolding line_of
line_found told row rows plain =
    ap raw_lines (append_assoc (join_with_byte space row) (line_feed ∷ []) (text_of rows))
    ∙ told.lines (join_with_byte space row) (text_of rows) (feedless row plain)

line_heard : (row : Row) (command : Command) → Says row command → IsHeard (line_of row) command
unfolding line_of
line_heard row command is =
    let content = content_is (join_with_byte space row) (returnless row is.plain) in
    record {
      says = subst (λ line. IsCommand load_providers line command) (sym content) is.says;
      short = subst (λ line. length line ≤ 1000) (sym content) is.short;
    }

all_heard : Told → (rows : List Row) (commands : List Command) → AllSay rows commands → AreHeard (raw_lines (text_of rows)) commands
all_heard told [] [] h = tt
all_heard told [] (command ∷ commands) h = absurd h
all_heard told (row ∷ rows) [] h = absurd h
all_heard told (row ∷ rows) (command ∷ commands) h =
    subst (λ lines. AreHeard lines (command ∷ commands)) (sym (line_found told row rows h.0.plain))
    (line_heard row command h.0, all_heard told rows commands h.1)

pub load_heard : Told → (count : ℕ) → count ≤ 20000 → AreHeard (raw_lines (generated count)) (commands_of count)
unfolding generated
load_heard told count few = all_heard told (rows_of count) (commands_of count) (parts_say told count 0 count (omega arith))

-- ---- how many

part_few : (count number : ℕ) (x : Bool) (moment : ℕ) → length (submission number ∷ cond x (end_commands moment) []) ≤ 6
part_few count number true moment = omega arith
part_few count number false moment = omega arith

pub load_few : (count : ℕ) → length (commands_of count) ≤ 6 * count
load_few count =
    over_few (commands_at count) 6 (λ number. part_few count number (ends_batch count number) (end_moment count number)) 0 count
