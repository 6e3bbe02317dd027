-- A line is told to say what it says, or to have the fault that it has.
use Rattle.std.proofs.Common.{◌≡◌, ℕ, ◌<◌, Bool, true, false, cond, eqb, List, [], ◌∷◌, length, Option, Some, None, Result, Ok, Err, refl, sym, ◌∙◌, ap, subst, arith, inl, inr, ◌+◌, eqb-true, eq-eqb}
use Rattle.std.proofs.lemmas.Bool.{eqb-false, ne_eqb}
use Rattle.std.specs.List.{slice_split}
use Rattle.pec_directory.specs.Directory.{Provider}
use Rattle.pec_types.specs.Answers.{TellsExactly}
use Rattle.pec_types.specs.Bytes.{Bytes, space}
use Rattle.pec_words.specs.Cuts.{IsCut, is_at}
use Rattle.pec_script.specs.Forms.{Kind, provider, moment, place, address, path, base64, Said, form_of, kinds_of, made}
use Rattle.pec_script.specs.Lines.{AllSay, HasWrong, IsCommand, IsFirstWrong, IsLineFault, fault_of}
use Rattle.pec_script.specs.LinesReading.{command_in, command_of, counted, made_of, verb_of}
use Rattle.pec_script.specs.declared.commands.Command.{Command}
use Rattle.pec_script.specs.declared.faults.LineFault.{LineFault}
use Rattle.pec_script.specs.declared.faults.LineFault.TheVariants.{UnknownWord, Arity, BadNumber, BadAddress, BadBase64, UnknownProvider, NoMemory}
use Rattle.pec_script.specs.declared.verbs.Verb.{Verb}
use Rattle.pec_script.proofs.ArgumentLemmas.{WordsTold, Read, all, not_all, arguments_again, arguments_read, wrong_again}
use Rattle.pec_script.proofs.VerbLemmas.{no_verb_again, no_verb_is, verb_again, verb_is}

-- what a line is told to be
pub data Told (providers : List Provider) (line : Bytes) (answer : Result Command LineFault) : Type 0 where
  says : (command : Command) → IsCommand providers line command → answer ≡ Ok command → Told providers line answer
  fails : (fault : LineFault) → IsLineFault providers line fault → answer ≡ Err fault → Told providers line answer

-- what is wrong is wrong with an argument of some kind
wrong_kind : (providers : List Provider) (number : ℕ) (kinds : List Kind) (texts : List Bytes) (fault : LineFault) → IsFirstWrong providers number kinds texts fault
    → (kind : Kind) × (at : ℕ) × (fault ≡ fault_of kind at)
wrong_kind providers number [] texts fault wrong = absurd wrong
wrong_kind providers number (kind ∷ kinds) [] fault wrong = absurd wrong
wrong_kind providers number (kind ∷ kinds) (text ∷ texts) fault (inl here) = (kind, number, here.1)
wrong_kind providers number (kind ∷ kinds) (text ∷ texts) fault (inr later) = wrong_kind providers (number + 1) kinds texts fault later.2

told_of : (providers : List Provider) (line : Bytes) (kind : Kind) (at : ℕ) → HasWrong providers line (fault_of kind at) → IsLineFault providers line (fault_of kind at)
told_of providers line provider at has = has
told_of providers line moment at has = has
told_of providers line place at has = has
told_of providers line address at has = has
told_of providers line path at has = has
told_of providers line base64 at has = has

wrong_told : (providers : List Provider) (line : Bytes) (fault : LineFault) → HasWrong providers line fault → IsLineFault providers line fault
wrong_told providers line fault has =
    let known : (kind : Kind) × (at : ℕ) × (fault ≡ fault_of kind at) = wrong_kind providers 1 (kinds_of has.verb) has.arguments fault has.wrong in
    subst (IsLineFault providers line) (sym known.2) (told_of providers line known.0 known.1 (subst (HasWrong providers line) known.2 has))

by_arguments : (providers : List Provider) (line : Bytes) (verb : Verb) (texts : List Bytes) (answer : Result Command LineFault) → IsCut space line ((form_of verb).word ∷ texts)
    → length texts ≡ length (kinds_of verb) → Read providers (kinds_of verb) 1 texts (made verb) answer → Told providers line answer
by_arguments providers line verb texts answer cut count (all said say e) =
    says (made verb said) (record { verb = verb; arguments = texts; said = said; line_is = cut; arguments_say = say; command_is = refl }) e
by_arguments providers line verb texts answer cut count (not_all fault wrong e) =
    fails fault (wrong_told providers line fault (record { verb = verb; arguments = texts; line_is = cut; count = count; wrong = wrong })) e

by_count : WordsTold → (providers : List Provider) (line : Bytes) (verb : Verb) (texts : List Bytes) (x : Bool) → eqb (length texts) (length (kinds_of verb)) ≡ x
    → IsCut space line ((form_of verb).word ∷ texts) → Told providers line (cond x (made_of providers verb texts) (Err Arity))
by_count law providers line verb texts true same cut =
    let count : length texts ≡ length (kinds_of verb) = eqb-true (length texts) (length (kinds_of verb)) same in
    by_arguments providers line verb texts (made_of providers verb texts) cut count (arguments_read law providers (kinds_of verb) 1 texts (made verb) count)
by_count law providers line verb texts false other cut =
    fails Arity (record { verb = verb; arguments = texts; line_is = cut; other = eqb-false (length texts) (length (kinds_of verb)) other }) refl

by_verb : WordsTold → (providers : List Provider) (line word : Bytes) (texts : List Bytes) (o : Option Verb) → verb_of word ≡ o → IsCut space line (word ∷ texts)
    → Told providers line (counted providers texts o)
by_verb law providers line word texts None e cut =
    fails UnknownWord (record { word = word; arguments = texts; line_is = cut; none = no_verb_is word e }) refl
by_verb law providers line word texts (Some verb) e cut =
    by_count law providers line verb texts (eqb (length texts) (length (kinds_of verb))) refl
    (subst (λ w. IsCut space line (w ∷ texts)) (verb_is word verb e) cut)

by_words : WordsTold → (providers : List Provider) (line : Bytes) (words : List Bytes) → IsCut space line words → Told providers line (command_in providers words)
by_words law providers line [] cut = let some : 0 < length {A = Bytes} [] = cut.some in absurd (omega arith)
by_words law providers line (word ∷ texts) cut = by_verb law providers line word texts (verb_of word) refl cut

told : WordsTold → (providers : List Provider) (line : Bytes) → Told providers line (command_of providers line)
unfolding command_of
told law providers line = by_words law providers line (slice_split (is_at space) line) ((law.cuts space line (slice_split (is_at space) line)).1 refl)

-- ---- and back

words_are : WordsTold → (providers : List Provider) (line : Bytes) (verb : Verb) (texts : List Bytes) → IsCut space line ((form_of verb).word ∷ texts)
    → command_of providers line ≡ cond (eqb (length texts) (length (kinds_of verb))) (made_of providers verb texts) (Err Arity)
unfolding command_of
words_are law providers line verb texts cut =
    ap (command_in providers) ((law.cuts space line ((form_of verb).word ∷ texts)).0 cut) ∙ ap (counted providers texts) (verb_again verb)

counted_words : WordsTold → (providers : List Provider) (line : Bytes) (verb : Verb) (texts : List Bytes) → IsCut space line ((form_of verb).word ∷ texts)
    → length texts ≡ length (kinds_of verb) → command_of providers line ≡ made_of providers verb texts
counted_words law providers line verb texts cut count =
    words_are law providers line verb texts cut ∙ ap (λ x. cond x (made_of providers verb texts) (Err Arity)) (eq-eqb (length texts) (length (kinds_of verb)) count)

say_count : (providers : List Provider) (kinds : List Kind) (texts : List Bytes) (said : Said kinds) → AllSay providers kinds texts said → length texts ≡ length kinds
say_count providers [] [] said say = refl
say_count providers [] (text ∷ texts) said say = absurd say
say_count providers (kind ∷ kinds) [] said say = absurd say
say_count providers (kind ∷ kinds) (text ∷ texts) said say = let rest : length texts ≡ length kinds = say_count providers kinds texts said.1 say.1 in omega arith

command_again : WordsTold → (providers : List Provider) (line : Bytes) (command : Command) → IsCommand providers line command → command_of providers line ≡ Ok command
command_again law providers line command is =
    counted_words law providers line is.verb is.arguments is.line_is (say_count providers (kinds_of is.verb) is.arguments is.said is.arguments_say)
    ∙ (arguments_again law providers (kinds_of is.verb) 1 is.arguments (made is.verb) is.said is.arguments_say ∙ ap (λ c. Ok c) (sym is.command_is))

wrong_line : WordsTold → (providers : List Provider) (line : Bytes) (fault : LineFault) → HasWrong providers line fault → command_of providers line ≡ Err fault
wrong_line law providers line fault has =
    counted_words law providers line has.verb has.arguments has.line_is has.count
    ∙ wrong_again law providers (kinds_of has.verb) 1 has.arguments (made has.verb) fault has.wrong

fault_again : WordsTold → (providers : List Provider) (line : Bytes) (fault : LineFault) → IsLineFault providers line fault → command_of providers line ≡ Err fault
unfolding command_of
fault_again law providers line UnknownWord is =
    ap (command_in providers) ((law.cuts space line (is.word ∷ is.arguments)).0 is.line_is) ∙ ap (counted providers is.arguments) (no_verb_again is.word is.none)
fault_again law providers line Arity is =
    words_are law providers line is.verb is.arguments is.line_is
    ∙ ap (λ x. cond x (made_of providers is.verb is.arguments) (Err Arity)) (ne_eqb (length is.arguments) (length (kinds_of is.verb)) is.other)
fault_again law providers line (BadNumber number) is = wrong_line law providers line (BadNumber number) is
fault_again law providers line (BadAddress number) is = wrong_line law providers line (BadAddress number) is
fault_again law providers line (BadBase64 number) is = wrong_line law providers line (BadBase64 number) is
fault_again law providers line (UnknownProvider number) is = wrong_line law providers line (UnknownProvider number) is
fault_again law providers line NoMemory is = absurd is

says_told : (providers : List Provider) (line : Bytes) (answer : Result Command LineFault) (command : Command) → Told providers line answer → answer ≡ Ok command → IsCommand providers line command
says_told providers line answer command (says other is e) same = let one : other ≡ command = cc in subst (IsCommand providers line) one is
says_told providers line answer command (fails fault is e) same = absurd cc

fails_told : (providers : List Provider) (line : Bytes) (answer : Result Command LineFault) (fault : LineFault) → Told providers line answer → answer ≡ Err fault → IsLineFault providers line fault
fails_told providers line answer fault (says other is e) same = absurd cc
fails_told providers line answer fault (fails other is e) same = let one : other ≡ fault = cc in subst (IsLineFault providers line) one is

pub line_tells : WordsTold → (providers : List Provider) (line : Bytes) → TellsExactly (IsCommand providers line) (IsLineFault providers line) (command_of providers line)
line_tells law providers line = record {
  value = λ command. (says_told providers line (command_of providers line) command (told law providers line), command_again law providers line command);
  fault = λ fault. (fails_told providers line (command_of providers line) fault (told law providers line), fault_again law providers line fault);
}
