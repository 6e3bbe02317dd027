-- What the text of an argument is read as is what it says; and of all arguments the first that says nothing is refused.
use Rattle.std.proofs.Common.{◌≡◌, ℕ, ◌+◌, ◌≤◌, ◌^◌, ◌⊎◌, ◌↔◌, List, [], ◌∷◌, length, Option, Some, None, Result, Ok, Err, refl, sym, ◌∙◌, ap, subst, arith, inl, inr}
use Rattle.std.proofs.lemmas.Option.{none-some}
use Rattle.base64.specs.Engines.{standard}
use Rattle.base64.specs.GeneralPurpose.{decode_of}
use Rattle.pec_directory.specs.Directory.{Provider}
use Rattle.pec_types.specs.Address.{IsAddressFault, IsReadAs}
use Rattle.pec_types.specs.AddressReading.{address_of}
use Rattle.pec_types.specs.Answers.{TellsExactly}
use Rattle.pec_types.specs.Bytes.{Bytes, Path}
use Rattle.pec_types.specs.Results.{◌>>=◌}
use Rattle.pec_types.specs.declared.moments.TheConstants.{END_OF_TIME}
use Rattle.pec_script.specs.Forms.{Kind, provider, moment, place, address, path, base64, Meaning, Said}
use Rattle.pec_script.specs.Lines.{AllSay, IsFirstWrong, Says, SaysNothing, fault_of}
use Rattle.pec_script.specs.LinesReading.{address_in, arguments_of, meaning_of, message_of, moment_of, next_of, or_fault, place_of}
use Rattle.pec_words.specs.Numbers.{IsNumber, number_below}
use Rattle.pec_words.specs.Paths.{IsPath, path_of}
use Rattle.pec_script.specs.declared.commands.Command.{Command}
use Rattle.pec_script.specs.declared.faults.LineFault.{LineFault}
use Rattle.pec_script.proofs.RowLemmas.{CutsTold}
use Rattle.std.specs.Result.{result_ok}

-- ---- one argument

-- what laws of addresses, numbers, paths and cuts say
pub record WordsTold : Type 0 where
  pub addresses : (text : Bytes) → TellsExactly (IsReadAs text) (IsAddressFault text) (address_of text)
  pub numbers : (bound : ℕ) (text : Bytes) (number : ℕ) → bound ≤ 2 ^ 64 → (number_below bound text ≡ Some number) ↔ IsNumber bound text number
  pub paths : (text : Bytes) (path : Path) → (path_of text ≡ Some path) ↔ IsPath text path
  pub cuts : CutsTold

ok_told : {T E : Type 0} (r : Result T E) (x : T) → result_ok r ≡ Some x → r ≡ Ok x
ok_told (Ok y) x e = cc
ok_told (Err f) x e = absurd cc

pub says : WordsTold → (providers : List Provider) (kind : Kind) (text : Bytes) (meaning : Meaning kind)
    → meaning_of providers kind text ≡ Some meaning → Says providers kind text meaning
unfolding moment_of place_of message_of address_in
says law providers provider text meaning e = e
says law providers moment text meaning e = (law.numbers END_OF_TIME text meaning (omega arith)).0 e
says law providers place text meaning e = (law.numbers (2 ^ 32) text meaning (omega arith)).0 e
says law providers address text meaning e = ((law.addresses text).value meaning).0 (ok_told (address_of text) meaning e)
says law providers path text meaning e = (law.paths text meaning).0 e
says law providers base64 text meaning e = ok_told (decode_of standard text) meaning e

pub says_again : WordsTold → (providers : List Provider) (kind : Kind) (text : Bytes) (meaning : Meaning kind)
    → Says providers kind text meaning → meaning_of providers kind text ≡ Some meaning
unfolding moment_of place_of message_of address_in
says_again law providers provider text meaning is = is
says_again law providers moment text meaning is = (law.numbers END_OF_TIME text meaning (omega arith)).1 is
says_again law providers place text meaning is = (law.numbers (2 ^ 32) text meaning (omega arith)).1 is
says_again law providers address text meaning is = ap result_ok (((law.addresses text).value meaning).1 is)
says_again law providers path text meaning is = (law.paths text meaning).1 is
says_again law providers base64 text meaning is = ap result_ok is

-- what is read is none where the text says nothing
none_where : {A : Type 0} (o : Option A) → ((x : A) → o ≡ Some x → ⊥) → o ≡ None
none_where None never = refl
none_where (Some x) never = absurd (never x refl)

-- ---- one after another

-- how arguments are read: all of them say something, or the first that doesn't has this fault
pub data Read (providers : List Provider) (kinds : List Kind) (number : ℕ) (texts : List Bytes) (makes : Said kinds → Command) (answer : Result Command LineFault) : Type 0 where
  all : (said : Said kinds) → AllSay providers kinds texts said → answer ≡ Ok (makes said) → Read providers kinds number texts makes answer
  not_all : (fault : LineFault) → IsFirstWrong providers number kinds texts fault → answer ≡ Err fault → Read providers kinds number texts makes answer

behind_right : (providers : List Provider) (kind : Kind) (kinds : List Kind) (number : ℕ) (text : Bytes) (texts : List Bytes) (makes : Said (kind ∷ kinds) → Command)
    (meaning : Meaning kind) (answer : Result Command LineFault) → Says providers kind text meaning
    → Read providers kinds (number + 1) texts (λ said. makes (meaning, said)) answer → Read providers (kind ∷ kinds) number (text ∷ texts) makes answer
behind_right providers kind kinds number text texts makes meaning answer is (all said say e) = all (meaning, said) (is, say) e
behind_right providers kind kinds number text texts makes meaning answer is (not_all fault wrong e) = not_all fault (inr (meaning, is, wrong)) e

next_read : WordsTold → (providers : List Provider) (kind : Kind) (kinds : List Kind) (number : ℕ) (text : Bytes) (texts : List Bytes) (makes : Said (kind ∷ kinds) → Command)
    (o : Option (Meaning kind)) → meaning_of providers kind text ≡ o
    → ((meaning : Meaning kind) → Read providers kinds (number + 1) texts (λ said. makes (meaning, said)) (arguments_of providers kinds (number + 1) texts (λ said. makes (meaning, said))))
    → Read providers (kind ∷ kinds) number (text ∷ texts) makes
    (or_fault (fault_of kind number) o >>= λ meaning. arguments_of providers kinds (number + 1) texts (λ said. makes (meaning, said)))
unfolding or_fault
next_read law providers kind kinds number text texts makes None e rest =
    not_all (fault_of kind number) (inl ((λ meaning is. none-some meaning (sym e ∙ says_again law providers kind text meaning is)), refl)) refl
next_read law providers kind kinds number text texts makes (Some meaning) e rest =
    behind_right providers kind kinds number text texts makes meaning _ (says law providers kind text meaning e) (rest meaning)

-- the next text is read as what it says
next_is : (providers : List Provider) (kind : Kind) (kinds : List Kind) (number : ℕ) (text : Bytes) (texts : List Bytes) (makes : Said (kind ∷ kinds) → Command)
    → arguments_of providers (kind ∷ kinds) number (text ∷ texts) makes
    ≡ (or_fault (fault_of kind number) (meaning_of providers kind text) >>= λ meaning. arguments_of providers kinds (number + 1) texts (λ said. makes (meaning, said)))
unfolding next_of
next_is providers kind kinds number text texts makes = refl

pub arguments_read : WordsTold → (providers : List Provider) (kinds : List Kind) (number : ℕ) (texts : List Bytes) (makes : Said kinds → Command)
    → length texts ≡ length kinds → Read providers kinds number texts makes (arguments_of providers kinds number texts makes)
arguments_read law providers [] number [] makes same = all tt tt refl
arguments_read law providers [] number (text ∷ texts) makes same = absurd (omega arith)
arguments_read law providers (kind ∷ kinds) number [] makes same = absurd (omega arith)
arguments_read law providers (kind ∷ kinds) number (text ∷ texts) makes same =
    subst (Read providers (kind ∷ kinds) number (text ∷ texts) makes)
    (sym (next_is providers kind kinds number text texts makes))
    (next_read law providers kind kinds number text texts makes (meaning_of providers kind text) refl
    (λ meaning. arguments_read law providers kinds (number + 1) texts (λ said. makes (meaning, said)) (omega arith)))

-- ---- and back

pub arguments_again : WordsTold → (providers : List Provider) (kinds : List Kind) (number : ℕ) (texts : List Bytes) (makes : Said kinds → Command)
    (said : Said kinds) → AllSay providers kinds texts said → arguments_of providers kinds number texts makes ≡ Ok (makes said)
unfolding or_fault
arguments_again law providers [] number [] makes said say = refl
arguments_again law providers [] number (text ∷ texts) makes said say = absurd say
arguments_again law providers (kind ∷ kinds) number [] makes said say = absurd say
arguments_again law providers (kind ∷ kinds) number (text ∷ texts) makes said say =
    next_is providers kind kinds number text texts makes
    ∙ (ap (λ o. or_fault (fault_of kind number) o >>= λ meaning. arguments_of providers kinds (number + 1) texts (λ more. makes (meaning, more))) (says_again law providers kind text said.0 say.0)
    ∙ arguments_again law providers kinds (number + 1) texts (λ more. makes (said.0, more)) said.1 say.1)

pub wrong_again : WordsTold → (providers : List Provider) (kinds : List Kind) (number : ℕ) (texts : List Bytes) (makes : Said kinds → Command)
    (fault : LineFault) → IsFirstWrong providers number kinds texts fault → arguments_of providers kinds number texts makes ≡ Err fault
unfolding or_fault
wrong_again law providers [] number texts makes fault wrong = absurd wrong
wrong_again law providers (kind ∷ kinds) number [] makes fault wrong = absurd wrong
wrong_again law providers (kind ∷ kinds) number (text ∷ texts) makes fault wrong =
    next_is providers kind kinds number text texts makes
    ∙ by_place (λ meaning h. wrong_again law providers kinds (number + 1) texts (λ more. makes (meaning, more)) fault h) wrong
  where
    by_place : ((meaning : Meaning kind) → IsFirstWrong providers (number + 1) kinds texts fault → arguments_of providers kinds (number + 1) texts (λ more. makes (meaning, more)) ≡ Err fault)
        → (SaysNothing providers kind text × (fault ≡ fault_of kind number)) ⊎ ((meaning : Meaning kind) × Says providers kind text meaning × IsFirstWrong providers (number + 1) kinds texts fault)
        → (or_fault (fault_of kind number) (meaning_of providers kind text) >>= λ meaning. arguments_of providers kinds (number + 1) texts (λ more. makes (meaning, more))) ≡ Err fault
    by_place ih (inl here) =
        ap (λ o. or_fault (fault_of kind number) o >>= λ meaning. arguments_of providers kinds (number + 1) texts (λ more. makes (meaning, more)))
        (none_where (meaning_of providers kind text) (λ meaning e. here.0 meaning (says law providers kind text meaning e)))
        ∙ ap (λ f. Err f) (sym here.1)
    by_place ih (inr later) =
        ap (λ o. or_fault (fault_of kind number) o >>= λ meaning. arguments_of providers kinds (number + 1) texts (λ more. makes (meaning, more)))
        (says_again law providers kind text later.0 later.1)
        ∙ ih later.0 later.2
