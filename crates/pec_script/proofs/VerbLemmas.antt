-- A word is found as a verb exactly where it is the verb's.
use Rattle.std.proofs.Common.{◌≡◌, ◌≢◌, Bool, true, false, cond, List, [], ◌∷◌, Option, Some, None, refl, sym, ◌∙◌, ap}
use Rattle.std.proofs.lemmas.Option.{none-some, same_Some}
use Rattle.std.proofs.lemmas.Slice.Eq.{bytes_eq-Decides}
use Rattle.std.specs.Str.{bytes_eq}
use Rattle.std.specs.Prelude.{find}
use Rattle.pec_types.specs.Bytes.{Bytes}
use Rattle.pec_script.specs.Forms.{form_of, verbs}
use Rattle.pec_script.specs.LinesReading.{verb_of, word_of}
use Rattle.pec_script.specs.declared.verbs.Verb.{Verb}
use Rattle.pec_script.specs.declared.verbs.Verb.TheVariants.{Submit, Tick, Round, Lose, Repeat, Swap, Inject, Crash, Restart, Book, Mailbox, Show, Archive, Upgrade, Vault, VaultShow, Screen}

found_in : (word : Bytes) (next : Verb) (rest : List Verb) (verb : Verb) (x : Bool) → bytes_eq word (word_of next) ≡ x
    → (find (λ v. bytes_eq word (word_of v)) rest ≡ Some verb → word ≡ word_of verb)
    → cond x (Some next) (find (λ v. bytes_eq word (word_of v)) rest) ≡ Some verb → word ≡ word_of verb
found_in word next rest verb true test ih e =
    (bytes_eq-Decides word (word_of next)).0 test ∙ ap (λ v. (word_of v)) (same_Some next verb e)
found_in word next rest verb false test ih e = ih e

found_is : (word : Bytes) (rest : List Verb) (verb : Verb) → find (λ v. bytes_eq word (word_of v)) rest ≡ Some verb → word ≡ word_of verb
found_is word [] verb e = absurd (none-some verb e)
found_is word (next ∷ rest) verb e = found_in word next rest verb (bytes_eq word (word_of next)) refl (found_is word rest verb) e

pub verb_is : (word : Bytes) (verb : Verb) → verb_of word ≡ Some verb → word ≡ (form_of verb).word
unfolding verb_of word_of
verb_is word verb e = found_is word verbs verb e

-- the words of two verbs differ
pub verb_again : (verb : Verb) → verb_of (form_of verb).word ≡ Some verb
unfolding verb_of word_of
verb_again Submit = refl
verb_again Tick = refl
verb_again Round = refl
verb_again Lose = refl
verb_again Repeat = refl
verb_again Swap = refl
verb_again Inject = refl
verb_again Crash = refl
verb_again Restart = refl
verb_again Book = refl
verb_again Mailbox = refl
verb_again Show = refl
verb_again Archive = refl
verb_again Upgrade = refl
verb_again Vault = refl
verb_again VaultShow = refl
verb_again Screen = refl

pub no_verb_is : (word : Bytes) → verb_of word ≡ None → (verb : Verb) → word ≢ (form_of verb).word
no_verb_is word none verb e = none-some verb (sym none ∙ (ap verb_of e ∙ verb_again verb))

found_none : (word : Bytes) (found : Option Verb) → verb_of word ≡ found → ((verb : Verb) → word ≢ (form_of verb).word) → found ≡ None
found_none word None e none = refl
found_none word (Some verb) e none = absurd (none verb (verb_is word verb e))

pub no_verb_again : (word : Bytes) → ((verb : Verb) → word ≢ (form_of verb).word) → verb_of word ≡ None
no_verb_again word none = found_none word (verb_of word) refl none
