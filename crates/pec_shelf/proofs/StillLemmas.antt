-- What is owed is owed of the messages and the decisions of which something may still come.
use Rattle.std.proofs.Common.{◌≡◌, ℕ, ◌==◌, Bool, true, false, cond, not, ◌&&◌, ◌||◌, List, [], ◌∷◌, ◌++◌, length, map, refl, sym, ap, subst, ◌∙◌, arith, Option, Some, None, is_none, is_some, slice_get}
use Rattle.std.specs.List.{filter, find, flat_map, list_all, list_any, range_with_len}
use Rattle.std.specs.Option.{option_or}
use Rattle.std.proofs.lemmas.Bool.{cases_Bool, false≢true}
use Rattle.std.proofs.lemmas.Bool.Decides.{nat_tests}
use Rattle.std.proofs.lemmas.List.Folds.{find-append}
use Rattle.pec_types.specs.Message.{Id}
use Rattle.pec_types.specs.declared.letters.Letter.{Letter}
use Rattle.pec_types.specs.declared.letters.Letter.TheVariants as letters
use Rattle.pec_ledger.specs.Due.{is_unheard, outcome_on, outcomes_to}
use Rattle.pec_ledger.specs.Half.{Charge, Fate, Half, Known}
use Rattle.pec_ledger.specs.Lookups.{charged_of, is_acked, known_of}
use Rattle.pec_ledger.specs.Pairs.{Pair, id_of, pair_of, same_id, same_pair}
use Rattle.pec_shelf.specs.Lines.{awaits_at, envelope_at, envelope_rows, is_at, is_heard}
use Rattle.pec_shelf.specs.Sides.{Kept}
use Rattle.pec_shelf.specs.Still.{IsAnswered, IsHeard, envelope_in, envelope_of, is_answered, outcome_in, outcome_of}
use Rattle.pec_shelf.specs.Waiting.{AllElseDone}
use Rattle.pec_shelf.specs.declared.certified.Certified.{Certified}
use Rattle.pec_shelf.proofs.WaitingLemmas.{all_that_comes, more_rows, still_done}
use mathlib.Core.Logic.{⊎_elim}

pub still_some : {X : Type 0} (a b : Option X) → is_some a ≡ true → is_some (option_or a b) ≡ true
still_some None b e = absurd (false≢true e)
still_some (Some x) b e = refl

-- ---- outcomes

pub heard_more : (decided more new : List Fate) (acked pairs later : List Pair) (places all : List ℕ) (first : ℕ) → AllElseDone (IsHeard acked) 0 decided places
    → new ≡ decided ++ more → later ≡ acked ++ pairs → all ≡ places ++ range_with_len first (length more) → first ≡ length decided
    → AllElseDone (IsHeard later) 0 new all
heard_more decided more new acked pairs later places all first done n l a f =
    let stays : AllElseDone (IsHeard (acked ++ pairs)) 0 (decided ++ more) (places ++ range_with_len first (length more)) =
    still_done (IsHeard acked) (IsHeard (acked ++ pairs)) 0 (decided ++ more) (places ++ range_with_len first (length more))
    (λ k fate e. ap is_some (find-append (same_pair fate.pair) acked pairs) ∙ still_some (find (same_pair fate.pair) acked) (find (same_pair fate.pair) pairs) e)
    (more_rows (IsHeard acked) 0 first decided more places done (omega arith)) in
    subst (λ (ps : List Pair). AllElseDone (IsHeard ps) 0 new all) (sym l)
    (subst (λ (rows : List Fate). AllElseDone (IsHeard (acked ++ pairs)) 0 rows all) (sym n)
    (subst (λ (ks : List ℕ). AllElseDone (IsHeard (acked ++ pairs)) 0 (decided ++ more) ks) (sym a) stays))

no_outcome : (half : Half) (to : ℕ) (fate : Fate) → is_acked half fate.pair ≡ true → is_unheard half to fate ≡ false
no_outcome half to fate heard = rw heard (by (fate.pair.id.provider == to))
  where
    by : (b : Bool) → b && false ≡ false
    by true = refl
    by false = refl

outcomes_begin : (half : Half) (to : ℕ) (fate : Fate) (fates : List Fate)
    → map outcome_on (filter (is_unheard half to) (fate ∷ fates)) ≡ outcome_of half to (Some fate) ++ map outcome_on (filter (is_unheard half to) fates)
outcomes_begin half to fate fates = by (is_unheard half to fate)
  where
    by : (b : Bool) → map outcome_on (cond b (fate ∷ filter (is_unheard half to) fates) (filter (is_unheard half to) fates))
        ≡ cond b (outcome_on fate ∷ []) [] ++ map outcome_on (filter (is_unheard half to) fates)
    by true = refl
    by false = refl

pub all_outcomes : (half : Half) (to : ℕ) (decided : List Fate) (places : List ℕ) → AllElseDone (IsHeard half.acked) 0 decided places
    → map outcome_on (filter (is_unheard half to) decided) ≡ flat_map (outcome_in half to decided) places
all_outcomes half to decided places all =
    all_that_comes (IsHeard half.acked) (λ k fate. outcome_of half to (Some fate))
    (λ k fate heard. ap (λ (b : Bool). cond b (outcome_on fate ∷ []) []) (no_outcome half to fate heard))
    (λ k fates. map outcome_on (filter (is_unheard half to) fates)) (λ k. refl) (λ k fate fates. outcomes_begin half to fate fates)
    (outcome_in half to decided) 0 decided places all
    (λ m k fate e got. let same : m ≡ k = omega arith in ap (outcome_of half to) (ap (slice_get decided) same ∙ got))

-- ---- envelopes

pub or_grows : (a b c d : Bool) → (a ≡ true → c ≡ true) → (b ≡ true → d ≡ true) → a || b ≡ true → c || d ≡ true
or_grows true b c d f g e = ap (λ x. x || d) (f refl)
or_grows false b c d f g e = rw (g e) (by c)
  where
    by : (x : Bool) → x || true ≡ true
    by true = refl
    by false = refl

abbrev charge_in : List Charge → Id → Certified → Option Charge
charge_in charged id certified = find (λ (charge : Charge). same_id id charge.id && (certified.home == charge.by)) charged

abbrev known_in : List Known → Id → Certified → Option Known
known_in known id certified = find (λ (row : Known). same_pair (pair_of id certified.address) row.pair) known

answered_still : (charged charges : List Charge) (known outcomes : List Known) (id : Id) (certified : Certified)
    → is_answered charged known id certified ≡ true → is_answered (charged ++ charges) (known ++ outcomes) id certified ≡ true
answered_still charged charges known outcomes id certified e =
    or_grows (is_some (charge_in charged id certified)) (is_some (known_in known id certified)) (is_some (charge_in (charged ++ charges) id certified))
    (is_some (known_in (known ++ outcomes) id certified))
    (λ c. ap is_some (find-append (λ (charge : Charge). same_id id charge.id && (certified.home == charge.by)) charged charges)
    ∙ still_some (charge_in charged id certified) (charge_in charges id certified) c)
    (λ k. ap is_some (find-append (λ (row : Known). same_pair (pair_of id certified.address) row.pair) known outcomes)
    ∙ still_some (known_in known id certified) (known_in outcomes id certified) k)
    e

pub and_true : (a b : Bool) → a && b ≡ true → (a ≡ true) × (b ≡ true)
and_true true b e = (refl, e)
and_true false b e = absurd (false≢true e)

all_still : (charged charges : List Charge) (known outcomes : List Known) (id : Id) (certified : List Certified)
    → list_all (is_answered charged known id) certified ≡ true → list_all (is_answered (charged ++ charges) (known ++ outcomes) id) certified ≡ true
all_still charged charges known outcomes id [] e = refl
all_still charged charges known outcomes id (c ∷ cs) e =
    let parts = and_true (is_answered charged known id c) (list_all (is_answered charged known id) cs) e in
    ap (λ (b : Bool). b && list_all (is_answered (charged ++ charges) (known ++ outcomes) id) cs) (answered_still charged charges known outcomes id c parts.0)
    ∙ all_still charged charges known outcomes id cs parts.1

pub answered_more : (me : ℕ) (messages more new : List Kept) (charged charges charged_later : List Charge) (known outcomes known_later : List Known) (places all : List ℕ) (first : ℕ)
    → AllElseDone (IsAnswered me charged known) 0 messages places → new ≡ messages ++ more → charged_later ≡ charged ++ charges → known_later ≡ known ++ outcomes
    → all ≡ places ++ range_with_len first (length more) → first ≡ length messages
    → AllElseDone (IsAnswered me charged_later known_later) 0 new all
answered_more me messages more new charged charges charged_later known outcomes known_later places all first done n c o a f =
    let stays : AllElseDone (IsAnswered me (charged ++ charges) (known ++ outcomes)) 0 (messages ++ more) (places ++ range_with_len first (length more)) =
    still_done (IsAnswered me charged known) (IsAnswered me (charged ++ charges) (known ++ outcomes)) 0 (messages ++ more) (places ++ range_with_len first (length more))
    (λ k kept e. all_still charged charges known outcomes (id_of me k) kept.certified e)
    (more_rows (IsAnswered me charged known) 0 first messages more places done (omega arith)) in
    subst (λ (cs : List Charge). AllElseDone (IsAnswered me cs known_later) 0 new all) (sym c)
    (subst (λ (ks : List Known). AllElseDone (IsAnswered me (charged ++ charges) ks) 0 new all) (sym o)
    (subst (λ (rows : List Kept). AllElseDone (IsAnswered me (charged ++ charges) (known ++ outcomes)) 0 rows all) (sym n)
    (subst (λ (ks : List ℕ). AllElseDone (IsAnswered me (charged ++ charges) (known ++ outcomes)) 0 (messages ++ more) ks) (sym a) stays)))

some_not_none : {X : Type 0} (o : Option X) → is_some o ≡ true → is_none o ≡ true → ⊥
some_not_none None s n = false≢true s
some_not_none (Some x) s n = false≢true n

or_true : (a b : Bool) → b ≡ true → a || b ≡ true
or_true true b e = refl
or_true false b e = e

-- where nobody took charge there, an outcome is known
one_heard : (half : Half) (id : Id) (to : ℕ) (certified : List Certified) → list_all (is_answered half.charged half.known id) certified ≡ true
    → is_none (charged_of half id to) ≡ true → list_any (is_at to) certified ≡ true → list_any (is_heard half id to) certified ≡ true
one_heard half id to [] all none there = there
one_heard half id to (c ∷ cs) all none there =
    let parts = and_true (is_answered half.charged half.known id c) (list_all (is_answered half.charged half.known id) cs) all in
    ⊎_elim
    (λ here. ap (λ b. b || list_any (is_heard half id to) cs) (known_here c here parts.0))
    (λ other. or_true (is_heard half id to c) (list_any (is_heard half id to) cs) (one_heard half id to cs parts.1 none (ap (λ b. b || list_any (is_at to) cs) (sym other) ∙ there)))
    (cases_Bool (is_at to c))
  where
    home_is : (a b : ℕ) → (a == b) ≡ true → b ≡ a
    home_is a b e = grind (arith, nat_tests)

    second : (a b : Bool) → a || b ≡ true → (a ≡ true → ⊥) → b ≡ true
    second true b e never = absurd (never refl)
    second false b e never = e

    known_here : (r : Certified) → is_at to r ≡ true → is_answered half.charged half.known id r ≡ true → is_heard half id to r ≡ true
    known_here r here answered =
        let known : is_some (known_of half (pair_of id r.address)) ≡ true =
        second (is_some (charged_of half id r.home)) (is_some (known_of half (pair_of id r.address))) answered
        (λ charged. some_not_none (charged_of half id to) (subst (λ (h : ℕ). is_some (charged_of half id h) ≡ true) (home_is to r.home here) charged) none) in
        ap (λ b. b && is_some (known_of half (pair_of id r.address))) here ∙ known

no_envelope : (half : Half) (id : Id) (to : ℕ) (certified : List Certified) → list_all (is_answered half.charged half.known id) certified ≡ true
    → awaits_at half to id certified ≡ false
no_envelope half id to certified all =
    ⊎_elim
    (λ there. ⊎_elim
    (λ none. ap (λ b. list_any (is_at to) certified && (is_none (charged_of half id to) && not b)) (one_heard half id to certified all none there) ∙ end (list_any (is_at to) certified) (is_none (charged_of half id to)))
    (λ some. ap (λ b. list_any (is_at to) certified && (b && not (list_any (is_heard half id to) certified))) some ∙ off (list_any (is_at to) certified))
    (cases_Bool (is_none (charged_of half id to))))
    (λ elsewhere. ap (λ b. b && (is_none (charged_of half id to) && not (list_any (is_heard half id to) certified))) elsewhere)
    (cases_Bool (list_any (is_at to) certified))
  where
    off : (a : Bool) → a && false ≡ false
    off true = refl
    off false = refl

    end : (a b : Bool) → a && (b && false) ≡ false
    end true true = refl
    end true false = refl
    end false b = refl

pub all_envelopes : (me : ℕ) (half : Half) (to : ℕ) (messages : List Kept) (places : List ℕ) → AllElseDone (IsAnswered me half.charged half.known) 0 messages places
    → envelope_rows me half to 0 messages ≡ flat_map (envelope_in me half to messages) places
all_envelopes me half to messages places all =
    all_that_comes (IsAnswered me half.charged half.known) (λ k kept. envelope_at half to (id_of me k) kept)
    (λ k kept answered. ap (λ (b : Bool). cond b (letters.Envelope (id_of me k) to ∷ []) []) (no_envelope half (id_of me k) to kept.certified answered))
    (λ k rows. envelope_rows me half to k rows) (λ k. refl) (λ k kept rows. refl)
    (envelope_in me half to messages) 0 messages places all
    (λ m k kept e got. let same : m ≡ k = omega arith in ap (envelope_of me half to m) (ap (slice_get messages) same ∙ got))

-- ---- both

pub owed_is : (half : Half) (me to : ℕ) (messages : List Kept) (decided fates : List Fate) (acked : List Pair) (charged : List Charge) (known : List Known) (places numbers : List ℕ)
    (none some all : List Letter) → decided ≡ half.decided → acked ≡ half.acked → charged ≡ half.charged → known ≡ half.known → fates ≡ decided
    → AllElseDone (IsHeard acked) 0 decided places → AllElseDone (IsAnswered me charged known) 0 messages numbers
    → none ≡ [] → some ≡ none ++ flat_map (outcome_in half to fates) places → all ≡ some ++ flat_map (envelope_in me half to messages) numbers
    → all ≡ outcomes_to half to ++ envelope_rows me half to 0 messages
owed_is half me to messages decided fates acked charged known places numbers none some all d a c k f heard answered n s l =
    let outcomes : flat_map (outcome_in half to fates) places ≡ outcomes_to half to =
    ap (λ (rows : List Fate). flat_map (outcome_in half to rows) places) f
    ∙ sym (all_outcomes half to decided places (subst (λ (ps : List Pair). AllElseDone (IsHeard ps) 0 decided places) a heard))
    ∙ ap (λ (rows : List Fate). map outcome_on (filter (is_unheard half to) rows)) d in
    let charges : AllElseDone (IsAnswered me half.charged known) 0 messages numbers = subst (λ (cs : List Charge). AllElseDone (IsAnswered me cs known) 0 messages numbers) c answered in
    let envelopes : flat_map (envelope_in me half to messages) numbers ≡ envelope_rows me half to 0 messages =
    sym (all_envelopes me half to messages numbers (subst (λ (ks : List Known). AllElseDone (IsAnswered me half.charged ks) 0 messages numbers) k charges)) in
    l ∙ ap (λ (ls : List Letter). ls ++ flat_map (envelope_in me half to messages) numbers) (s ∙ ap (λ (ls : List Letter). ls ++ flat_map (outcome_in half to fates) places) n ∙ outcomes)
    ∙ ap (λ (ls : List Letter). outcomes_to half to ++ ls) envelopes
