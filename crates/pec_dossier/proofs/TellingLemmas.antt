-- What is told of messages one after another, and what is kept of it.
use Rattle.std.proofs.Common.{◌≡◌, ℕ, ◌+◌, List, [], ◌∷◌, ◌++◌, length, map, refl, ap, sym, ◌∙◌, arith, append_assoc, Ok, Err}
use Rattle.std.specs.Result.{result_ok}
use Rattle.std.proofs.lemmas.Grind.{flat_map-append}
use Rattle.std.proofs.lemmas.List.{append-nil, length-append, length-map, map-append}
use Rattle.std.proofs.lemmas.List.Elements.{filter_map-append}
use Rattle.pec_types.specs.Bytes.{Bytes}
use Rattle.pec_directory.specs.Directory.{Provider}
use Rattle.pec_check.specs.Findings.{findings_of}
use Rattle.pec_check.specs.declared.checking.CheckFault.{CheckFault}
use Rattle.pec_check.specs.declared.dossiers.Finding.{Finding}
use Rattle.pec_check.specs.declared.reports.Report.{Report}
use Rattle.pec_script.specs.Pages.{only, text_after, text_for}
use Rattle.pec_script.specs.Texts.{Row, line_of, text_of}
use Rattle.pec_dossier.specs.Checks.{all_told, told_of, told_text}
use Rattle.pec_dossier.specs.Tallies.{fault_in, faults_in, reports_in, tally_of}
use Rattle.pec_dossier.specs.Texts.{Told, message_rows, rows_from}
use Rattle.pec_dossier.specs.declared.tallies.Tally.{Tally}

-- ---- lines

rows_more : (providers : List Provider) (number : ℕ) (told : List Told) (one : Told)
    → rows_from providers number (told ++ one ∷ [])
    ≡ rows_from providers number told ++ message_rows providers (number + length told) one
rows_more providers number [] one =
    append-nil (message_rows providers number one)
    ∙ ap (λ (k : ℕ). message_rows providers k one) (omega arith)
rows_more providers number (first ∷ told) one =
    let place : number + 1 + length told ≡ number + length (first ∷ told) = omega arith
    in ap (λ (rows : List Row). message_rows providers number first ++ rows) (rows_more providers (number + 1) told one)
    ∙ (ap (λ (k : ℕ). message_rows providers number first
    ++ (rows_from providers (number + 1) told ++ message_rows providers k one)) place
    ∙ sym (append_assoc (message_rows providers number first) (rows_from providers (number + 1) told)
    (message_rows providers (number + length (first ∷ told)) one)))

pub text_both : (rows more : List Row) → text_of (rows ++ more) ≡ text_of rows ++ text_of more
text_both rows more = flat_map-append line_of rows more

-- the lines of one more message
pub told_more : (providers : List Provider) (done : List Bytes) (message : Bytes)
    → told_text providers (done ++ message ∷ [])
    ≡ told_text providers done ++ text_of (message_rows providers (length done) (told_of providers message))
unfolding told_text
told_more providers done message =
    let told = all_told providers done
    in let one = told_of providers message
    in let size : 0 + length told ≡ length done = let e = length-map done (told_of providers) in omega (arith, e)
    in ap (λ (all : List Told). text_of (rows_from providers 0 all)) (map-append (told_of providers) done (message ∷ []))
    ∙ (ap text_of (rows_more providers 0 told one)
    ∙ (text_both (rows_from providers 0 told) (message_rows providers (0 + length told) one)
    ∙ ap (λ (k : ℕ). text_of (rows_from providers 0 told) ++ text_of (message_rows providers k one)) size))

pub told_none : (providers : List Provider) → told_text providers [] ≡ []
unfolding told_text
told_none providers = refl

-- ---- what is kept

-- each is counted once
pub counted : (told : List Told) → length (reports_in told) + length (faults_in told) ≡ length told
counted [] = refl
counted (Ok report ∷ told) = let e = counted told in omega (arith, e)
counted (Err fault ∷ told) = let e = counted told in omega (arith, e)

pub tally_counts : (told : List Told) (tally : Tally) → tally ≡ tally_of told
    → tally.genuine + tally.refused ≡ length told
unfolding tally_of
tally_counts told tally is =
    let g : tally.genuine ≡ length (reports_in told) = ap (λ (t : Tally). t.genuine) is
    in let r : tally.refused ≡ length (faults_in told) = ap (λ (t : Tally). t.refused) is
    in let e = counted told in omega (arith, g, r, e)

pub tally_findings : (told : List Told) (tally : Tally) → tally ≡ tally_of told
    → tally.findings ≡ findings_of (reports_in told)
unfolding tally_of
tally_findings told tally is = ap (λ (t : Tally). t.findings) is

pub counted_in : (providers : List Provider) (messages : List Bytes)
    → (tally_of (all_told providers messages)).genuine + (tally_of (all_told providers messages)).refused
    ≡ length messages
counted_in providers messages =
    tally_counts (all_told providers messages) (tally_of (all_told providers messages)) refl
    ∙ length-map messages (told_of providers)

tallies : (f h : List Finding) (g i r k : ℕ) → f ≡ h → g ≡ i → r ≡ k
    → (let a : Tally = record { findings = f; genuine = g; refused = r }
    in let b : Tally = record { findings = h; genuine = i; refused = k } in a ≡ b)
tallies f h g i r k d e j = rw (d, e, j) refl

-- the tally of one more genuine letter
pub one_genuine : (told : List Told) (report : Report) (tally : Tally) (findings : List Finding) → tally ≡ tally_of told
    → findings ≡ findings_of (reports_in told ++ report ∷ [])
    → (let now : Tally = record { findings = findings; genuine = tally.genuine + 1; refused = tally.refused }
    in now ≡ tally_of (told ++ Ok report ∷ []))
unfolding tally_of
one_genuine told report tally findings is found =
    let given : Told = Ok report
    in let reports : reports_in (told ++ given ∷ []) ≡ reports_in told ++ report ∷ [] =
    filter_map-append result_ok told (given ∷ [])
    in let faults : faults_in (told ++ given ∷ []) ≡ faults_in told =
    filter_map-append fault_in told (given ∷ []) ∙ append-nil (faults_in told)
    in let g : tally.genuine ≡ length (reports_in told) = ap (λ (t : Tally). t.genuine) is
    in let r : tally.refused ≡ length (faults_in told) = ap (λ (t : Tally). t.refused) is
    in let more : length (reports_in told ++ report ∷ []) ≡ length (reports_in told) + 1 =
    omega (arith, length-append (reports_in told) (report ∷ []))
    in let count : length (reports_in (told ++ given ∷ [])) ≡ length (reports_in told ++ report ∷ []) =
    ap (λ (l : List Report). length l) reports
    in let same : length (faults_in (told ++ given ∷ [])) ≡ length (faults_in told) =
    ap (λ (l : List CheckFault). length l) faults
    in tallies findings (findings_of (reports_in (told ++ given ∷ []))) (tally.genuine + 1)
    (length (reports_in (told ++ given ∷ []))) tally.refused (length (faults_in (told ++ given ∷ [])))
    (found ∙ ap findings_of (sym reports)) (omega (arith, g, more, count)) (omega (arith, r, same))

-- the tally of one more message that is none
pub one_refused : (told : List Told) (fault : CheckFault) (tally : Tally) → tally ≡ tally_of told
    → (let now : Tally = record { findings = tally.findings; genuine = tally.genuine; refused = tally.refused + 1 }
    in now ≡ tally_of (told ++ Err fault ∷ []))
unfolding tally_of
one_refused told fault tally is =
    let given : Told = Err fault
    in let reports : reports_in (told ++ given ∷ []) ≡ reports_in told =
    filter_map-append result_ok told (given ∷ []) ∙ append-nil (reports_in told)
    in let faults : faults_in (told ++ given ∷ []) ≡ faults_in told ++ fault ∷ [] =
    filter_map-append fault_in told (given ∷ [])
    in let f : tally.findings ≡ findings_of (reports_in told) = ap (λ (t : Tally). t.findings) is
    in let g : tally.genuine ≡ length (reports_in told) = ap (λ (t : Tally). t.genuine) is
    in let r : tally.refused ≡ length (faults_in told) = ap (λ (t : Tally). t.refused) is
    in let more : length (faults_in told ++ fault ∷ []) ≡ length (faults_in told) + 1 =
    omega (arith, length-append (faults_in told) (fault ∷ []))
    in let count : length (faults_in (told ++ given ∷ [])) ≡ length (faults_in told ++ fault ∷ []) =
    ap (λ (l : List CheckFault). length l) faults
    in let same : length (reports_in (told ++ given ∷ [])) ≡ length (reports_in told) =
    ap (λ (l : List Report). length l) reports
    in tallies tally.findings (findings_of (reports_in (told ++ given ∷ []))) tally.genuine
    (length (reports_in (told ++ given ∷ []))) (tally.refused + 1) (length (faults_in (told ++ given ∷ [])))
    (f ∙ ap findings_of (sym reports)) (omega (arith, g, same)) (omega (arith, r, more, count))

-- ---- pages

-- what is put behind a text
abbrev pub PutsLines : Type 0
PutsLines = (text : Bytes) (rows : List Row) → text_after text rows ≡ text ++ text_of rows

-- the lines of a list, one for each, are put behind a text
pub put_each : {X : Type 0} → PutsLines → (words : X → Row) (text : Bytes) (xs : List X)
    → text_for (λ (x : X). only (words x)) text xs ≡ text ++ text_of (map words xs)
put_each puts words text [] = sym (append-nil text)
put_each puts words text (x ∷ xs) =
    put_each puts words (text_after text (words x ∷ [])) xs
    ∙ (ap (λ (t : Bytes). t ++ text_of (map words xs)) (puts text (words x ∷ []))
    ∙ (append_assoc text (text_of (words x ∷ [])) (text_of (map words xs))
    ∙ ap (λ (t : Bytes). text ++ t) (sym (text_both (words x ∷ []) (map words xs)))))
