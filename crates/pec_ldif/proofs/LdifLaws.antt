-- A text has one reading, and `ldif_of_text` gives it.
use Rattle.std.proofs.Common.{◌≡◌, ◌⊎◌, inl, inr, Bool, true, false, cond, List, [], ◌∷◌, Result, Ok, Err, length, refl, sym, ◌∙◌, ap, subst}
use Rattle.std.proofs.lemmas.Bool.{false≢true}
use Rattle.std.specs.List.{slice_split}
use Rattle.pec_types.specs.Answers.{Gives, ReadsExactly, TellsExactly, seen_as, told_is_read}
use Rattle.pec_types.specs.Bytes.{Bytes}
use Rattle.pec_types.specs.Results.{◌>>=◌}
use Rattle.pec_ldif.specs.Lines.{Line, lines_of}
use Rattle.pec_ldif.specs.Records.{Entry, IsLdif, IsLdifFault, IsVersion, is_parting}
use Rattle.pec_ldif.specs.RecordsReading.{behind_first, behind_version, entries_from, is_version, ldif_of_text, skip_parting}
use Rattle.pec_ldif.specs.declared.faults.LdifFault.{LdifFault}
use Rattle.pec_ldif.specs.declared.faults.LdifFault.TheVariants.{Syntax, NoMemory}
use Rattle.pec_ldif.proofs.RecordLemmas.{HaveEntries, entries_read, entries_stop, have_entries}
use Rattle.pec_ldif.proofs.VersionLemmas.{Skips, skip_blank, skip_said, skips, version_again, version_is}

abbrev sent : List Entry → Result (List Entry) LdifFault
sent entries = Ok entries

abbrev refused : LdifFault → Result (List Entry) LdifFault
refused fault = Err fault

ok_is : (x y : List Entry) → sent x ≡ sent y → x ≡ y
ok_is x y e = cc

err_is : (x y : LdifFault) → refused x ≡ refused y → x ≡ y
err_is x y e = cc

apart : (entries : List Entry) (fault : LdifFault) → sent entries ≡ refused fault → ⊥
apart entries fault e = cc

abbrev behind : Result (List Line) LdifFault → Result (List Entry) LdifFault
behind found = found >>= λ lines. entries_from [] (slice_split is_parting lines)

abbrev lines_ok : List Line → Result (List Line) LdifFault
lines_ok lines = Ok lines

abbrev lines_err : LdifFault → Result (List Line) LdifFault
lines_err fault = Err fault

-- ---- what a text is, is told

from_version : (text : Bytes) (version : Line) (rest : List Line) → skip_parting (lines_of text) ≡ version ∷ rest → IsVersion version
    → ldif_of_text text ≡ entries_from [] (slice_split is_parting rest)
unfolding ldif_of_text behind_version
from_version text version rest first is =
    ap (λ lines. behind (behind_first (length text) lines)) first
    ∙ ap (λ t. behind (cond t (lines_ok rest) (lines_err (Syntax version.place)))) (version_again version is)

ldif_is_told : (text : Bytes) (entries : List Entry) → IsLdif text entries → ldif_of_text text ≡ Ok entries
ldif_is_told text entries is =
    from_version text is.version is.behind (skip_said (lines_of text) is.version is.behind is.first) is.is_version
    ∙ entries_read [] (slice_split is_parting is.behind) entries is.entries_are

no_version : (line : Line) (t : Bool) → is_version line ≡ t → (IsVersion line → ⊥) → t ≡ false
no_version line true e not = absurd (not (version_is line e))
no_version line false e not = refl

fault_is_told : (text : Bytes) (fault : LdifFault) → IsLdifFault text fault → ldif_of_text text ≡ Err fault
unfolding ldif_of_text behind_version
fault_is_told text fault (inl none) =
    ap (λ lines. behind (behind_first (length text) lines)) (skip_blank (lines_of text) none.0) ∙ ap refused (sym none.1)
fault_is_told text fault (inr (inl other)) =
    ap (λ lines. behind (behind_first (length text) lines)) (skip_said (lines_of text) other.0 other.1 other.2)
    ∙ (ap (λ t. behind (cond t (lines_ok other.1) (lines_err (Syntax other.0.place)))) (no_version other.0 (is_version other.0) refl other.3)
    ∙ ap refused (sym other.4))
fault_is_told text fault (inr (inr stop)) =
    from_version text stop.0 stop.1 (skip_said (lines_of text) stop.0 stop.1 stop.2) stop.3
    ∙ entries_stop [] (slice_split is_parting stop.1) fault stop.4

-- ---- each text is LDIF or has a fault

abbrev HasReading : Bytes → Type 0
HasReading text = ((entries : List Entry) × IsLdif text entries) ⊎ ((fault : LdifFault) × IsLdifFault text fault)

entries_reading : (text : Bytes) (version : Line) (rest : List Line) → Skips (lines_of text) (version ∷ rest) → IsVersion version
    → HaveEntries [] (slice_split is_parting rest) → HasReading text
entries_reading text version rest first is (inl are) =
    inl (are.0, record { version = version; behind = rest; first = first; is_version = is; entries_are = are.1 })
entries_reading text version rest first is (inr stop) = inr (stop.0, inr (inr (version, rest, first, is, stop.1)))

version_reading : (text : Bytes) (first : Line) (rest : List Line) → Skips (lines_of text) (first ∷ rest) → (t : Bool) → is_version first ≡ t
    → HasReading text
version_reading text first rest said true e = entries_reading text first rest said (version_is first e) (have_entries (slice_split is_parting rest) [])
version_reading text first rest said false e = inr (
  Syntax first.place,
  inr (inl (first, rest, said, λ is. false≢true (sym e ∙ version_again first is), refl)),
)

line_reading : (text : Bytes) (lines : List Line) → Skips (lines_of text) lines → HasReading text
line_reading text [] blank = inr (Syntax (length text), inl (blank, refl))
line_reading text (first ∷ rest) said = version_reading text first rest said (is_version first) refl

reading : (text : Bytes) → HasReading text
reading text = line_reading text (skip_parting (lines_of text)) (skips (lines_of text))

-- ---- what is told, the text is

told_ldif : (text : Bytes) (entries : List Entry) → ldif_of_text text ≡ Ok entries → HasReading text → IsLdif text entries
told_ldif text entries e (inl known) =
    subst (λ (es : List Entry). IsLdif text es) (ok_is known.0 entries (sym (ldif_is_told text known.0 known.1) ∙ e)) known.1
told_ldif text entries e (inr known) = absurd (apart entries known.0 (sym e ∙ fault_is_told text known.0 known.1))

told_fault : (text : Bytes) (fault : LdifFault) → ldif_of_text text ≡ Err fault → HasReading text → IsLdifFault text fault
told_fault text fault e (inl known) = absurd (apart known.0 fault (sym (ldif_is_told text known.0 known.1) ∙ e))
told_fault text fault e (inr known) =
    subst (λ (f : LdifFault). IsLdifFault text f) (err_is known.0 fault (sym (fault_is_told text known.0 known.1) ∙ e)) known.1

pub ldif_told : (text : Bytes) → TellsExactly (IsLdif text) (IsLdifFault text) (ldif_of_text text)
ldif_told text = record {
  value = λ entries. (λ e. told_ldif text entries e (reading text), ldif_is_told text entries);
  fault = λ fault. (λ e. told_fault text fault e (reading text), fault_is_told text fault);
}

-- what is answered as `ldif_of_text` tells is read exactly
pub ldif_reads : {X : Type 0} (seen : X → List Entry) (text : Bytes) (answer : Result X LdifFault)
    → TellsExactly (IsLdif text) (IsLdifFault text) (ldif_of_text text) → Gives NoMemory seen answer (ldif_of_text text)
    → ReadsExactly (IsLdif text) (IsLdifFault text) NoMemory (seen_as seen answer)
ldif_reads seen text (Ok entries) exactly same = told_is_read (IsLdif text) (IsLdifFault text) NoMemory (Ok (seen entries)) (ldif_of_text text) exactly same
ldif_reads seen text (Err fault) exactly same = told_is_read (IsLdif text) (IsLdifFault text) NoMemory (Err fault) (ldif_of_text text) exactly same
