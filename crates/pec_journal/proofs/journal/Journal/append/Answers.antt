use Rattle.std.proofs.Common.{◌≡◌, ◌++◌, ◌∷◌, [], ◌∙◌, arith}
use Rattle.pec_journal.specs.JournalFile.{IsShort, framed, closed_gate}
use Rattle.pec_journal.proofs.AppendLemmas.{framed_grows}
use Rattle.pec_journal.proofs.journal.Journal.append.Goals as goal

pub returns-in-Ok-clause-any_moment : goal.returns-in-Ok-clause-any_moment
returns-in-Ok-clause-any_moment g c tells entries keeps =
    let short : IsShort c.args.bytes.now = omega arith in
    let piece : c.bytes.result.now ≡ framed c.args.bytes.now ++ closed_gate ∷ [] = c.bytes.ensures ∙ c.fill.ensures in
    rw (← c.self.view_is) (c.put_entry.ensures.any_moment tells entries c.args.bytes.now (rw (← c.self.view_is) at keeps) short piece)

pub returns-in-Err-clause-any_moment : goal.returns-in-Err-clause-any_moment
returns-in-Err-clause-any_moment g c tells entries keeps =
    let short : IsShort c.args.bytes.now = omega arith in
    let piece : c.bytes.result.now ≡ framed c.args.bytes.now ++ closed_gate ∷ [] = c.bytes.ensures ∙ c.fill.ensures in
    rw (← c.self.view_is) (c.put_entry.ensures.any_moment tells entries c.args.bytes.now (rw (← c.self.view_is) at keeps) short piece)

pub returns-in-Ok-clause-grows : goal.returns-in-Ok-clause-grows
returns-in-Ok-clause-grows g c tells within =
    let piece : c.bytes.result.now ≡ framed c.args.bytes.now ++ closed_gate ∷ [] = c.bytes.ensures ∙ c.fill.ensures in
    rw (← c.self.view_is) (framed_grows _ c.bytes.result.now c.args.bytes.now piece _ _ (c.put_entry.ensures.grows tells (rw (← c.self.view_is) at within)))

pub returns-in-Err-clause-grows : goal.returns-in-Err-clause-grows
returns-in-Err-clause-grows g c tells within =
    let piece : c.bytes.result.now ≡ framed c.args.bytes.now ++ closed_gate ∷ [] = c.bytes.ensures ∙ c.fill.ensures in
    rw (← c.self.view_is) (framed_grows _ c.bytes.result.now c.args.bytes.now piece _ _ (c.put_entry.ensures.grows tells (rw (← c.self.view_is) at within)))
