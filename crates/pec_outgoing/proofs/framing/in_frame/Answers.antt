-- A frame can't be made along a path of no addresses or of too many.
use Rattle.std.proofs.Common.{◌<◌, ◌≤◌, length, sym, subst, ◌∙◌}
use Rattle.std.proofs.lemmas.Bool.{false≢true}
use Rattle.pec_types.specs.Bytes.{Path}
use Rattle.pec_frames.specs.declared.TheConstants.{MOST_ADDRESSES}
use Rattle.pec_outgoing.proofs.FramingLemmas.{not_framed}
use Rattle.pec_outgoing.proofs.framing.in_frame.Goals as goal

pub returns-then-not-is_path : goal.returns-then-not-is_path
returns-then-not-is_path g c =
    not_framed c.a_trade_says_what_its_parts_say.ensures.frames c.args.desk.now.house.now.directory.now (g.S.Sealer.seals
    c.args.desk.now.house.now.sealer.now)
    c.args.letter.now.path c.args.letter.now.message
    (λ has. false≢true (sym c.if-not-is_path.true
    ∙ c.is_path.ensures.1 (subst (λ (p : Path). (0 < length p) × (length p ≤ MOST_ADDRESSES)) (sym c.path.ensures)
    (has.some, has.few))))
