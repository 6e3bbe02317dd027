use Rattle.std.proofs.Common.{◌≤◌, List, ℕ, length, refl, subst, ap, ◌∙◌}
use Rattle.pec_records.specs.Entry.{entry_text}
use Rattle.pec_chronicle.specs.Carrying.{NothingMay}
use Rattle.pec_chronicle.specs.Fields.{disk_in, spare_in}
use Rattle.pec_chronicle.proofs.StepLemmas.{carries_still}
use Rattle.pec_chronicle.proofs.chronicle.Chronicle.reserve.Goals as goal

pub returns-in_err-reserve-clause-carries : goal.returns-in_err-reserve-clause-carries
returns-in_err-reserve-clause-carries g c tells =
    rw (← c.self.view_is) (carries_still g.D.Disk.sight NothingMay _ _ _ _ _ _ _ refl refl refl c.reserve.ensures.disk c.reserve.ensures.end
    (c.a_disk_is_so.ensures.now tells (disk_in c.self.inside.drive)))

pub returns-clause-carries : goal.returns-clause-carries
returns-clause-carries g c tells =
    rw (← c.self.view_is) (carries_still g.D.Disk.sight NothingMay _ _ _ _ _ _ _ refl refl refl c.reserve.ensures.disk c.reserve.ensures.end
    (c.a_disk_is_so.ensures.now tells (disk_in c.self.inside.drive)))

pub returns-clause-room : goal.returns-clause-room
returns-clause-room g c = record {
  short = c.an_entry_within_the_limits_is_short.ensures c.args.entry.now (entry_text c.args.entry.now) (c.in_ok-encoded.ensures.can, refl) c.requires;
  spare = λ up. subst (λ (s : List ℕ). length s ≤ spare_in c.reserve.new.self)
      (c.bytes.ensures.text ∙ ap entry_text c.in_ok-encoded.ensures.same)
      (c.in_ok-reserve.ensures.room (c.self.invariant.ready up));
}
