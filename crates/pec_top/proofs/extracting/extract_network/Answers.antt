-- What a status tells of the text is what `write_log` answers of it.
use Rattle.std.proofs.Common.{◌∙◌, ap, length, List, Some, sym, subst}
use Rattle.pec_extract.specs.Logs.{AllRead, HasRisenIn}
use Rattle.pec_serving.specs.OfNetworks.{AllAt, ProviderState}
use Rattle.pec_top.specs.Extracting.{header_text}
use Rattle.pec_top.specs.Shown.{status_shown}
use Rattle.pec_top.proofs.ExtractingLemmas.{lent_again, log_changed, log_done, log_failed, log_headed, log_unwritten, text_told}
use Rattle.pec_top.proofs.extracting.extract_network.Goals as goal

pub returns-clause-told : goal.returns-clause-told
returns-clause-told g c = λ told stand.
    let parts = c.into_parts-directory.ensures in
    text_told c.write_log-written.result (status_shown c.log_status.result) c.log_status.ensures.shown g.P.D.Disk.sight
    g.S.Sealer.seals c.args.from c.args.upto (g.W.Stream.held c.args.out.now)
    (g.W.Stream.held c.write_log-written.new.out) c.args.network.kept c.into_parts-directory.result.0
    c.args.network.sealer c.into_parts-directory.result.1 c.args.network.providers c.as_mut_slice.result.now
    parts.directory parts.sealer (c.as_mut_slice.ensures.value ∙ parts.providers) (c.write_log-written.ensures.ok told)
    (c.write_log-written.ensures.err told) stand

pub returns-clause-headed : goal.returns-clause-headed
returns-clause-headed g c =
    rw c.log_status.ensures.shown (log_headed c.write_log-written.result (g.W.Stream.held c.args.out.now)
    (g.W.Stream.held c.write_log-written.new.out) header_text c.write_log-written.ensures.header)

pub returns-clause-changed : goal.returns-clause-changed
returns-clause-changed g c = λ told stand is.
    let parts = c.into_parts-directory.ensures in
    let same = c.as_mut_slice.ensures.value ∙ parts.providers in
    let changed = rw (parts.directory, parts.sealer, same) at c.write_log-written.ensures.changed in
    log_changed c.write_log-written.result _ (changed told stand) (sym c.log_status.ensures.shown ∙ is)

pub returns-clause-unchanged : goal.returns-clause-unchanged
returns-clause-unchanged g c = λ told stand is.
    let parts = c.into_parts-directory.ensures in
    let same = c.as_mut_slice.ensures.value ∙ parts.providers in
    let tells = rw (parts.directory, parts.sealer, same) at c.write_log-written.ensures.tells in
    log_done c.write_log-written.result _ (tells told stand) (sym c.log_status.ensures.shown ∙ is)

pub returns-clause-read : goal.returns-clause-read
returns-clause-read g c =
    let parts = c.into_parts-directory.ensures in
    let list = c.into_parts-directory.result.2 in
    let same = c.as_mut_slice.ensures.value ∙ parts.providers in
    let now = c.write_log-written.new.providers in
    let faults = g.P.D.Counted.faults in
    let again = lent_again list c.as_mut_slice.result.now now c.as_mut_slice.ensures.value c.write_log-written.ensures.count in
    record {
      now = now;
      many = c.write_log-written.ensures.count ∙ ap (λ (l : List (ProviderState g.row.P-D.Denot)). length l) same;
      each = subst (λ (old : List (ProviderState g.row.P-D.Denot)). AllRead g.P.D.Disk.tells g.P.D.Disk.sight faults old now)
          same c.write_log-written.ensures.read;
      failed = λ is. subst (λ (old : List (ProviderState g.row.P-D.Denot)). HasRisenIn faults old now) same
          (c.write_log-written.ensures.disk_fault
          (log_failed c.write_log-written.result (sym c.log_status.ensures.shown ∙ is)));
      kept = λ told. subst (λ (l : List (ProviderState g.row.P-D.Denot)). AllAt
          (λ (p : ProviderState g.row.P-D.Denot). Some p.chronicle.disk)
          (g.P.Depot.home c.args.depot.now) (g.P.Depot.home c.keep_all.new.depot) l) again (c.keep_all.ensures.kept told);
      counts = subst (λ (l : List (ProviderState g.row.P-D.Denot)). AllAt
          (λ (p : ProviderState g.row.P-D.Denot). faults p.chronicle.disk)
          (g.P.Depot.last c.args.depot.now) (g.P.Depot.last c.keep_all.new.depot) l) again c.keep_all.ensures.last;
    }

pub returns-clause-write_fault : goal.returns-clause-write_fault
returns-clause-write_fault g c = λ is.
    c.write_log-written.ensures.write_fault
    (log_unwritten c.write_log-written.result (sym c.log_status.ensures.shown ∙ is))
