-- The input is read to its end, or is too long.
use Rattle.std.proofs.Common.{◌∙◌, refl, subst, sym}
use Rattle.pec_input.specs.Whole.{IsWhole}
use Rattle.pec_input.specs.declared.opening.TheConstants.{LONGEST_DIRECTORY}
use Rattle.pec_input.specs.declared.whole.Whole.{Whole}
use Rattle.pec_runs.specs.Endings as ends
use Rattle.pec_top.proofs.HostingLemmas.{long_text, stage_long}
use Rattle.pec_top.proofs.InputLemmas.{whole_of}
use Rattle.pec_top.proofs.SaidLemmas.{long_directory_text}
use Rattle.pec_top.proofs.input.Input.whole.Goals as goal

pub returns-in_ok-text-in-TooLong-clause-read : goal.returns-in_ok-text-in-TooLong-clause-read
returns-in_ok-text-in-TooLong-clause-read g c =
    let unread = g.S.Stream.left c.args.source.now in
    let whole = subst (λ (whole : Whole). IsWhole whole unread (g.S.Stream.left c.read_whole.new.source)) c.in-TooLong.is
    c.in_ok-read_whole.ensures.whole in
    let long = long_text LONGEST_DIRECTORY unread whole in
    record {
      end = ends.LongDirectory;
      bytes = long.0;
      input = long.1;
      stage = stage_long long.0 long.2;
      text_is = λ providers. c.in_ok-text-in-TooLong.ensures ∙ sym (long_directory_text providers);
      shown = refl;
    }

pub returns-in_ok-input-in-All-clause-read : goal.returns-in_ok-input-in-All-clause-read
returns-in_ok-input-in-All-clause-read g c =
    let unread = g.S.Stream.left c.args.source.now in
    let rest = g.S.Stream.left c.read_whole.new.source in
    let whole = subst (λ (whole : Whole). IsWhole whole unread rest) c.in-All.is c.in_ok-read_whole.ensures.whole in
    whole_of unread rest c.in-All.bytes.items whole.0 whole.1 whole.2 c.in_ok-input-in-All.input
    (rw c.deref.ensures.value at c.in_ok-input-in-All.ensures.read)
