use Rattle.std.proofs.Common.{◌≡◌, ◌++◌}
use Rattle.std.specs.List.{flat_map}
use Rattle.std.proofs.lemmas.List.{take_rest}
use Rattle.pec_cert.specs.Markup.{escape}
use Rattle.pec_cert.proofs.PutLemmas.{put_more, put_same}
use Rattle.pec_cert.proofs.Runs.{run, behind_run, run_spelled}
use Rattle.pec_cert.proofs.writing.put_text.Goals as goal

pub returns : goal.returns
returns c =
    let text = c.args.text.now in
    let first : c.extend_from_slice.new.self.items ≡ c.args.out.now.items ++ run text = rw (← c.plain_front-front.ensures.value) c.in_ok-extend_from_slice.ensures.items in
    let last : c.put_escaped.new.out.items ≡ c.extend_from_slice.new.self.items ++ flat_map escape (behind_run text) =
    rw (take_rest text c.plain_front-front.result, c.plain_front-front.ensures.value) at c.in_ok-put_escaped.ensures in
    put_same c.args.out.now.items c.put_escaped.new.out.items _ _ (put_more c.args.out.now.items _ _ (run text) (flat_map escape (behind_run text)) first last) (run_spelled text)
