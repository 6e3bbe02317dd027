use Rattle.std.proofs.Common.{[], ◌∷◌}
use Rattle.pec_service.proofs.CallLemmas.{behind_append, call_append, calls_append, calls_since, commands_append, counts_since, sites_since, text_append, text_since}
use Rattle.pec_service.proofs.joining.calls_are_joined.Goals as goal

pub returns : goal.returns
returns g c = record {
  one = λ trade here calls call are is. call_append trade _ here calls call are is;
  all = λ trade here calls more are then. calls_append trade _ here calls more are then;
  since = λ trade here there calls same later are. calls_since here there same later trade _ calls are;
  same = sites_since;
  later = counts_since;
  same_text = text_since;
  behind = behind_append;
  commands = λ calls call. commands_append calls (call ∷ []);
  text = λ trade providers here calls call. text_append trade providers here calls call;
}
