use Rattle.std.proofs.Common.{◌≡◌, drop}
use Rattle.pec_directory.specs.Directory.{providers_of}
use Rattle.pec_types.specs.declared.turns.Event.{Event}
use Rattle.pec_script.specs.Pages.{only, text_for}
use Rattle.pec_script.specs.Texts.{event_row}
use Rattle.pec_script.proofs.turns.add_events.Given as goal

abbrev pub invariant-loop-event : goal.invariant-loop-event
invariant-loop-event l =
    text_for (λ (event : Event). only (event_row (providers_of l.directory) l.name event)) l.page.text.items (drop l.event-index l.events)
    ≡ text_for (λ (event : Event). only (event_row (providers_of l.directory) l.name event)) l.fn.page.text.items l.events
