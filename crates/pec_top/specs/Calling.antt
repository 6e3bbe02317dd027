-- Calls of the program, as its contract has them, in the words of pec_runs and pec_service: `run_of`, `load_of`,
-- `service_of`. This project's profile.
use Rattle.std.specs.Prelude.{ℕ, List, [], Some}
use Rattle.pec_types.specs.Bytes.{Bytes}
use Rattle.pec_load.specs.Heard.{load_input}
use Rattle.pec_load_runs.specs.Loading.{counts_with, load_asked}
use Rattle.pec_runs.specs.Passing.{OneRun}
use Rattle.pec_runs.specs.Statuses.{Status}
use Rattle.pec_screen.specs.Verdicts.{Patterns}
use Rattle.pec_service.specs.Calling.{OneService}
use Rattle.pec_top.specs.Tasks.{View}

-- A call: its words, the patterns of its screens and spares, its status, and what it had before it and behind it.
pub record Call (D : Type 0) : Type 0 where
  pub words : List Bytes
  pub screens : List (List Patterns)
  pub spares : List Patterns
  pub status : Status
  pub old : View D
  pub new : View D

-- as a run that plays a script
abbrev pub run_of : {D : Type 0} → Call D → OneRun D
run_of call = record {
  asked = record { words = call.words; screens = call.screens; spares = call.spares };
  status = call.status;
  unread = call.old.unread;
  before = call.old.held;
  after = call.new.held;
  home = call.old.home;
  left = call.new.home;
  old = call.old.counts.devices;
  new = call.new.counts.devices;
}

-- The run within a call that plays a load of so many messages, which ended with this status, wrote these lines into memory,
-- and read from and wrote to memory with these counts of faults.
abbrev pub load_of : {D : Type 0} → ℕ → Call D → Status → Bytes → (source sink : ℕ) → OneRun D
load_of count call played lines source sink = record {
  asked = load_asked call.screens;
  status = played;
  unread = Some (load_input count);
  before = Some [];
  after = Some lines;
  home = call.old.home;
  left = call.new.home;
  old = counts_with call.old.counts.devices 0 0;
  new = counts_with call.new.counts.devices source sink;
}

-- as a run that serves so many connections
abbrev pub service_of : {D : Type 0} → ℕ → Call D → OneService D
service_of wanted call = record {
  asked = record { wanted = wanted; screens = call.screens };
  status = call.status;
  unread = call.old.unread;
  before = call.old.held;
  after = call.new.held;
  home = call.old.home;
  left = call.new.home;
  here = call.old.outside;
  there = call.new.outside;
  old = call.old.counts;
  new = call.new.counts;
}
