-- What an answer says that is no fault, and what is held where nothing was written.
use Rattle.std.proofs.Common.{◌≡◌, [], false, Option, None, Some, Result, Ok, Err, OnOk, OnErr, refl, ap}
use Rattle.std.proofs.lemmas.List.{append-nil}
use Rattle.std.specs.Result.{is_err}
use Rattle.pec_outside.specs.Flow.{WrotePart, followed_by}
use Rattle.pec_types.specs.Bytes.{Bytes}

pub no_fault : {X E P : Type 0} (r : Result X E) → is_err r ≡ false → OnOk r P → P
no_fault (Ok x) is p = p
no_fault (Err e) is p = absurd (cc is)

held_still : (held : Option Bytes) → held ≡ followed_by held []
held_still None = refl
held_still (Some bytes) = ap Some (rw (append-nil bytes) refl)

pub nothing_written : {X E : Type 0} (r : Result X E) (held : Option Bytes) (text : Bytes) → OnErr r (WrotePart held held text)
nothing_written (Ok x) held text = tt
nothing_written (Err e) held text = record { rest = text; wrote = record { done = []; held = held_still held; text = refl } }
