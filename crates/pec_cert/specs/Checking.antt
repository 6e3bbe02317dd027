-- What is answered on the values of a text, or on some of them in a row; and what a function that looks at a part of a
-- text returns (`Looks`, at the end).
use Rattle.std.specs.Prelude.{◌≡◌, ℕ, List, map, Some, None, Result, Ok, Err}
use Rattle.std.specs.Borrow.{Bor}
use Rattle.std.specs.List.{AllByRecursion}
use Rattle.pec_types.specs.Bytes.{Bytes}
use Rattle.pec_cert.specs.Certificate.{Value, IsGood, IsFirstFault, CanBeWritten, addressee, lines_of}
use Rattle.pec_cert.specs.Front.{Looked}
use Rattle.pec_cert.specs.Shown.{IsShown}
use Rattle.pec_cert.specs.declared.certificates.CertData.{CertData}
use Rattle.pec_cert.specs.declared.lines.Lines.{Lines}
use Rattle.pec_cert.specs.declared.values.Values.{Values}
use Rattle.pec_cert.specs.declared.faults.CertFault.{CertFault}
use Rattle.pec_cert.specs.declared.faults.CertFault.TheVariants.{NoMemory}
use Rattle.pec_cert.specs.declared.wrong.Halt.{Halt}
use Rattle.pec_cert.specs.declared.wrong.Halt.TheVariants as halts

-- each of these values may stand in a certification text
abbrev pub AllGood : List (Bytes × Value) → Type 0
AllGood vs = AllByRecursion (λ (v : Bytes × Value). IsGood v.1) vs

-- all are good, and this was made of them; or the first fault among them
abbrev pub Checked : {X : Type 0} → List (Bytes × Value) → (X → Type 0) → Result X CertFault → Type 0
Checked vs Made (Ok x) = AllGood vs × Made x
Checked vs Made (Err NoMemory) = Unit {0}
Checked vs Made (Err fault) = IsFirstFault vs fault

-- the values that lines have
pub record HasValues (l : Lines) (v : Values) : Type 0 where
  pub sender : v.sender ≡ l.sender
  pub recipients : map addressee v.recipients ≡ l.recipients
  pub stamp : IsShown l.shown v.stamp
  pub delivered : v.delivered ≡ l.delivered
  pub received : v.received ≡ l.received

-- the certificate that lines say
pub record Says (l : Lines) (c : CertData) : Type 0 where
  pub stamp : IsShown l.shown c.stamp
  pub written : CanBeWritten c
  pub lines : l ≡ lines_of c l.shown

-- what a function returned is what the look gives; want of memory is free
abbrev pub Looks : Result (Bor (List ℕ)) Halt → Looked → Type 0
Looks (Ok rest) looked = looked ≡ Ok rest.now
Looks (Err halts.NoMemory) looked = Unit {0}
Looks (Err halts.Stop) looked = looked ≡ Err None
Looks (Err (halts.Wrong fault)) looked = looked ≡ Err (Some fault)
