-- What the check of an image answers. Assumes nothing.
use Rattle.std.specs.Prelude.{◌≡◌, ℕ, List, Ok, Err, Result}
use Rattle.image.specs.declared.fault.RowFault.{RowFault}
use Rattle.image.specs.Format.{Image, FirstFault}

-- it passes exactly the images, and of other bytes it answers exactly their first fault
pub record Verdict (bs : List ℕ) (r : Result (Unit {0}) RowFault) : Type 0 where
  pub passes : r ≡ Ok tt → Image bs
  pub every : Image bs → r ≡ Ok tt
  pub faults : (f : RowFault) → r ≡ Err f → FirstFault bs f
  pub first : (f : RowFault) → FirstFault bs f → r ≡ Err f
