use Rattle.std.proofs.Common.{length}
use Rattle.image.specs.Steps.{see_reader}
use Rattle.image_tables.proofs.Loading.{Loading}
use Rattle.image_tables.proofs.load.load.Given as goal

abbrev pub invariant-loop-reader : goal.invariant-loop-reader
invariant-loop-reader l = Loading l.image (see_reader l.reader) l.tables

abbrev pub decreases-loop-reader : goal.decreases-loop-reader
decreases-loop-reader l = length (see_reader l.reader).1
