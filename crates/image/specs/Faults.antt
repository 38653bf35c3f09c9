-- What a fault tells: cause, byte and layer. Assumes nothing.
use Rattle.std.specs.Prelude.{ℕ}
use Rattle.image.specs.declared.fault.SectionFault.TheVariants.{Version, Letter, Left, Bytes}
use Rattle.image.specs.declared.fault.RowFault.{RowFault}
use Rattle.image.specs.declared.fault.RowFault.TheVariants.{Deep, Section}
use Rattle.image.specs.declared.fault.Cause.{Cause}
use Rattle.image.specs.declared.fault.Cause.TheVariants as causes
use Rattle.image.specs.declared.fault.Layer.{Layer}
use Rattle.image.specs.declared.fault.Layer.TheVariants as layers

-- the number by which the cause of a fault is told
abbrev pub cause_number : Cause → ℕ
cause_number causes.Depth = 7
cause_number causes.Version = 13
cause_number causes.Bytes = 14
cause_number causes.Section = 15

-- the number of the layer that finds a fault, counted from the bytes up
abbrev pub layer_number : Layer → ℕ
layer_number layers.Bytes = 1
layer_number layers.Sections = 2
layer_number layers.Rows = 3

-- the number of the refusal
abbrev pub cause_of : RowFault → ℕ
cause_of (Deep n) = 7
cause_of (Section Version) = 13
cause_of (Section (Bytes b)) = 14
cause_of (Section (Letter n)) = 15
cause_of (Section (Left n)) = 15

-- the byte of the image at which it lies
abbrev pub byte_of : RowFault → ℕ
byte_of (Deep n) = n
byte_of (Section Version) = 0
byte_of (Section (Bytes b)) = b.at
byte_of (Section (Letter n)) = n
byte_of (Section (Left n)) = n

-- the layer that found it: 1 bytes, 2 sections, 3 rows
abbrev pub layer_of : RowFault → ℕ
layer_of (Deep n) = 3
layer_of (Section Version) = 2
layer_of (Section (Bytes b)) = 1
layer_of (Section (Letter n)) = 2
layer_of (Section (Left n)) = 2
