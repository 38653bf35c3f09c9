-- How values lie in bytes, for any value: what is written of it, and where bytes first fail to begin with one. Assumes nothing.
use Rattle.std.specs.Prelude.{◌≡◌, ℕ, ◌+◌, ◌*◌, ◌^◌, ◌<◌, ◌≤◌, List, [], ◌∷◌, ◌++◌, length}
use Rattle.hir.specs.Lists.{Each}
use Rattle.image.specs.declared.fault.SectionFault.TheVariants.{Letter, Left, Bytes}
use Rattle.image.specs.declared.fault.RowFault.{RowFault}
use Rattle.image.specs.declared.fault.RowFault.TheVariants.{Deep, Section}
use Rattle.image.specs.Bytes.{Place, past, next, u32_of, be, joined}

-- 14 in layer 1: what should begin at byte n passes its holder, or is missing there
abbrev pub short : ℕ → RowFault
short n = Section (Bytes (record { at = n }))

-- 15 in layer 2: byte n is a letter that may not stand there
abbrev pub letter : ℕ → RowFault
letter n = Section (Letter n)

-- 15 in layer 2: byte n is the first that is left over
abbrev pub left : ℕ → RowFault
left n = Section (Left n)

-- 7 in layer 3: the row at byte n lies too deep
abbrev pub deep : ℕ → RowFault
deep n = Deep n

-- a layout: what is written of a value, which values can be written, and the first fault of bytes that do not begin with one
pub record Layout (X : Type 0) : Type 1 where
  pub write : X → List ℕ
  pub Fine : X → Type 0
  pub Fault : Place → RowFault → Type 0

-- the bytes at p begin with x, and q is where it ends
pub record Begins {X : Type 0} (L : Layout X) (x : X) (p q : Place) : Type 0 where
  pub fine : L.Fine x
  pub bytes : p.1 ≡ L.write x ++ q.1
  pub end : q.0 ≡ p.0 + length (L.write x)

-- the same of values that fill their holder to its end
pub record Whole (X : Type 0) : Type 1 where
  pub write : X → List ℕ
  pub Fine : X → Type 0
  pub Fault : Place → RowFault → Type 0

-- x fills the holder from p on
pub record Fills {X : Type 0} (W : Whole X) (x : X) (p : Place) : Type 0 where
  pub fine : W.Fine x
  pub bytes : p.1 ≡ W.write x

-- fewer than n bytes are left
abbrev pub Short : ℕ → Place → Type 0
Short n p = length p.1 < n

-- one byte
abbrev pub byte : Layout ℕ
byte = record { write = λ b. b ∷ []; Fine = λ b. b < 256; Fault = λ p f. Short 1 p × (f ≡ short p.0) }

-- a number of four bytes
abbrev pub word : Layout ℕ
word = record { write = be; Fine = λ n. n < 2 ^ 32; Fault = λ p f. Short 4 p × (f ≡ short p.0) }

-- a list: its count, and its numbers
abbrev pub numbers : Layout (List ℕ)
numbers = record {
  write = λ ns. be (length ns) ++ joined be ns;
  Fine = λ ns. (length ns < 2 ^ 32) × Each (λ n. n < 2 ^ 32) ns;
  Fault = λ p f. Short (4 + 4 * u32_of p.1) p × (f ≡ short p.0);
}

-- the first fault of one thing behind another: in the first, or in the second where the first is there
pub data AfterFault {X : Type 0} (L : Layout X) (Rest : Place → RowFault → Type 0) : Place → RowFault → Type 0 where
  here : {p : Place} {f : RowFault} → L.Fault p f → AfterFault L Rest p f
  later : {p q : Place} {f : RowFault} (x : X) → Begins L x p q → Rest q f → AfterFault L Rest p f

infixr 20 ◌then◌
infixr 20 ◌then_all◌
-- one value behind another
abbrev pub ◌then◌ : {X Y : Type 0} → Layout X → Layout Y → Layout (X × Y)
L then M = record {
  write = λ v. L.write v.0 ++ M.write v.1;
  Fine = λ v. L.Fine v.0 × M.Fine v.1;
  Fault = AfterFault L M.Fault;
}

-- a value, and behind it one that fills the rest
abbrev pub ◌then_all◌ : {X Y : Type 0} → Layout X → Whole Y → Whole (X × Y)
L then_all W = record {
  write = λ v. L.write v.0 ++ W.write v.1;
  Fine = λ v. L.Fine v.0 × W.Fine v.1;
  Fault = AfterFault L W.Fault;
}

-- the first fault where a value should fill its holder: in the value, or the first byte left over
pub data OnlyFault {X : Type 0} (L : Layout X) : Place → RowFault → Type 0 where
  within : {p : Place} {f : RowFault} → L.Fault p f → OnlyFault L p f
  over : {p q : Place} (x : X) → Begins L x p q → 0 < length q.1 → OnlyFault L p (left q.0)

-- a value, and nothing behind it
abbrev pub only : {X : Type 0} → Layout X → Whole X
only L = record { write = L.write; Fine = L.Fine; Fault = OnlyFault L }

-- the first fault of values to the end of their holder
pub data ManyFault {X : Type 0} (L : Layout X) : Place → RowFault → Type 0 where
  here : {p : Place} {f : RowFault} → 0 < length p.1 → L.Fault p f → ManyFault L p f
  later : {p q : Place} {f : RowFault} (x : X) → Begins L x p q → ManyFault L q f → ManyFault L p f

-- any number of values, to the end of their holder
abbrev pub many : {X : Type 0} → Layout X → Whole (List X)
many L = record { write = joined L.write; Fine = Each L.Fine; Fault = ManyFault L }

-- the first fault of a length and what it counts
pub data PartFault {X : Type 0} (W : Whole X) : Place → RowFault → Type 0 where
  passes : {p : Place} → Short (4 + u32_of p.1) p → PartFault W p (short p.0)
  within : {p : Place} {f : RowFault} → 4 + u32_of p.1 ≤ length p.1 → W.Fault (next (u32_of p.1) (past 4 p)) f → PartFault W p f

-- a length of four bytes, which counts the bytes after itself, and a value that fills these
abbrev pub part : {X : Type 0} → Whole X → Layout X
part W = record {
  write = λ x. be (length (W.write x)) ++ W.write x;
  Fine = λ x. W.Fine x × (length (W.write x) < 2 ^ 32);
  Fault = PartFault W;
}
