-- Bytes, numbers of four bytes, and where reading stands. Assumes nothing.
use Rattle.std.specs.Prelude.{ℕ, zero, suc, ◌+◌, ◌*◌, ◌/◌, ◌%◌, ◌^◌, ◌<◌, List, [], ◌∷◌, ◌++◌, length, take, drop, slice_index}
use Rattle.image.specs.declared.cursor.Cursor.{Cursor}
use Rattle.image.specs.declared.cursor.Unread.{Unread}

-- a byte of the image, and the bytes from there to the end of the holder
abbrev pub Place : Type 0
Place = ℕ × List ℕ

-- what a cursor stands for
abbrev pub see : Cursor → Place
see c = (c.at, c.rest.now)

-- what unread bytes stand for
abbrev pub see_unread : Unread → Place
see_unread u = (u.at, u.rest.now)

-- the place n bytes on
abbrev pub past : ℕ → Place → Place
past n p = (p.0 + n, drop n p.1)

-- the next n bytes, as a holder of their own
abbrev pub next : ℕ → Place → Place
next n p = (p.0, take n p.1)

-- the holder's end is a byte that a usize can name
abbrev pub Inside : Place → Type 0
Inside p = p.0 + length p.1 < 2 ^ 64

-- the number that four bytes say, the highest first
abbrev pub u32_of : List ℕ → ℕ
u32_of bs = slice_index bs 0 * 2 ^ 24 + slice_index bs 1 * 2 ^ 16 + slice_index bs 2 * 2 ^ 8 + slice_index bs 3

-- the four bytes that say a number
abbrev pub be : ℕ → List ℕ
be n = n / 2 ^ 24 ∷ (n / 2 ^ 16 % 256 ∷ (n / 2 ^ 8 % 256 ∷ (n % 256 ∷ [])))

-- n numbers of four bytes each
abbrev pub words_of : ℕ → List ℕ → List ℕ
words_of zero bs = []
words_of (suc n) bs = u32_of bs ∷ words_of n (drop 4 bs)

-- the numbers that some bytes say, four bytes each
abbrev pub words : List ℕ → List ℕ
words bs = words_of (length bs / 4) bs

-- what is written of each element, one behind the other
abbrev pub joined : {X : Type 0} → (X → List ℕ) → List X → List ℕ
joined write [] = []
joined write (x ∷ xs) = write x ++ joined write xs
