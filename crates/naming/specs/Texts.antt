-- The law of a naming, what writing a text does, and the texts of the two namings. Assumes nothing.
use Rattle.std.specs.Prelude.{◌≡◌, ℕ, zero, suc, ◌+◌, ◌/◌, ◌%◌, ◌<◌, cond, List, [], ◌∷◌, ◌++◌, length, drop, None, decimal, Option, Result, nat_lt}
use Rattle.hir.specs.Refusals.{refused_if, answered, unless}
use Rattle.hir.specs.declared.refusal.Refusal.{Refusal}
use Rattle.hir.specs.declared.refusal.Refusal.TheVariants as refusals
use Rattle.naming.specs.declared.letter.Letter.{Letter}
use Rattle.naming.specs.declared.letter.Letter.TheVariants.{Lower, Upper}

-- the law of a naming: for numbers below 65,536, different letter or number, different text
pub record Lawful (text : Letter → ℕ → List ℕ) : Type 0 where
  pub letters : (l m : Letter) (a b : ℕ) → a < 65536 → b < 65536 → text l a ≡ text m b → l ≡ m
  pub numbers : (l m : Letter) (a b : ℕ) → a < 65536 → b < 65536 → text l a ≡ text m b → a ≡ b

-- writing a text is refused exactly where the buffer is shorter
abbrev pub write_refusal : List ℕ → List ℕ → Option Refusal
write_refusal text buffer = refused_if (nat_lt (length buffer) (length text)) refusals.Buffer None

-- what writing a text answers: its length
abbrev pub write_answer : List ℕ → List ℕ → Result ℕ Refusal
write_answer text buffer = answered (write_refusal text buffer) (length text)

-- a buffer with a text over its front
abbrev pub overwritten : List ℕ → List ℕ → List ℕ
overwritten text buffer = text ++ drop (length text) buffer

-- what the buffer holds after a text is written
abbrev pub write_bytes : List ℕ → List ℕ → List ℕ
write_bytes text buffer = unless (write_refusal text buffer) buffer (overwritten text buffer)

-- the byte of a letter
abbrev pub letter_byte : Letter → ℕ
letter_byte Lower = 116
letter_byte Upper = 84

-- the byte of a digit below 16, lower-case
abbrev pub digit_byte : ℕ → ℕ
digit_byte d = cond (nat_lt d 10) (48 + d) (87 + d)

-- the last count digits of a number in a base, with leading zeros
abbrev pub last_digits : ℕ → ℕ → ℕ → List ℕ
last_digits base zero n = []
last_digits base (suc count) n = last_digits base count (n / base) ++ (digit_byte (n % base) ∷ [])

-- a hash, the letter, digits
abbrev pub name_text : Letter → List ℕ → List ℕ
name_text l digits = 35 ∷ letter_byte l ∷ digits

-- decimal digits without leading zeros
abbrev pub decimal_text : Letter → ℕ → List ℕ
decimal_text l n = name_text l (decimal n)

-- eight hexadecimal digits
abbrev pub hexadecimal_text : Letter → ℕ → List ℕ
hexadecimal_text l n = name_text l (last_digits 16 8 n)
