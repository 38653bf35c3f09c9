-- Different letter or number, different text. Assumes nothing.
use Rattle.std.specs.Prelude.{◌≡◌, decimal, refl}
use Rattle.std.proofs.Common.{arith}
use Rattle.std.proofs.lemmas.Fmt.{decimal_injective}
use Rattle.naming.specs.declared.letter.Letter.{Letter}
use Rattle.naming.specs.declared.letter.Letter.TheVariants.{Lower, Upper}
use Rattle.naming.specs.Texts.{Lawful, letter_byte, last_digits, decimal_text, hexadecimal_text}
use Rattle.naming.specs.LastDigits.{same_from_hexadecimal}

same_letter : (l m : Letter) → letter_byte l ≡ letter_byte m → l ≡ m
same_letter Lower Lower e = refl
same_letter Lower Upper e = absurd (omega arith)
same_letter Upper Lower e = absurd (omega arith)
same_letter Upper Upper e = refl

pub decimal_lawful : Lawful decimal_text
decimal_lawful = record {
  letters = λ l m a b h k e. same_letter l m (let f : letter_byte l ≡ letter_byte m = cc in f);
  numbers = λ l m a b h k e. decimal_injective a b (omega arith) (omega arith) (let f : decimal a ≡ decimal b = cc in f);
}

pub hexadecimal_lawful : Lawful hexadecimal_text
hexadecimal_lawful = record {
  letters = λ l m a b h k e. same_letter l m (let f : letter_byte l ≡ letter_byte m = cc in f);
  numbers = λ l m a b h k e. same_from_hexadecimal 8 a b (omega arith) (omega arith) (let f : last_digits 16 8 a ≡ last_digits 16 8 b = cc in f);
}
