-- The last digits of a number in a base. Assumes nothing.
use Rattle.std.specs.Prelude.{◌≡◌, ℕ, zero, suc, ◌+◌, ◌/◌, ◌%◌, ◌^◌, ◌*◌, ◌<◌, ◌≤◌, max, List, [], ◌∷◌, ◌++◌, length, drop, decimal, slice_set, refl}
use Rattle.std.proofs.Common.{sym, ap, ◌∙◌, append_assoc, pow-suc, add-one, arith}
use Rattle.std.proofs.Math.Nat.{pow-zero}
use Rattle.std.proofs.lemmas.Fmt.{decimal_digit, decimal_step, length-decimal-le}
use Rattle.std.proofs.lemmas.List.{length_push, drop-set, same_from_push}
use Rattle.std.proofs.lemmas.Bool.Decides.{nat_tests}
use Rattle.naming.specs.Texts.{digit_byte, last_digits}

pub length_last_digits : (base count n : ℕ) → length (last_digits base count n) ≡ count
length_last_digits base zero n = refl
length_last_digits base (suc count) n =
    length_push (last_digits base count (n / base)) (digit_byte (n % base))
    ∙ ap (λ k. k + 1) (length_last_digits base count (n / base))
    ∙ add-one count

-- the lowest digit, written at the last free place, comes off the number
pub place_more : (base place rest : ℕ) (places : List ℕ) → place < length places → last_digits base place (rest / base) ++ drop place (slice_set places place (digit_byte (rest % base))) ≡ last_digits base (place + 1) rest ++ drop (place + 1) places
place_more base place rest places within =
    let front = last_digits base place (rest / base) in
    let lowest = digit_byte (rest % base) in
    ap (λ ds. front ++ ds) (drop-set places place lowest within)
    ∙ sym (append_assoc front (lowest ∷ []) (drop (place + 1) places))
    ∙ ap (λ k. last_digits base k rest ++ drop (place + 1) places) (sym (add-one place))

decimal_digit_byte : (d : ℕ) → d < 10 → digit_byte d ≡ 48 + d
decimal_digit_byte d h = grind (arith, nat_tests)

-- a number below ten has one decimal digit
pub decimal_one : (n : ℕ) → n < 10 → last_digits 10 1 n ≡ decimal n
decimal_one n h =
    let same : n % 10 ≡ n = omega arith in
    ap (λ d. digit_byte d ∷ []) same ∙ ap (λ d. d ∷ []) (decimal_digit_byte n h) ∙ sym (decimal_digit n h)

-- any other has one more than its tenth
pub decimal_more : (count n : ℕ) → 10 ≤ n → n < 65536 → last_digits 10 count (n / 10) ≡ decimal (n / 10) → last_digits 10 (count + 1) n ≡ decimal n
decimal_more count n h k e =
    ap (λ c. last_digits 10 c n) (add-one count)
    ∙ ap (λ ds. ds ++ (digit_byte (n % 10) ∷ [])) e
    ∙ ap (λ d. decimal (n / 10) ++ (d ∷ [])) (decimal_digit_byte (n % 10) (omega arith))
    ∙ sym (decimal_step n h (omega arith))

-- and none has more than five
pub decimal_few : (count n : ℕ) → n < 65536 → last_digits 10 count n ≡ decimal n → count ≤ 5
decimal_few count n h e =
    let few : length (decimal n) ≤ 5 = length-decimal-le 5 n (omega arith) (omega arith) (omega arith) in
    omega (arith, length_last_digits 10 count n, ap length e)

some_power : (power : ℕ) → 0 < 10 ^ power
some_power zero = omega (arith, pow-zero 10)
some_power (suc power) = omega (arith, pow-suc 10 power, some_power power)

-- a number has one digit more than the highest power of ten that it reaches
pub decimal_count : (power n : ℕ) → n < 65536 → 10 ^ power ≤ max n 1 → max n 1 < 10 * 10 ^ power → last_digits 10 (power + 1) n ≡ decimal n
decimal_count zero n h reaches below = decimal_one n (omega (arith, pow-zero 10))
decimal_count (suc power) n h reaches below =
    let up = pow-suc 10 power in
    let some : 0 < 10 ^ power = some_power power in
    let tenth : last_digits 10 (power + 1) (n / 10) ≡ decimal (n / 10) = decimal_count power (n / 10) (omega arith) (omega arith) (omega arith) in
    ap (λ c. last_digits 10 (c + 1) n) (sym (add-one power)) ∙ decimal_more (power + 1) n (omega arith) h tenth

same_digit : (c d : ℕ) → c < 16 → d < 16 → digit_byte c ≡ digit_byte d → c ≡ d
same_digit c d h k e = grind (arith, nat_tests)

-- numbers that fit their hexadecimal digits are told apart by them
pub same_from_hexadecimal : (count m n : ℕ) → m < 16 ^ count → n < 16 ^ count → last_digits 16 count m ≡ last_digits 16 count n → m ≡ n
same_from_hexadecimal zero m n h k e = omega (arith, pow-zero 16)
same_from_hexadecimal (suc count) m n h k e =
    let power = pow-suc 16 count in
    let both = same_from_push (last_digits 16 count (m / 16)) (last_digits 16 count (n / 16)) (digit_byte (m % 16)) (digit_byte (n % 16)) e in
    let front : m / 16 ≡ n / 16 = same_from_hexadecimal count (m / 16) (n / 16) (omega arith) (omega arith) both.0 in
    let lowest : m % 16 ≡ n % 16 = same_digit (m % 16) (n % 16) (omega arith) (omega arith) both.1 in
    omega arith
