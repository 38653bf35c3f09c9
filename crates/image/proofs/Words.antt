-- The numbers that some bytes say, four bytes each. Assumes nothing.
use Rattle.std.proofs.Common.{◌≡◌, ℕ, zero, suc, ◌+◌, ◌*◌, ◌/◌, ◌^◌, ◌<◌, List, ◌∷◌, length, get_or, take, drop, map, refl, ap, ◌∙◌, arith, get_or-take}
use Rattle.std.specs.Simd.{first_chunks}
use Rattle.image.specs.Bytes.{u32_of, words_of, words}

length_words_of : (n : ℕ) (bs : List ℕ) → length (words_of n bs) ≡ n
length_words_of zero bs = refl
length_words_of (suc n) bs = ap suc (length_words_of n (drop 4 bs))

-- there are a quarter as many as bytes
pub length_words : (bs : List ℕ) → length (words bs) ≡ length bs / 4
length_words bs = length_words_of (length bs / 4) bs

front : (bs : List ℕ) (k : ℕ) → k < 4 → get_or (take 4 bs) k 0 ≡ get_or bs k 0
front bs k lt = get_or-take 4 bs k 0 lt

chunks_say : (n : ℕ) (bs : List ℕ) → map u32_of (first_chunks 4 n bs) ≡ words_of n bs
chunks_say zero bs = refl
chunks_say (suc n) bs = λ j. (front bs 0 (omega arith) j * 2 ^ 24 + front bs 1 (omega arith) j * 2 ^ 16 + front bs 2 (omega arith) j * 2 ^ 8 + front bs 3 (omega arith) j) ∷ chunks_say n (drop 4 bs) j

-- each four bytes say their number
pub chunks_are : (ws : List (List ℕ)) (bs : List ℕ) → ws ≡ first_chunks 4 (length bs / 4) bs → map u32_of ws ≡ words bs
chunks_are ws bs e = ap (map u32_of) e ∙ chunks_say (length bs / 4) bs
