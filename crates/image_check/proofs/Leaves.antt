-- Bytes, numbers, lists and lengths. Assumes nothing.
use Rattle.std.proofs.Common.{◌≡◌, ℕ, zero, suc, ◌+◌, ◌*◌, ◌/◌, ◌%◌, ◌^◌, ◌<◌, ◌≤◌, Bool, true, false, cond, ltb, List, [], ◌∷◌, ◌++◌, length, get_or, take, drop, Ok, Err, Result, sym, refl, ap, ◌∙◌, subst, append_assoc, arith, length-append, length-drop, take-append-drop, length-take-le, drop-drop}
use Rattle.std.proofs.lemmas.Bool.{cond-false, cond-true, le-ltb, lt-ltb, ltb-true, ltb-false}
use Rattle.hir.specs.Lists.{Each}
use Rattle.image.specs.declared.fault.RowFault.{RowFault}
use Rattle.image.specs.Bytes.{Place, past, next, u32_of, be, words_of, words, joined}
use Rattle.image.specs.Layouts.{Layout, Begins, Whole, Fills, byte, word, numbers, part, PartFault, short}
use Rattle.image.specs.Layouts as layouts
use Rattle.image.specs.Steps.{and_then, in_section, in_row, missing, u8_at, u32_at, numbers_at, part_at}
use Rattle.image_check.proofs.Exact.{AllBytes, Tells, Exact, TellsAll, ExactAll, lifted}

-- four bytes say a number, which they are written for
pub four_bytes : (bs : List ℕ) → AllBytes bs → 4 ≤ length bs → (bs ≡ be (u32_of bs) ++ drop 4 bs) × (u32_of bs < 2 ^ 32)
four_bytes [] h le = absurd (omega arith)
four_bytes (a ∷ []) h le = absurd (omega arith)
four_bytes (a ∷ (b ∷ [])) h le = absurd (omega arith)
four_bytes (a ∷ (b ∷ (c ∷ []))) h le = absurd (omega arith)
four_bytes (a ∷ (b ∷ (c ∷ (d ∷ bs)))) h le =
    let n = a * 2 ^ 24 + b * 2 ^ 16 + c * 2 ^ 8 + d in
    let ha : a < 256 = h.0 in
    let hb : b < 256 = h.1.0 in
    let hc : c < 256 = h.1.1.0 in
    let hd : d < 256 = h.1.1.1.0 in
    let e1 : a ≡ n / 2 ^ 24 = omega arith in
    let e2 : b ≡ n / 2 ^ 16 % 256 = omega arith in
    let e3 : c ≡ n / 2 ^ 8 % 256 = omega arith in
    let e4 : d ≡ n % 256 = omega arith in
    ((λ i. e1 i ∷ (e2 i ∷ (e3 i ∷ (e4 i ∷ bs)))), omega arith)

-- and what is written for a number says it
pub be_says : (n : ℕ) (bs : List ℕ) → n < 2 ^ 32 → u32_of (be n ++ bs) ≡ n
be_says n bs h = omega arith

pub bytes_drop : (k : ℕ) (bs : List ℕ) → AllBytes bs → AllBytes (drop k bs)
bytes_drop zero bs h = h
bytes_drop (suc k) [] h = h
bytes_drop (suc k) (b ∷ bs) h = bytes_drop k bs h.1

pub bytes_take : (k : ℕ) (bs : List ℕ) → AllBytes bs → AllBytes (take k bs)
bytes_take zero bs h = tt
bytes_take (suc k) [] h = h
bytes_take (suc k) (b ∷ bs) h = (h.0, bytes_take k bs h.1)

one_byte : (bs : List ℕ) → AllBytes bs → 1 ≤ length bs → (bs ≡ get_or bs 0 0 ∷ drop 1 bs) × (get_or bs 0 0 < 256)
one_byte [] h le = absurd (omega arith)
one_byte (b ∷ bs) h le = (refl, h.0)

byte_test : (p : Place) → AllBytes p.1 → (b : Bool) → ltb (length p.1) 1 ≡ b → Tells byte p (in_row (in_section (cond b (Err (missing p.0)) (Ok (get_or p.1 0 0, past 1 p)))))
byte_test p h true e = (ltb-true _ _ e, refl)
byte_test p h false e = let t = one_byte p.1 h (ltb-false _ _ e) in record { fine = t.1; bytes = t.0; end = refl }

byte_finds : (x : ℕ) (p q : Place) → Begins byte x p q → lifted u8_at p ≡ Ok (x, q)
byte_finds x p q t =
    let e : p.1 ≡ x ∷ q.1 = t.bytes in
    ap (λ r. in_row (in_section r)) (cond-false _ _ _ (le-ltb (length p.1) 1 (omega (arith, ap length e))))
    ∙ (λ i. Ok (get_or (e i) 0 0, (sym t.end i, drop 1 (e i))))

pub exact_byte : Exact byte (lifted u8_at)
exact_byte = record {
  sound = λ p h. byte_test p h (ltb (length p.1) 1) refl;
  finds = byte_finds;
  meets = λ p f t. ap (λ r. in_row (in_section r)) (cond-true _ _ _ (lt-ltb (length p.1) 1 t.0)) ∙ ap Err (sym t.1);
}

word_test : (p : Place) → AllBytes p.1 → (b : Bool) → ltb (length p.1) 4 ≡ b → Tells word p (in_row (in_section (cond b (Err (missing p.0)) (Ok (u32_of p.1, past 4 p)))))
word_test p h true e = (ltb-true _ _ e, refl)
word_test p h false e = let t = four_bytes p.1 h (ltb-false _ _ e) in record { fine = t.1; bytes = t.0; end = refl }

word_finds : (x : ℕ) (p q : Place) → Begins word x p q → lifted u32_at p ≡ Ok (x, q)
word_finds x p q t =
    let e : p.1 ≡ be x ++ q.1 = t.bytes in
    ap (λ r. in_row (in_section r)) (cond-false _ _ _ (le-ltb (length p.1) 4 (omega (arith, ap length e))))
    ∙ (λ i. Ok ((ap u32_of e ∙ be_says x q.1 t.fine) i, (sym t.end i, drop 4 (e i))))

pub exact_word : Exact word (lifted u32_at)
exact_word = record {
  sound = λ p h. word_test p h (ltb (length p.1) 4) refl;
  finds = word_finds;
  meets = λ p f t. ap (λ r. in_row (in_section r)) (cond-true _ _ _ (lt-ltb (length p.1) 4 t.0)) ∙ ap Err (sym t.1);
}

pub take_front : (k : ℕ) (xs ys : List ℕ) → length xs ≡ k → take k (xs ++ ys) ≡ xs
take_front k [] ys e = let z : k ≡ 0 = omega arith in ap (λ j. take j ys) z
take_front zero (x ∷ xs) ys e = absurd (omega arith)
take_front (suc k) (x ∷ xs) ys e = ap (λ t. x ∷ t) (take_front k xs ys (omega arith))

pub drop_front : (k : ℕ) (xs ys : List ℕ) → length xs ≡ k → drop k (xs ++ ys) ≡ ys
drop_front k [] ys e = let z : k ≡ 0 = omega arith in ap (λ j. drop j ys) z
drop_front zero (x ∷ xs) ys e = absurd (omega arith)
drop_front (suc k) (x ∷ xs) ys e = drop_front k xs ys (omega arith)

-- what bytes say as numbers of four bytes each
record Words (n : ℕ) (bs ns : List ℕ) : Type 0 where
  count : length ns ≡ n
  bytes : bs ≡ joined be ns
  fine : Each (λ k. k < 2 ^ 32) ns

words_of_bytes : (n : ℕ) (bs : List ℕ) → AllBytes bs → length bs ≡ 4 * n → Words n bs (words_of n bs)
words_of_bytes zero [] h e = record { count = refl; bytes = refl; fine = tt }
words_of_bytes zero (b ∷ bs) h e = absurd (omega arith)
words_of_bytes (suc n) bs h e =
    let f = four_bytes bs h (omega arith) in
    let w = words_of_bytes n (drop 4 bs) (bytes_drop 4 bs h) (omega (arith, length-drop 4 bs)) in
    record { count = ap suc w.count; bytes = f.0 ∙ ap (λ t. be (u32_of bs) ++ t) w.bytes; fine = (f.1, w.fine) }

pub joined_length : (ns : List ℕ) → length (joined be ns) ≡ 4 * length ns
joined_length [] = refl
joined_length (n ∷ ns) = let e = joined_length ns in omega arith

words_back : (ns : List ℕ) → Each (λ k. k < 2 ^ 32) ns → words_of (length ns) (joined be ns) ≡ ns
words_back [] h = refl
words_back (n ∷ ns) h = λ i. be_says n (joined be ns) h.0 i ∷ words_back ns h.1 i

pub words_joined : (ns : List ℕ) → Each (λ k. k < 2 ^ 32) ns → words (joined be ns) ≡ ns
words_joined ns h =
    let l = joined_length ns in
    let e : length (joined be ns) / 4 ≡ length ns = omega arith in
    ap (λ k. words_of k (joined be ns)) e ∙ words_back ns h

numbers_there : (p : Place) → AllBytes p.1 → 4 + 4 * u32_of p.1 ≤ length p.1 → Begins numbers (words (take (4 * u32_of p.1) (drop 4 p.1))) p (past (4 + 4 * u32_of p.1) p)
numbers_there p h le =
    let n = u32_of p.1 in
    let xs = take (4 * n) (drop 4 p.1) in
    let f = four_bytes p.1 h (omega arith) in
    let size : length xs ≡ 4 * n = length-take-le (4 * n) (drop 4 p.1) (omega (arith, length-drop 4 p.1)) in
    let w : Words n xs (words_of n xs) = words_of_bytes n xs (bytes_take (4 * n) (drop 4 p.1) (bytes_drop 4 p.1 h)) size in
    let k : n ≡ length xs / 4 = omega arith in
    let v : Words n xs (words xs) = subst (λ j. Words n xs (words_of j xs)) k w in
    let cut : drop 4 p.1 ≡ xs ++ drop (4 + 4 * n) p.1 = sym (take-append-drop (4 * n) (drop 4 p.1)) ∙ ap (λ t. xs ++ t) (drop-drop (4 * n) 4 p.1) in
    record {
      fine = (omega (arith, v.count, f.1), v.fine);
      bytes =
          f.0 ∙ ap (λ t. be n ++ t) cut
          ∙ (λ i. be (sym v.count i) ++ (v.bytes i ++ drop (4 + 4 * n) p.1))
          ∙ sym (append_assoc (be (length (words xs))) (joined be (words xs)) (drop (4 + 4 * n) p.1));
      end = omega (arith, v.count, joined_length (words xs));
    }

numbers_test : (p : Place) → AllBytes p.1 → (b : Bool) → ltb (length p.1) (4 + 4 * u32_of p.1) ≡ b → Tells numbers p (in_row (in_section (cond b (Err (missing p.0)) (Ok (words (take (4 * u32_of p.1) (drop 4 p.1)), past (4 + 4 * u32_of p.1) p)))))
numbers_test p h true e = (ltb-true _ _ e, refl)
numbers_test p h false e = numbers_there p h (ltb-false _ _ e)

numbers_finds : (ns : List ℕ) (p q : Place) → Begins numbers ns p q → lifted numbers_at p ≡ Ok (ns, q)
numbers_finds ns p q t =
    let xs = joined be ns in
    let e : p.1 ≡ be (length ns) ++ (xs ++ q.1) = t.bytes ∙ append_assoc (be (length ns)) xs q.1 in
    let l = joined_length ns in
    let n : u32_of p.1 ≡ length ns = ap u32_of e ∙ be_says (length ns) (xs ++ q.1) t.fine.0 in
    let long : 4 + 4 * u32_of p.1 ≤ length p.1 = omega (arith, ap length e, length-append xs q.1) in
    let four : drop 4 p.1 ≡ xs ++ q.1 = ap (drop 4) e in
    let size : length xs ≡ 4 * u32_of p.1 = omega arith in
    let front : take (4 * u32_of p.1) (drop 4 p.1) ≡ xs = ap (take (4 * u32_of p.1)) four ∙ take_front (4 * u32_of p.1) xs q.1 size in
    let back : drop (4 + 4 * u32_of p.1) p.1 ≡ q.1 = sym (drop-drop (4 * u32_of p.1) 4 p.1) ∙ ap (drop (4 * u32_of p.1)) four ∙ drop_front (4 * u32_of p.1) xs q.1 size in
    let at : p.0 + (4 + 4 * u32_of p.1) ≡ q.0 = omega (arith, t.end) in
    ap (λ r. in_row (in_section r)) (cond-false _ _ _ (le-ltb (length p.1) (4 + 4 * u32_of p.1) long))
    ∙ (λ i. Ok ((ap words front ∙ words_joined ns t.fine.1) i, (at i, back i)))

pub exact_numbers : Exact numbers (lifted numbers_at)
exact_numbers = record {
  sound = λ p h. numbers_test p h (ltb (length p.1) (4 + 4 * u32_of p.1)) refl;
  finds = numbers_finds;
  meets = λ p f t. ap (λ r. in_row (in_section r)) (cond-true _ _ _ (lt-ltb (length p.1) (4 + 4 * u32_of p.1) t.0)) ∙ ap Err (sym t.1);
}

part_ok : (p : Place) → 4 + u32_of p.1 ≤ length p.1 → lifted part_at p ≡ Ok (next (u32_of p.1) (past 4 p), past (4 + u32_of p.1) p)
part_ok p le = ap (λ r. in_row (in_section r)) (cond-false _ _ _ (le-ltb (length p.1) (4 + u32_of p.1) le))

-- a length and what it counts are split where it says
pub part_split : {X : Type 0} (W : Whole X) (x : X) (p q : Place) → Begins (part W) x p q → lifted part_at p ≡ Ok ((p.0 + 4, W.write x), q)
part_split W x p q t =
    let xs = W.write x in
    let e : p.1 ≡ be (length xs) ++ (xs ++ q.1) = t.bytes ∙ append_assoc (be (length xs)) xs q.1 in
    let n : u32_of p.1 ≡ length xs = ap u32_of e ∙ be_says (length xs) (xs ++ q.1) t.fine.1 in
    let long : 4 + u32_of p.1 ≤ length p.1 = omega (arith, ap length e, length-append xs q.1) in
    let four : drop 4 p.1 ≡ xs ++ q.1 = ap (drop 4) e in
    let front : take (u32_of p.1) (drop 4 p.1) ≡ xs = ap (take (u32_of p.1)) four ∙ take_front (u32_of p.1) xs q.1 (sym n) in
    let back : drop (4 + u32_of p.1) p.1 ≡ q.1 = sym (drop-drop (u32_of p.1) 4 p.1) ∙ ap (drop (u32_of p.1)) four ∙ drop_front (u32_of p.1) xs q.1 (sym n) in
    let at : p.0 + (4 + u32_of p.1) ≡ q.0 = omega (arith, t.end) in
    part_ok p long ∙ (λ i. Ok ((p.0 + 4, front i), (at i, back i)))

-- a length, and what fills the bytes that it counts
module _ {X : Type 0} (W : Whole X) (w : Place → Result X RowFault) (ew : ExactAll W w) where
  abbrev part_pair : Place → Result X RowFault → Result (X × Place) RowFault
  part_pair q r = and_then r (λ x. Ok (x, q))

  abbrev part_second : Result (Place × Place) RowFault → Result (X × Place) RowFault
  part_second r = and_then r (λ v. part_pair v.1 (w v.0))

  -- the reading of both
  abbrev pub holder_at : Place → Result (X × Place) RowFault
  holder_at p = part_second (lifted part_at p)

  part_there : (p : Place) → AllBytes p.1 → 4 + u32_of p.1 ≤ length p.1 → (x : X) → Fills W x (next (u32_of p.1) (past 4 p)) → Begins (part W) x p (past (4 + u32_of p.1) p)
  part_there p h le x t =
      let n = u32_of p.1 in
      let f = four_bytes p.1 h (omega arith) in
      let body : take n (drop 4 p.1) ≡ W.write x = t.bytes in
      let size : length (W.write x) ≡ n = sym (ap length body) ∙ length-take-le n (drop 4 p.1) (omega (arith, length-drop 4 p.1)) in
      let cut : drop 4 p.1 ≡ W.write x ++ drop (4 + n) p.1 = sym (take-append-drop n (drop 4 p.1)) ∙ (λ i. body i ++ drop-drop n 4 p.1 i) in
      record {
        fine = (t.fine, omega (arith, size, f.1));
        bytes =
            f.0 ∙ (λ i. be (sym size i) ++ cut i)
            ∙ sym (append_assoc (be (length (W.write x))) (W.write x) (drop (4 + n) p.1));
        end = omega (arith, size);
      }

  part_inner : (p : Place) → AllBytes p.1 → 4 + u32_of p.1 ≤ length p.1 → (r : Result X RowFault) → TellsAll W (next (u32_of p.1) (past 4 p)) r → Tells (part W) p (part_pair (past (4 + u32_of p.1) p) r)
  part_inner p h le (Ok x) t = part_there p h le x t
  part_inner p h le (Err f) t = layouts.within le t

  part_test : (p : Place) → AllBytes p.1 → (b : Bool) → ltb (length p.1) (4 + u32_of p.1) ≡ b → Tells (part W) p (part_second (in_row (in_section (cond b (Err (missing p.0)) (Ok (next (u32_of p.1) (past 4 p), past (4 + u32_of p.1) p))))))
  part_test p h true e = layouts.passes (ltb-true _ _ e)
  part_test p h false e =
      part_inner p h (ltb-false _ _ e) (w (next (u32_of p.1) (past 4 p)))
      (ew.sound (next (u32_of p.1) (past 4 p)) (bytes_take (u32_of p.1) (drop 4 p.1) (bytes_drop 4 p.1 h)))

  part_finds : (x : X) (p q : Place) → Begins (part W) x p q → holder_at p ≡ Ok (x, q)
  part_finds x p q t =
      ap part_second (part_split W x p q t)
      ∙ ap (part_pair q) (ew.finds x (p.0 + 4, W.write x) (record { fine = t.fine.0; bytes = refl }))

  part_meets : (p : Place) (f : RowFault) → PartFault W p f → holder_at p ≡ Err f
  part_meets p f (layouts.passes lt) = ap (λ r. part_second (in_row (in_section r))) (cond-true _ _ _ (lt-ltb (length p.1) (4 + u32_of p.1) lt))
  part_meets p f (layouts.within le t) = ap part_second (part_ok p le) ∙ ap (part_pair (past (4 + u32_of p.1) p)) (ew.meets (next (u32_of p.1) (past 4 p)) f t)

  pub exact_part : Exact (part W) holder_at
  exact_part = record { sound = λ p h. part_test p h (ltb (length p.1) (4 + u32_of p.1)) refl; finds = part_finds; meets = part_meets }
