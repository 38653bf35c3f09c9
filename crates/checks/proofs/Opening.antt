-- The open rows, which the stack has outermost first and the definitions innermost first. Assumes nothing.
use Rattle.std.proofs.Common.{◌≡◌, ℕ, ◌-◌, Bool, false, ◌||◌, List, [], ◌∷◌, ◌++◌, map, length, take, drop, reverse, refl, sym, ap, ◌∙◌, arith, length-drop}
use Rattle.std.specs.List.{list_any}
use Rattle.std.proofs.lemmas.Bool.{cond-false}
use Rattle.std.proofs.lemmas.List.{reverse-append, length-reverse, take-append-drop, take-map, drop-map}
use Rattle.std.proofs.lemmas.List.Folds.{list_any-append}
use Rattle.std.proofs.Math.Bool.{or_comm, or-false}
use Rattle.std.proofs.Math.Seq.{take-append_seam, drop-append_seam}
use Rattle.hir.proofs.Lists.{any_map}
use Rattle.checks.specs.declared.grammar.Places.{Places}
use Rattle.checks.specs.Grammar.{slots, lacking}
use Rattle.checks.specs.Rows.{Open, wrong_depth, closing, staying, placed, opened}

-- the places that each row of a stack has left
abbrev pub seen : List Places → Open
seen xs = map slots xs

reverse_cut : {A : Type 0} (d : ℕ) (xs : List A) → reverse xs ≡ reverse (drop d xs) ++ reverse (take d xs)
reverse_cut d xs = ap reverse (sym (take-append-drop d xs)) ∙ reverse-append (take d xs) (drop d xs)

cut_length : {A : Type 0} (d : ℕ) (xs : List A) → length (reverse xs) - d ≡ length (reverse (drop d xs))
cut_length d xs = omega (arith, length-reverse xs, length-reverse (drop d xs), length-drop d xs)

pub closing_drop : (xs : Open) (d : ℕ) → closing (reverse xs) d ≡ reverse (drop d xs)
closing_drop xs d = (λ i. take (cut_length d xs i) (reverse_cut d xs i)) ∙ take-append_seam (reverse (drop d xs)) (reverse (take d xs))

pub staying_take : (xs : Open) (d : ℕ) → staying (reverse xs) d ≡ reverse (take d xs)
staying_take xs d = (λ i. drop (cut_length d xs i) (reverse_cut d xs i)) ∙ drop-append_seam (reverse (drop d xs)) (reverse (take d xs))

-- a test of some element heeds no order
pub any_reverse : {A : Type 0} (p : A → Bool) (xs : List A) → list_any p (reverse xs) ≡ list_any p xs
any_reverse p [] = refl
any_reverse p (x ∷ xs) =
    ap (list_any p) (reverse-append (x ∷ []) xs)
    ∙ list_any-append p (reverse xs) (x ∷ [])
    ∙ or_comm (list_any p (reverse xs)) (p x || list_any p [])
    ∙ (λ i. or-false (p x) i || any_reverse p xs i)

-- a row whose depth is right, where no row that it closes lacks a child, is put within those that stay
pub opened_placed : (os : Open) (xs ys : List Places) (d c : ℕ) → reverse (seen xs) ≡ os → ys ≡ take d xs → wrong_depth os d ≡ false → list_any lacking (closing os d) ≡ false → opened os d c ≡ placed (reverse (seen ys)) c
opened_placed os xs ys d c e f right full =
    cond-false _ _ _ (λ i. right i || full i)
    ∙ ap (λ (o : Open). placed o c) (ap (λ o. staying o d) (sym e) ∙ staying_take (seen xs) d ∙ ap reverse (take-map slots d xs ∙ ap seen (sym f)))

-- what the stack tests of the rows that it closes
pub lacks_closing : (os : Open) (xs : List Places) (d : ℕ) → reverse (seen xs) ≡ os → list_any (λ x. lacking (slots x)) (drop d xs) ≡ list_any lacking (closing os d)
lacks_closing os xs d e =
    sym (any_map slots lacking (drop d xs)) ∙ sym (ap (λ o. list_any lacking (closing o d)) (sym e) ∙ ap (list_any lacking) (closing_drop (seen xs) d ∙ ap reverse (drop-map slots d xs)) ∙ any_reverse lacking (seen (drop d xs)))
