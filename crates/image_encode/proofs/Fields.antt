-- A row and the fields that stand for it. Assumes nothing.
use Rattle.std.proofs.Common.{◌≡◌, ℕ, Bool, true, false, cond, not, ◌&&◌, eqb, List, [], ◌∷◌, map, Some, None, Option, sym, refl, ap, ◌∙◌}
use Rattle.std.proofs.lemmas.Bool.{cond-false, cond-true}
use Rattle.hir.specs.declared.ids.IdentifierId.{IdentifierId}
use Rattle.hir.specs.Spans.{ident}
use Rattle.reactive.specs.declared.row.Number.{Number}
use Rattle.reactive.specs.declared.row.Number.TheVariants as numbers
use Rattle.reactive.specs.Rows.{Row}
use Rattle.image.specs.Format.{Fields}
use Rattle.image_source.specs.Trees.{absent, identifier_of, number_kind, number_of, row_of}
use Rattle.reactive.specs.Codes.{has_scope}
use Rattle.image_encode.specs.Fields.{plain, identifier_word, number_word, fields_of, identifier_fits, number_fits, fits_in}

pub and_first : (a b : Bool) → a && b ≡ true → a ≡ true
and_first true b e = refl
and_first false b e = e

pub and_second : (a b : Bool) → a && b ≡ true → b ≡ true
and_second true b e = e
and_second false b e = absurd (cc)

pub not_true : (b : Bool) → not b ≡ true → b ≡ false
not_true true e = sym e
not_true false e = refl

identifier_back : (i : Option IdentifierId) → identifier_fits i ≡ true → identifier_of (identifier_word i) ≡ i
identifier_back None e = refl
identifier_back (Some i) e = cond-false _ _ _ (not_true (eqb i.0 absent) e)

number_back : (code : ℕ) (n : Option Number) → number_fits code n ≡ true → number_of code (number_word n) ≡ n
number_back code None e = refl
number_back code (Some (numbers.Scope s)) e =
    cond-false _ _ _ (not_true (eqb s.0 absent) (and_second (has_scope code) _ e))
    ∙ ap Some (cond-true _ _ _ (and_first (has_scope code) _ e))
number_back code (Some (numbers.Function f)) e =
    cond-false _ _ _ (not_true (eqb f.0 absent) (and_second (not (has_scope code)) _ e))
    ∙ ap Some (cond-false _ _ _ (not_true (has_scope code) (and_first (not (has_scope code)) _ e)))

list_back : (l : List IdentifierId) → map ident (map plain l) ≡ l
list_back [] = refl
list_back (x ∷ l) = ap (λ t. x ∷ t) (list_back l)

-- a row that fits is told by its fields
pub row_back : (r : Row) → fits_in r.code r.identifier r.number ≡ true → row_of r.depth (fields_of r) ≡ r
row_back r e =
    let i = identifier_back r.identifier (and_first (identifier_fits r.identifier) _ e) in
    let n = number_back r.code r.number (and_second (identifier_fits r.identifier) _ e) in
    λ k. record {
      depth = r.depth;
      code = r.code;
      identifier = i k;
      number = n k;
      kind = r.kind;
      mode = r.mode;
      operands = list_back r.operands k;
      marks = list_back r.marks k;
    }

identifier_fits_or_absent : (n : ℕ) (b : Bool) → eqb n absent ≡ b → identifier_fits (cond b None (Some (ident n))) ≡ true
identifier_fits_or_absent n true e = refl
identifier_fits_or_absent n false e = ap not e

kind_fits : (code n : ℕ) (s : Bool) → eqb n absent ≡ false → has_scope code ≡ s → number_fits code (Some (cond s (numbers.Scope (record { 0 = n })) (numbers.Function (record { 0 = n })))) ≡ true
kind_fits code n true e h = (λ i. h i && not (e i))
kind_fits code n false e h = (λ i. not (h i) && not (e i))

number_fits_or_absent : (code n : ℕ) (b : Bool) → eqb n absent ≡ b → number_fits code (cond b None (Some (number_kind code n))) ≡ true
number_fits_or_absent code n true e = refl
number_fits_or_absent code n false e = kind_fits code n (has_scope code) e refl

pub both_true : (a b : Bool) → a ≡ true → b ≡ true → a && b ≡ true
both_true a b e f = (λ i. e i && f i)

-- a row of an image fits
pub image_fits : (d : ℕ) (f : Fields) → fits_in f.0 (row_of d f).identifier (row_of d f).number ≡ true
image_fits d f = both_true _ _ (identifier_fits_or_absent f.1.0 (eqb f.1.0 absent) refl) (number_fits_or_absent f.0 f.1.1.0 (eqb f.1.1.0 absent) refl)
