-- What one turn over sections keeps. Assumes nothing.
use Rattle.std.proofs.Common.{◌≡◌, ℕ, zero, suc, ◌+◌, ◌<◌, true, List, ◌∷◌, length, Ok, Err, Result, refl, ap, ◌∙◌, arith}
use Rattle.std.proofs.lemmas.Bool.{cond-true}
use Rattle.image.specs.declared.fault.SectionFault.{SectionFault}
use Rattle.image.specs.declared.fault.RowFault.{RowFault}
use Rattle.image.specs.Bytes.{Place}
use Rattle.image.specs.Format.{Content, after}
use Rattle.image.specs.Steps.{and_then, in_row, passed, version_at}
use Rattle.image_check.specs.Steps.{staged, goes_on, one_at, sections_by, image_at}
use Rattle.image.proofs.Turns.{passed_made}

-- of the image bs, the sections at q are left to check
pub record Ahead (bs : List ℕ) (stage : ℕ) (q : Place) : Type 0 where
  pub most : ℕ
  pub enough : length q.1 < most
  pub same : passed (image_at bs) ≡ passed (sections_by most stage q)

-- what comes of the version byte
abbrev on_version : List ℕ → Result Place SectionFault → Result (List Content) RowFault
on_version bs r = and_then (in_row r) (λ p. sections_by (length bs + 1) 0 p)

pub begin : (bs : List ℕ) (p : Place) → version_at bs ≡ Ok p → length p.1 < length bs → Ahead bs 0 p
begin bs p is less = record { most = length bs + 1; enough = omega arith; same = ap (λ x. passed (on_version bs x)) is }

-- what comes of the first section
abbrev on_section : ℕ → Result (Content × Place) RowFault → Result (List Content) RowFault
on_section n r = and_then r (λ v. and_then (sections_by n (after v.0) v.1) (λ cs. Ok (v.0 ∷ cs)))

staged_ok : (n : ℕ) (r : Result (Content × Place) RowFault) (next : ℕ) (q : Place) → staged r ≡ Ok (next, q) → passed (on_section n r) ≡ passed (sections_by n next q)
staged_ok n (Ok v) next q e =
    let k : ◌≡◌ {A = ℕ × Place} (after v.0, v.1) (next, q) = cc in
    passed_made (sections_by n (after v.0) v.1) (λ cs. v.0 ∷ cs) ∙ ap (λ (w : ℕ × Place). passed (sections_by n w.0 w.1)) k
staged_ok n (Err f) next q e = absurd (cc)

staged_err : (n : ℕ) (r : Result (Content × Place) RowFault) (f : RowFault) → staged r ≡ Err f → passed (on_section n r) ≡ Err f
staged_err n (Ok v) f e = absurd (cc)
staged_err n (Err g) f e = cc

step : (bs : List ℕ) (stage : ℕ) (q : Place) (m : ℕ) → length q.1 < m → passed (image_at bs) ≡ passed (sections_by m stage q) → goes_on stage q ≡ true → (n : ℕ) × (m ≡ suc n) × (passed (image_at bs) ≡ passed (on_section n (one_at stage q)))
step bs stage q zero lt same go = absurd (omega arith)
step bs stage q (suc n) lt same go = (n, refl, same ∙ ap passed (cond-true _ _ _ go))

pub turn : (bs : List ℕ) (stage : ℕ) (q : Place) (next : ℕ) (r : Place) → Ahead bs stage q → goes_on stage q ≡ true → staged (one_at stage q) ≡ Ok (next, r) → length r.1 < length q.1 → Ahead bs next r
turn bs stage q next r s go is less =
    let t = step bs stage q s.most s.enough s.same go in
    record { most = t.0; enough = omega (arith, t.1, s.enough); same = t.2 ∙ staged_ok t.0 (one_at stage q) next r is }

pub stop : (bs : List ℕ) (stage : ℕ) (q : Place) (e : RowFault) → Ahead bs stage q → goes_on stage q ≡ true → staged (one_at stage q) ≡ Err e → passed (image_at bs) ≡ Err e
stop bs stage q e s go is =
    let t = step bs stage q s.most s.enough s.same go in
    t.2 ∙ staged_err t.0 (one_at stage q) e is
