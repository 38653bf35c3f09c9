-- The check's answer is a verdict. Assumes nothing.
use Rattle.std.proofs.Common.{◌≡◌, ℕ, suc, ◌<◌, List, [], ◌∷◌, get_or, Ok, Err, Result, sym, ap, ◌∙◌, subst}
use Rattle.image.specs.declared.fault.RowFault.{RowFault}
use Rattle.image.specs.Format.{Content, Image, FirstFault}
use Rattle.image.specs.Steps.{passed}
use Rattle.image_check.specs.Steps.{image_at}
use Rattle.image_check.specs.Verdicts.{Verdict}
use Rattle.image_check.proofs.Exact.{AllBytes}
use Rattle.image_check.proofs.Whole.{TellsImage, image_sound, image_finds, image_meets}

-- the bytes of a slice are bytes
pub all_bytes : (bs : List ℕ) → ((i : ℕ) → get_or bs i 0 < 256) → AllBytes bs
all_bytes [] h = tt
all_bytes (b ∷ bs) h = (h 0, all_bytes bs (λ i. h (suc i)))

module _ (bs : List ℕ) where
  passed_image : (r : Result (List Content) RowFault) → TellsImage bs r → passed r ≡ Ok tt → Image bs
  passed_image (Ok cs) t e = record { contents = cs; ordered = t.0; bytes = t.1 }
  passed_image (Err f) t e = absurd (cc)

  fault_first : (r : Result (List Content) RowFault) → TellsImage bs r → (f : RowFault) → passed r ≡ Err f → FirstFault bs f
  fault_first (Ok cs) t f e = absurd (cc)
  fault_first (Err g) t f e = let same : g ≡ f = cc in subst (FirstFault bs) same t

  pub verdict : AllBytes bs → (r : Result (Unit {0}) RowFault) → passed (image_at bs) ≡ r → Verdict bs r
  verdict h r e = record {
    passes = λ ok. passed_image (image_at bs) (image_sound bs h) (e ∙ ok);
    every = λ i. sym e ∙ ap passed (ap image_at i.bytes ∙ image_finds i.contents i.ordered);
    faults = λ f err. fault_first (image_at bs) (image_sound bs h) f (e ∙ err);
    first = λ f t. sym e ∙ ap passed (image_meets bs f t);
  }

pub is_same : (r s : Result (Unit {0}) RowFault) → Rattle.image.specs.Steps.Is (λ v. v) r s → s ≡ r
is_same (Ok tt) s e = e
is_same (Err f) s e = e
