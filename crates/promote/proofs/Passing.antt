-- A pass whose acts only name identifiers. Assumes nothing.
use Rattle.std.proofs.Common.{List, [], ◌∷◌}
use Rattle.hir.specs.Environments.{Model}
use Rattle.hir.specs.Lists.{Each}
use Rattle.std.specs.List.{fold}
use Rattle.hir.specs.Scratches.{Tables}
use Rattle.hir.specs.Sound.{Sound}
use Rattle.walk.proofs.Acting.{Splits}
pub use Rattle.walk.proofs.Fitting.{each_front}
use Rattle.promote.specs.Growth.{Grows, Ready}
use Rattle.promote.proofs.Growing.{Kept, kept, grows_none, grows_trans, sound_grows}

module _ {A : Type 0} (does : Tables → A → Tables) (Fits : Model → A → Type 0) (Fits-Kept : (m t : Model) → Kept m t → (a : A) → Fits m a → Fits t a) (grows_does : (t : Tables) (a : A) → Sound t → Fits t.env a → Grows t (does t a)) where
  each_kept : (m t : Model) → Kept m t → (todo : List A) → Each (Fits m) todo → Each (Fits t) todo
  each_kept m t k [] h = tt
  each_kept m t k (a ∷ todo) h = (Fits-Kept m t k a h.0, each_kept m t k todo h.1)

  pub ready_grows : (b t : Tables) (todo : List A) → Ready Fits b todo → Grows b t → Ready Fits t todo
  ready_grows b t todo r g = record { sound = sound_grows r.sound g; fits = each_kept b.env t.env (kept g.named) todo r.fits }

  pub splits : Splits does (Ready Fits)
  splits = record {
    front = λ t xs ys r. record { sound = r.sound; fits = each_front (Fits t.env) xs ys r.fits };
    back = λ t a more r. ready_grows t (does t a) more (record { sound = r.sound; fits = r.fits.1 }) (grows_does t a r.sound r.fits.0);
  }

  pub grows_over : (t : Tables) (todo : List A) → Ready Fits t todo → Grows t (fold does t todo)
  grows_over t [] r = grows_none t
  grows_over t (a ∷ todo) r = grows_trans (grows_does t a r.sound r.fits.0) (grows_over (does t a) todo (splits.back t a todo r))
