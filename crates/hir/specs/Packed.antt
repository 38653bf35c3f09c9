-- Options of numbers in one number, none at 0. Assumes nothing.
use Rattle.std.specs.Prelude.{ℕ, zero, suc, ◌+◌, ◌≡◌, Some, None, Option, refl}
use Rattle.std.proofs.Common.{ap, ◌∙◌, add-one}

-- the link that a number stands for: none at 0, else the trail row one below
abbrev pub link_of : ℕ → Option ℕ
link_of zero = None
link_of (suc j) = Some j

-- the number that stands for a link
abbrev pub of_link : Option ℕ → ℕ
of_link None = 0
of_link (Some j) = suc j

-- the recording that a number stands for: none at 0, else of the link one below
abbrev pub recording_of : ℕ → Option (Option ℕ)
recording_of zero = None
recording_of (suc n) = Some (link_of n)

-- the number that stands for a recording
abbrev pub of_recording : Option (Option ℕ) → ℕ
of_recording None = 0
of_recording (Some l) = of_link l + 1

-- the epoch that a number stands for: none at 0, since epochs count from 1
abbrev pub epoch_of : ℕ → Option ℕ
epoch_of zero = None
epoch_of (suc e) = Some (suc e)

-- the number that stands for an epoch
abbrev pub of_epoch : Option ℕ → ℕ
of_epoch None = 0
of_epoch (Some e) = e

-- each stands for what it was made of
pub link_back : (n : ℕ) → of_link (link_of n) ≡ n
link_back zero = refl
link_back (suc j) = refl

pub recording_back : (n : ℕ) → of_recording (recording_of n) ≡ n
recording_back zero = refl
recording_back (suc n) = ap (λ k. k + 1) (link_back n) ∙ add-one n

pub epoch_back : (n : ℕ) → of_epoch (epoch_of n) ≡ n
epoch_back zero = refl
epoch_back (suc e) = refl
