-- Tables in which identifiers without a name were named, one after another. Assumes nothing.
use Rattle.std.specs.Prelude.{◌≡◌, ℕ, ◌<◌, ◌⊎◌, List, [], ◌∷◌, ◌++◌, length}
use Rattle.hir.specs.declared.tables.JournalRow.{JournalRow}
use Rattle.hir.specs.Environments.{Model, tag_of, tagged, journaled}
use Rattle.hir.specs.Scratches.{Tables}
use Rattle.hir.specs.Lists.{Each}
use Rattle.hir.specs.Sound.{Sound, Known}

-- the identifiers of the journal rows, in their order, each without a name until then, got the tag 2 or 3
pub data Named (m : Model) : List JournalRow → Model → Type 0 where
  none : Named m [] m
  more : {js : List JournalRow} {t : Model} (r : JournalRow) (tag : ℕ) → Named m js t → Known t r.identifier → tag_of t r.identifier.0 ≡ 0 → (tag ≡ 2) ⊎ (tag ≡ 3) → t.count < length t.journal → Named m (js ++ r ∷ []) (journaled (tagged t r.identifier.0 tag) r)

-- some identifiers were named, and scratch is as large as it was
pub record Grows (b t : Tables) : Type 0 where
  pub rows : List JournalRow
  pub named : Named b.env rows t.env
  pub work : length t.notes.work ≡ length b.notes.work
  pub marks : length t.notes.marks ≡ length b.notes.marks
  pub trail : length t.notes.trail ≡ length b.notes.trail

-- a pass can do these acts: the tables are sound, and each act speaks of what has a row; no type holds it, since it is of lent tables, and each function asks it of other acts
pub record Ready {A : Type 0} (Fits : Model → A → Type 0) (t : Tables) (todo : List A) : Type 0 where
  pub sound : Sound t
  pub fits : Each (Fits t.env) todo
