-- What naming an identifier does to the tables. Assumes nothing.
use Rattle.std.specs.Prelude.{ℕ, Bool, true, cond, ◌==◌, slice_set}
use Rattle.hir.specs.declared.ids.IdentifierId.{IdentifierId}
use Rattle.hir.specs.declared.scratch.Work.{Work}
use Rattle.hir.specs.declared.tables.JournalRow.{JournalRow}
use Rattle.hir.specs.declared.tables.Reason.{Reason}
use Rattle.hir.specs.Environments.{Model, tag_of, declaration_of, tagged, journaled}
use Rattle.hir.specs.Scratches.{Notes, Tables, both, work_of}

-- a declaration of which this run named an identifier
abbrev pub as_promoted : Work → Work
as_promoted w = record { tag = w.tag; promoted = true; recorded = w.recorded; escaped = w.escaped; constant = w.constant; global = w.global; tracked = w.tracked }

-- one work row is set
abbrev pub with_work : Notes → ℕ → Work → Notes
with_work n i w = record { work = slice_set n.work i w; marks = n.marks; trail = n.trail }

-- the tag of a name: 3 where the declaration is noted as that of a JSX tag, else 2
abbrev pub letter_tag : Notes → ℕ → ℕ
letter_tag n d = cond (work_of n d).tag 3 2

-- the journal row of an identifier that is named for this reason
abbrev pub row : IdentifierId → Reason → JournalRow
row i why = record { identifier = i; reason = why }

-- an identifier gets its tag and a journal row, and its declaration is noted as promoted
abbrev pub promoted : Reason → Tables → IdentifierId → Tables
promoted why t i =
    both (journaled (tagged t.env i.0 (letter_tag t.notes (declaration_of t.env i.0))) (row i why))
    (with_work t.notes (declaration_of t.env i.0) (as_promoted (work_of t.notes (declaration_of t.env i.0))))

-- the identifier has no name; one without a row has none either
abbrev pub is_unnamed : Model → IdentifierId → Bool
is_unnamed m i = tag_of m i.0 == 0

-- an identifier is promoted where a condition holds, and else nothing changes
abbrev pub promote_if : Bool → Reason → Tables → IdentifierId → Tables
promote_if b why t i = cond b (promoted why t i) t

-- an identifier is named for this reason if it has no name; else nothing changes
abbrev pub promote_unnamed : Reason → Tables → IdentifierId → Tables
promote_unnamed why t i = promote_if (is_unnamed t.env i) why t i
