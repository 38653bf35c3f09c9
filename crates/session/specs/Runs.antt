-- What a session lends, how it begins, and what its runs answer. Assumes nothing.
use Rattle.std.specs.Prelude.{◌≡◌, ℕ, ◌+◌, ◌/◌, List, length, max, min, Result}
use Rattle.std.specs.List.{fold}
use Rattle.hir.specs.declared.refusal.Refusal.{Refusal}
use Rattle.hir.specs.declared.span.Span.{Span}
use Rattle.hir.specs.Environments.{Model}
use Rattle.hir.specs.Refusals.{answered, unless}
use Rattle.hir.specs.Scratches.{Notes}
use Rattle.reactive.specs.Rows.{Row}
use Rattle.checks.specs.Rows.{run_refusal}
use Rattle.reasons.specs.Coverings.{journal}
use Rattle.image_tables.specs.declared.tables.Panel.{Panel}
use Rattle.image_tables.specs.declared.tables.Tables.{Tables}
use Rattle.session.specs.declared.session.Session.{Session}

-- the tables with the session's journal
abbrev pub environment : Session → Tables → Model
environment s t = record {
  identifiers = t.identifiers.items;
  scopes = t.scopes.items;
  functions = t.functions.items;
  pool = t.pool.items;
  journal = s.journal.items;
  count = s.count;
}

-- the scratch that a session lends to its next run, with what earlier runs noted
abbrev pub scratch : Session → Notes
scratch s = record { work = s.work.items; marks = s.marks.items; trail = s.trail.items }

-- the bytes of the longest tree
abbrev pub longest : List Panel → ℕ
longest ps = fold (λ n p. max n (length p.content.now)) 0 ps

-- no journal row is in use; there are as many journal rows and as many work rows as identifiers, as many marks as functions, and a trail row for each row that the longest tree can have: a row takes 23 bytes at least, and a run refuses a tree of more than 262,144
pub record Begun (t : Tables) (s : Session) : Type 0 where
  pub count : s.count ≡ 0
  pub journal : length s.journal.items ≡ length t.identifiers.items
  pub work : length s.work.items ≡ length t.identifiers.items
  pub marks : length s.marks.items ≡ length t.functions.items
  pub trail : length s.trail.items ≡ min (longest t.panels.items / 23) 262144

-- the refusal of a run over these rows, or the place of its first new journal row and their count
abbrev pub run_answer : Model → Notes → Span → List Row → Result (ℕ × ℕ) Refusal
run_answer m n ps rows = answered (run_refusal m n ps rows) (m.count, length (journal m ps rows))

-- how many journal rows are in use after it
abbrev pub count_after : Model → Notes → Span → List Row → ℕ
count_after m n ps rows = unless (run_refusal m n ps rows) m.count (m.count + length (journal m ps rows))
