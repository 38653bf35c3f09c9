-- The numbers of reasons. Assumes nothing.
use Rattle.std.specs.Prelude.{ℕ}
use Rattle.hir.specs.declared.tables.Reason.{Reason}
use Rattle.hir.specs.declared.tables.Reason.TheVariants as reasons

-- the number by which a reason is told, from 1 to 6; the rows of 2, 3 and 4 stand mixed in a journal
abbrev pub reason_number : Reason → ℕ
reason_number reasons.OwnParameter = 1
reason_number reasons.Scope = 2
reason_number reasons.Escape = 3
reason_number reasons.InnerParameter = 4
reason_number reasons.Interposed = 5
reason_number reasons.SameDeclaration = 6
