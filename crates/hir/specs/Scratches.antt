-- What scratch holds. Assumes nothing.
use Rattle.std.specs.Prelude.{ℕ, Bool, false, List, length, replicate, slice_index_or, None}
use Rattle.hir.specs.declared.scratch.Work.{Work}
use Rattle.hir.specs.declared.scratch.Trail.{Trail}
use Rattle.hir.specs.declared.scratch.Scratch.{Scratch}
use Rattle.hir.specs.declared.environment.Environment.{Environment}
use Rattle.hir.specs.Environments.{Model, model}

-- what scratch holds: work rows, marks of functions, and trail rows
pub record Notes : Type 0 where
  pub work : List Work
  pub marks : List Bool
  pub trail : List Trail

-- what the slices that are lent as scratch hold now
abbrev pub noted : Scratch → Notes
noted s = record { work = s.work.now; marks = s.marks.now; trail = s.trail.now }

-- a work row in which nothing is noted
abbrev pub no_work : Work
no_work = record { tag = false; promoted = false; recorded = None; escaped = false; constant = false; global = false; tracked = None }

-- the trail row that is read where there is none: of scope 0, with no scope around it
abbrev pub no_trail : Trail
no_trail = record { scope = record { 0 = 0 }; link = None }

-- scratch in which nothing is noted; the trail keeps what it held, which no pass reads
abbrev pub blank : Notes → Notes
blank n = record { work = replicate (length n.work) no_work; marks = replicate (length n.marks) false; trail = n.trail }

-- the work row of an identifier or declaration number; one in which nothing is noted, where the number has no row
abbrev pub work_of : Notes → ℕ → Work
work_of n i = slice_index_or n.work i no_work

-- all that a run writes
pub record Tables : Type 0 where
  pub env : Model
  pub notes : Notes

-- an environment and scratch, as one value
abbrev pub both : Model → Notes → Tables
both m n = record { env = m; notes = n }

-- what environment and scratch hold now, as one value
abbrev pub tables : Environment → Scratch → Tables
tables e s = both (model e) (noted s)
