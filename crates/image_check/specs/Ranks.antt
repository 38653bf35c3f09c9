-- The numbers of ranks. Assumes nothing.
use Rattle.std.specs.Prelude.{ℕ, max, Some, None, Option}
use Rattle.image_check.specs.declared.rank.Rank.{Rank}
use Rattle.image_check.specs.declared.rank.Rank.TheVariants as ranks

-- the number of a rank, which is its place in the order I, S, F, T
abbrev pub rank_number : Rank → ℕ
rank_number ranks.Identifiers = 0
rank_number ranks.Scope = 1
rank_number ranks.Function = 2
rank_number ranks.Tree = 3

-- what may stand next behind a section of this rank, or first
abbrev pub stage_of : Option Rank → ℕ
stage_of None = 0
stage_of (Some r) = max 1 (rank_number r)
