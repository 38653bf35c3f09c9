-- Which coverings a run journals. Assumes nothing.
use Rattle.std.specs.Prelude.{ℕ, Bool, cond, not, ◌||◌, List, [], ◌∷◌, ◌==◌, nat_eq}
use Rattle.hir.specs.declared.tables.JournalRow.{JournalRow}
use Rattle.hir.specs.Environments.{Model, tag_of, declaration_of, tagged, journaled}
use Rattle.std.specs.List.{fold, list_any}

-- some row is of the identifier
abbrev pub names : ℕ → List JournalRow → Bool
names i rows = list_any (λ r. nat_eq i r.identifier.0) rows

-- the identifier has a name, which any tag but 0 says; one without a row has none
abbrev pub is_named : Model → ℕ → Bool
is_named m i = not (tag_of m i == 0)

-- of each identifier without a name its first covering, in order
abbrev pub firsts : (ℕ → Bool) → List JournalRow → List JournalRow
firsts named [] = []
firsts named (r ∷ rows) = cond (named r.identifier.0) (firsts named rows) (r ∷ firsts (λ i. (i == r.identifier.0) || named i) rows)

-- some row is of an identifier of the declaration
abbrev pub declares : Model → List JournalRow → ℕ → Bool
declares m rows d = list_any (λ r. nat_eq (declaration_of m r.identifier.0) d) rows

-- an identifier gets its tag, 3 where its declaration has the letter T, and a journal row
abbrev pub name_one : (ℕ → Bool) → Model → JournalRow → Model
name_one upper m r = journaled (tagged m r.identifier.0 (cond (upper (declaration_of m r.identifier.0)) 3 2)) r

-- the identifiers of the rows are named in their order, with a journal row each
abbrev pub name_all : (ℕ → Bool) → Model → List JournalRow → Model
name_all upper m rows = fold (name_one upper) m rows
