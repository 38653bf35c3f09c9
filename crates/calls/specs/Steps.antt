-- What one call answers and leaves. Assumes nothing.
use Rattle.std.specs.Prelude.{◌≡◌, ℕ, ◌+◌, ◌≤◌, Bool, false, cond, ◌||◌, ◌⊎◌, List, ◌++◌, length, drop, Some, None, Ok, Err, Option, Result, ◌==◌, nat_le, nat_lt}
use Rattle.hir.specs.declared.ids.IdentifierId.{IdentifierId}
use Rattle.hir.specs.declared.refusal.Refusal.{Refusal}
use Rattle.hir.specs.declared.refusal.Refusal.TheVariants as refusals
use Rattle.hir.specs.declared.span.Span.{Span}
use Rattle.hir.specs.declared.tables.JournalRow.{JournalRow}
use Rattle.hir.specs.Environments.{Model, row_of, tag_of, declaration_of, journal_of, tagged}
use Rattle.hir.specs.Lists.{Each}
use Rattle.hir.specs.Refusals.{refused_if, answered, unless}
use Rattle.hir.specs.Scratches.{Notes}
use Rattle.hir.specs.Sound.{Known}
use Rattle.reactive.specs.Rows.{Row}
use Rattle.naming.specs.declared.letter.Letter.{Letter}
use Rattle.naming.specs.declared.letter.Letter.TheVariants.{Lower, Upper}
use Rattle.naming.specs.Texts.{write_refusal, overwritten}
use Rattle.checks.specs.Tables.{many_identifiers}
use Rattle.checks.specs.Rows.{run_refusal}
use Rattle.reasons.specs.Coverings.{journal, ran}
use Rattle.reasons.specs.Journals.{names}
use Rattle.reasons.specs.Laws.{Once}

-- an identifier without a row
abbrev pub absent : Model → IdentifierId → Bool
absent m i = nat_le (length m.identifiers) i.0

-- give tests the limit of identifiers, then that the identifier is there, then that it has no name
abbrev pub give_refusal : Model → IdentifierId → Option Refusal
give_refusal m i =
    refused_if (many_identifiers m) refusals.Limit
    (refused_if (absent m i) refusals.Absent
    (cond (tag_of m i.0 == 0) None (Some refusals.Named)))

-- an accepted gift sets the tag 1, and nothing else
pub record GiveStep (m : Model) (i : IdentifierId) (answer : Result (Unit {0}) Refusal) (after : Model) : Type 0 where
  pub answers : answer ≡ answered (give_refusal m i) tt
  pub leaves : after ≡ unless (give_refusal m i) m (tagged m i.0 1)

-- look tests the limit of identifiers, then that the identifier is there
abbrev pub look_refusal : Model → IdentifierId → Option Refusal
look_refusal m i = refused_if (many_identifiers m) refusals.Limit (refused_if (absent m i) refusals.Absent None)

-- an accepted look answers the tag
pub record LookStep (m : Model) (i : IdentifierId) (answer : Result ℕ Refusal) : Type 0 where
  pub answers : answer ≡ answered (look_refusal m i) (tag_of m i.0)

-- the texts of a naming
abbrev pub Text : Type 0
Text = Letter → ℕ → List ℕ

-- the letter of a promoted name's tag: T for 3, and t for 2 as for any other number
abbrev pub letter_of : ℕ → Letter
letter_of tag = cond (tag == 3) Upper Lower

-- the promoted name: the text of the tag's letter and the declaration number
abbrev pub promoted_name : Text → Model → IdentifierId → List ℕ
promoted_name text m i = text (letter_of (tag_of m i.0)) (declaration_of m i.0)

-- spell tests the limit, that the identifier is there, its row, that its name is a promoted one, then the buffer
abbrev pub spell_refusal : Text → Model → IdentifierId → List ℕ → Option Refusal
spell_refusal text m i buffer =
    refused_if (many_identifiers m) refusals.Limit
    (refused_if (absent m i) refusals.Absent
    (refused_if (nat_le (length m.identifiers) (declaration_of m i.0) || nat_lt 3 (tag_of m i.0)) refusals.Row
    (refused_if (nat_lt (tag_of m i.0) 2) refusals.NotPromoted
    (write_refusal (promoted_name text m i) buffer))))

-- an accepted spelling writes the promoted name, answers its length, and leaves the rest of the buffer
pub record SpellStep (text : Text) (m : Model) (i : IdentifierId) (buffer : List ℕ) (answer : Result ℕ Refusal) (after : List ℕ) : Type 0 where
  pub answers : answer ≡ answered (spell_refusal text m i buffer) (length (promoted_name text m i))
  pub leaves : after ≡ unless (spell_refusal text m i buffer) buffer (overwritten (promoted_name text m i) buffer)

-- what an accepted run did, by the journal rows that it added
pub record Names (m : Model) (rows : List JournalRow) (after : Model) : Type 0 where
  -- the rows are of identifiers that had no name, each once, and those now have the tag 2 or 3
  pub unnamed : Each (λ r. Known m r.identifier × (tag_of m r.identifier.0 ≡ 0)) rows
  pub once : Once rows
  pub promoted : Each (λ r. (tag_of after r.identifier.0 ≡ 2) ⊎ (tag_of after r.identifier.0 ≡ 3)) rows
  -- the other identifiers are as they were, and so is every declaration
  pub others : (i : ℕ) → names i rows ≡ false → row_of after i ≡ row_of m i
  pub declarations : (i : ℕ) → declaration_of after i ≡ declaration_of m i
  pub identifiers : length after.identifiers ≡ length m.identifiers
  -- the rows stand behind those that were in the journal
  pub journal : journal_of after ≡ journal_of m ++ rows
  pub count : after.count ≡ m.count + length rows
  pub within : m.count + length rows ≤ length m.journal
  pub beyond : drop after.count after.journal ≡ drop after.count m.journal
  pub size : length after.journal ≡ length m.journal
  -- nothing else of the environment changed
  pub scopes : after.scopes ≡ m.scopes
  pub functions : after.functions ≡ m.functions
  pub pool : after.pool ≡ m.pool

-- scratch is lent, so a run cannot alter how much there is
pub record SameSize (n after : Notes) : Type 0 where
  pub work : length after.work ≡ length n.work
  pub marks : length after.marks ≡ length n.marks
  pub trail : length after.trail ≡ length n.trail

-- an accepted run journals, of each identifier without a name, its first covering; it answers the place of the first row and their count
pub record RunAccepted (m : Model) (ps : Span) (rows : List Row) (answer : Result (ℕ × ℕ) Refusal) (after : Model) : Type 0 where
  pub answers : answer ≡ Ok (m.count, length (journal m ps rows))
  pub env : after ≡ ran m ps rows
  pub names_them : Names m (journal m ps rows) after

-- a refused run leaves names, journal and scratch as they were
pub record RunRefused (m : Model) (n : Notes) (r : Refusal) (answer : Result (ℕ × ℕ) Refusal) (after : Model) (notes : Notes) : Type 0 where
  pub answers : answer ≡ Err r
  pub env : after ≡ m
  pub scratch : notes ≡ n

-- a run over these rows is refused exactly when a condition for it holds
pub record RunStep (m : Model) (n : Notes) (ps : Span) (rows : List Row) (answer : Result (ℕ × ℕ) Refusal) (after : Model) (notes : Notes) : Type 0 where
  pub accepted : run_refusal m n ps rows ≡ None → RunAccepted m ps rows answer after
  pub refused : (r : Refusal) → run_refusal m n ps rows ≡ Some r → RunRefused m n r answer after notes
  pub sizes : SameSize n notes
