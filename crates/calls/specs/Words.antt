-- The words of the promise: what holds of a moment, and of moments one after another. Assumes nothing.
use Rattle.std.specs.Prelude.{◌≡◌, ℕ, ◌≤◌, Bool, true, cond, ◌⊎◌, List, [], ◌∷◌, ◌++◌, length, drop, None, Ok, Option, nat_lt, slice_set}
use Rattle.hir.specs.declared.refusal.Refusal.{Refusal}
use Rattle.hir.specs.declared.span.Span.{Span}
use Rattle.hir.specs.declared.tables.JournalRow.{JournalRow}
use Rattle.hir.specs.Environments.{Model, tag_of, declaration_of, journal_of}
use Rattle.hir.specs.Spans.{ident}
use Rattle.reactive.specs.Rows.{rewound}
use Rattle.checks.specs.Rows.{run_refusal}
use Rattle.reasons.specs.Journals.{names}
use Rattle.reasons.specs.Journals as journals
use Rattle.calls.specs.declared.requests.Request.{Request}
use Rattle.calls.specs.declared.requests.Request.TheVariants.{Run, Give, Look, Spell}
use Rattle.calls.specs.declared.requests.Reply.TheVariants.{Ran, Given}
use Rattle.calls.specs.Steps.{Text, give_refusal, look_refusal, spell_refusal, SpellStep}
use Rattle.calls.specs.Histories.{World, world, Moment, tree_at, Somewhere}

-- the identifier has a name in this world, which any tag but 0 says; one without a row has none
abbrev pub is_named : World → ℕ → Bool
is_named w i = journals.is_named w.env i

-- an accepted gift to identifier i
abbrev pub Gives : ℕ → Moment → Type 0
Gives i m = (m.request ≡ Give (ident i)) × (m.answer ≡ Ok Given)

-- the journal rows that a moment added
abbrev pub added : Moment → List JournalRow
added m = drop m.before.env.count (journal_of m.after.env)

-- an accepted run that journals identifier i, and so names it
pub record Journals (i : ℕ) (m : Moment) : Type 0 where
  pub tree : ℕ
  pub parameters : Span
  pub place : ℕ
  pub count : ℕ
  pub asked : m.request ≡ Run tree parameters
  pub accepted : m.answer ≡ Ok (Ran place count)
  pub journalled : names i (added m) ≡ true

-- the same, and identifier i has the tag t after it
abbrev pub JournalsAs : ℕ → ℕ → Moment → Type 0
JournalsAs i t m = Journals i m × (tag_of m.after.env i ≡ t)

-- the tag of i that follows from calls: 1 by an accepted gift, 2 or 3 by the run that journals it, else as at the start
pub data TagFollows (w : World) (ms : List Moment) (i t : ℕ) : Type 0 where
  by_gift : Somewhere (Gives i) ms → t ≡ 1 → TagFollows w ms i t
  by_run : Somewhere (JournalsAs i t) ms → (t ≡ 2) ⊎ (t ≡ 3) → TagFollows w ms i t
  by_start : (Somewhere (Gives i) ms → ⊥) → (Somewhere (Journals i) ms → ⊥) → t ≡ tag_of w.env i → TagFollows w ms i t

-- the journal rows of all moments, in their order
abbrev pub all_added : List Moment → List JournalRow
all_added [] = []
all_added (m ∷ ms) = added m ++ all_added ms

-- the refusal that a request meets in a world: that of its call, and none where no tree has the number asked for, since then no call is made
abbrev pub refusal_in : Text → World → Request → Option Refusal
refusal_in text w (Run t ps) = cond (nat_lt t (length w.trees)) (run_refusal w.env w.notes ps (tree_at w t).rows) None
refusal_in text w (Give i) = give_refusal w.env i
refusal_in text w (Look i) = look_refusal w.env i
refusal_in text w (Spell i) = spell_refusal text w.env i w.text

-- the world in which the source of the run that was asked for is rewound, and all else is as it was
abbrev pub rewound_in : World → Request → World
rewound_in w (Run t ps) = world w.env w.notes (slice_set w.trees t (rewound (tree_at w t))) w.text
rewound_in w (Give i) = w
rewound_in w (Look i) = w
rewound_in w (Spell i) = w

-- a world before one of these moments, or the world u to which they lead
abbrev pub Within : List Moment → World → World → Type 0
Within ms u v = Somewhere (λ m. v ≡ m.before) ms ⊎ (v ≡ u)

-- identifier i is spelled as these bytes: into every buffer with room for them they are written, and nothing behind them, and their number is answered
abbrev pub SpelledAs : Text → Model → ℕ → List ℕ → Type 0
SpelledAs naming m i bytes = (buffer : List ℕ) → length bytes ≤ length buffer → SpellStep naming m (ident i) buffer (Ok (length bytes)) (bytes ++ drop (length bytes) buffer)

-- i and j are spelled alike, with equal lengths and equal bytes, exactly when their declarations are equal
pub record Alike (naming : Text) (m : Model) (i j : ℕ) : Type 0 where
  pub name : List ℕ
  pub other : List ℕ
  pub spelled : SpelledAs naming m i name
  pub other_spelled : SpelledAs naming m j other
  pub same : declaration_of m i ≡ declaration_of m j → name ≡ other
  pub apart : name ≡ other → declaration_of m i ≡ declaration_of m j
