-- Lists of calls, moment by moment. Assumes nothing.
use Rattle.std.specs.Prelude.{◌≡◌, ℕ, ◌<◌, ◌≤◌, ◌⊎◌, List, [], ◌∷◌, length, Ok, Err, Result, slice_index_or, slice_set}
use Rattle.hir.specs.declared.ids.IdentifierId.{IdentifierId}
use Rattle.hir.specs.declared.refusal.Refusal.{Refusal}
use Rattle.hir.specs.declared.span.Span.{Span}
use Rattle.hir.specs.Environments.{Model}
use Rattle.hir.specs.Scratches.{Notes}
use Rattle.reactive.specs.Rows.{Reading, at_place, rewound}
use Rattle.calls.specs.declared.requests.Request.{Request}
use Rattle.calls.specs.declared.requests.Request.TheVariants.{Run, Give, Look, Spell}
use Rattle.calls.specs.declared.requests.Reply.{Reply}
use Rattle.calls.specs.declared.requests.Reply.TheVariants.{Ran, Given, Tag, Length}
use Rattle.calls.specs.declared.requests.RequestError.{RequestError}
use Rattle.calls.specs.declared.requests.RequestError.TheVariants.{Refused, NoTree}
use Rattle.calls.specs.Steps.{Text, GiveStep, LookStep, SpellStep, RunStep}

-- what a request got
abbrev pub RequestAnswer : Type 0
RequestAnswer = Result Reply RequestError

-- all that a list of calls can alter: the environment, scratch, the trees' sources, the text buffer
pub record World : Type 0 where
  pub env : Model
  pub notes : Notes
  pub trees : List Reading
  pub text : List ℕ

-- the world of an environment, scratch, what the trees' sources stand for, and the text buffer
abbrev pub world : Model → Notes → List Reading → List ℕ → World
world m n ts b = record { env = m; notes = n; trees = ts; text = b }

-- one call: the world before it, what was asked and answered, the world after it
pub record Moment : Type 0 where
  pub before : World
  pub request : Request
  pub answer : RequestAnswer
  pub after : World

-- the source of tree t; one without rows, where no tree has that number
abbrev pub tree_at : World → ℕ → Reading
tree_at w t = slice_index_or w.trees t (at_place [] 0)

-- the answer of a call as that of a request: what `reply` makes of it, or its refusal
abbrev pub told_as : {X : Type 0} → (X → Reply) → Result X Refusal → RequestAnswer
told_as reply (Ok x) = Ok (reply x)
told_as reply (Err r) = Err (Refused r)

-- the answer of a run: it holds the place of the first new journal row and their count where it is accepted
abbrev pub ran_as : Result (ℕ × ℕ) Refusal → RequestAnswer
ran_as = told_as (λ p. Ran p.0 p.1)

-- the answer of a gift, as the answer of a request, which holds nothing more where it is accepted
abbrev pub given_as : Result (Unit {0}) Refusal → RequestAnswer
given_as = told_as (λ u. Given)

-- the answer of a look, as the answer of a request, which holds the tag where it is accepted
abbrev pub looked_as : Result ℕ Refusal → RequestAnswer
looked_as = told_as Tag

-- the answer of a spelling, as the answer of a request, which holds the length of the name where it is accepted
abbrev pub spelled_as : Result ℕ Refusal → RequestAnswer
spelled_as = told_as Length

-- a run over a tree that is there: that tree's source is rewound, in every case
pub record RunFollows (w : World) (t : ℕ) (ps : Span) (a : RequestAnswer) (v : World) : Type 0 where
  pub answer : Result (ℕ × ℕ) Refusal
  pub told : a ≡ ran_as answer
  pub step : RunStep w.env w.notes ps (tree_at w t).rows answer v.env v.notes
  pub trees : v.trees ≡ slice_set w.trees t (rewound (tree_at w t))
  pub text : v.text ≡ w.text

-- a gift, accepted or refused: it alters nothing but the environment, and that as its step says
pub record GiveFollows (w : World) (i : IdentifierId) (a : RequestAnswer) (v : World) : Type 0 where
  pub answer : Result (Unit {0}) Refusal
  pub told : a ≡ given_as answer
  pub step : GiveStep w.env i answer v.env
  pub rest : v ≡ world v.env w.notes w.trees w.text

-- a look, accepted or refused: it answers as its step says, and alters nothing
pub record LookFollows (w : World) (i : IdentifierId) (a : RequestAnswer) (v : World) : Type 0 where
  pub answer : Result ℕ Refusal
  pub told : a ≡ looked_as answer
  pub step : LookStep w.env i answer
  pub rest : v ≡ w

-- a spelling, accepted or refused: it alters nothing but the text buffer, and that as its step says
pub record SpellFollows (text : Text) (w : World) (i : IdentifierId) (a : RequestAnswer) (v : World) : Type 0 where
  pub answer : Result ℕ Refusal
  pub told : a ≡ spelled_as answer
  pub step : SpellStep text w.env i w.text answer v.text
  pub rest : v ≡ world w.env w.notes w.trees v.text

-- the tree asked for is there and the run follows, or it is not there and nothing is done
pub data TreeFollows (w : World) (t : ℕ) (ps : Span) (a : RequestAnswer) (v : World) : Type 0 where
  there : t < length w.trees → RunFollows w t ps a v → TreeFollows w t ps a v
  nowhere : length w.trees ≤ t → a ≡ Err NoTree → v ≡ w → TreeFollows w t ps a v

-- a call follows from the world before it, by the relation that its own contract states
abbrev pub Follows : Text → World → Request → RequestAnswer → World → Type 0
Follows text w (Run t ps) a v = TreeFollows w t ps a v
Follows text w (Give i) a v = GiveFollows w i a v
Follows text w (Look i) a v = LookFollows w i a v
Follows text w (Spell i) a v = SpellFollows text w i a v

-- the moments lead from one world to another
pub data History (text : Text) : World → List Moment → World → Type 0 where
  start : {w : World} → History text w [] w
  next : {w u : World} {ms : List Moment} (m : Moment) → m.before ≡ w → Follows text m.before m.request m.answer m.after → History text m.after ms u → History text w (m ∷ ms) u

-- at some moment
abbrev pub Somewhere : (Moment → Type 0) → List Moment → Type 0
Somewhere P [] = ⊥
Somewhere P (m ∷ ms) = P m ⊎ Somewhere P ms

-- the moments have these requests and answers, as many as both lists have: what is over in either is neither made nor asked for
abbrev pub Told : List Request → List RequestAnswer → List Moment → Type 0
Told [] answers ms = ms ≡ []
Told (q ∷ qs) [] ms = ms ≡ []
Told (q ∷ qs) (a ∷ answers) [] = ⊥
Told (q ∷ qs) (a ∷ answers) (m ∷ ms) = (m.request ≡ q) × (m.answer ≡ a) × Told qs answers ms
