-- The promise over any list of calls. Assumes nothing.
use Rattle.std.specs.Prelude.{◌≡◌, ℕ, true, cond, ◌⊎◌, List, ◌∷◌, ◌++◌, length, Some, Ok, Err}
use Rattle.hir.specs.declared.refusal.Refusal.{Refusal}
use Rattle.hir.specs.declared.span.Span.{Span}
use Rattle.hir.specs.Environments.{row_of, tag_of, declaration_of, journal_of}
use Rattle.hir.specs.Spans.{ident}
use Rattle.calls.specs.declared.requests.Request.{Request}
use Rattle.calls.specs.declared.requests.Request.TheVariants.{Run, Look}
use Rattle.calls.specs.declared.requests.Reply.TheVariants.{Ran, Tag}
use Rattle.calls.specs.declared.requests.RequestError.TheVariants.{Refused}
use Rattle.naming.specs.Texts.{Lawful}
use Rattle.reasons.specs.Coverings as reasons
use Rattle.reasons.specs.Journals.{names}
use Rattle.reasons.specs.Laws.{Once}
use Rattle.calls.specs.Steps.{Text}
use Rattle.calls.specs.Histories.{RequestAnswer, World, Moment, tree_at, History, Somewhere, Told}
use Rattle.calls.specs.Words.{is_named, Gives, Journals, TagFollows, added, all_added, refusal_in, rewound_in, Within, Alike}

-- what holds of calls that led from the world w to the world u
pub record Promise (text : Text) (w : World) (ms : List Moment) (u : World) : Type 0 where
  -- each call follows from the world before it, by the relation of its own contract
  pub history : History text w ms u
  -- WHO IS NAMED
  -- named now: named at the start, given, or journalled
  pub named : (i : ℕ) → is_named u i ≡ true → (is_named w i ≡ true) ⊎ (Somewhere (Gives i) ms ⊎ Somewhere (Journals i) ms)
  pub start_named : (i : ℕ) → is_named w i ≡ true → is_named u i ≡ true
  pub gift_named : (i : ℕ) → Somewhere (Gives i) ms → is_named u i ≡ true
  pub run_named : (i : ℕ) → Somewhere (Journals i) ms → is_named u i ≡ true
  -- no identifier is in two of these groups, and none is journalled twice
  pub start_or_gift : (i : ℕ) → is_named w i ≡ true → Somewhere (Gives i) ms → ⊥
  pub start_or_run : (i : ℕ) → is_named w i ≡ true → Somewhere (Journals i) ms → ⊥
  pub gift_or_run : (i : ℕ) → Somewhere (Gives i) ms → Somewhere (Journals i) ms → ⊥
  pub once : Once (all_added ms)
  -- a name that stands at some moment never changes: in every world after it the identifier has the same tag and the same declaration
  pub stands : (before rest : List Moment) (m : Moment) (v : World) (i : ℕ) → ms ≡ before ++ (m ∷ rest) → Within rest u v → is_named m.before i ≡ true → row_of v.env i ≡ row_of m.before.env i
  -- an identifier that a run journals gets the letter of its declaration: the tag 3 where that is one of a JSX tag in the tree, and else 2
  pub letter : (before rest : List Moment) (m : Moment) (i : ℕ) → ms ≡ before ++ (m ∷ rest) → (j : Journals i m) → tag_of m.after.env i ≡ cond (reasons.upper m.before.env (tree_at m.before j.tree).rows (declaration_of m.before.env i)) 3 2
  -- the tags now follow from the calls, and an accepted look answers the tag that follows from the calls before it
  pub tags : (i : ℕ) → TagFollows w ms i (tag_of u.env i)
  pub looks : (before rest : List Moment) (m : Moment) (i t : ℕ) → ms ≡ before ++ (m ∷ rest) → m.request ≡ Look (ident i) → m.answer ≡ Ok (Tag t) → TagFollows w before i t
  -- WHAT IS JOURNALLED, AND WHAT REFUSED
  -- each accepted run journals exactly the unnamed identifiers that a reason covers at its moment, in the order of their coverings, under the first
  pub covered : (before rest : List Moment) (m : Moment) (t : ℕ) (ps : Span) (place count : ℕ) → ms ≡ before ++ (m ∷ rest) → m.request ≡ Run t ps → m.answer ≡ Ok (Ran place count) → added m ≡ reasons.journal m.before.env ps (tree_at m.before t).rows
  -- an accepted run answers the place of its first journal row, and how many it added
  pub answered : (before rest : List Moment) (m : Moment) (place count : ℕ) → ms ≡ before ++ (m ∷ rest) → m.answer ≡ Ok (Ran place count) → (place ≡ m.before.env.count) × (count ≡ length (added m))
  -- no other call adds a row
  pub adds : (before rest : List Moment) (m : Moment) (i : ℕ) → ms ≡ before ++ (m ∷ rest) → names i (added m) ≡ true → Journals i m
  -- the journal is what it was at the start, and then the rows of the accepted runs in their order
  pub journal : journal_of u.env ≡ journal_of w.env ++ all_added ms
  -- a call is refused exactly when a condition for it holds at its moment, with that number
  pub refused : (before rest : List Moment) (m : Moment) (r : Refusal) → ms ≡ before ++ (m ∷ rest) → m.answer ≡ Err (Refused r) → refusal_in text m.before m.request ≡ Some r
  pub refuses : (before rest : List Moment) (m : Moment) (r : Refusal) → ms ≡ before ++ (m ∷ rest) → refusal_in text m.before m.request ≡ Some r → m.answer ≡ Err (Refused r)
  -- no call alters a declaration, a scope, a function or the pool
  pub declarations : (i : ℕ) → declaration_of u.env i ≡ declaration_of w.env i
  pub tables : (u.env.scopes ≡ w.env.scopes) × (u.env.functions ≡ w.env.functions) × (u.env.pool ≡ w.env.pool)
  -- a refused call touches nothing but a run's source, which is rewound
  pub untouched : (before rest : List Moment) (m : Moment) (r : Refusal) → ms ≡ before ++ (m ∷ rest) → m.answer ≡ Err (Refused r) → m.after ≡ rewound_in m.before m.request
  -- HOW NAMES ARE SPELLED
  -- two identifiers that one run named are both spelled in every world after it, and alike exactly when their declarations are equal, under every naming that keeps the law
  pub alike : (before rest : List Moment) (m : Moment) (v : World) (i j : ℕ) → ms ≡ before ++ (m ∷ rest) → Within rest u v → Journals i m → Journals j m → (naming : Text) → Lawful naming → Alike naming v.env i j

-- a list of requests was performed: the moments have these requests and answers, and the promise holds of them
pub record Performed (text : Text) (w : World) (requests : List Request) (answers : List RequestAnswer) (u : World) : Type 0 where
  pub moments : List Moment
  pub told : Told requests answers moments
  pub promise : Promise text w moments u

-- the promise for whoever makes the calls one by one: it holds of every list of calls that follow one another
abbrev pub EveryHistory : Type 0
EveryHistory = (text : Text) (w : World) (ms : List Moment) (u : World) → History text w ms u → Promise text w ms u
