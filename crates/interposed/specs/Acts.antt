-- The acts of the third pass on the tables. Assumes nothing.
use Rattle.std.specs.Prelude.{ℕ, ◌+◌, ◌^◌, ◌<◌, Bool, true, false, cond, not, ◌&&◌, ◌||◌, List, [], ◌∷◌, Some, None, Option, nat_lt}
use Rattle.hir.specs.declared.ids.IdentifierId.{IdentifierId}
use Rattle.hir.specs.declared.scratch.Work.{Work}
use Rattle.hir.specs.declared.tables.Reason.TheVariants as reasons
use Rattle.hir.specs.Environments.{Model}
use Rattle.hir.specs.Lists.{Each}
use Rattle.hir.specs.Packed.{epoch_of}
use Rattle.hir.specs.Scratches.{both, work_of}
use Rattle.hir.specs.Sound.{Sound, Known}
use Rattle.walk.specs.Events.{Whole, whole}
use Rattle.promote.specs.Identifier.{is_unnamed, promote_if, with_work}
use Rattle.interposed.specs.declared.acts.PromoteInterposed.{PromoteInterposed}

-- what a row does to identifiers, in order
pub data Act : Type 0 where
  uses : IdentifierId → Act
  fixes : IdentifierId → Act
  loads : IdentifierId → IdentifierId → Act
  takes : IdentifierId → IdentifierId → Act
  global : IdentifierId → Act
  barrier : Option IdentifierId → Act
  tracks : IdentifierId → Act

-- the third pass, which keeps the epoch, with the tables that it writes
abbrev pub State : Type 0
State = Whole PromoteInterposed

-- the epoch that the pass is in: it goes up by one at each barrier
abbrev pub epoch : State → ℕ
epoch w = w.visitor.epoch

-- the work row of an identifier; one in which nothing is noted, where there is none
abbrev pub work : State → IdentifierId → Work
work w i = work_of w.tables.notes i.0

-- the work row of an identifier is set
abbrev pub noting : State → IdentifierId → Work → State
noting w i x = whole w.visitor (both w.tables.env (with_work w.tables.notes i.0 x))

-- the identifier has no name at this moment; one without a row has none either
abbrev pub nameless : State → IdentifierId → Bool
nameless w i = is_unnamed w.tables.env i

-- an identifier that is constant if b holds, and else constant only if it was
abbrev pub as_constant : Bool → Work → Work
as_constant b x = record { tag = x.tag; promoted = x.promoted; recorded = x.recorded; escaped = x.escaped; constant = x.constant || b; global = x.global; tracked = x.tracked }

-- an identifier that is global if b holds, and else global only if it was
abbrev pub as_global : Bool → Work → Work
as_global b x = record { tag = x.tag; promoted = x.promoted; recorded = x.recorded; escaped = x.escaped; constant = x.constant; global = x.global || b; tracked = x.tracked }

-- an identifier that was last tracked in epoch e, whatever epoch was noted before; epochs count from 1, and epoch 0 notes none
abbrev pub as_tracked : ℕ → Work → Work
as_tracked e x = record { tag = x.tag; promoted = x.promoted; recorded = x.recorded; escaped = x.escaped; constant = x.constant; global = x.global; tracked = epoch_of e }

-- in an epoch before this one
abbrev pub is_before : ℕ → Option ℕ → Bool
is_before e None = false
is_before e (Some t) = nat_lt t e

-- tracked, with a barrier since
abbrev pub exposed : ℕ → Work → Bool
exposed e x = is_before e x.tracked

-- a use names what is unnamed, not constant and exposed
abbrev pub found : State → IdentifierId → Bool
found w i = nameless w i && (not (work w i).constant && exposed (epoch w) (work w i))

-- a barrier is raised: a new epoch begins, and the tables stay
abbrev pub raised : State → State
raised w = whole (record { epoch = epoch w + 1 }) w.tables

-- what an act does to the epoch and the tables, where names are those of this moment
abbrev pub does : State → Act → State
does w (uses i) = whole w.visitor (promote_if (found w i) reasons.Interposed w.tables i)
does w (fixes i) = noting w i (as_constant true (work w i))
does w (loads l i) = cond (nameless w l) (noting w l (as_tracked (epoch w) (as_constant (work w i).constant (work w l)))) w
does w (takes l i) =
    noting w l
    (cond (nameless w l) (as_tracked (epoch w) (as_constant (work w i).global (as_global (work w i).global (work w l))))
    (as_constant (work w i).global (as_global (work w i).global (work w l))))
does w (global l) = noting w l (as_global true (work w l))
does w (barrier None) = raised w
does w (barrier (Some l)) = cond (nameless w l) w (raised w)
does w (tracks l) = cond (nameless w l) (noting w l (as_tracked (epoch w) (work w l))) w

-- where there is an identifier, it has a row
abbrev pub KnownIf : Model → Option IdentifierId → Type 0
KnownIf m None = Unit {0}
KnownIf m (Some i) = Known m i

-- an act speaks of identifiers that have a row
abbrev pub Fits : Model → Act → Type 0
Fits m (uses i) = Known m i
Fits m (fixes i) = Known m i
Fits m (loads l i) = Known m l × Known m i
Fits m (takes l i) = Known m l × Known m i
Fits m (global l) = Known m l
Fits m (barrier l) = KnownIf m l
Fits m (tracks l) = Known m l

-- how often a barrier may be raised
abbrev pub barriers : List Act → ℕ
barriers [] = 0
barriers (uses i ∷ more) = barriers more
barriers (fixes i ∷ more) = barriers more
barriers (loads l i ∷ more) = barriers more
barriers (takes l i ∷ more) = barriers more
barriers (global l ∷ more) = barriers more
barriers (barrier l ∷ more) = 1 + barriers more
barriers (tracks l ∷ more) = barriers more

-- the acts can be done, and the epoch does not wrap; no type holds it, since it is of lent tables, and each function asks it of other acts
pub record Ready (w : State) (todo : List Act) : Type 0 where
  pub sound : Sound w.tables
  pub fits : Each (Fits w.tables.env) todo
  pub low : epoch w + barriers todo < 2 ^ 32
