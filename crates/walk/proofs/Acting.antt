-- A pass as a list of acts. Assumes nothing.
use Rattle.std.proofs.Common.{◌≡◌, List, [], ◌∷◌, ◌++◌, map, sym, refl, ap, ◌∙◌, subst}
use Rattle.std.proofs.lemmas.List.Sums.{fold-append}
use Rattle.std.specs.List.{fold}
use Rattle.hir.specs.Scratches.{Tables}
use Rattle.walk.specs.Events.{Whole, whole, Event, Allowed, acting, on_tables, acts_of}

-- what acts need, as far as it splits: the first part of a list, and what is left after one act
pub record Splits {W A : Type 0} (does : W → A → W) (Ready : W → List A → Type 0) : Type 0 where
  pub front : (w : W) (xs ys : List A) → Ready w (xs ++ ys) → Ready w xs
  pub back : (w : W) (a : A) (more : List A) → Ready w (a ∷ more) → Ready (does w a) more

module _ {W A : Type 0} (does : W → A → W) (Ready : W → List A → Type 0) (splits : Splits does Ready) where
  pub ready_over : (w : W) (xs ys : List A) → Ready w (xs ++ ys) → Ready (fold does w xs) ys
  ready_over w [] ys r = r
  ready_over w (x ∷ xs) ys r = ready_over (does w x) xs ys (splits.back w x (xs ++ ys) r)

  -- the same where the state after the first part is known by an equation
  pub ready_onward : (w v : W) (xs ys : List A) → Ready w (xs ++ ys) → v ≡ fold does w xs → Ready v ys
  ready_onward w v xs ys r e = let P : W → Type 0 = λ x. Ready x ys in subst P (sym e) (ready_over w xs ys r)

  pub over_onward : (w v t : W) (xs ys : List A) → v ≡ fold does w xs → t ≡ fold does v ys → t ≡ fold does w (xs ++ ys)
  over_onward w v t xs ys e f = f ∙ ap (λ x. fold does x ys) e ∙ sym (fold-append does w xs ys)

  module _ {K : Type 0} (acts : Event K → List A) where
    pub acting_over : (es : List (Event K)) (w : W) → fold (acting does acts) w es ≡ fold does w (acts_of acts es)
    acting_over [] w = refl
    acting_over (e ∷ es) w = acting_over es (fold does w (acts e)) ∙ sym (fold-append does w (acts e) (acts_of acts es))

    pub acting_allowed : (es : List (Event K)) (w : W) → Ready w (acts_of acts es) → Allowed (λ v e. Ready v (acts e)) (acting does acts) w es
    acting_allowed [] w r = tt
    acting_allowed (e ∷ es) w r =
        (splits.front w (acts e) (acts_of acts es) r, acting_allowed es (fold does w (acts e)) (ready_over w (acts e) (acts_of acts es) r))

  -- the elements of a list before `rest` had their act
  pub record Doing {X : Type 0} (f : X → A) (start at : W) (xs rest : List X) : Type 0 where
    pub same : fold does start (map f xs) ≡ fold does at (map f rest)
    pub ready : Ready at (map f rest)

  pub doing_none : {X : Type 0} (f : X → A) (start : W) (xs : List X) → Ready start (map f xs) → Doing f start start xs xs
  doing_none f start xs r = record { same = refl; ready = r }

  module _ {X : Type 0} (f : X → A) (start at : W) (xs rest : List X) (x : X) (more : List X) (inv : Doing f start at xs rest) (here : rest ≡ x ∷ more) where
    pub doing_ready : Ready at (f x ∷ map f more)
    doing_ready = let P : List X → Type 0 = λ ys. Ready at (map f ys) in subst P here inv.ready

    pub doing_more : (on : W) → on ≡ does at (f x) → Doing f start on xs more
    doing_more on e =
        let P : W → Type 0 = λ w. Doing f start w xs more in
        subst P (sym e) (record { same = inv.same ∙ ap (λ ys. fold does at (map f ys)) here; ready = splits.back at (f x) _ doing_ready })

-- a pass whose visitor stays as it is
module _ {V K A : Type 0} (does : Tables → A → Tables) (Ready : Tables → List A → Type 0) (splits : Splits does Ready) (acts : Event K → List A) where
  pub tables_over : (es : List (Event K)) (w : Whole V) → fold (on_tables does acts) w es ≡ whole w.visitor (fold does w.tables (acts_of acts es))
  tables_over [] w = refl
  tables_over (e ∷ es) w =
      tables_over es (on_tables does acts w e)
      ∙ ap (λ t. whole w.visitor t) (sym (fold-append does w.tables (acts e) (acts_of acts es)))

  pub tables_allowed : (es : List (Event K)) (w : Whole V) → Ready w.tables (acts_of acts es) → Allowed (λ v e. Ready v.tables (acts e)) (on_tables does acts) w es
  tables_allowed [] w r = tt
  tables_allowed (e ∷ es) w r = (
    splits.front w.tables (acts e) (acts_of acts es) r,
    tables_allowed es (on_tables does acts w e) (ready_over does Ready splits w.tables (acts e) (acts_of acts es) r),
  )
