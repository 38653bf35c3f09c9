-- A step for each identifier of a list of the pool. Assumes nothing.
use Rattle.std.proofs.Common.{◌≡◌, ℕ, ◌+◌, ◌<◌, List, ◌∷◌, map, length, get_or, drop, sym, ap, ◌∙◌, subst}
use Rattle.std.proofs.lemmas.List.{drop_more}
use Rattle.hir.specs.declared.ids.IdentifierId.{IdentifierId}
use Rattle.hir.specs.declared.span.Span.{Span}
use Rattle.hir.specs.Lists.{Each}
use Rattle.std.specs.List.{fold}
use Rattle.hir.specs.Scratches.{Tables}
use Rattle.hir.specs.Sound.{Sound, Known, KnownIn}
use Rattle.hir.specs.Spans.{ident, identifiers_in}
use Rattle.promote.specs.Growth.{Grows}
use Rattle.promote.proofs.Growing.{grows_trans, grows_each, kept, known_in_kept, sound_grows}

-- i numbers of a list of the pool had their step
pub record Listed (f : Tables → IdentifierId → Tables) (start at : Tables) (ns : List ℕ) (i : ℕ) : Type 0 where
  pub same : fold f start (map ident ns) ≡ fold f at (map ident (drop i ns))
  pub sound : Sound at
  pub known : Each (Known at.env) (map ident (drop i ns))

module _ (f : Tables → IdentifierId → Tables) (one : (t : Tables) (i : IdentifierId) → Sound t → Known t.env i → Grows t (f t i)) (start at : Tables) (ns : List ℕ) (i : ℕ) (inv : Listed f start at ns i) (low : i < length ns) where
  here : map ident (drop i ns) ≡ ident (get_or ns i 0) ∷ map ident (drop (i + 1) ns)
  here = ap (map ident) (drop_more ns i 0 low)

  knows : Each (Known at.env) (ident (get_or ns i 0) ∷ map ident (drop (i + 1) ns))
  knows = subst (Each (Known at.env)) here inv.known

  pub listed_known : Known at.env (ident (get_or ns i 0))
  listed_known = knows.0

  pub listed_more : (on : Tables) → on ≡ f at (ident (get_or ns i 0)) → Listed f start on ns (i + 1)
  listed_more on e =
      let g = one at (ident (get_or ns i 0)) inv.sound listed_known in
      let P : ℕ → Type 0 = λ n. Each (λ (j : IdentifierId). j.0 < n) (map ident (drop (i + 1) ns)) in
      let Q : Tables → Type 0 = λ t. Listed f start t ns (i + 1) in
      subst Q (sym e) (record {
        same = inv.same ∙ ap (fold f at) here;
        sound = sound_grows inv.sound g;
        known = subst P (sym (kept g.named).size) knows.1;
      })

-- one list after others, all known from the start
module _ (f : Tables → IdentifierId → Tables) (one : (t : Tables) (i : IdentifierId) → Sound t → Known t.env i → Grows t (f t i)) (b at : Tables) (s : Sound b) (g : Grows b at) (list : Span) (h : KnownIn b.env list) where
  pub next_sound : Sound at
  next_sound = sound_grows s g

  pub next_known : KnownIn at.env list
  next_known = known_in_kept (kept g.named) list h

  pub next_grows : (on : Tables) → on ≡ fold f at (identifiers_in at.env.pool list) → Grows b on
  next_grows on e = grows_trans g (subst (Grows at) (sym e) (grows_each f one at _ next_sound next_known))

  pub next_same : (on : Tables) → on ≡ fold f at (identifiers_in at.env.pool list) → on ≡ fold f at (identifiers_in b.env.pool list)
  next_same on e = e ∙ ap (λ p. fold f at (identifiers_in p list)) (kept g.named).pool
