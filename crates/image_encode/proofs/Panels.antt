-- Panels that are written one behind the other. Assumes nothing.
use Rattle.std.proofs.Common.{◌≡◌, ℕ, zero, suc, ◌+◌, ◌^◌, ◌<◌, ◌≤◌, List, [], ◌∷◌, ◌++◌, length, get_or, map, take, set, Ok, Err, Result, IfErr, sym, refl, ap, ◌∙◌, subst, add-one, arith}
use Rattle.std.proofs.lemmas.List.{take_more, take_all, map-append, map-set, length-map}
use Rattle.std.proofs.Math.ListN.{get_or-map}
use Rattle.std.proofs.Math.Seq.{map-set_same}
use Rattle.hir.specs.Lists.{Each}
use Rattle.hir.specs.Spans.{part}
use Rattle.reactive.specs.Rows.{Reading}
use Rattle.image.specs.Layouts.{numbers}
use Rattle.image.specs.Format.{of_tree, row, section}
use Rattle.image_tables.specs.Tables.{Within}
use Rattle.image_encode.specs.declared.fault.EncodeFault.{EncodeFault}
use Rattle.image_encode.specs.declared.fault.EncodeFault.TheVariants.{Unfit}
use Rattle.image_encode.specs.declared.panel.Panel.{Panel}
use Rattle.image_encode.specs.Panels.{Lent, lent, lent_rewound, lent_rows, lent_says, panel_says, PutTree, PutTrees}
use Rattle.image_encode.specs.Trees.{TreeOf, NoTree}
use Rattle.image_encode.specs.Fits.{PanelFits}
use Rattle.image_encode.specs.Puts.{PutAll}
use Rattle.image_encode.proofs.Nesting.{one_tree}
use Rattle.image_encode.proofs.Putting.{put_end, each_more, each_all, each_at}

-- the first n are rewound
abbrev pub rewound_first : ℕ → List Lent → List Lent
rewound_first zero ls = ls
rewound_first (suc n) [] = []
rewound_first (suc n) (l ∷ ls) = lent_rewound l ∷ rewound_first n ls

rewound_rows : (n : ℕ) (ls : List Lent) → map lent_rows (rewound_first n ls) ≡ map lent_rows ls
rewound_rows zero ls = refl
rewound_rows (suc n) [] = refl
rewound_rows (suc n) (l ∷ ls) = ap (λ k. lent_rows l ∷ k) (rewound_rows n ls)

rewound_all : (n : ℕ) (ls : List Lent) → length ls ≤ n → rewound_first n ls ≡ map lent_rewound ls
rewound_all zero [] le = refl
rewound_all zero (l ∷ ls) le = absurd (omega arith)
rewound_all (suc n) [] le = refl
rewound_all (suc n) (l ∷ ls) le = ap (λ k. lent_rewound l ∷ k) (rewound_all n ls (omega arith))

rewound_not_yet : (n : ℕ) (ls : List Lent) (d : Lent) → get_or (rewound_first n ls) n d ≡ get_or ls n d
rewound_not_yet zero ls d = refl
rewound_not_yet (suc n) [] d = refl
rewound_not_yet (suc n) (l ∷ ls) d = rewound_not_yet n ls d

rewound_one : (n : ℕ) (ls : List Lent) (d : Lent) → n < length ls → set (rewound_first n ls) n (lent_rewound (get_or ls n d)) ≡ rewound_first (suc n) ls
rewound_one n [] d lt = absurd (omega arith)
rewound_one zero (l ∷ ls) d lt = refl
rewound_one (suc n) (l ∷ ls) d lt = ap (λ k. lent_rewound l ∷ k) (rewound_one n ls d (omega arith))

-- the first n panels were written and are rewound, and the others are as they were
pub record Lending (pool : List ℕ) (first now : List Lent) (n : ℕ) (before after : List ℕ) : Type 0 where
  pub are : now ≡ rewound_first n first
  pub within : Each (λ (l : Lent). Within (length pool) l.0) (take n first)
  pub put : PutTrees pool (take n first) before after

pub lending_rows : (pool : List ℕ) (first now : List Lent) (n : ℕ) (before after : List ℕ) → Lending pool first now n before after → map lent_rows now ≡ map lent_rows first
lending_rows pool first now n before after l = ap (map lent_rows) l.are ∙ rewound_rows n first

pub lent_all : (pool : List ℕ) (first now : List Lent) (n : ℕ) (before after : List ℕ) → Lending pool first now n before after → length first ≤ n → (now ≡ map lent_rewound first) × Each (λ (l : Lent). Within (length pool) l.0) first × PutTrees pool first before after
lent_all pool first now n before after l le = (l.are ∙ rewound_all n first le, each_all (λ (l : Lent). Within (length pool) l.0) first n l.within le, subst (λ k. PutTrees pool k before after) (take_all n first le) l.put)

module _ (pool : List ℕ) (first now : List Lent) (n : ℕ) (before after : List ℕ) (inv : Lending pool first now n before after) (d : Lent) (low : n < length first) where
  is : get_or now n d ≡ get_or first n d
  is = ap (λ k. get_or k n d) inv.are ∙ rewound_not_yet n first d

  -- the panel at n is written and rewound
  pub lent_more : (on : List Lent) (l : Lent) (after' : List ℕ) → l ≡ get_or now n d → on ≡ set now n (lent_rewound l) → Within (length pool) l.0 → PutTree (lent_says pool l).0 (lent_says pool l).1 after after' → Lending pool first on (n + 1) before after'
  lent_more on l after' at e w p =
      let same : l ≡ get_or first n d = at ∙ is in
      record {
        are = e ∙ (λ i. set (inv.are i) n (lent_rewound (same i))) ∙ rewound_one n first d low ∙ ap (λ k. rewound_first k first) (sym (add-one n));
        within = each_more (λ (l : Lent). Within (length pool) l.0) first n d inv.within low (subst (λ (l : Lent). Within (length pool) l.0) same w);
        put = record {
          trees = inv.put.trees ++ (((lent_says pool l).0, p.tree) ∷ []);
          says =
              map-append panel_says inv.put.trees (((lent_says pool l).0, p.tree) ∷ [])
              ∙ (λ i. inv.put.says i ++ (((lent_says pool l).0, sym p.rows i) ∷ []))
              ∙ sym (map-append (lent_says pool) (take n first) (l ∷ []))
              ∙ ap (λ k. map (lent_says pool) (take n first ++ (k ∷ []))) same
              ∙ ap (map (lent_says pool)) (sym (take_more first n d low));
          put = subst (λ k. PutAll (section 3) k before after') (sym (map-append of_tree inv.put.trees (((lent_says pool l).0, p.tree) ∷ []))) (put_end (section 3) (map of_tree inv.put.trees) (of_tree ((lent_says pool l).0, p.tree)) before after after' inv.put.put p.put);
        };
      }

-- the same of panels over sources
module _ {S : Type 0} (reading : S → Reading) (pool : List ℕ) (firsts nows : List (Panel S)) (n : ℕ) (before after : List ℕ) (inv : Lending pool (map (lent reading) firsts) (map (lent reading) nows) n before after) where
  pub all_written : length firsts ≤ n → (map (lent reading) nows ≡ map lent_rewound (map (lent reading) firsts)) × Each (λ (l : Lent). Within (length pool) l.0) (map (lent reading) firsts) × PutTrees pool (map (lent reading) firsts) before after
  all_written le = lent_all pool (map (lent reading) firsts) (map (lent reading) nows) n before after inv (omega (arith, length-map firsts (lent reading)))

  module _ (d new : Panel S) (e : lent reading new ≡ lent_rewound (lent reading (get_or nows n d))) where
    on : map (lent reading) (set nows n new) ≡ set (map (lent reading) nows) n (lent_rewound (lent reading (get_or nows n d)))
    on = map-set (lent reading) nows n new ∙ ap (set (map (lent reading) nows) n) e

    pub panel_more : (after' : List ℕ) → n < length firsts → Within (length pool) (get_or nows n d).parameters × PutTree (part pool (get_or nows n d).parameters) (reading (get_or nows n d).tree).rows after after' → Lending pool (map (lent reading) firsts) (map (lent reading) (set nows n new)) (n + 1) before after'
    panel_more after' low p = lent_more pool (map (lent reading) firsts) (map (lent reading) nows) n before after inv (lent reading d) (omega (arith, length-map firsts (lent reading))) (map (lent reading) (set nows n new)) (lent reading (get_or nows n d)) after' (sym (get_or-map (lent reading) nows n d)) on p.0 p.1

    pub panel_rows : map lent_rows (map (lent reading) (set nows n new)) ≡ map lent_rows (map (lent reading) firsts)
    panel_rows =
        ap (map lent_rows) on
        ∙ map-set_same lent_rows (map (lent reading) nows) n (lent_rewound (lent reading (get_or nows n d))) (lent reading d) (ap lent_rows (sym (get_or-map (lent reading) nows n d)))
        ∙ lending_rows pool (map (lent reading) firsts) (map (lent reading) nows) n before after inv

    -- of the panels that were lent, the one at n fits where all do
    pub panel_fits : n < length firsts → Each (PanelFits pool) (map (lent reading) firsts) → PanelFits pool (lent reading (get_or nows n d))
    panel_fits low h =
        subst (PanelFits pool) (sym (sym (get_or-map (lent reading) nows n d) ∙ ap (λ k. get_or k n (lent reading d)) inv.are ∙ rewound_not_yet n (map (lent reading) firsts) (lent reading d)))
        (each_at (PanelFits pool) (map (lent reading) firsts) n (lent reading d) h (omega (arith, length-map firsts (lent reading))))

pub no_tree_no_fit : (pool : List ℕ) (l : Lent) → NoTree l.1.rows → PanelFits pool l → ⊥
no_tree_no_fit pool l never f = never ((row 128).write f.tree) (record { tree = f.tree; fine = f.fine.0.0.1; rows = f.rows; bytes = refl })

-- a section that is too long
pub long_no_fit : (pool : List ℕ) (l : Lent) (content bs : List ℕ) → TreeOf l.1.rows bs → content ≡ 84 ∷ (numbers.write (part pool l.0) ++ bs) → {X : Type 0} (r : Result X EncodeFault) → IfErr r (λ e. e ≡ Unfit → 2 ^ 32 ≤ length content) → IfErr r (λ e. e ≡ Unfit → PanelFits pool l → ⊥)
long_no_fit pool l content bs t is (Ok x) h = tt
long_no_fit pool l content bs t is (Err e) h = λ u f.
    let same : t.tree ≡ f.tree = one_tree 128 0 t.tree f.tree (sym t.rows ∙ f.rows) in
    let all : content ≡ 84 ∷ (numbers.write (part pool l.0) ++ (row 128).write f.tree) = is ∙ ap (λ k. 84 ∷ (numbers.write (part pool l.0) ++ k)) (t.bytes ∙ ap (row 128).write same) in
    omega (arith, h u, ap length all, f.fine.1)
