-- One call in a list, from the contracts of the four, and one call more. Assumes nothing.
use Rattle.std.proofs.Common.{◌≡◌, ℕ, ◌+◌, ◌<◌, ◌≤◌, List, [], ◌∷◌, ◌++◌, map, length, get_or, take, drop, set, Result, sym, refl, ap, ◌∙◌, subst, arith}
use Rattle.std.proofs.lemmas.List.{length-map, map-set, get_or-map, take_more, take_more_set, drop-set-lt, drop-drop, length-take-le}
use Rattle.hir.specs.declared.refusal.Refusal.{Refusal}
use Rattle.hir.specs.declared.span.Span.{Span}
use Rattle.hir.specs.Environments.{Model}
use Rattle.hir.specs.Scratches.{Notes}
use Rattle.reactive.specs.Rows.{Reading, rewound, at_place}
use Rattle.calls.specs.declared.requests.Request.{Request}
use Rattle.calls.specs.declared.requests.Request.TheVariants.{Run}
use Rattle.calls.specs.Promise.{Performed}
use Rattle.calls.specs.Steps.{Text, RunStep}
use Rattle.calls.proofs.Promises.{promise}
use Rattle.calls.specs.Histories.{RequestAnswer, World, world, Moment, tree_at, ran_as, there, Follows, History, start, next, Told}

-- a run over a tree that is there
pub run_follows : {X : Type 0} (reading : X → Reading) (text : Text) (m : Model) (n : Notes) (ts : List X) (b : List ℕ) (q : Request) (t : ℕ) (ps : Span) (d x : X) (answer : Result (ℕ × ℕ) Refusal) (after : Model) (notes : Notes) (a : RequestAnswer) → q ≡ Run t ps → t < length ts → RunStep m n ps (reading (get_or ts t d)).rows answer after notes → reading x ≡ rewound (reading (get_or ts t d)) → a ≡ ran_as answer → Follows text (world m n (map reading ts) b) q a (world after notes (map reading (set ts t x)) b)
run_follows reading text m n ts b q t ps d x answer after notes a asked here step back told =
    let w = world m n (map reading ts) b in
    let v = world after notes (map reading (set ts t x)) b in
    let tree : tree_at w t ≡ reading (get_or ts t d) = get_or-map reading ts t d (at_place [] 0) here in
    let P : Reading → Type 0 = λ r. RunStep m n ps r.rows answer after notes in
    let Q : Request → Type 0 = λ z. Follows text w z a v in
    subst Q (sym asked)
    (there (omega (arith, length-map ts reading))
    (record {
      answer = answer;
      told = told;
      step = subst P (sym tree) step;
      trees = map-set reading ts t x ∙ ap (set (map reading ts) t) (back ∙ ap rewound (sym tree));
      text = refl;
    }))

pub history_push : (text : Text) (w u : World) (ms : List Moment) (m : Moment) → History text w ms u → m.before ≡ u → Follows text m.before m.request m.answer m.after → History text w (ms ++ m ∷ []) m.after
history_push text w u [] m start e f = next m e f start
history_push text w u (y ∷ ms) m (next x h k l) e f = next x h k (history_push text x.after u ms m l e f)

told_push : (qs : List Request) (rs : List RequestAnswer) (ms : List Moment) (m : Moment) → length qs ≡ length rs → Told qs rs ms → Told (qs ++ m.request ∷ []) (rs ++ m.answer ∷ []) (ms ++ m ∷ [])
told_push [] [] ms m e h = let P : List Moment → Type 0 = λ xs. Told (m.request ∷ []) (m.answer ∷ []) (xs ++ m ∷ []) in subst P (sym h) (refl, refl, refl)
told_push [] (r ∷ rs) ms m e h = absurd (omega arith)
told_push (q ∷ qs) [] ms m e h = absurd (omega arith)
told_push (q ∷ qs) (r ∷ rs) [] m e h = absurd h
told_push (q ∷ qs) (r ∷ rs) (x ∷ ms) m e h = (h.0, h.1, told_push qs rs ms m (omega arith) h.2)

-- i calls of a list were made
pub record Performing (text : Text) (w : World) (requests : List Request) (before answers : List RequestAnswer) (i : ℕ) (u : World) : Type 0 where
  pub moments : List Moment
  pub told : Told (take i requests) (take i answers) moments
  pub history : History text w moments u
  pub others : drop i answers ≡ drop i before

pub performing_none : (text : Text) (w : World) (requests : List Request) (answers : List RequestAnswer) → Performing text w requests answers answers 0 w
performing_none text w requests answers = record { moments = []; told = refl; history = start; others = refl }

pub performing_more : (text : Text) (w u v : World) (requests : List Request) (before answers : List RequestAnswer) (i : ℕ) (d : Request) (a : RequestAnswer) → i < length requests → i < length answers → Performing text w requests before answers i u → Follows text u (get_or requests i d) a v → Performing text w requests before (set answers i a) (i + 1) v
performing_more text w u v requests before answers i d a low room p f =
    let m : Moment = record { before = u; request = get_or requests i d; answer = a; after = v } in
    let same : length (take i requests) ≡ length (take i answers) = length-take-le i requests (omega arith) ∙ sym (length-take-le i answers (omega arith)) in
    record {
      moments = p.moments ++ m ∷ [];
      told =
          let Q : List Request → Type 0 = λ qs. Told qs (take (i + 1) (set answers i a)) (p.moments ++ m ∷ []) in
          let R : List RequestAnswer → Type 0 = λ rs. Told (take i requests ++ get_or requests i d ∷ []) rs (p.moments ++ m ∷ []) in
          subst Q (sym (take_more requests i d low)) (subst R (sym (take_more_set answers i a room)) (told_push (take i requests) (take i answers) p.moments m same p.told));
      history = history_push text w u p.moments m p.history refl f;
      others = drop-set-lt (i + 1) answers i a (omega arith) ∙ sym (drop-drop 1 i answers) ∙ ap (drop 1) p.others ∙ drop-drop 1 i before;
    }

-- the calls that were made keep the promise
pub performed : (text : Text) (w u : World) (requests : List Request) (before answers : List RequestAnswer) (i n : ℕ) → i ≡ n → Performing text w requests before answers i u → Performed text w (take n requests) (take n answers) u
performed text w u requests before answers i n e p =
    let P : ℕ → Type 0 = λ k. Performed text w (take k requests) (take k answers) u in
    subst P e (record { moments = p.moments; told = p.told; promise = promise text w p.moments u p.history })
