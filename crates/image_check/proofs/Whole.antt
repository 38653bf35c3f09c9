-- Sections, and the whole image. Assumes nothing.
use Rattle.std.proofs.Common.{◌≡◌, ℕ, zero, suc, ◌+◌, ◌<◌, Bool, true, false, cond, not, ◌||◌, eqb, ltb, List, [], ◌∷◌, ◌++◌, length, Ok, Err, Result, sym, refl, ap, ◌∙◌, subst, arith, length-append, eqb-true}
use borrow.Author.Tests.{eqb-false}
use Rattle.std.proofs.lemmas.Bool.{cond-false, cond-true, eq-eqb, ne_eqb, le-ltb, ltb-false}
use Rattle.std.proofs.lemmas.Bool.Decides.{nat_tests}
use Rattle.image.specs.declared.fault.ByteFault.{ByteFault}
use Rattle.image.specs.declared.fault.SectionFault.{SectionFault}
use Rattle.image.specs.declared.fault.SectionFault.TheVariants.{Version, Letter, Left}
use Rattle.image.specs.declared.fault.RowFault.{RowFault}
use Rattle.image.specs.Bytes.{Place, past, next, u32_of, joined}
use Rattle.image.specs.Layouts.{Begins, Fills, letter, left}
use Rattle.image.specs.Format.{Content, of_identifiers, of_scope, of_function, of_tree, rank_of, letter_of, content_bytes, FineContent, rank_of_letter, due, after, LetteredFault, lettered, section, section_bytes, InOrder, SectionsFault, sections, image_bytes, Image, FirstFault}
use Rattle.image.specs.Format as format
use Rattle.image.specs.Steps.{and_then, in_section, in_row, missing, u8_at, part_at, Opened, lettered_at, section_at, closed_at, version_at}
use Rattle.image_check.specs.Steps.{content_at, spent_at, one_at, goes_on, sections_by, image_at}
use Rattle.image_check.proofs.Exact.{AllBytes, Exact, Tells, TellsAll, ExactAll, lifted, exact_same, none_left, positive, bytes_rest}
use Rattle.image_check.proofs.Leaves.{holder_at, exact_part, part_split}
use Rattle.image_check.proofs.Contents.{closing, content_read, TellsContent, content_sound, content_finds, content_meets}

-- a letter of no section is never due
not_due : (stage r : ℕ) → ltb r 4 ≡ false → due stage r ≡ false
not_due zero r e = ne_eqb r 0 (λ z. omega (arith, ltb-false r 4 e))
not_due (suc last) r e = grind (arith, nat_tests)

due_low : (stage r : ℕ) → due stage r ≡ true → r < 4
due_low zero r e = omega (arith, eqb-true r 0 e)
due_low (suc last) r e = grind (arith, nat_tests)

-- a rank has one letter
letter_of_rank : (c : Content) (l : ℕ) → rank_of c ≡ rank_of_letter l → l ≡ letter_of c
letter_of_rank (of_identifiers xs) l e = grind (arith, nat_tests)
letter_of_rank (of_scope x) l e = grind (arith, nat_tests)
letter_of_rank (of_function x) l e = grind (arith, nat_tests)
letter_of_rank (of_tree x) l e = grind (arith, nat_tests)

rank_of_its_letter : (c : Content) → rank_of_letter (letter_of c) ≡ rank_of c
rank_of_its_letter (of_identifiers xs) = refl
rank_of_its_letter (of_scope x) = refl
rank_of_its_letter (of_function x) = refl
rank_of_its_letter (of_tree x) = refl

-- a letter and content
module _ (stage : ℕ) where
  abbrev on_letter : ℕ → ℕ × Place → Result Content RowFault
  on_letter n w = cond (due stage (rank_of_letter w.0)) (content_read (rank_of_letter w.0) w.1) (Err (letter n))

  abbrev pub lettered_read : Place → Result Content RowFault
  lettered_read p = and_then (lifted u8_at p) (on_letter p.0)

  letter_there : (n b : ℕ) (bs : List ℕ) → lettered_read (n, b ∷ bs) ≡ on_letter n (b, (n + 1, bs))
  letter_there n b bs = ap (λ r. and_then (in_row (in_section r)) (on_letter n)) (cond-false _ _ _ (le-ltb (length (b ∷ bs)) 1 (omega arith)))

  lettered_content : (n b : ℕ) (bs : List ℕ) → due stage (rank_of_letter b) ≡ true → (r : Result Content RowFault) → TellsContent (rank_of_letter b) (n + 1, bs) r → TellsAll (lettered stage) (n, b ∷ bs) r
  lettered_content n b bs d (Ok c) t =
      let l = letter_of_rank c b t.2 in
      record { fine = (t.0, ap (due stage) t.2 ∙ d); bytes = λ i. l i ∷ t.1 i }
  lettered_content n b bs d (Err f) t = format.within (omega arith) d t

  lettered_test : (n b : ℕ) (bs : List ℕ) → AllBytes bs → (c : Bool) → due stage (rank_of_letter b) ≡ c → TellsAll (lettered stage) (n, b ∷ bs) (cond c (content_read (rank_of_letter b) (n + 1, bs)) (Err (letter n)))
  lettered_test n b bs h true e = lettered_content n b bs e (content_read (rank_of_letter b) (n + 1, bs)) (content_sound (rank_of_letter b) (n + 1, bs) (due_low stage (rank_of_letter b) e) h)
  lettered_test n b bs h false e = format.wrong (omega arith) e

  lettered_sound : (n : ℕ) (bs : List ℕ) → AllBytes bs → TellsAll (lettered stage) (n, bs) (lettered_read (n, bs))
  lettered_sound n [] h = format.none refl
  lettered_sound n (b ∷ bs) h = subst (TellsAll (lettered stage) (n, b ∷ bs)) (sym (letter_there n b bs)) (lettered_test n b bs h.1 (due stage (rank_of_letter b)) refl)

  lettered_finds : (c : Content) (p : Place) → Fills (lettered stage) c p → lettered_read p ≡ Ok c
  lettered_finds c p t =
      let r = rank_of_its_letter c in
      ap (λ bs. lettered_read (p.0, bs)) t.bytes
      ∙ letter_there p.0 (letter_of c) (content_bytes c)
      ∙ cond-true _ _ _ (ap (due stage) r ∙ t.fine.1)
      ∙ ap (λ k. content_read k (p.0 + 1, content_bytes c)) r
      ∙ content_finds c (p.0 + 1, content_bytes c) t.fine.0 refl

  meets_there : (n b : ℕ) (bs : List ℕ) (f : RowFault) (d : Bool) → due stage (rank_of_letter b) ≡ d → cond d (content_read (rank_of_letter b) (n + 1, bs)) (Err (letter n)) ≡ Err f → lettered_read (n, b ∷ bs) ≡ Err f
  meets_there n b bs f d e k = letter_there n b bs ∙ ap (λ x. cond x (content_read (rank_of_letter b) (n + 1, bs)) (Err (letter n))) e ∙ k

  lettered_meets : (n : ℕ) (bs : List ℕ) (f : RowFault) → LetteredFault stage (n, bs) f → lettered_read (n, bs) ≡ Err f
  lettered_meets n [] f (format.none z) = refl
  lettered_meets n [] f (format.wrong go d) = absurd (omega arith)
  lettered_meets n [] f (format.within go d t) = absurd (omega arith)
  lettered_meets n (b ∷ bs) f (format.none z) = absurd (omega arith)
  lettered_meets n (b ∷ bs) f (format.wrong go d) = meets_there n b bs f false d refl
  lettered_meets n (b ∷ bs) f (format.within go d t) = meets_there n b bs f true d (content_meets (rank_of_letter b) (n + 1, bs) f t)

  pub exact_lettered : ExactAll (lettered stage) lettered_read
  exact_lettered = record { sound = λ p h. lettered_sound p.0 p.1 h; finds = lettered_finds; meets = λ p f t. lettered_meets p.0 p.1 f t }

  -- a section is a holder of a letter and content

  abbrev paired : Place → Result Content RowFault → Result (Content × Place) RowFault
  paired q r = and_then r (λ c. Ok (c, q))

  close_paired : (b : Bool) (c : Content) (u q : Place) → and_then {Y = Content × Place} (in_row (cond b (Ok q) (Err (Left u.0)))) (λ s. Ok (c, s)) ≡ paired q (cond b (Ok c) (Err (left u.0)))
  close_paired true c u q = refl
  close_paired false c u q = refl

  spent_paired : (rank : ℕ) (bytes : List ℕ) (q : Place) (r : Result (Content × Place) RowFault) → and_then {Y = Content × Place} r (λ v. and_then (in_row (closed_at (record { section = record { rank = rank; bytes = bytes }; unread = v.1; behind = q }))) (λ s. Ok (v.0, s))) ≡ paired q (and_then r closing)
  spent_paired rank bytes q (Ok v) = close_paired (eqb (length v.1.1) 0) v.0 v.1 q
  spent_paired rank bytes q (Err f) = refl

  -- what comes of an open section, whose letter is at byte m
  abbrev on_open : ℕ → Opened → Result (Content × Place) RowFault
  on_open m o = cond (due stage o.section.rank) (spent_at o) (Err (letter m))

  open_due : (m n : ℕ) (w : ℕ × Place) (q : Place) (d : Bool) → n ≡ m → cond d (spent_at (record { section = record { rank = rank_of_letter w.0; bytes = w.1.1 }; unread = w.1; behind = q })) (Err (letter m)) ≡ paired q (cond d (content_read (rank_of_letter w.0) w.1) (Err (letter n)))
  open_due m n w q true e = spent_paired (rank_of_letter w.0) w.1.1 q (content_at (rank_of_letter w.0) w.1)
  open_due m n w q false e = ap (λ k. Err (letter k)) (sym e)

  open_known : (m n : ℕ) (w : ℕ × Place) (q : Place) (k : Bool) → n ≡ m → ltb (rank_of_letter w.0) 4 ≡ k → and_then (in_row (cond k (Ok (record { section = record { rank = rank_of_letter w.0; bytes = w.1.1 }; unread = w.1; behind = q })) (Err (Letter n)))) (on_open m) ≡ paired q (on_letter n w)
  open_known m n w q true e l = open_due m n w q (due stage (rank_of_letter w.0)) e
  open_known m n w q false e l = ap (λ d. paired q (cond d (content_read (rank_of_letter w.0) w.1) (Err (letter n)))) (sym (not_due stage (rank_of_letter w.0) l))

  open_lettered : (m : ℕ) (v : Place × Place) (r : Result (ℕ × Place) ByteFault) → v.0.0 ≡ m → and_then (in_row (and_then (in_section r) (λ w. lettered_at v.0.0 w.0 w.1 v.1))) (on_open m) ≡ paired v.1 (and_then (in_row (in_section r)) (on_letter v.0.0))
  open_lettered m v (Ok w) e = open_known m v.0.0 w v.1 (ltb (rank_of_letter w.0) 4) e refl
  open_lettered m v (Err f) e = refl

  open_part : (p : Place) (v : Place × Place) (b : Bool) → v.0.0 ≡ p.0 + 4 → and_then (in_row (and_then (in_section (cond b (Err (missing p.0)) (Ok v))) (λ u. and_then (in_section (u8_at u.0)) (λ w. lettered_at u.0.0 w.0 w.1 u.1)))) (on_open (p.0 + 4)) ≡ and_then (in_row (in_section (cond b (Err (missing p.0)) (Ok v)))) (λ u. paired u.1 (lettered_read u.0))
  open_part p v true e = refl
  open_part p v false e = open_lettered (p.0 + 4) v (u8_at v.0) e

  pub exact_section : Exact (section stage) (one_at stage)
  exact_section = exact_same (section stage) (one_at stage) (holder_at (lettered stage) lettered_read exact_lettered) (λ p. open_part p (next (u32_of p.1) (past 4 p), past (4 + u32_of p.1) p) (ltb (length p.1) (4 + u32_of p.1)) refl) (exact_part (lettered stage) lettered_read exact_lettered)

  -- a section has at least a byte
  pub section_shorter : (c : Content) (p q : Place) → Begins (section stage) c p q → length q.1 < length p.1
  section_shorter c p q t = omega (arith, ap length t.bytes, length-append (section_bytes c) q.1)

-- the section that bytes begin with is opened
pub record Found (c : Content) (p q : Place) (o : Opened) : Type 0 where
  pub rank : o.section.rank ≡ rank_of c
  pub bytes : o.section.bytes ≡ content_bytes c
  pub behind : o.behind ≡ q

abbrev found_open : Content → Place → Place → Opened
found_open c p q = record { section = record { rank = rank_of c; bytes = content_bytes c }; unread = (p.0 + 4 + 1, content_bytes c); behind = q }

letter_opens : (c : Content) (p q : Place) → lettered_at (p.0 + 4) (letter_of c) (p.0 + 4 + 1, content_bytes c) q ≡ Ok (found_open c p q)
letter_opens (of_identifiers xs) p q = refl
letter_opens (of_scope x) p q = refl
letter_opens (of_function x) p q = refl
letter_opens (of_tree x) p q = refl

lifted_part : (r : Result (Place × Place) ByteFault) (v : Place × Place) → in_row (in_section r) ≡ Ok v → in_section r ≡ Ok v
lifted_part (Ok x) v e = cc
lifted_part (Err f) v e = absurd (cc)

pub section_found : (stage : ℕ) (c : Content) (p q : Place) → Begins (section stage) c p q → section_at p ≡ Ok (found_open c p q)
section_found stage c p q t =
    let content : Place = (p.0 + 4, letter_of c ∷ content_bytes c) in
    let split = lifted_part (part_at p) (content, q) (part_split (lettered stage) c p q t) in
    ap (λ r. and_then {X = Place × Place} r (λ v. and_then (in_section (u8_at v.0)) (λ w. lettered_at v.0.0 w.0 w.1 v.1))) split
    ∙ ap (λ r. and_then (in_section r) (λ w. lettered_at (p.0 + 4) w.0 w.1 q)) (cond-false _ _ _ (le-ltb (length (letter_of c ∷ content_bytes c)) 1 (omega arith)))
    ∙ letter_opens c p q

pub open_found : (stage : ℕ) (c : Content) (p q : Place) (o : Opened) → Begins (section stage) c p q → section_at p ≡ Ok o → Found c p q o
open_found stage c p q o t e =
    let same : found_open c p q ≡ o = cc (section_found stage c p q t) in
    subst (Found c p q) same (record { rank = refl; bytes = refl; behind = refl })

-- sections to the end of the image

abbrev listed : Content → Result (List Content) RowFault → Result (List Content) RowFault
listed c r = and_then r (λ cs. Ok (c ∷ cs))

abbrev on_section : ℕ → Result (Content × Place) RowFault → Result (List Content) RowFault
on_section n r = and_then r (λ v. listed v.0 (sections_by n (after v.0) v.1))

abbrev SoundBy : ℕ → Type 0
SoundBy n = (stage : ℕ) (p : Place) → AllBytes p.1 → length p.1 < n → TellsAll (sections stage) p (sections_by n stage p)

sections_next : (stage : ℕ) (p : Place) (v : Content × Place) → Begins (section stage) v.0 p v.1 → (r : Result (List Content) RowFault) → TellsAll (sections (after v.0)) v.1 r → TellsAll (sections stage) p (listed v.0 r)
sections_next stage p v t (Ok cs) u = record { fine = (t.fine, u.fine); bytes = t.bytes ∙ ap (λ s. section_bytes v.0 ++ s) u.bytes }
sections_next stage p v t (Err f) u = format.later v.0 t u

-- where a section has come, there is more exactly where a byte is left
more_left : (last : ℕ) (p : Place) → goes_on (suc last) p ≡ not (eqb (length p.1) 0)
more_left last p = ap (λ b. b || not (eqb (length p.1) 0)) (ne_eqb (suc last) 0 (λ z. omega arith))

-- the fault of the next section is the first
sections_here : (stage : ℕ) (p : Place) (f : RowFault) → goes_on stage p ≡ true → (section stage).Fault p f → SectionsFault stage p f
sections_here zero p f go t = format.first t
sections_here (suc last) p f go t = format.here (positive _ (λ z. omega (arith, one_of go z))) t
  where
    one_of : goes_on (suc last) p ≡ true → length p.1 ≡ 0 → ◌≡◌ {A = ℕ} 0 1
    one_of go z = let e : goes_on (suc last) p ≡ false = more_left last p ∙ ap not (eq-eqb _ 0 z) in cc

sections_one : (n stage : ℕ) (p : Place) → AllBytes p.1 → length p.1 < suc n → SoundBy n → goes_on stage p ≡ true → (r : Result (Content × Place) RowFault) → Tells (section stage) p r → TellsAll (sections stage) p (on_section n r)
sections_one n stage p h lt rest go (Ok v) t = sections_next stage p v t (sections_by n (after v.0) v.1) (rest (after v.0) v.1 (bytes_rest (section stage) v.0 p v.1 t h) (omega (arith, section_shorter stage v.0 p v.1 t)))
sections_one n stage p h lt rest go (Err f) t = sections_here stage p f go t

sections_end : (stage : ℕ) (p : Place) → goes_on stage p ≡ false → Fills (sections stage) [] p
sections_end zero p go = absurd (cc)
sections_end (suc last) p go = record { fine = tt; bytes = none_left p.1 (eqb-true _ 0 (flip (eqb (length p.1) 0) (sym (more_left last p) ∙ go))) }
  where
    flip : (b : Bool) → not b ≡ false → b ≡ true
    flip true e = refl
    flip false e = absurd (cc)

sections_test : (n stage : ℕ) (p : Place) → AllBytes p.1 → length p.1 < suc n → SoundBy n → (b : Bool) → goes_on stage p ≡ b → TellsAll (sections stage) p (cond b (on_section n (one_at stage p)) (Ok []))
sections_test n stage p h lt rest true go = sections_one n stage p h lt rest go (one_at stage p) ((exact_section stage).sound p h)
sections_test n stage p h lt rest false go = sections_end stage p go

sections_sound : (n : ℕ) → SoundBy n
sections_sound zero stage p h lt = absurd (omega arith)
sections_sound (suc n) stage p h lt = sections_test n stage p h lt (sections_sound n) (goes_on stage p) refl

goes_on_within : (stage : ℕ) (p : Place) → 0 < length p.1 → goes_on stage p ≡ true
goes_on_within zero p lt = refl
goes_on_within (suc last) p lt = more_left last p ∙ ap not (ne_eqb (length p.1) 0 (λ z. omega arith))

sections_finds : (n : ℕ) (cs : List Content) (stage : ℕ) (p : Place) → length p.1 < n → InOrder cs stage → p.1 ≡ joined section_bytes cs → sections_by n stage p ≡ Ok cs
sections_finds zero cs stage p lt h e = absurd (omega arith)
sections_finds (suc n) [] zero p lt h e = absurd h
sections_finds (suc n) [] (suc last) p lt h e = cond-false _ _ _ (more_left last p ∙ ap not (eq-eqb (length p.1) 0 (ap length e)))
sections_finds (suc n) (c ∷ cs) stage p lt h e =
    let q : Place = (p.0 + length (section_bytes c), joined section_bytes cs) in
    let b : Begins (section stage) c p q = record { fine = h.0; bytes = e; end = refl } in
    let s = section_shorter stage c p q b in
    cond-true _ _ _ (goes_on_within stage p (omega arith))
    ∙ ap (on_section n) ((exact_section stage).finds c p q b)
    ∙ ap (listed c) (sections_finds n cs (after c) q (omega arith) h.1 refl)

sections_meets : (n stage : ℕ) (p : Place) (f : RowFault) → length p.1 < n → SectionsFault stage p f → sections_by n stage p ≡ Err f
sections_meets zero stage p f lt t = absurd (omega arith)
sections_meets (suc n) stage p f lt (format.first t) = ap (on_section n) ((exact_section 0).meets p f t)
sections_meets (suc n) stage p f lt (format.here {last = last} go t) = cond-true _ _ _ (goes_on_within (suc last) p go) ∙ ap (on_section n) ((exact_section (suc last)).meets p f t)
sections_meets (suc n) stage p f lt (format.later {q = q} c b t) =
    let s = section_shorter stage c p q b in
    cond-true _ _ _ (goes_on_within stage p (omega arith))
    ∙ ap (on_section n) ((exact_section stage).finds c p q b)
    ∙ ap (listed c) (sections_meets n (after c) q f (omega arith) t)

-- the version byte, and sections

abbrev on_version : ℕ → Result Place SectionFault → Result (List Content) RowFault
on_version n r = and_then (in_row r) (λ p. sections_by n 0 p)

pub version_there : (b : ℕ) (bs : List ℕ) → version_at (b ∷ bs) ≡ cond (eqb b 1) (Ok (1, bs)) (Err Version)
version_there b bs = ap (λ r. and_then (in_section r) (λ v. cond (eqb v.0 1) (Ok v.1) (Err Version))) (cond-false _ _ _ (le-ltb (length (b ∷ bs)) 1 (omega arith)))

-- an image of version 1
pub image_rest : (bs : List ℕ) → image_at (1 ∷ bs) ≡ sections_by (length (1 ∷ bs) + 1) 0 (1, bs)
image_rest bs = ap (on_version (length (1 ∷ bs) + 1)) (version_there 1 bs)

-- what an answer says of the image
abbrev pub TellsImage : List ℕ → Result (List Content) RowFault → Type 0
TellsImage bs (Ok cs) = InOrder cs 0 × (bs ≡ image_bytes cs)
TellsImage bs (Err f) = FirstFault bs f

tells_rest : (bs : List ℕ) (r : Result (List Content) RowFault) → TellsAll (sections 0) (1, bs) r → TellsImage (1 ∷ bs) r
tells_rest bs (Ok cs) t = (t.fine, ap (λ s. 1 ∷ s) t.bytes)
tells_rest bs (Err f) t = format.within t

image_version : (b : ℕ) (bs : List ℕ) → AllBytes bs → (v : Bool) → eqb b 1 ≡ v → TellsImage (b ∷ bs) (image_at (b ∷ bs))
image_version b bs h true e =
    let one = eqb-true b 1 e in
    subst (λ k. TellsImage (k ∷ bs) (image_at (k ∷ bs))) (sym one)
    (subst (TellsImage (1 ∷ bs)) (sym (image_rest bs)) (tells_rest bs (sections_by (length (1 ∷ bs) + 1) 0 (1, bs)) (sections_sound (length (1 ∷ bs) + 1) 0 (1, bs) h (omega arith))))
image_version b bs h false e =
    subst (TellsImage (b ∷ bs)) (sym (ap (on_version (length (b ∷ bs) + 1)) (version_there b bs ∙ cond-false _ _ _ e))) (format.version (eqb-false b 1 e))

pub image_sound : (bs : List ℕ) → AllBytes bs → TellsImage bs (image_at bs)
image_sound [] h = format.empty
image_sound (b ∷ bs) h = image_version b bs h.1 (eqb b 1) refl

pub image_finds : (cs : List Content) → InOrder cs 0 → image_at (image_bytes cs) ≡ Ok cs
image_finds cs h = image_rest (joined section_bytes cs) ∙ sections_finds (length (image_bytes cs) + 1) cs 0 (1, joined section_bytes cs) (omega arith) h refl

pub image_meets : (bs : List ℕ) (f : RowFault) → FirstFault bs f → image_at bs ≡ Err f
image_meets bs f format.empty = refl
image_meets bs f (format.version {b = b} {bs = cs} ne) = ap (on_version (length (b ∷ cs) + 1)) (version_there b cs ∙ cond-false _ _ _ (ne_eqb b 1 ne))
image_meets bs f (format.within {bs = cs} t) = image_rest cs ∙ sections_meets (length (1 ∷ cs) + 1) 0 (1, cs) f (omega arith) t
