-- How far the sections of an image are loaded. Assumes nothing.
use Rattle.std.proofs.Common.{◌≡◌, ℕ, ◌+◌, ◌*◌, ◌^◌, ◌<◌, ◌≤◌, List, [], ◌∷◌, ◌++◌, length, Ok, Err, vec_items, sym, refl, ap, ◌∙◌, subst, append_assoc, append-nil, arith, length-append}
use Rattle.image.specs.declared.fault.SectionFault.{SectionFault}
use Rattle.image.specs.Bytes.{Place, joined}
use Rattle.image.specs.Layouts.{Begins}
use Rattle.image.specs.Format.{Content, rank_of, content_bytes, after, section, section_bytes, InOrder, image_bytes, Image}
use Rattle.image.specs.Steps.{Held, Opened, section_at}
use Rattle.image_check.proofs.Whole.{Found, section_found, open_found}
use Rattle.image_tables.specs.declared.tables.Tables.{Tables}
use Rattle.image_tables.specs.Tables.{Holds, AddedSection, ReadsBy, SectionReads, HoldsImage}
use Rattle.image_tables.proofs.Growing.{content_reads, one_more}

-- of the image bs, the sections at q are left to load
pub record Loading (bs : List ℕ) (q : Place) (t : Tables) : Type 0 where
  pub loaded : List Content
  pub rest : List Content
  pub stage : ℕ
  pub whole : InOrder (loaded ++ rest) 0
  pub bytes : bs ≡ image_bytes (loaded ++ rest)
  pub order : InOrder rest stage
  pub left : q.1 ≡ joined section_bytes rest
  pub holds : Holds loaded t
  pub room : 4 * length (vec_items t.pool) + length q.1 ≤ length bs

-- the next section
record Upcoming (q : Place) (rest : List Content) (stage : ℕ) : Type 0 where
  c : Content
  more : List Content
  behind : Place
  is : rest ≡ c ∷ more
  begins : Begins (section stage) c q behind
  left : behind.1 ≡ joined section_bytes more
  order : InOrder more (after c)

upcoming : (q : Place) (rest : List Content) (stage : ℕ) → (length q.1 ≡ 0 → ⊥) → InOrder rest stage → q.1 ≡ joined section_bytes rest → Upcoming q rest stage
upcoming q [] stage some order e = absurd (some (ap length e))
upcoming q (c ∷ more) stage some order e = record {
  c = c;
  more = more;
  behind = (q.0 + length (section_bytes c), joined section_bytes more);
  is = refl;
  begins = record { fine = order.0; bytes = e; end = refl };
  left = refl;
  order = order.1;
}

module _ (bs : List ℕ) (q : Place) (t : Tables) (l : Loading bs q t) where
  pub image : Image bs
  image = record { contents = l.loaded ++ l.rest; ordered = l.whole; bytes = l.bytes }

  pub end : length q.1 ≡ 0 → HoldsImage bs t
  end none = ended l.rest l.whole l.bytes l.left
    where
      ended : (rest : List Content) → InOrder (l.loaded ++ rest) 0 → bs ≡ image_bytes (l.loaded ++ rest) → q.1 ≡ joined section_bytes rest → HoldsImage bs t
      ended [] order e left = record {
        contents = l.loaded;
        ordered = subst (λ cs. InOrder cs 0) (append-nil l.loaded) order;
        bytes = e ∙ ap image_bytes (append-nil l.loaded);
        holds = l.holds;
      }
      ended (c ∷ cs) order e left = absurd (omega (arith, ap length left, length-append (section_bytes c) (joined section_bytes cs)))

  module _ (some : length q.1 ≡ 0 → ⊥) where
    abbrev up : Upcoming q l.rest l.stage
    up = upcoming q l.rest l.stage some l.order l.left

    pub open_never : (f : SectionFault) → section_at q ≡ Err f → ⊥
    open_never f e = let z : ◌≡◌ {A = ℕ} 0 1 = cc (section_found l.stage up.c q up.behind up.begins) in omega arith

    module _ (o : Opened) (h : Held) (e : section_at q ≡ Ok o) (same : h ≡ o.section) where
      abbrev found : Found up.c q up.behind o
      found = open_found l.stage up.c q up.behind o up.begins e

      rank_is : h.rank ≡ rank_of up.c
      rank_is = ap (λ (k : Held). k.rank) same ∙ found.rank

      bytes_is : h.bytes ≡ content_bytes up.c
      bytes_is = ap (λ (k : Held). k.bytes) same ∙ found.bytes

      section_size : length h.bytes + length o.behind.1 + 5 ≡ length q.1
      section_size = omega (arith, ap length bytes_is, ap (λ (p : Place). length p.1) found.behind, ap length up.begins.bytes, length-append (section_bytes up.c) up.behind.1)

      pub reads : SectionReads h
      reads = subst (λ r. ReadsBy r h.bytes) (sym rank_is) (content_reads up.c h.bytes up.begins.fine.0.0 bytes_is)

      pub roomy : length bs < 2 ^ 32 → 4 * length (vec_items t.pool) + length h.bytes < 2 ^ 32
      roomy small = omega (arith, section_size, l.room)

      pub turn : (u : Tables) → AddedSection h t u → Loading bs o.behind u
      turn u a =
          let one = one_more l.loaded up.c h t u l.holds up.begins.fine.0.0 rank_is bytes_is a in
          let cs : l.loaded ++ l.rest ≡ (l.loaded ++ (up.c ∷ [])) ++ up.more = ap (λ r. l.loaded ++ r) up.is ∙ sym (append_assoc l.loaded (up.c ∷ []) up.more) in
          record {
            loaded = l.loaded ++ (up.c ∷ []);
            rest = up.more;
            stage = after up.c;
            whole = subst (λ r. InOrder r 0) cs l.whole;
            bytes = l.bytes ∙ ap image_bytes cs;
            order = up.order;
            left = ap (λ (p : Place). p.1) found.behind ∙ up.left;
            holds = one.holds;
            room = omega (arith, one.room, section_size, l.room);
          }
