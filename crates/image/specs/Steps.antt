-- What each function of the reader answers, step by step. Assumes nothing.
use Rattle.std.specs.Prelude.{◌≡◌, ℕ, zero, suc, ◌+◌, ◌-◌, ◌*◌, cond, List, [], ◌∷◌, map, length, take, drop, Ok, Err, Result, ◌==◌, nat_lt, slice_index}
use Rattle.image.specs.declared.fault.ByteFault.{ByteFault}
use Rattle.image.specs.declared.fault.SectionFault.{SectionFault}
use Rattle.image.specs.declared.fault.SectionFault.TheVariants.{Version, Letter, Left, Bytes}
use Rattle.image.specs.declared.fault.RowFault.{RowFault}
use Rattle.image.specs.declared.fault.RowFault.TheVariants.{Deep, Section as InSection}
use Rattle.image.specs.declared.fields.Numbers.{Numbers}
use Rattle.image.specs.declared.fields.RowFields.{RowFields}
use Rattle.image.specs.declared.section.Section.{Section}
use Rattle.image.specs.declared.section.Section.TheVariants.{Identifiers, Scope, Function, Tree as TreePart}
use Rattle.image.specs.declared.section.Open.{Open}
use Rattle.image.specs.declared.open_any.OpenAny.{OpenAny}
use Rattle.image.specs.declared.section.Reader.{Reader}
use Rattle.image.specs.Bytes.{Place, see, see_unread, past, next, u32_of, words}
use Rattle.image.specs.Format.{Fields, Tree, rank_of_letter}

-- an answer of the program, seen by `view`, is what a definition says
abbrev pub Is : {X S E : Type 0} → (X → S) → Result X E → Result S E → Type 0
Is view (Ok x) s = s ≡ Ok (view x)
Is view (Err e) s = s ≡ Err e

-- one step behind another
abbrev pub and_then : {X Y E : Type 0} → Result X E → (X → Result Y E) → Result Y E
and_then (Ok x) f = f x
and_then (Err e) f = Err e

-- a fault of layer 1, carried by layer 2
abbrev pub in_section : {X : Type 0} → Result X ByteFault → Result X SectionFault
in_section (Ok x) = Ok x
in_section (Err e) = Err (Bytes e)

-- a fault of layer 2, carried by layer 3
abbrev pub in_row : {X : Type 0} → Result X SectionFault → Result X RowFault
in_row (Ok x) = Ok x
in_row (Err e) = Err (InSection e)

-- where a reading ends
abbrev pub ended : {X E : Type 0} → Result (X × Place) E → Result Place E
ended (Ok v) = Ok v.1
ended (Err e) = Err e

-- whether a reading passes
abbrev pub passed : {X E : Type 0} → Result X E → Result (Unit {0}) E
passed (Ok x) = Ok tt
passed (Err e) = Err e

-- the fault of layer 1 at byte n
abbrev pub missing : ℕ → ByteFault
missing n = record { at = n }

-- the byte at a place, and the place behind it; a fault at the place, where no byte is left
abbrev pub u8_at : Place → Result (ℕ × Place) ByteFault
u8_at p = cond (nat_lt (length p.1) 1) (Err (missing p.0)) (Ok (slice_index p.1 0, past 1 p))

-- the number of four bytes at a place, and the place behind them; a fault at the place, where fewer are left
abbrev pub u32_at : Place → Result (ℕ × Place) ByteFault
u32_at p = cond (nat_lt (length p.1) 4) (Err (missing p.0)) (Ok (u32_of p.1, past 4 p))

-- the list at a place, and the place behind it; a fault at the place, where its count or its numbers pass the holder
abbrev pub numbers_at : Place → Result (List ℕ × Place) ByteFault
numbers_at p = cond (nat_lt (length p.1) (4 + 4 * u32_of p.1)) (Err (missing p.0)) (Ok (words (take (4 * u32_of p.1) (drop 4 p.1)), past (4 + 4 * u32_of p.1) p))

-- what a length counts, and what follows
abbrev pub part_at : Place → Result (Place × Place) ByteFault
part_at p = cond (nat_lt (length p.1) (4 + u32_of p.1)) (Err (missing p.0)) (Ok (next (u32_of p.1) (past 4 p), past (4 + u32_of p.1) p))

-- one reading behind another
abbrev pub both : {X Y E : Type 0} → (Place → Result (X × Place) E) → (Place → Result (Y × Place) E) → Place → Result ((X × Y) × Place) E
both a b p = and_then (a p) (λ v. and_then (b v.1) (λ w. Ok ((v.0, w.0), w.1)))

-- the fields of a row, and the place behind them; the fault of the first that passes its holder
abbrev pub fields_at : Place → Result (Fields × Place) ByteFault
fields_at = both u8_at (both u32_at (both u32_at (both u8_at (both u8_at (both numbers_at numbers_at)))))

-- the numbers of a list that borrows its part of the image
abbrev pub see_numbers : Numbers → List ℕ
see_numbers n = map u32_of n.words.now

-- the fields that were read of a row, its lists as numbers
abbrev pub see_fields : RowFields → Fields
see_fields f = (f.code, (f.identifier, (f.number, (f.kind, (f.mode, (see_numbers f.operands, see_numbers f.marks))))))

-- a row's fields, the place of the rows within it, and the place behind it
abbrev pub head_at : Place → Result (Fields × Place × Place) SectionFault
head_at p = and_then (in_section (part_at p)) (λ v. and_then (in_section (fields_at v.0)) (λ w. Ok (w.0, w.1, v.1)))

-- readings one behind another to the end of the holder, at most n of them
abbrev pub many_by : {X E : Type 0} → (Place → Result (X × Place) E) → ℕ → Place → Result (List X) E
many_by read zero p = Ok []
many_by read (suc n) p = cond (length p.1 == 0) (Ok []) (and_then (read p) (λ v. and_then (many_by read n v.1) (λ xs. Ok (v.0 ∷ xs))))

-- each takes a byte at least, so that there are no more than bytes
abbrev pub many_at : {X E : Type 0} → (Place → Result (X × Place) E) → Place → Result (List X) E
many_at read p = many_by read (length p.1) p

-- a row, where n more may be open
abbrev pub row_at : (n : ℕ) → Place → Result (Tree n × Place) RowFault
row_at zero p = Err (Deep p.0)
row_at (suc n) p = and_then (in_row (head_at p)) (λ h. and_then (many_at (row_at n) h.1) (λ kids. Ok ((h.0, kids), h.2)))

-- a section's part of the image, by the rank of its letter
pub record Held : Type 0 where
  pub rank : ℕ
  pub bytes : List ℕ

-- a section as the rank of its letter, and the bytes behind the letter
abbrev pub held : Section → Held
held (Identifiers r) = record { rank = 0; bytes = r.now }
held (Scope r) = record { rank = 1; bytes = r.now }
held (Function r) = record { rank = 2; bytes = r.now }
held (TreePart r) = record { rank = 3; bytes = r.now }

-- an open section: its part of the image, the place of what is unread of it, and the place behind it
pub record Opened : Type 0 where
  pub section : Held
  pub unread : Place
  pub behind : Place

-- what an open section stands for
abbrev pub see_open : Open → Opened
see_open o = record { section = held o.section; unread = see o.unread; behind = see o.behind }

-- and one of which any bytes may be unread
abbrev pub see_open_any : OpenAny → Opened
see_open_any o = record { section = held o.section; unread = see_unread o.unread; behind = see o.behind }

-- what a reader stands for: the place where the next section begins
abbrev pub see_reader : Reader → Place
see_reader r = see r.left

-- a letter at byte n, with its content and what is behind the section
abbrev pub lettered_at : ℕ → ℕ → Place → Place → Result Opened SectionFault
lettered_at n letter content behind =
    cond (nat_lt (rank_of_letter letter) 4)
    (Ok (record { section = record { rank = rank_of_letter letter; bytes = content.1 }; unread = content; behind = behind }))
    (Err (Letter n))

-- the section at a place
abbrev pub section_at : Place → Result Opened SectionFault
section_at p = and_then (in_section (part_at p)) (λ v. and_then (in_section (u8_at v.0)) (λ w. lettered_at v.0.0 w.0 w.1 v.1))

-- the same, once its length and its letter are read
abbrev pub opened_at : ℕ → ℕ → ℕ → List ℕ → Result Opened SectionFault
opened_at at size letter rest =
    cond (nat_lt (length rest + 1) size) (Err (Bytes (missing at)))
    (cond (size == 0) (Err (Bytes (missing (at + 4))))
    (lettered_at (at + 4) letter (at + 5, take (size - 1) rest) (at + 4 + size, drop (size - 1) rest)))

-- a section that is read to its end is closed; else the first byte left over is the fault
abbrev pub closed_at : Opened → Result Place SectionFault
closed_at o = cond (length o.unread.1 == 0) (Ok o.behind) (Err (Left o.unread.0))

-- the version byte
abbrev pub version_at : List ℕ → Result Place SectionFault
version_at bs = and_then (in_section (u8_at (0, bs))) (λ v. cond (v.0 == 1) (Ok v.1) (Err Version))
