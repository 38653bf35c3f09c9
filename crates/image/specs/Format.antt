-- What an image is, and the first fault of bytes that are none. Assumes nothing.
use Rattle.std.specs.Prelude.{◌≡◌, ℕ, zero, suc, ◌+◌, ◌<◌, max, Bool, true, false, cond, ◌&&◌, ◌≢◌, List, [], ◌∷◌, ◌++◌, length, ◌==◌, nat_le, nat_lt, slice_index}
use Rattle.hir.specs.Lists.{Each}
use Rattle.image.specs.declared.fault.SectionFault.TheVariants.{Version}
use Rattle.image.specs.declared.fault.RowFault.{RowFault}
use Rattle.image.specs.declared.fault.RowFault.TheVariants.{Section}
use Rattle.image.specs.Bytes.{Place, past, joined}
use Rattle.image.specs.Layouts.{Layout, Begins, Whole, byte, word, numbers, ◌then◌, ◌then_all◌, only, many, part, short, letter, left, deep}

-- the fields of a row: code, identifier, number, kind, mode, operands, marks
abbrev pub Fields : Type 0
Fields = ℕ × (ℕ × (ℕ × (ℕ × (ℕ × (List ℕ × List ℕ)))))

-- the fields of a row lie one behind the other: code, kind and mode a byte each, identifier and number four, then two lists
abbrev pub fields : Layout Fields
fields = byte then word then word then byte then byte then numbers then numbers

-- a row and the rows within it, at most n of them open at once
abbrev pub Tree : ℕ → Type 0
Tree zero = ⊥
Tree (suc n) = Fields × List (Tree n)

-- no row may stand here, whatever the bytes are
abbrev pub too_deep : Layout ⊥
too_deep = record { write = λ x. []; Fine = λ x. ⊥; Fault = λ p f. f ≡ deep p.0 }

-- a row: its length, its fields, and the rows within it
abbrev pub row : (n : ℕ) → Layout (Tree n)
row zero = too_deep
row (suc n) = part (fields then_all many (row n))

-- how many rows may be open at once
abbrev pub most_open : ℕ
most_open = 128

-- an identifier row: a declaration and a tag
abbrev pub identifier : Layout (ℕ × ℕ)
identifier = word then byte

-- the bytes left over behind the whole identifier rows of a section
pub data IdentifiersFault : Place → RowFault → Type 0 where
  over : {p : Place} (xs : List (ℕ × ℕ)) (rest : List ℕ) → Each identifier.Fine xs → p.1 ≡ joined identifier.write xs ++ rest → 0 < length rest → length rest < 5 → IdentifiersFault p (left (p.0 + length (joined identifier.write xs)))

-- identifier rows to the end of their section; a part of one is left over
abbrev pub identifiers : Whole (List (ℕ × ℕ))
identifiers = record { write = joined identifier.write; Fine = Each identifier.Fine; Fault = IdentifiersFault }

-- dependencies, declarations, reassignments
abbrev pub Scope : Type 0
Scope = List ℕ × (List ℕ × List ℕ)

-- a scope: its three lists, one behind the other
abbrev pub scope : Layout Scope
scope = numbers then numbers then numbers

-- parameters, nested functions
abbrev pub Function : Type 0
Function = List ℕ × List ℕ

-- a function: its two lists, one behind the other
abbrev pub function : Layout Function
function = numbers then numbers

-- own parameters, row 0
abbrev pub Panel : Type 0
Panel = List ℕ × Tree 128

-- the content of a T section: own parameters, and behind them row 0 with the rows within it
abbrev pub tree : Layout Panel
tree = numbers then row 128

-- what a section holds
pub data Content : Type 0 where
  of_identifiers : List (ℕ × ℕ) → Content
  of_scope : Scope → Content
  of_function : Function → Content
  of_tree : Panel → Content

-- the place of a section in the order I, S, F, T
abbrev pub rank_of : Content → ℕ
rank_of (of_identifiers is) = 0
rank_of (of_scope s) = 1
rank_of (of_function f) = 2
rank_of (of_tree t) = 3

-- its letter
abbrev pub letter_of : Content → ℕ
letter_of (of_identifiers is) = 73
letter_of (of_scope s) = 83
letter_of (of_function f) = 70
letter_of (of_tree t) = 84

-- the bytes of what a section holds, without its length and its letter
abbrev pub content_bytes : Content → List ℕ
content_bytes (of_identifiers is) = identifiers.write is
content_bytes (of_scope s) = scope.write s
content_bytes (of_function f) = function.write f
content_bytes (of_tree t) = tree.write t

-- what a section holds can be written: each number, count and length has room in its bytes
abbrev pub FineContent : Content → Type 0
FineContent (of_identifiers is) = identifiers.Fine is
FineContent (of_scope s) = scope.Fine s
FineContent (of_function f) = function.Fine f
FineContent (of_tree t) = tree.Fine t

-- the rank that a letter stands for; 4 for a letter of no section
abbrev pub rank_of_letter : ℕ → ℕ
rank_of_letter l = cond (l == 73) 0 (cond (l == 83) 1 (cond (l == 70) 2 (cond (l == 84) 3 4)))

-- whether a section of this rank may stand next: I where none has come, and later no rank below the last
abbrev pub due : ℕ → ℕ → Bool
due zero r = r == 0
due (suc last) r = nat_le (suc last) r && nat_lt r 4

-- what may stand next behind a section
abbrev pub after : Content → ℕ
after c = max 1 (rank_of c)

-- the first fault of a section's content, by the rank of its letter
abbrev pub ContentFault : ℕ → Place → RowFault → Type 0
ContentFault zero = identifiers.Fault
ContentFault (suc zero) = (only scope).Fault
ContentFault (suc (suc zero)) = (only function).Fault
ContentFault (suc (suc (suc r))) = (only tree).Fault

-- the first fault of a letter and content
pub data LetteredFault (stage : ℕ) : Place → RowFault → Type 0 where
  none : {p : Place} → length p.1 ≡ 0 → LetteredFault stage p (short p.0)
  wrong : {p : Place} → 0 < length p.1 → due stage (rank_of_letter (slice_index p.1 0)) ≡ false → LetteredFault stage p (letter p.0)
  within : {p : Place} {f : RowFault} → 0 < length p.1 → due stage (rank_of_letter (slice_index p.1 0)) ≡ true → ContentFault (rank_of_letter (slice_index p.1 0)) (past 1 p) f → LetteredFault stage p f

-- a letter, and the content that it stands for
abbrev pub lettered : ℕ → Whole Content
lettered stage = record {
  write = λ c. letter_of c ∷ content_bytes c;
  Fine = λ c. FineContent c × (due stage (rank_of c) ≡ true);
  Fault = LetteredFault stage;
}

-- a section
abbrev pub section : ℕ → Layout Content
section stage = part (lettered stage)

-- the bytes of a section, which are the same wherever it stands: its length, its letter and its content
abbrev pub section_bytes : Content → List ℕ
section_bytes c = (section 0).write c

-- sections in order: one I, any S, any F, any T
abbrev pub InOrder : List Content → ℕ → Type 0
InOrder [] zero = ⊥
InOrder [] (suc last) = Unit {0}
InOrder (c ∷ cs) stage = (section stage).Fine c × InOrder cs (after c)

-- the first fault of sections: one is missing where none has come; else in the next one, where there is more
pub data SectionsFault : ℕ → Place → RowFault → Type 0 where
  first : {p : Place} {f : RowFault} → (section 0).Fault p f → SectionsFault 0 p f
  here : {last : ℕ} {p : Place} {f : RowFault} → 0 < length p.1 → (section (suc last)).Fault p f → SectionsFault (suc last) p f
  later : {stage : ℕ} {p q : Place} {f : RowFault} (c : Content) → Begins (section stage) c p q → SectionsFault (after c) q f → SectionsFault stage p f

-- sections to the end of the image
abbrev pub sections : ℕ → Whole (List Content)
sections stage = record { write = joined section_bytes; Fine = λ cs. InOrder cs stage; Fault = SectionsFault stage }

-- the bytes of an image
abbrev pub image_bytes : List Content → List ℕ
image_bytes cs = 1 ∷ joined section_bytes cs

-- the bytes are an image: a version byte, and sections in order
pub record Image (bs : List ℕ) : Type 0 where
  pub contents : List Content
  pub ordered : InOrder contents 0
  pub bytes : bs ≡ image_bytes contents

-- the first fault of bytes that are no image
pub data FirstFault : List ℕ → RowFault → Type 0 where
  empty : FirstFault [] (short 0)
  version : {b : ℕ} {bs : List ℕ} → b ≢ 1 → FirstFault (b ∷ bs) (Section Version)
  within : {bs : List ℕ} {f : RowFault} → SectionsFault 0 (1, bs) f → FirstFault (1 ∷ bs) f
