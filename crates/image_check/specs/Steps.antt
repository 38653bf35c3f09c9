-- What each function of the check answers, step by step. Assumes nothing.
use Rattle.std.specs.Prelude.{ℕ, zero, suc, ◌+◌, ◌*◌, ◌/◌, Bool, cond, not, ◌||◌, List, [], ◌∷◌, length, drop, Ok, Err, Result, ◌==◌, slice_index}
use Rattle.image.specs.declared.fault.ByteFault.{ByteFault}
use Rattle.image.specs.declared.fault.SectionFault.TheVariants.{Letter}
use Rattle.image.specs.declared.fault.RowFault.{RowFault}
use Rattle.image.specs.declared.fault.RowFault.TheVariants.{Section}
use Rattle.image.specs.Bytes.{Place, past, u32_of}
use Rattle.image.specs.Format.{Tree, Content, of_identifiers, of_scope, of_function, of_tree, due, after}
use Rattle.image.specs.Steps.{Opened, and_then, in_section, in_row, ended, both, u8_at, u32_at, numbers_at, row_at, section_at, closed_at, version_at}

-- one identifier row, declaration and tag, and the place behind it
abbrev pub identifier_at : Place → Result ((ℕ × ℕ) × Place) ByteFault
identifier_at = both u32_at u8_at

-- the first n identifier rows of some bytes, five bytes each
abbrev pub identifiers_of : ℕ → List ℕ → List (ℕ × ℕ)
identifiers_of zero bs = []
identifiers_of (suc n) bs = (u32_of bs, slice_index bs 4) ∷ identifiers_of n (drop 5 bs)

-- all whole identifier rows to the holder's end, and the place behind them, where a part of one may be left; never a fault
abbrev pub identifiers_at : Place → Result (List (ℕ × ℕ) × Place) RowFault
identifiers_at p = Ok (identifiers_of (length p.1 / 5) p.1, past (length p.1 / 5 * 5) p)

-- a scope's three lists, and the place behind them; the fault of the first that passes its holder
abbrev pub scope_at : Place → Result ((List ℕ × (List ℕ × List ℕ)) × Place) ByteFault
scope_at = both numbers_at (both numbers_at numbers_at)

-- a function's two lists, and the place behind them; the fault of the first that passes its holder
abbrev pub function_at : Place → Result ((List ℕ × List ℕ) × Place) ByteFault
function_at = both numbers_at numbers_at

-- where n lists end
abbrev pub lists_end : ℕ → Place → Result Place ByteFault
lists_end zero p = Ok p
lists_end (suc n) p = and_then (ended (numbers_at p)) (lists_end n)

-- own parameters, and row 0 behind them
abbrev pub tree_at : Place → Result ((List ℕ × Tree 128) × Place) RowFault
tree_at = both (λ p. in_row (in_section (numbers_at p))) (row_at 128)

-- what was read, as the content of a section
abbrev pub wrapped : {X : Type 0} → (X → Content) → Result (X × Place) RowFault → Result (Content × Place) RowFault
wrapped c r = and_then r (λ v. Ok (c v.0, v.1))

-- what a section holds by the rank of its letter, 3 and all above it for a tree, and the place behind it, where bytes may be left
abbrev pub content_at : ℕ → Place → Result (Content × Place) RowFault
content_at zero p = wrapped of_identifiers (identifiers_at p)
content_at (suc zero) p = wrapped of_scope (in_row (in_section (scope_at p)))
content_at (suc (suc zero)) p = wrapped of_function (in_row (in_section (function_at p)))
content_at (suc (suc (suc r))) p = wrapped of_tree (tree_at p)

-- an open section is read to its end, and closed
abbrev pub spent_at : Opened → Result (Content × Place) RowFault
spent_at o =
    and_then (content_at o.section.rank o.unread) (λ v.
    and_then (in_row (closed_at (record { section = o.section; unread = v.1; behind = o.behind }))) (λ q.
    Ok (v.0, q)))

-- one section, where `stage` says what may stand next
abbrev pub one_at : ℕ → Place → Result (Content × Place) RowFault
one_at stage p =
    and_then (in_row (section_at p)) (λ o.
    cond (due stage o.section.rank) (spent_at o) (Err (Section (Letter (p.0 + 4)))))

-- what may stand next behind a section, and where it ends
abbrev pub staged : Result (Content × Place) RowFault → Result (ℕ × Place) RowFault
staged (Ok v) = Ok (after v.0, v.1)
staged (Err e) = Err e

-- whether a section is due, or more is there
abbrev pub goes_on : ℕ → Place → Bool
goes_on stage p = stage == 0 || not (length p.1 == 0)

-- the contents of the sections from a place to the image's end, at most n of them, where `stage` says what may stand next; or their first fault
abbrev pub sections_by : ℕ → ℕ → Place → Result (List Content) RowFault
sections_by zero stage p = Ok []
sections_by (suc n) stage p = cond (goes_on stage p) (and_then (one_at stage p) (λ v. and_then (sections_by n (after v.0) v.1) (λ cs. Ok (v.0 ∷ cs)))) (Ok [])

-- the contents of an image
abbrev pub image_at : List ℕ → Result (List Content) RowFault
image_at bs = and_then (in_row (version_at bs)) (λ p. sections_by (length bs + 1) 0 p)
