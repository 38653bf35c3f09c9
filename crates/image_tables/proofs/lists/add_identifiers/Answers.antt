use Rattle.std.proofs.Common.{◌/◌, ◌<◌, ◌++◌, [], ◌∷◌, length, get_or, map, vec_items, sym, ap, ◌∙◌, append_assoc, add-one, arith}
use Rattle.std.proofs.lemmas.List.{map-append}
use Rattle.hir.specs.declared.tables.Identifier.{Identifier}
use Rattle.image.specs.Bytes.{u32_of}
use Rattle.image_check.specs.Steps.{identifiers_of}
use Rattle.image_tables.specs.Tables.{identifier_row}
use Rattle.image_tables.proofs.Chunks.{rows_more}
use Rattle.image_tables.proofs.lists.add_identifiers.Goals as goal

pub loop-a-preserved : goal.loop-a-preserved
loop-a-preserved c =
    let bs = c.args.content.now in
    let i = c.loop-a.a-index in
    let front = c.as_chunks.ensures.front in
    let lt : i < length bs / 5 = omega (arith, c.as_chunks.ensures.front_len) in
    let x : Identifier = record { declaration = record { 0 = c.from_be_bytes.result }; tag = get_or (get_or c.as_chunks.result.0.now i []) 4 0 } in
    let value = c.from_be_bytes.ensures ∙ ap (λ ws. u32_of (get_or ws i [])) front in
    let tag = ap (λ ws. get_or (get_or ws i []) 4 0) front in
    ap (map identifier_row) c.in_ok-push.ensures.items
    ∙ map-append identifier_row (vec_items c.loop-a.identifiers) (x ∷ [])
    ∙ ap (λ s. s ++ (identifier_row x ∷ [])) c.loop-a.invariant
    ∙ append_assoc _ (identifiers_of i bs) (identifier_row x ∷ [])
    ∙ ap (λ s. map identifier_row (vec_items c.args.identifiers.now) ++ s) ((λ j. identifiers_of i bs ++ ((value j, tag j) ∷ [])) ∙ sym (ap (λ k. identifiers_of k bs) (add-one i) ∙ rows_more (length bs / 5) i bs lt))
