use Rattle.std.proofs.Common.{sym, subst, arith, true-eqb, false-eqb}
use Rattle.image.specs.Bytes.{Place}
use Rattle.image.specs.Steps.{held, see_open_any, see_reader}
use Rattle.image_tables.proofs.Loading.{Loading, open_never, reads, roomy, turn, end}
use Rattle.image_tables.proofs.load.load.Goals as goal

pub returns-in_err-open : goal.returns-in_err-open
returns-in_err-open c =
    absurd (open_never c.args.image.now (see_reader c.loop-reader.reader) c.loop-reader.tables c.loop-reader.invariant (false-eqb _ 0 c.loop-reader-test.ensures) _ c.in_err-open.ensures.is)

pub add_section-requires-clause-reads : goal.add_section-requires-clause-reads
add_section-requires-clause-reads c =
    let some = false-eqb _ 0 c.loop-reader-test.ensures in
    reads c.args.image.now (see_reader c.loop-reader.reader) c.loop-reader.tables c.loop-reader.invariant some (see_open_any c.in_ok-open.open) (held c.section-section.result) c.in_ok-open.ensures.is c.section-section.ensures

pub add_section-requires-clause-room : goal.add_section-requires-clause-room
add_section-requires-clause-room c =
    let some = false-eqb _ 0 c.loop-reader-test.ensures in
    let r = roomy c.args.image.now (see_reader c.loop-reader.reader) c.loop-reader.tables c.loop-reader.invariant some (see_open_any c.in_ok-open.open) (held c.section-section.result) c.in_ok-open.ensures.is c.section-section.ensures (omega arith) in
    omega (arith, r, c.loop-reader.tables.pool.ok.0)

pub loop-reader-preserved : goal.loop-reader-preserved
loop-reader-preserved c =
    let bs = c.args.image.now in
    let q = see_reader c.loop-reader.reader in
    let t = c.loop-reader.tables in
    let some = false-eqb _ 0 c.loop-reader-test.ensures in
    let o = see_open_any c.in_ok-open.open in
    let h = held c.section-section.result in
    subst (λ (p : Place). Loading bs p c.add_section.new.tables) (sym c.skip-reader.ensures)
    (turn bs q t c.loop-reader.invariant some o h c.in_ok-open.ensures.is c.section-section.ensures c.add_section.new.tables c.in_ok-add_section.ensures)

pub returns : goal.returns
returns c = (omega arith, end c.args.image.now (see_reader c.loop-reader.reader) c.loop-reader.tables c.loop-reader.invariant (true-eqb _ 0 c.loop-reader-test.ensures))
