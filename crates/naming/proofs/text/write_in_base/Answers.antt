-- A buffer that is shorter than the text is left.
use Rattle.std.proofs.Common.{◌≡◌, ℕ, ◌+◌, ◌<◌, List, length, Some, sym, ap, arith}
use Rattle.std.proofs.lemmas.Bool.{cond-true, lt-ltb}
use Rattle.hir.specs.declared.refusal.Refusal.TheVariants as refusals
use Rattle.hir.specs.Refusals.{answered, unless}
use Rattle.naming.specs.declared.letter.Letter.{Letter}
use Rattle.naming.specs.LastDigits.{length_last_digits}
use Rattle.naming.specs.Texts.{last_digits, name_text, write_refusal, overwritten}
use Rattle.naming.proofs.text.write_in_base.Goals as goal

short : (letter : Letter) (number base count : ℕ) (buffer : List ℕ) → length buffer < 2 + count → write_refusal (name_text letter (last_digits base count number)) buffer ≡ Some refusals.Buffer
short letter number base count buffer h =
    let n = length_last_digits base count number in
    let l : length buffer < length (name_text letter (last_digits base count number)) = omega arith in
    cond-true _ _ _ (lt-ltb _ _ l)

pub returns-then-buffer-end-clause-value : goal.returns-then-buffer-end-clause-value
returns-then-buffer-end-clause-value c =
    let text = name_text c.args.letter (last_digits c.args.base c.args.count c.args.number) in
    sym (ap (λ o. answered o (length text)) (short c.args.letter c.args.number c.args.base c.args.count c.args.buffer.now c.if-buffer-end.true))

pub returns-then-buffer-end-clause-bytes : goal.returns-then-buffer-end-clause-bytes
returns-then-buffer-end-clause-bytes c =
    let text = name_text c.args.letter (last_digits c.args.base c.args.count c.args.number) in
    sym (ap (λ o. unless o c.args.buffer.now (overwritten text c.args.buffer.now)) (short c.args.letter c.args.number c.args.base c.args.count c.args.buffer.now c.if-buffer-end.true))
