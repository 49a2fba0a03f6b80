-- `has_arc` meets its contract: the last test counts bytes in place of bits.
use Rattle.std.proofs.Common.{◌∙◌, ap, arith, leb, length, ℕ}
use Rattle.std.proofs.lemmas.Bool.{lt-leb}
use Rattle.plan_file.specs.Laws.Room.{in_bytes, beyond, by_length}
use Rattle.plan_file.proofs.reader.has_arc.Goals as goal

pub returns-else-k-le255 : goal.returns-else-k-le255
returns-else-k-le255 c = let a = c.args in lt-leb a.k 255 (omega arith) ∙ beyond a.s.now a.edition a.k (omega arith)

pub returns-then-k-le255 : goal.returns-then-k-le255
returns-then-k-le255 c =
    let a = c.args in
    ap (λ (n : ℕ). leb n (length a.s.now)) (c.div_ceil.ensures ∙ in_bytes c.file_bits.result)
    ∙ by_length a.s.now a.edition a.k (omega arith) c.file_bits.result c.file_bits.ensures
