-- `fill_bits` meets its contract: the field from the last arc's end to the last byte's end, at most seven bits.
use mathlib.Core.Path.{◌∙◌}
use Prim.Native.Nat.{◌*◌, ◌-◌}
use native.Mathlib.Omega.{arith}
use Rattle.postman.specs.PlanFile.{file_length, fill_bits}
use Rattle.postman_laws.specs.Laws.FileLength.{bits_limit, file_length_le}
use Rattle.bits.specs.Laws.Taking.{taken_within}
use Rattle.plan_file.proofs.reader.fill_bits.Goals as goal

pub overflow_mul-end : goal.overflow_mul-end
overflow_mul-end c = omega (arith, c.file_length-end.ensures, file_length_le c.args.edition c.args.m c.requires.0)

pub overflow_sub-end : goal.overflow_sub-end
unfolding file_length
overflow_sub-end c = omega (arith, c.file_length-end.ensures, c.file_bits-at.ensures)

-- the bits lie within the file
pub returns : goal.returns
unfolding fill_bits file_length
returns c =
    let a = c.args in
    let n = c.file_length-end.ensures in
    let b = c.file_bits-at.ensures in
    let begin = c.file_bits-at.result in
    let end = 8 * c.file_length-end.result in
    let within = taken_within a.s.now begin (end - begin) (omega (arith, n, b), omega (arith, n, b, c.requires.1), omega (arith, b, (bits_limit a.edition a.m c.requires.0).1)) in
    c.take_at.ensures.0 ∙ within.0 ∙ rw (n, b)
