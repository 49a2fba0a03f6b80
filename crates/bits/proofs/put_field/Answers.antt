-- `put_field` meets its contract. The loop's invariant: the first i bits of the field are put.
use mathlib.Core.Path.{◌≡◌, refl, ◌∙◌}
use native.Mathlib.Numerals.{add-one}
use native.Mathlib.Omega.{arith}
use Rattle.bits.specs.FieldUpdate.{put_bits, put_field}
use Rattle.bits.proofs.put_field.Goals as goal

pub loop-i-init : goal.loop-i-init
unfolding put_bits
loop-i-init c = (omega arith, refl, refl)

pub loop-i-preserved : goal.loop-i-preserved
unfolding put_bits
loop-i-preserved c =
    let v = c.loop-i in
    let p = c.put_bit in
    (omega arith, p.auto.s ∙ v.invariant.1, rw add-one (p.ensures ∙ rw v.invariant.2))

pub returns : goal.returns
unfolding put_field
returns c =
    let e : c.loop-i.i ≡ c.args.width = omega arith in
    rw e at c.loop-i.invariant.2
