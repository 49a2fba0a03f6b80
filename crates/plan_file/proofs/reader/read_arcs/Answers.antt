-- `read_arcs` meets its contract. The loop's invariant: the first k records are the arcs', and the later ones are zeros.
use mathlib.Core.Path.{refl, ◌∙◌, ap}
use native.Mathlib.Omega.{arith}
use lib.ListN.{set}
use Rattle.postman.specs.Lists.{below, up_from}
use Rattle.postman.specs.PlanFile.{arc_of}
use Rattle.postman_laws.specs.Laws.FileLength.{bits_within}
use Rattle.plan.specs.Records.{records_of}
use Rattle.plan_file.specs.Laws.Records.{records-more}
use Rattle.plan_file.proofs.reader.read_arcs.Goals as goal

pub loop-k-init : goal.loop-k-init
unfolding records_of below up_from
loop-k-init c = (omega arith, refl)

pub read_arc-requires : goal.read_arc-requires
read_arc-requires c =
    let a = c.args in
    let l = c.loop-k in
    (omega arith, omega (arith, bits_within a.edition l.k a.m (omega arith)))

pub loop-k-preserved : goal.loop-k-preserved
loop-k-preserved c =
    let f = arc_of c.args.s.now c.args.edition in
    let l = c.loop-k in
    (omega arith, ap (set l.arcs l.k) c.read_arc.ensures ∙ rw l.invariant.1 (records-more f l.k (omega arith)))
