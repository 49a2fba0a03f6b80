-- The units of the places before x are added; those of place x come next.
use Rattle.std.proofs.Common.{◌≡◌, subst, arith}
use mathlib.Core.List.{flat_map}
use Rattle.postman.specs.Lists.{below}
use Rattle.drive_legs.specs.Legs.{units_below, units}
use Rattle.drive_legs.specs.Filled.{Added}
use Rattle.drive_legs.specs.Laws.Filled.{added_none, added_length, added_units, units_fit}
use Rattle.drive_legs.proofs.legs.LaidLegs.add_units.Goals as goal

pub loop-x-init : goal.loop-x-init
unfolding units_below below flat_map
loop-x-init c = added_none c.args.self.now

pub add-requires : goal.add-requires
add-requires c =
    let l = c.loop-x in
    omega (arith, units_fit c.args.amounts.now l.x c.loop-x-test.true, added_length _ _ _ l.invariant, c.from.ensures, c.requires)

pub loop-x-preserved : goal.loop-x-preserved
loop-x-preserved c =
    added_units c.args.amounts.now c.loop-x.x c.from.result _ _ _ c.from.ensures c.loop-x.invariant c.add.ensures

pub returns : goal.returns
unfolding units
returns c =
    let l = c.loop-x in
    let e : l.x ≡ 4096 = omega arith in
    subst (λ z. Added (units_below z c.args.amounts.now) c.args.self.now l.self) e l.invariant
