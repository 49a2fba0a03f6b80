-- The vertices that are flagged are the required ones, and the list holds them at its start; the ascent gives the multipliers and their bound.
use mathlib.Core.Path.{◌∙◌}
use mir.Syntax.{w64}
use mir.Val.{SFits}
use Rattle.std.proofs.Common.{rules}
use Rattle.integers.specs.Linear.{back64}
use Rattle.preparation.specs.Laws.Preparation.{required_held, known_over}
use Rattle.preparation.proofs.prepare.prepare.Goals as goal

pub base_state-base-requires : goal.base_state-base-requires
base_state-base-requires c =
    known_over _ _ c.requires.0 c.args.net.required c.requires.1.required c.vertices_of-vertices.ensures

pub multipliers_of-greatest-requires : goal.multipliers_of-greatest-requires
multipliers_of-greatest-requires c =
    record { known = known_over _ _ c.requires.0 c.args.net.required c.requires.1.required c.vertices_of-vertices.ensures; base_is = c.base_state-base.ensures }

pub multipliers_for-bound-requires : goal.multipliers_for-bound-requires
multipliers_for-bound-requires c =
    (record { known = known_over _ _ c.requires.0 c.args.net.required c.requires.1.required c.vertices_of-vertices.ensures; base_is = c.base_state-base.ensures }, c.requires.1, c.multipliers_of-greatest.ensures)

pub returns : goal.returns
returns c =
    let v = c.vertices_of-vertices.ensures in
    let m = c.multipliers_for-bound.ensures in
    let bound : SFits w64 c.multipliers_for-bound.result.bound = search rules in
    record {
      vertices = required_held _ _ c.requires.0 c.args.net.required c.requires.1.required v;
      base = record { known = known_over _ _ c.requires.0 c.args.net.required c.requires.1.required v; base_is = c.base_state-base.ensures };
      network = c.requires.1;
      multipliers_are = m.0;
      bound_is = back64 _ bound.sfits ∙ m.1;
    }
