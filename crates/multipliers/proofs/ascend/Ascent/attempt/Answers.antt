-- By the two tests. Multipliers that pass the first are lawful, so that their bound can be asked for.
use mathlib.Core.Path.{refl, ◌∙◌}
use mir.Syntax.{w64}
use mir.Val.{SFits}
use Rattle.std.proofs.Common.{rules}
use Rattle.integers.specs.Linear.{back64}
use Rattle.multipliers.specs.Laws.Ascent.{some_vertices, lawful_priced, lawful_as, rooted_as}
use Rattle.multipliers.specs.Laws.Climb.{attempt_more, attempt_low, attempt_none, held_as}
use Rattle.multipliers.proofs.ascend.Ascent.attempt.Goals as goal
use Rattle.multipliers.proofs.ascend.Ascent.attempt.Goals.{then-are_lawful+else-c-bound, else-are_lawful}

pub rooted-multipliers-requires : goal.rooted-multipliers-requires
rooted-multipliers-requires c = (some_vertices c.requires.0.1, c.requires.1)

pub bound_at-bound-requires : goal.bound_at-bound-requires
bound_at-bound-requires c =
    (c.requires.0.0, lawful_priced c.requires.0.1 _ c.requires.1 c.are_lawful.ensures c.if-are_lawful.true _ c.rooted-multipliers.ensures)

pub returns-then-c-bound : goal.returns-then-c-bound
returns-then-c-bound c =
    let a = c.are_lawful.ensures in
    let t = c.if-are_lawful.true in
    let u = c.rooted-multipliers.ensures in
    let l = c.bound_at-bound in
    let f : SFits w64 c.args.c.now.bound = search rules in
    let e = simp (back64, f.sfits, l.type_inv) at c.if-c-bound.true in
    λ p h. attempt_more _ _ (a ∙ lawful_as h _) t (u ∙ rooted_as h _) (l.ensures p (lawful_priced h _ c.requires.1 a t _ u)) refl e (back64 _ l.type_inv)

pub returns : goal.returns
returns c =
    let a = c.are_lawful.ensures in
    let f : SFits w64 c.args.c.now.bound = search rules in
    λ p h. held_as c.held.ensures.0 c.held.ensures.1 (elim c.if-are_lawful.branch [
      | then-are_lawful+else-c-bound w ↦
          let t = w.if-are_lawful.true in
          let u = w.rooted-multipliers.ensures in
          let l = w.bound_at-bound in
          let e = simp (back64, f.sfits, l.type_inv) at w.if-c-bound.false in
          attempt_low _ _ (a ∙ lawful_as h _) t (u ∙ rooted_as h _) (l.ensures p (lawful_priced h _ c.requires.1 a t _ u)) refl e refl
      | else-are_lawful w ↦ attempt_none _ _ (a ∙ lawful_as h _) w.if-are_lawful.false refl
    ])
