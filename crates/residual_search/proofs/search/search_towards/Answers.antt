-- What is left of the rounds, from what the loop holds, is the search, and w is the nearest vertex. Assumes nothing.
use Rattle.std.proofs.Common.{refl, sym, ap, ◌∙◌, arith, List, ℕ, ◌+◌, ◌-◌, get_or, set, replicate}
use Rattle.std.proofs.Math.Path.{subst⁻¹}
use Rattle.residual_search.specs.Bounds.{AtMost}
use Rattle.residual_search.specs.Search.{beyond}
use Rattle.residual_search.specs.Lengths.{length_in}
use Rattle.residual_search.specs.Until.{rounds_until}
use Rattle.residual_search.specs.Laws.Turns.{relax_low, replicate_low, found_same, until_start, until_end, until_none, until_more}
use Rattle.residual_search.proofs.search.search_towards.Goals as goal

pub loop-k-init : goal.loop-k-init
loop-k-init c =
    let ℓ = length_in c.args.lengths in
    let w = c.relax-w.ensures in
    let x = ap (λ (r : List ℕ × List ℕ). r.0) w.relaxed in
    let next = ap (λ (r : List ℕ × List ℕ). r.1) w.relaxed in
    record {
      from_one = omega arith;
      to_64 = omega arith;
      low = subst⁻¹ (AtMost beyond) x (relax_low _ _ _ _ _ beyond (replicate_low 64 beyond));
      is_nearest = w.nearest;
      in_range = w.in_range;
      left = ap (rounds_until ℓ c.args.vs.vertices.now c.args.t c.args.goal (c.args.most - 1) 1)
          (found_same refl refl (w.rank ∙ ap (λ i. set (replicate 64 0) i 1) c.from.ensures))
          ∙ until_start ℓ c.args.vs.vertices.now c.args.t c.args.goal c.args.most refl x next;
    }

pub loop-k-preserved : goal.loop-k-preserved
loop-k-preserved c =
    let ℓ = length_in c.args.lengths in
    let v = c.loop-k in
    let w = c.relax-w-in-loop-k.ensures in
    let x = ap (λ (r : List ℕ × List ℕ). r.0) w.relaxed in
    let next = ap (λ (r : List ℕ × List ℕ). r.1) w.relaxed in
    record {
      from_one = omega arith;
      to_64 = omega (arith, c.requires.3);
      low = subst⁻¹ (AtMost beyond) x (relax_low _ _ _ _ _ beyond v.invariant.low);
      is_nearest = w.nearest;
      in_range = w.in_range;
      left = ap (rounds_until ℓ c.args.vs.vertices.now c.args.t c.args.goal (c.args.most - (v.k + 1)) (v.k + 1))
          (found_same refl refl (w.rank ∙ ap (λ i. set v.found.rank i (v.k + 1)) c.from-in-loop-k-2.ensures))
          ∙ until_more ℓ c.args.vs.vertices.now c.args.t c.args.goal c.args.most v.k v.found.distance v.found.next v.found.rank
          v.invariant.left
          (omega arith)
          v.invariant.is_nearest
          c.if-w-goal.true
          refl
          (ap (λ i. get_or v.found.distance i 0) c.from-in-loop-k-3.ensures)
          x
          next
          refl;
    }

pub returns-else-w-goal : goal.returns-else-w-goal
returns-else-w-goal c =
    sym (until_end _ _ _ _ _ _ _ (sym c.loop-k.invariant.is_nearest ∙ c.if-w-goal.false)) ∙ c.loop-k.invariant.left

pub returns-after-loop-k : goal.returns-after-loop-k
returns-after-loop-k c =
    sym (until_none _ _ _ _ _ c.loop-k.k _ (omega arith)) ∙ c.loop-k.invariant.left
