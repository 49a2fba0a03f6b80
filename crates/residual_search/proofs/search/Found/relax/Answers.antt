-- After so many turns the distances and the next vertices are the fold over the vertices so far, and the nearest is that of them by their last distances. Assumes nothing.
use Rattle.std.proofs.Common.{refl, sym, ap, ap₂, ◌∙◌, arith, lt-ltb, le-ltb, ◌≡◌, cond, ◌+◌, min, ℕ, List, eqb, ltb, get_or, take_all}
use Rattle.residual_search.specs.Fold.{fold}
use Rattle.residual_search.specs.Lengths.{length_in}
use Rattle.residual_search.specs.Search.{beyond, relaxed, relax, open_distance, nearest}
use Rattle.residual_search.specs.Laws.Turns.{relax_more, nearest_more}
use Rattle.residual_search.specs.Laws.Relax.{relax_last, goal_low}
use Rattle.residual_search.specs.Laws.Search.{nearest_small}
use Rattle.residual_search.proofs.search.Found.relax.Goals.{then-key-low, else-key-low}
use Rattle.residual_search.proofs.search.Found.relax.Goals as goal

pub loop-v-init : goal.loop-v-init
unfolding fold
loop-v-init c =
    let a = c.args in
    let l = a.lengths in
    record {
      relaxes = refl;
      ranks = refl;
      nears = ap (λ low. (a.goal, low))
          (goal_low (λ v. length_in l v a.w) a.w a.base a.vs.vertices.now (a.self.now.distance, a.self.now.next) a.self.now.rank c.requires.3
          c.from-end.ensures
          (ap (λ n. a.base + n) (c.length.ensures.0 ∙ ap (length_in l c.from-end.result) c.from-by.ensures))
          c.min-last.ensures
          c.open_distance-low.ensures);
    }

pub loop-v-preserved : goal.loop-v-preserved
loop-v-preserved c =
    let a = c.args in
    let l = a.lengths in
    let v = c.loop-v in
    let len : ℕ → ℕ = λ v. length_in l v a.w in
    let vs = a.vs.vertices.now in
    let s : List ℕ × List ℕ = (a.self.now.distance, a.self.now.next) in
    let last = fold (relaxed len a.w a.base) s vs in
    let more = c.loop-v-test.true in
    let at = c.relax_at-y.ensures in
    let i = c.from-i.result in
    let by = ap (λ n. a.base + n) (c.length-in-loop-v.ensures.0 ∙ ap (length_in l i) c.from-by.ensures) in
    let key = c.open_distance-key in
    let rank = at.rank ∙ v.invariant.ranks in
    let same = relax_last len a.w a.base vs s v.v-index v.invariant.relaxes more c.from-i.ensures by at.now in
    let picked : (c.if-key-low.best ≡ cond (ltb key.result v.low) (get_or vs v.v-index 0) v.best) × (c.if-key-low.low ≡ min key.result v.low)
    = elim c.if-key-low.branch [
      | then-key-low w ↦ (w.best-is ∙ sym (ap (λ b. cond b (get_or vs v.v-index 0) v.best) (lt-ltb key.result v.low w.if-key-low.true)), omega arith)
      | else-key-low w ↦ (w.best-is ∙ sym (ap (λ b. cond b (get_or vs v.v-index 0) v.best) (le-ltb key.result v.low w.if-key-low.false)), omega arith)
    ] in
    record {
      relaxes = relax_more len a.w a.base vs s v.v-index v.invariant.relaxes more c.from-i.ensures by at.distance at.next;
      ranks = rank;
      nears = nearest_more last.0 a.self.now.rank vs (a.goal, open_distance last.0 a.self.now.rank a.goal) v.v-index
          v.invariant.nears
          more
          refl
          c.from-i.ensures
          (key.ensures ∙ ap₂ (λ (r : List ℕ) (y : ℕ). cond (eqb (get_or r i 0) 0) y beyond) rank same)
          picked.0
          picked.1;
    }

pub returns-clause-relaxed : goal.returns-clause-relaxed
unfolding relax
returns-clause-relaxed c = c.loop-v.invariant.relaxes ∙ ap (fold _ _) (take_all _ _ c.loop-v-test.false)

pub returns-clause-nearest : goal.returns-clause-nearest
unfolding nearest
returns-clause-nearest c =
    let a = c.args in
    let all = take_all _ _ c.loop-v-test.false in
    let x = ap (λ (r : List ℕ × List ℕ). r.0) (c.loop-v.invariant.relaxes ∙ ap (fold _ _) all) in
    ap (λ (r : ℕ × ℕ). r.0) (c.loop-v.invariant.nears ∙ ap (fold _ _) all)
    ∙ sym (ap₂ (λ (x rank : List ℕ). nearest a.vs.vertices.now a.goal x rank) x c.loop-v.invariant.ranks)

pub returns-clause-in_range : goal.returns-clause-in_range
returns-clause-in_range c =
    omega (arith, returns-clause-nearest c, nearest_small c.args.vs.vertices.now c.args.goal c.loop-v.self.distance c.loop-v.self.rank c.requires.2 c.args.vs.below_64)
