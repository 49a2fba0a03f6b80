-- The floor of a search for a cheaper tree: where all trees are tried, what is found or known is the least. The best tree can be laid.
use Rattle.std.specs.Prelude.{◌≡◌, Bool, ℕ, ◌≤◌, T}
use Rattle.std.proofs.Math.Path.{refl, ap}
use Rattle.std.proofs.Common.{◌∙◌, arith}
use Rattle.std.proofs.Math.Bool.{true, false, cond}
use Rattle.std.proofs.Math.Decide.{dec_lt}
use Rattle.std.proofs.Math.ListN.{get_or}
use Rattle.std.proofs.Math.IntN.{ℤ, pos}
use Rattle.postman.specs.Lists.{maxℤ}
use Rattle.postman.specs.Plan.{Plan}
use Rattle.postman.specs.Component.{component_count}
use Rattle.postman.specs.LagrangianBound.{lagrangian_bound}
use Rattle.postman.specs.PlanCall.{is_whole, best_cost, lower_bound}
use Rattle.postman.specs.Steps.{Plannable}
use Rattle.tree_search.specs.declared.improve.Searched.{Searched}
use Rattle.multipliers.specs.Ascent.{multipliers_for}
use Rattle.tree_search.specs.declared.trees.Reached.{Reached}
use Rattle.tree_search.specs.Resumed.{HoldsTree}
use Rattle.tree_search.specs.Improved.{above_costs, IsImproved}
use Rattle.tree_search.specs.Laws.BestTree.{best_held}
use Rattle.tree_search.specs.Laws.Improved.{best_below}
use Rattle.solution.specs.Concluded.{floor_with}
use Rattle.held_tree.specs.declared.cheaper.Found.{Found}
use Rattle.held_tree.specs.Cheaper.{IsBest, IsCheaper}

module _ (p : Plan) (cost tries : ℕ) (s : Searched) (h : IsImproved p cost tries s)
    (least : T (is_whole p tries) → best_cost p tries ≤ cost) where
  whole_cost : T (is_whole p tries) → s.cost ≡ best_cost p tries
  whole_cost t = elim (dec_lt (best_cost p tries) cost) [
    | yes l ↦ (h.cheaper l).0
    | no l ↦ (let a = least t in let b = h.none_cheaper (omega arith) in omega arith)
  ]

  pub floor_as : floor_with p s.whole s.cost ≡ lower_bound p tries (λ i. get_or (multipliers_for p) i (pos 0))
  unfolding lower_bound
  floor_as =
      let b : ℤ = maxℤ (lagrangian_bound p (λ i. pos 0)) (lagrangian_bound p (λ i. get_or (multipliers_for p) i (pos 0))) in
      ap (λ w. cond w (pos s.cost) b) h.whole ∙ at (is_whole p tries) b (λ t. ap pos (whole_cost t))
    where
      at : (w : Bool) (b : ℤ) → (T w → pos s.cost ≡ pos (best_cost p tries))
          → cond w (pos s.cost) b ≡ cond w (pos (best_cost p tries)) b
      at true b e = e tt
      at false b e = refl

module _ (p : Plan) (ok : Plannable p) (few : component_count p ≤ 8) (tries : ℕ) (one : 1 ≤ tries) where
  pub best_holds : (g : Reached) → IsBest p tries g → HoldsTree p g.tails g.heads
  best_holds g h = best_held p ok few tries one g.tails g.heads h.links_are

  -- where no tree was tried before, the best is found
  pub first_best : (r : Found) → IsCheaper p above_costs tries r → IsBest p tries r.best
  first_best r h = h.cheaper (best_below p ok few tries one)
