-- The links that are held for a plan that is prepared: as many as it has components but one, in arrays of eight.
use Rattle.std.specs.Prelude.{◌≡◌, Bool, List, ℕ, ◌-◌, length, take}
use Rattle.std.proofs.Common.{sym, ap, ◌∙◌, subst, arith, length-take}
use Rattle.postman.specs.Plan.{Plan}
use Rattle.postman.specs.Component.{component_count}
use Rattle.postman.specs.Balancing.{completion_cost}
use Rattle.branches.specs.Links.{links_in}
use Rattle.drive_legs.specs.Filled.{links_of}
use Rattle.multipliers.specs.Prepared.{IsTree}
use Rattle.multipliers.specs.Laws.Lay.{arcs_links}
use Rattle.preparation.specs.declared.prepare.Preparation.{Preparation}
use Rattle.preparation.specs.Preparation.{IsPreparation}
use Rattle.preparation.specs.Laws.Preparation.{component_range}
use Rattle.tree_check.specs.Tree.{IsHeldTree}
use Rattle.tree_check.specs.Laws.Tree.{Says}
use Rattle.district_turn.specs.DistrictTurn.{is_tree}
use Rattle.district_turn.specs.Laws.HeldTree.{holds_tree}
use Rattle.district_turn.specs.Laws.DistrictTurn.{tested}

module _ (p : Plan) (table : List (List ℕ)) (r : Preparation) (h : IsPreparation p table r) where
  abbrev n : ℕ
  n = r.network.components - 1

  same_count : n ≡ component_count p - 1
  same_count = ap (λ k. k - 1) h.network.components.all

  pub held_length : (xs : List ℕ) → length xs ≡ 8 → n ≡ length (take n xs)
  held_length xs l = let c = (component_range p table r h).1 in let e = length-take n xs in omega arith

  module _ (ts hs : List ℕ) where
    -- a cost of the links, however their number is said
    pub held_cost : (c : ℕ) → c ≡ completion_cost p (links_of (take n ts) (take n hs))
        → c ≡ completion_cost p (links_in (component_count p - 1) ts hs)
    held_cost c e =
        let m = component_count p - 1 in
        e ∙ ap (λ k. completion_cost p (links_of (take k ts) (take k hs))) same_count
        ∙ ap (completion_cost p) (sym (arcs_links (take m ts) (take m hs)))

    module _ (lt : length ts ≡ 8) (lh : length hs ≡ 8) where
      -- the test for a tree is that of the definition
      pub held_tested : (b : Bool) → Says b (IsHeldTree r.network.links r.network.component ts hs r.network.components)
          → b ≡ is_tree p (links_in (component_count p - 1) ts hs)
      held_tested =
          let k = component_range p table r h in
          tested p h.base.known.plannable.well_formed r.network.links r.network.component r.network.components
          h.network.links h.network.components k.1 k.0 ts hs lt lh

      pub held_tree : IsHeldTree r.network.links r.network.component ts hs r.network.components
          → IsTree p (take n ts) (take n hs)
      held_tree t =
          let k = component_range p table r h in
          subst (λ k. IsTree p (take k ts) (take k hs)) (sym same_count)
          (holds_tree p h.base.known.plannable.well_formed r.network.links r.network.component r.network.components
          h.network.links h.network.components k.1 k.0 ts hs lt lh t).tree
