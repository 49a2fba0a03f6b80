-- The ranks of the labels are the numbers of the components.
use mathlib.Core.Path.{◌≡◌, ap₂, ◌∙◌}
use mathlib.Core.Bool.{Bool, false, cond}
use mathlib.Core.List.{List}
use Prim.Native.Nat.{ℕ, ◌<◌}
use native.Mathlib.Omega.{arith}
use lib.ListN.{get_or}
use Rattle.plan.specs.Records.{plan_value}
use Rattle.components.specs.Labels.{roots_below, number_of}
use Rattle.components.specs.Laws.Roots.{roots_count, number_component}
use Rattle.components.proofs.components.components_of.Goals as goal

numbered : (r : List Bool) (labels below : List ℕ) (all v x : ℕ) → get_or labels v 0 < 64 → ((u : ℕ) → u < 64 → get_or below u 0 ≡ roots_below r labels u)
    → all ≡ roots_below r labels 64 → x ≡ cond (get_or r v false) (get_or below (get_or labels v 0) 0) all → x ≡ number_of r labels v
numbered r labels below all v x l h e f = f ∙ ap₂ (λ (a b : ℕ). cond (get_or r v false) a b) (h (get_or labels v 0) l) e

pub returns : goal.returns
returns c =
    let l = c.labels_of-labels.ensures in
    let k = c.ranks_of-ranks.ensures in
    record {
      each = λ v g.
          numbered c.args.required c.labels_of-labels.result c.ranks_of-ranks.result.below c.ranks_of-ranks.result.all v _ (let e = l.low v g in omega arith) k.1 k.0 (c.numbers.ensures v g)
          ∙ number_component (plan_value c.args.good.now.plan) c.args.good.now.well_formed c.args.required c.requires c.labels_of-labels.result l v g;
      all = k.0 ∙ roots_count (plan_value c.args.good.now.plan) c.args.good.now.well_formed c.args.required c.requires c.labels_of-labels.result l;
    }
