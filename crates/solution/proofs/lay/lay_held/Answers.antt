-- The first places of the arrays are the tree's.
use mathlib.Core.Path.{◌≡◌, sym, ap, ◌∙◌}
use mathlib.Core.List.{List}
use Prim.Native.Nat.{◌-◌}
use lib.ListN.{length, take}
use Rattle.postman.specs.Link.{Link}
use Rattle.postman.specs.Component.{component_count}
use Rattle.plan.specs.Records.{plan_value}
use Rattle.drive_legs.specs.Filled.{links_of}
use Rattle.drive_legs.specs.Drive.{written}
use Rattle.multipliers.specs.Drive.{tree_drive}
use Rattle.multipliers.specs.Laws.Lay.{arcs_links}
use Rattle.preparation.specs.Laws.Preparation.{component_range}
use Rattle.solution.proofs.lay.lay_held.Goals as goal

pub overflow_sub-n : goal.overflow_sub-n
overflow_sub-n c = rw c.from-n.ensures (component_range _ _ _ c.args.p.now.prepared).0

pub returns : goal.returns
returns c =
    let p = plan_value c.args.p.now.good.now.plan in
    let m : c.from-n.result - 1 ≡ component_count p - 1 = ap (λ n. n - 1) (c.from-n.ensures ∙ c.args.p.now.prepared.network.components.all) in
    let l = c.lay in
    let t = ap (λ n. links_of (take n c.args.tails) (take n c.args.heads)) m ∙ sym (arcs_links (take (component_count p - 1) c.args.tails) (take (component_count p - 1) c.args.heads)) in
    record {
      sheet_written = l.ensures.sheet_written ∙ ap (λ (t : List Link). written (tree_drive p t) c.args.sheet.now) t;
      place_count = l.ensures.place_count ∙ ap (λ (t : List Link). length (tree_drive p t)) t;
    }
