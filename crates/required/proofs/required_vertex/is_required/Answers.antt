-- Some required arc touches v, or none does.
use Rattle.std.proofs.Common.{rules, tests, arith, ◌≡◌, take, ◌∙◌}
use Rattle.std.specs.List.{list_any}
use Rattle.std.proofs.lemmas.Iterator.{YieldsList-from_slice}
use Rattle.std.proofs.lemmas.Iterator.Search.{any_from_yields_List}
use Rattle.plan.specs.declared.Arc.{Arc as ArcRecord}
use Rattle.plan.specs.Records.{arc_value}
use Rattle.plan.specs.Laws.Records.{record_arcs}
use Rattle.required.specs.Laws.RequiredVertex.{touches, required_any}
use Rattle.required.proofs.required_vertex.is_required.Goals as goal

pub shared_ref_as_front-iter : goal.shared_ref_as_front-iter
shared_ref_as_front-iter c = omega (arith, record_arcs c.args.good.now.plan c.args.good.now.well_formed)

pub returns : goal.returns
returns c =
    let e : c.any.result ≡ list_any (λ a. touches c.args.v (arc_value a)) (take c.from.result c.args.good.now.plan.arcs)
    = any_from_yields_List (λ (a : ArcRecord). touches c.args.v (arc_value a)) _ _ c.any.result c.any.ensures.ran (YieldsList-from_slice (take c.from.result c.args.good.now.plan.arcs) cc)
    (λ x b q k. search (rules, tests)) in
    e ∙ required_any c.args.good.now.plan c.args.good.now.well_formed c.args.v (search rules) _ c.from.ensures
