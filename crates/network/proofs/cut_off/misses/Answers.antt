-- Some passes, or none does.
use Rattle.std.proofs.Common.{rules, tests, refl, ◌∙◌}
use Rattle.std.proofs.lemmas.Iterator.{YieldsList-from_range}
use Rattle.std.proofs.lemmas.Iterator.Search.{any_from_yields_List}
use Rattle.required.specs.Laws.Search.{any_counted}
use Rattle.network.specs.CutOff.{has_no_path, misses_some}
use Rattle.network.proofs.cut_off.misses.Goals as goal

pub returns : goal.returns
unfolding misses_some
returns c =
    any_from_yields_List (has_no_path c.args.d.now c.args.required c.args.i) _ _ c.any.result c.any.ensures.ran (YieldsList-from_range 0 64 64 refl refl) (λ x b q k. search (rules, tests))
    ∙ any_counted (has_no_path c.args.d.now c.args.required c.args.i) 64
