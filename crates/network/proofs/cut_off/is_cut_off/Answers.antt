-- Some passes, or none does.
use Rattle.std.proofs.Common.{rules, tests, refl, ◌∙◌}
use Rattle.std.proofs.lemmas.Iterator.{YieldsList-from_range}
use Rattle.std.proofs.lemmas.Iterator.Search.{any_from_yields_List}
use Rattle.required.specs.Laws.Search.{any_counted}
use Rattle.network.specs.CutOff.{is_cut, cuts_off}
use Rattle.network.proofs.cut_off.is_cut_off.Goals as goal

pub returns : goal.returns
unfolding cuts_off
returns c =
    any_from_yields_List (is_cut c.args.d.now c.args.required) _ _ c.any.result c.any.ensures.ran (YieldsList-from_range 0 64 64 refl refl) (λ x b q k. search (rules, tests))
    ∙ any_counted (is_cut c.args.d.now c.args.required) 64
