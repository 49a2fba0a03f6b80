-- Each number is its own place.
use Rattle.std.proofs.Common.{zero-add, sym, rules, tests}
use Rattle.renumbering.specs.Laws.Numbering.{unchanged_by}
use Rattle.renumbering.proofs.Made.{made_at}
use Rattle.renumbering.proofs.numbering.identity.Goals as goal

pub returns : goal.returns
returns c =
    unchanged_by c.from_fn-to.result c.from_fn-to.ensures.items.long
    (λ i l. made_at _ _ (λ j. j) (λ j y q h. search (rules, tests)) c.from_fn-to.result 64 0 c.from_fn-to.ensures.items.each i i 0 l (sym (zero-add i)))
