-- An open plan, proved.
use Rattle.std.proofs.Common.{sym, ap, ◌∙◌}
use Rattle.std.proofs.Math.Option.{Option}
use Rattle.std.specs.Prelude.{ℕ}
use Rattle.postman.specs.OpenPlan.{unless_refused}
use Rattle.open_plan.specs.State.{next}
use Rattle.open_plan.specs.Laws.Theorem.{history_gives, asking, never_refused, same_plan_lem}
use Rattle.promises.specs.OpenPlan.{OpenRefusals, RefusedAlike, History, AskingGives, NeverRefused, AskedAgain}
use Rattle.promises.specs.Laws.Equal.{asked_equal}

pub open_refusals : OpenRefusals
open_refusals bytes r h = h.verdict

pub refused_alike : RefusedAlike
refused_alike s c r h k e = h.state ∙ ap (λ (o : Option ℕ). unless_refused o (next s c) s) (sym h.verdict ∙ e)

pub history : History
history bytes o = history_gives bytes o.small o.answer o.contract o.accepted

pub asking_gives : AskingGives
asking_gives bytes o cs t numbers run budget windows d sheet a =
    asking bytes o.small o.answer o.contract o.accepted cs t numbers run budget windows d sheet a.after a.answer
    a.contract

pub never_is_refused : NeverRefused
never_is_refused bytes x =
    let o = x.opening in (
      never_refused bytes o.small o.answer o.contract o.accepted _ _ _ x.come _ _ x.set_at x.accepted _ _ _ x.gone
          x.not_again _ x.back,
      same_plan_lem bytes o.small o.answer o.contract o.accepted _ _ _ x.come _ _ x.set_at x.accepted _ _ _ x.gone
          x.not_again _ x.back,
    )

pub asked_again_same : AskedAgain
asked_again_same bytes x budget windows d sheet sheet' a b e =
    let o = x.opening in
    let s = same_plan_lem bytes o.small o.answer o.contract o.accepted _ _ _ x.come _ _ x.set_at x.accepted _ _ _
    x.gone x.not_again _ x.back in
    asked_equal s e a.contract b.contract
