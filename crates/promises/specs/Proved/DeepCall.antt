-- The deep call, proved.
use Rattle.std.specs.Prelude.{List, ℕ}
use Rattle.std.proofs.Common.{sym, ap, ◌∙◌}
use Rattle.std.proofs.Math.Option.{Option}
use Rattle.postman.specs.Refusal.{unless}
use Rattle.postman.specs.PlanFile.{plan_of}
use Rattle.drive_legs.specs.Drive.{written}
use Rattle.round_rule.specs.Rounds.{deep_drive}
use Rattle.deep_call.specs.Contract.{IsDeepAnswer}
use Rattle.deep_call.specs.Laws.Theorem.{one_round, beyond_plan_call, more_rounds, passes_the_judge}
use Rattle.promises.specs.Demands.{Accepted}
use Rattle.promises.specs.DeepCall.{Deep, Refusal, Untouched, CutOff, Written, Floor, OwnMultipliers, Whole, OneRound, BeyondPlanCall, MoreRounds, WrittenPasses}

-- what an answer that is no refusal is
answered : {bytes : List ℕ} {budget rounds : ℕ} {sheet : List ℕ} (c : Deep bytes budget rounds sheet) → Accepted c.answer
    → IsDeepAnswer (plan_of bytes) budget rounds c.after c.answer
answered c good = let d = c.contract.deep in d.answered (sym d.verdict ∙ good)

pub refusal : Refusal
refusal bytes budget rounds sheet c = c.contract.deep.verdict

pub untouched : Untouched
unfolding unless
untouched bytes budget rounds sheet c k e =
    c.contract.deep.sheet ∙ ap (λ (o : Option ℕ). unless o (written (deep_drive (plan_of bytes) budget rounds) sheet) sheet) e

pub cut_off : CutOff
cut_off bytes budget rounds sheet c = c.contract.cut_off

pub is_written : Written
is_written bytes budget rounds sheet c good = let a = answered c good in (a.drive.drive, a.costs, a.drive.first)

pub floor : Floor
floor bytes budget rounds sheet c good = let a = answered c good in (a.below_every_drive, a.above_balancing)

pub own_multipliers : OwnMultipliers
own_multipliers bytes budget rounds sheet c good = (answered c good).multipliers

pub whole : Whole
whole bytes budget rounds sheet c good = let a = answered c good in (a.whole_says, a.whole_least)

pub first_round : OneRound
first_round bytes budget sheet c d =
    let x = one_round bytes budget sheet c.after d.after c.answer d.answer c.contract d.contract in
    let s = x.0 in
    (s.refusal, s.places, s.cost, s.floor, s.trees, s.parts, s.multipliers, x.1)

pub no_worse : BeyondPlanCall
no_worse bytes budget rounds sheet sheet' c d good good' =
    let x = beyond_plan_call bytes budget rounds sheet c.after sheet' d.after c.answer d.answer c.contract
    d.contract good good' in
    (x.no_dearer, x.no_lower)

pub deeper : MoreRounds
deeper bytes budget rounds rounds' sheet sheet' c d more good good' =
    let x = more_rounds bytes budget rounds rounds' more sheet c.after sheet' d.after c.answer d.answer c.contract
    d.contract good good' in
    (x.no_worse.no_dearer, x.no_worse.no_lower, x.met_drive)

pub written_passes : WrittenPasses
written_passes bytes budget rounds sheet c good = passes_the_judge bytes budget rounds sheet c.after c.answer c.contract good
