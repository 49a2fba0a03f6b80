-- The tests that the code makes are those of the definition.
use borrow.Author.Tests.{lt-ltb, le-ltb, eq-eqb, ne_eqb}
use Rattle.postman.specs.Refusal.{first_refusal}
use Rattle.call_steps.specs.Refusals.{network_refusal}
use Rattle.call_steps.proofs.steps.network_verdict.Goals as goal

pub returns-then-components-eq0 : goal.returns-then-components-eq0
unfolding network_refusal first_refusal
returns-then-components-eq0 c = simp (eq-eqb _ _ c.if-components-eq0.true)

pub returns-then-components-gt8 : goal.returns-then-components-gt8
unfolding network_refusal first_refusal
returns-then-components-gt8 c = simp (ne_eqb _ _ c.if-components-eq0.false, lt-ltb _ _ c.if-components-gt8.true)

pub returns-then-cut_off : goal.returns-then-cut_off
unfolding network_refusal first_refusal
returns-then-cut_off c = simp (ne_eqb _ _ c.if-components-eq0.false, le-ltb _ _ c.if-components-gt8.false, c.if-cut_off.true)

pub returns : goal.returns
unfolding network_refusal first_refusal
returns c = simp (ne_eqb _ _ c.if-components-eq0.false, le-ltb _ _ c.if-components-gt8.false, c.if-cut_off.false)
