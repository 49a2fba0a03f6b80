-- `write_plan` meets its contract: the verdict is the refusal of writing, and only a plan that is accepted is put.
use Rattle.std.proofs.Common.{◌≡◌, ◌∙◌, sym, ap, Err, rules}
use Rattle.plan_writer.specs.Writing.{written_answer}
use mathlib.Core.List.{◌++◌}
use Prim.Native.Nat.{ℕ}
use native.Mathlib.Omega.{arith}
use lib.ListN.{drop}
use Rattle.postman.specs.Refusal.{given}
use Rattle.postman.specs.PlanFile.{file_length, file_of}
use Rattle.postman_laws.specs.Laws.Acceptance.{accepted_is_writable, few_arcs}
use Rattle.plan.specs.Records.{plan_value}
use Rattle.plan_writer.specs.Laws.Writing.{length_value, given_answer, given_bytes, refused_answer, refused_bytes}
use Rattle.plan_writer.proofs.writer.write_plan.Goals as goal

pub put_plan-requires : goal.put_plan-requires
put_plan-requires c =
    let a = c.args in
    let accepted = sym c.in_ok-plan_verdict.ensures in
    let count = length_value a.p in
    (omega (arith, few_arcs a.edition (plan_value a.p) _ accepted), rw count at (accepted_is_writable a.edition (plan_value a.p) _ accepted).enough)

pub file_length-requires : goal.file_length-requires
file_length-requires c =
    let a = c.args in
    let accepted = sym c.in_ok-plan_verdict.ensures in
    omega (arith, few_arcs a.edition (plan_value a.p) _ accepted, length_value a.p)

pub returns : goal.returns
returns c =
    let a = c.args in
    let s = a.s.now in
    let p = plan_value a.p in
    let accepted = sym c.in_ok-plan_verdict.ensures in
    let count = length_value a.p in record {
      answered = ap given (c.file_length.ensures ∙ ap (file_length a.edition) (sym count)) ∙ sym (given_answer a.edition p s accepted);
      bytes_written = c.put_plan.ensures
          ∙ ap (λ (m : ℕ). file_of a.edition p ++ drop (file_length a.edition m) s) (sym count)
          ∙ sym (given_bytes a.edition p s accepted);
    }

pub returns-in_err-plan_verdict : goal.returns-in_err-plan_verdict
returns-in_err-plan_verdict c =
    let a = c.args in
    let s = a.s.now in
    let p = plan_value a.p in
    let refusal = sym c.in_err-plan_verdict.ensures in
    let r : c.from_residual.result ≡ Err c.in_err-plan_verdict.field-0.0 = search rules in
    record {
      answered = ap written_answer r ∙ sym (refused_answer a.edition p s _ refusal);
      bytes_written = sym (refused_bytes a.edition p s _ refusal);
    }
