-- `extent_verdict` meets its contract: `extent-refusal` gives the order of the conditions, and the tests on the way say which apply.
use mathlib.Core.Path.{◌≡◌, ◌∙◌, sym, ap}
use mathlib.Core.Bool.{true, false}
use Prim.Native.Nat.{ℕ}
use native.Mathlib.Omega.{arith}
use Rattle.bits.specs.Laws.Taking.{header_taken}
use Rattle.postman.specs.BitField.{field_at}
use Rattle.postman.specs.Refusal.{first_refusal}
use Rattle.postman.specs.PlanFile.{is_outside}
use Rattle.postman_laws.specs.Laws.Acceptance.{inside}
use Rattle.plan_file.specs.Reading.{margin_conditions}
use Rattle.plan_file.specs.Laws.Reading.{extent-refusal}
use Rattle.plan_file.proofs.reader.extent_verdict.Goals as goal

pub returns-then-is_outside : goal.returns-then-is_outside
returns-then-is_outside c =
    let a = c.args in
    let extent : is_outside (field_at a.s.now 4 7) 1 64 ≡ true =
    ap (λ (n : ℕ). is_outside n 1 64) (sym (c.take_at-n.ensures.0 ∙ header_taken a.s.now 4 7 (omega arith) (omega arith) (omega arith))) ∙ sym c.is_outside.ensures ∙ c.if-is_outside.true in
    rw (extent-refusal a.s.now a.edition) (simp extent)

pub returns-then-is_outside-2 : goal.returns-then-is_outside-2
returns-then-is_outside-2 c =
    let a = c.args in
    let vertices : is_outside (field_at a.s.now 4 7) 1 64 ≡ false =
    ap (λ (n : ℕ). is_outside n 1 64) (sym (c.take_at-n.ensures.0 ∙ header_taken a.s.now 4 7 (omega arith) (omega arith) (omega arith))) ∙ sym c.is_outside.ensures ∙ c.if-is_outside.false in
    let extent : is_outside (field_at a.s.now 11 9) 1 256 ≡ true =
    ap (λ (m : ℕ). is_outside m 1 256) (sym (c.take_at-m.ensures.0 ∙ header_taken a.s.now 11 9 (omega arith) (omega arith) (omega arith))) ∙ sym c.is_outside-2.ensures ∙ c.if-is_outside-2.true in
    rw (extent-refusal a.s.now a.edition) (simp (vertices, extent))

pub margin_verdict-requires : goal.margin_verdict-requires
margin_verdict-requires c = (inside c.take_at-m.result.field 1 256 (sym c.is_outside-2.ensures ∙ c.if-is_outside-2.false)).1

pub returns : goal.returns
returns c =
    let a = c.args in
    let s = a.s.now in
    let n = c.take_at-n.ensures.0 ∙ header_taken s 4 7 (omega arith) (omega arith) (omega arith) in
    let m = c.take_at-m.ensures.0 ∙ header_taken s 11 9 (omega arith) (omega arith) (omega arith) in
    let vertices : is_outside (field_at s 4 7) 1 64 ≡ false =
    ap (λ (n : ℕ). is_outside n 1 64) (sym n) ∙ sym c.is_outside.ensures ∙ c.if-is_outside.false in
    let extent : is_outside (field_at s 11 9) 1 256 ≡ false =
    ap (λ (m : ℕ). is_outside m 1 256) (sym m) ∙ sym c.is_outside-2.ensures ∙ c.if-is_outside-2.false in
    rw (extent-refusal s a.edition)
    (simp (vertices, extent)
    (c.margin_verdict.ensures ∙ ap (λ (x : ℕ). first_refusal (margin_conditions s a.edition x)) m))
