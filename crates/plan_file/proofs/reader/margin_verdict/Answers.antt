-- `margin_verdict` meets its contract: at each return the tests on the way say which conditions apply.
use mathlib.Core.Path.{◌∙◌, sym}
use Prim.Native.Nat.{◌<◌, ◌≤◌}
use native.Mathlib.Omega.{arith}
use lib.ListN.{length}
use borrow.Author.Tests.{lt-ltb, le-ltb, eq-eqb, ne_eqb}
use Rattle.postman.specs.Refusal.{first_refusal}
use Rattle.postman.specs.PlanFile.{file_length, fill_bits}
use Rattle.plan_file.specs.Reading.{margin_conditions}
use Rattle.plan_file.proofs.reader.margin_verdict.Goals as goal

pub returns-then-s-needed : goal.returns-then-s-needed
unfolding margin_conditions first_refusal
returns-then-s-needed c =
    let a = c.args in
    let torn : length a.s.now < file_length a.edition a.m = omega (arith, c.file_length-needed.ensures) in
    simp (lt-ltb _ _ torn)

pub returns-then-needed-s : goal.returns-then-needed-s
unfolding margin_conditions first_refusal
returns-then-needed-s c =
    let a = c.args in
    let long : file_length a.edition a.m ≤ length a.s.now = omega (arith, c.file_length-needed.ensures) in
    let over : file_length a.edition a.m < length a.s.now = omega (arith, c.file_length-needed.ensures) in
    simp (le-ltb _ _ long, lt-ltb _ _ over)

pub returns-then-fill_bits-ne0 : goal.returns-then-fill_bits-ne0
unfolding margin_conditions first_refusal
returns-then-fill_bits-ne0 c =
    let a = c.args in
    let e = c.file_length-needed.ensures in
    let low : file_length a.edition a.m ≤ length a.s.now = omega arith in
    let high : length a.s.now ≤ file_length a.edition a.m = omega arith in
    let fill = ne_eqb (fill_bits a.s.now a.edition a.m) 0 (λ z. c.if-fill_bits-ne0.true (c.fill_bits.ensures ∙ z)) in
    simp (le-ltb _ _ low, le-ltb _ _ high, fill)

pub returns : goal.returns
unfolding margin_conditions first_refusal
returns c =
    let a = c.args in
    let e = c.file_length-needed.ensures in
    let low : file_length a.edition a.m ≤ length a.s.now = omega arith in
    let high : length a.s.now ≤ file_length a.edition a.m = omega arith in
    let fill = eq-eqb (fill_bits a.s.now a.edition a.m) 0 (sym c.fill_bits.ensures ∙ c.if-fill_bits-ne0.false) in
    simp (le-ltb _ _ low, le-ltb _ _ high, fill)
