-- `frame_verdict` meets its contract: `frame-refusal` gives the order of the header's conditions, and the tests on the way say which apply.
use mathlib.Core.Path.{◌≡◌, ◌∙◌, sym, ap}
use mathlib.Core.Bool.{true, false}
use Prim.Native.Nat.{ℕ}
use lib.ListN.{length}
use borrow.Author.Tests.{lt-ltb, le-ltb}
use Rattle.postman.specs.Refusal.{first_refusal}
use Rattle.postman.specs.PlanFile.{edition, is_edition}
use Rattle.plan_file.specs.Reading.{extent_on}
use Rattle.plan_file.specs.Laws.Reading.{frame-refusal}
use Rattle.plan_file.proofs.reader.frame_verdict.Goals as goal

pub returns-then-s-lt3 : goal.returns-then-s-lt3
returns-then-s-lt3 c =
    let s = c.args.s.now in
    rw (frame-refusal s) (simp (lt-ltb (length s) 3 c.if-s-lt3.true))

pub returns-then-not-is_edition : goal.returns-then-not-is_edition
returns-then-not-is_edition c =
    let s = c.args.s.now in
    let known : is_edition (edition s) ≡ false = ap is_edition (sym c.file_edition-edition.ensures) ∙ sym c.is_edition.ensures ∙ c.if-not-is_edition.true in
    rw (frame-refusal s) (simp (le-ltb (length s) 3 c.if-s-lt3.false, known))

pub returns : goal.returns
returns c =
    let s = c.args.s.now in
    let e = c.file_edition-edition.ensures in
    let known : is_edition (edition s) ≡ true = ap is_edition (sym e) ∙ sym c.is_edition.ensures ∙ c.if-not-is_edition.false in
    rw (frame-refusal s) (simp (le-ltb (length s) 3 c.if-s-lt3.false, known) (c.extent_verdict.ensures ∙ ap (λ (x : ℕ). first_refusal (extent_on s x)) e))
