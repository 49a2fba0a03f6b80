-- `file_arc` meets its contract: `read_arc` with the edition that the file has, where there is room.
use mathlib.Core.Path.{◌≡◌, ◌∙◌, ap, sym}
use mathlib.Core.Bool.{true, false}
use Prim.Native.Nat.{ℕ}
use Rattle.postman.specs.PlanFile.{edition, arc_of}
use Rattle.plan.specs.Records.{record_of}
use Rattle.plan_file.specs.Reading.{has_arc}
use Rattle.plan_file.specs.Laws.Room.{has_within, record_there, no_record}
use Rattle.plan_file.proofs.reader.file_arc.Goals as goal

pub read_arc-requires : goal.read_arc-requires
read_arc-requires c = let a = c.args in has_within a.s.now c.file_edition-e.result a.k (sym c.has_arc.ensures ∙ c.if-has_arc.true)

pub returns-then-has_arc : goal.returns-then-has_arc
returns-then-has_arc c =
    let a = c.args in
    let s = a.s.now in
    let e = c.file_edition-e.ensures in
    let has : has_arc s (edition s) a.k ≡ true = ap (λ (x : ℕ). has_arc s x a.k) (sym e) ∙ sym c.has_arc.ensures ∙ c.if-has_arc.true in
    c.read_arc.ensures ∙ ap (λ (x : ℕ). record_of (arc_of s x a.k)) e ∙ sym (record_there s a.k has)

pub returns-else-has_arc : goal.returns-else-has_arc
returns-else-has_arc c =
    let a = c.args in
    let s = a.s.now in
    let none : has_arc s (edition s) a.k ≡ false = ap (λ (x : ℕ). has_arc s x a.k) (sym c.file_edition-e.ensures) ∙ sym c.has_arc.ensures ∙ c.if-has_arc.false in
    sym (no_record s a.k none)
