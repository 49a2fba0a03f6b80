-- `framed_plan` meets its contract: a file whose frame is good has its header, its limits and its length (`framed`).
use mathlib.Core.Path.{◌≡◌, ◌∙◌}
use mathlib.Core.List.{List}
use mathlib.Core.Option.{none}
use Prim.Native.Nat.{ℕ}
use native.Mathlib.Omega.{arith}
use Rattle.bits.specs.Taking.{taken_field}
use Rattle.bits.specs.Laws.Taking.{header_taken}
use Rattle.postman.specs.Refusal.{first_refusal}
use Rattle.postman.specs.PlanFile.{edition, arc_count, vertex_count}
use Rattle.postman_laws.specs.Laws.FileLength.{bits_fit}
use Rattle.plan_file.specs.Reading.{frame_conditions}
use Rattle.plan_file.specs.Laws.Reading.{framed, plan_parts}
use Rattle.plan_file.proofs.reader.framed_plan.Goals as goal

-- n and m are those of the file
vertices : (s : List ℕ) (x : ℕ) → first_refusal (frame_conditions s) ≡ none → x ≡ taken_field s 4 7 → x ≡ vertex_count s
unfolding vertex_count
vertices s x e f = f ∙ header_taken s 4 7 (framed s e).0 (omega arith) (omega arith)

arcs : (s : List ℕ) (x : ℕ) → first_refusal (frame_conditions s) ≡ none → x ≡ taken_field s 11 9 → x ≡ arc_count s
unfolding arc_count
arcs s x e f = f ∙ header_taken s 11 9 (framed s e).0 (omega arith) (omega arith)

pub read_arcs-arcs-requires : goal.read_arcs-arcs-requires
read_arcs-arcs-requires c =
    let s = c.args.s.now in
    let ok = framed s c.requires in
    let m = arcs s c.take_at-m.result.field c.requires c.take_at-m.ensures.0 in
    let e = c.file_edition-edition.ensures in
    (omega (arith, ok.2, m), rw (e, m) (omega (arith, ok.3, bits_fit (edition s) (arc_count s))))

pub overflow_cast-result : goal.overflow_cast-result
overflow_cast-result c =
    let s = c.args.s.now in
    omega (arith, (framed s c.requires).1, vertices s c.take_at-n.result.field c.requires c.take_at-n.ensures.0)

pub overflow_cast-result-2 : goal.overflow_cast-result-2
overflow_cast-result-2 c =
    let s = c.args.s.now in
    omega (arith, (framed s c.requires).2, arcs s c.take_at-m.result.field c.requires c.take_at-m.ensures.0)

pub returns : goal.returns
returns c =
    let s = c.args.s.now in
    plan_parts s _ _ _ _ c.file_edition-edition.ensures (vertices s _ c.requires c.take_at-n.ensures.0) (arcs s _ c.requires c.take_at-m.ensures.0) c.read_arcs-arcs.ensures
