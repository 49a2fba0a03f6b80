-- `put_plan` meets its contract: clearing, header and arcs make the file (`put-plan-file`).
use mathlib.Core.Path.{◌∙◌, ap}
use mathlib.Core.List.{List, ◌++◌}
use Prim.Native.Nat.{ℕ}
use native.Mathlib.Omega.{arith}
use lib.ListN.{replicate, drop}
use Rattle.postman_laws.specs.Laws.FileLength.{bits_least, bits_fit}
use Rattle.plan_writer.specs.Laws.PlanUpdate.{put-plan-file}
use Rattle.plan_writer.specs.PlanUpdate.{put_header, put_arcs}
use Rattle.plan.specs.Records.{record_at, plan_value}
use Rattle.plan_writer.proofs.writer.put_plan.Goals as goal

pub put_header-requires : goal.put_header-requires
put_header-requires c =
    let a = c.args in
    omega (arith, c.clear.auto.s, c.requires, bits_fit a.edition a.p.m, bits_least a.edition a.p.m)

pub put_arcs-requires : goal.put_arcs-requires
put_arcs-requires c = (
  c.requires.0,
  omega (arith, c.put_header.auto.s, c.clear.auto.s, c.requires.1, bits_fit c.args.edition c.args.p.m),
)

pub returns : goal.returns
unfolding plan_value
returns c =
    let a = c.args in
    let s = a.s.now in
    let e = a.edition in
    let n = a.p.n in
    let m = a.p.m in
    let f = record_at a.p.arcs in
    let cleared = c.clear.ensures ∙ ap (λ (k : ℕ). replicate k 0 ++ drop k s) c.file_length.ensures in
    let headed = c.put_header.ensures ∙ ap (λ (s : List ℕ). put_header s e n m) cleared in
    let done = c.put_arcs.ensures ∙ ap (λ (s : List ℕ). put_arcs s e f m) headed in
    put-plan-file e s n m f _ c.requires.1 done (λ j. omega (arith, c.slice_known-4-1.given j))
