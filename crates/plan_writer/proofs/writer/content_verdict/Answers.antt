-- `content_verdict` meets its contract: at each return the tests on the way say which conditions apply (`Writing`).
use Rattle.std.proofs.Common.{◌≡◌, ◌∙◌, sym, ap, Err, rules}
use Rattle.refusal.specs.Verdict.{verdict_number}
use Prim.Native.Nat.{◌<◌, ◌≤◌}
use native.Mathlib.Omega.{arith}
use borrow.Author.Tests.{lt-ltb, le-ltb}
use Rattle.postman.specs.PlanFile.{file_length}
use Rattle.postman_laws.specs.Laws.Acceptance.{inside}
use Rattle.plan_writer.specs.Laws.Writing.{extent_n, extent_m, of-record, of_room}
use Rattle.plan_writer.proofs.writer.content_verdict.Goals as goal

pub returns-then-is_outside : goal.returns-then-is_outside
returns-then-is_outside c =
    let a = c.args in
    sym (extent_n a.edition a.p a.room c.requires (sym c.is_outside.ensures ∙ c.if-is_outside.true))

pub returns-then-is_outside-2 : goal.returns-then-is_outside-2
returns-then-is_outside-2 c =
    let a = c.args in
    sym (extent_m a.edition a.p a.room c.requires (sym c.is_outside.ensures ∙ c.if-is_outside.false) (sym c.is_outside-2.ensures ∙ c.if-is_outside-2.true))

pub all_records_verdict-requires : goal.all_records_verdict-requires
all_records_verdict-requires c = (inside c.args.p.m 1 256 (sym c.is_outside-2.ensures ∙ c.if-is_outside-2.false)).1

pub file_length-requires : goal.file_length-requires
file_length-requires c = (inside c.args.p.m 1 256 (sym c.is_outside-2.ensures ∙ c.if-is_outside-2.false)).1

pub returns-then-room-file_length : goal.returns-then-room-file_length
returns-then-room-file_length c =
    let a = c.args in
    let records = sym c.in_ok-all_records_verdict.ensures in
    let short : a.room < file_length a.edition a.p.m = omega (arith, c.file_length.ensures) in
    sym
    (of_room a.edition a.p a.room c.requires (sym c.is_outside.ensures ∙ c.if-is_outside.false) (sym c.is_outside-2.ensures ∙ c.if-is_outside-2.false) records
    ∙ simp (lt-ltb a.room (file_length a.edition a.p.m) short))

pub returns : goal.returns
returns c =
    let a = c.args in
    let records = sym c.in_ok-all_records_verdict.ensures in
    let room : file_length a.edition a.p.m ≤ a.room = omega (arith, c.file_length.ensures) in
    sym
    (of_room a.edition a.p a.room c.requires (sym c.is_outside.ensures ∙ c.if-is_outside.false) (sym c.is_outside-2.ensures ∙ c.if-is_outside-2.false) records
    ∙ simp (le-ltb a.room (file_length a.edition a.p.m) room))

pub returns-in_err-all_records_verdict : goal.returns-in_err-all_records_verdict
returns-in_err-all_records_verdict c =
    let a = c.args in
    let record-refused = sym c.in_err-all_records_verdict.ensures in
    let r : c.from_residual.result ≡ Err c.in_err-all_records_verdict.field-0.0 = search rules in
    ap verdict_number r
    ∙ sym (of-record a.edition a.p a.room c.requires (sym c.is_outside.ensures ∙ c.if-is_outside.false) (sym c.is_outside-2.ensures ∙ c.if-is_outside-2.false) _ record-refused)
