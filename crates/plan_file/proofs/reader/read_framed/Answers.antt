-- `read_framed` meets its contract: the records are the file's arcs, so the verdict on them is the file's (`arcs-refusal`).
use Rattle.std.proofs.Common.{◌∙◌, sym, rules}
use Rattle.plan_file.specs.Laws.Reading.{few_arcs, arcs-refusal, given_reading, refused_reading_lem}
use Rattle.plan_file.proofs.reader.read_framed.Goals as goal

pub all_records_verdict-requires : goal.all_records_verdict-requires
all_records_verdict-requires c =
    few_arcs c.args.s.now c.requires _ c.file_edition-edition.ensures _ c.framed_plan-plan.ensures

pub returns : goal.returns
returns c =
    let s = c.args.s.now in
    let edition = c.file_edition-edition.ensures in
    let plan = c.framed_plan-plan.ensures in
    let passed = sym c.in_ok-all_records_verdict.ensures in
    given_reading s c.requires _ edition _ plan (sym (arcs-refusal s c.requires _ edition _ plan) ∙ passed)

pub returns-in_err-all_records_verdict : goal.returns-in_err-all_records_verdict
returns-in_err-all_records_verdict c =
    let s = c.args.s.now in
    let edition = c.file_edition-edition.ensures in
    let plan = c.framed_plan-plan.ensures in
    let stopped = sym c.in_err-all_records_verdict.ensures in
    refused_reading_lem s _ _ (search rules) (sym (arcs-refusal s c.requires _ edition _ plan) ∙ stopped)
