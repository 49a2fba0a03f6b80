-- `read_plan` meets its contract: a file is refused for its frame, or else read.
use Rattle.std.proofs.Common.{sym, rules}
use Rattle.plan_file.specs.Laws.Reading.{frame_refused, refused_reading_lem}
use Rattle.plan_file.proofs.reader.read_plan.Goals as goal

pub returns-in_err-frame_verdict : goal.returns-in_err-frame_verdict
returns-in_err-frame_verdict c =
    let s = c.args.s.now in
    refused_reading_lem s _ _ (search rules) (frame_refused s _ (sym c.in_err-frame_verdict.ensures))
