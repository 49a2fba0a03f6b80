-- The fields are put one after the other.
use Rattle.plan.specs.Records.{arc_value}
use Rattle.encoding.specs.Laws.RecordBytes.{record_put}
use Rattle.encoding.proofs.record_bytes.put_record.Goals as goal

pub returns : goal.returns
returns c = record_put c.args.lent.now c.args.at (arc_value c.args.a) c.requires _ _ _ c.put_bytes.ensures c.put_number.ensures c.put_number-2.ensures
