-- The library's number is that of the definition.
use Rattle.std.proofs.Common.{ap, ◌∙◌}
use Rattle.std.specs.Int.{w64, from_be_bytes}
use Rattle.encoding.specs.Laws.NumberBytes.{long_read}
use Rattle.encoding.proofs.number_bytes.long_at.Goals as goal

pub returns : goal.returns
returns c = c.from_be_bytes.ensures ∙ ap (from_be_bytes w64) c.eight_at.ensures ∙ long_read c.args.lent.now c.args.at
