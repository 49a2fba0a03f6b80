-- The library's bytes are those of the definition.
use Rattle.std.proofs.Common.{ap, ◌∙◌}
use Rattle.encoding.specs.NumberBytes.{put_at}
use Rattle.encoding.specs.Laws.NumberBytes.{long_is}
use Rattle.encoding.proofs.number_bytes.put_long.Goals as goal

pub returns : goal.returns
returns c = c.put_bytes.ensures ∙ ap (put_at c.args.lent.now c.args.at) (c.to_be_bytes.ensures ∙ long_is c.args.k c.ranges.k.fits)
