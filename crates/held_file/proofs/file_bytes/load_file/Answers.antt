-- The 1,475 bytes are held as a file of their own, whole.
use mathlib.Core.Path.{ap, ◌∙◌}
use Rattle.held_file.specs.declared.Held.{Held}
use Rattle.held_file.specs.Laws.Held.{held_whole}
use Rattle.held_file.proofs.file_bytes.load_file.Goals as goal

pub returns : goal.returns
returns c =
    let file = ap (λ (x : Held). x.file) c.hold-whole.ensures ∙ held_whole c.args.lent.now c.args.at c.requires in
    λ j. record { length = c.args.n; file = file j }
