-- What reading and writing answer and leave over lent bytes, by their refusals.
use Rattle.std.specs.Prelude.{◌≡◌, ℕ, ◌+◌, ◌*◌, ◌/◌, length, pos, neg_ℤ}
use Rattle.std.proofs.Math.Path.{ap}
use Rattle.std.proofs.Common.{◌∙◌}
use mathlib.Core.List.{List, ◌++◌, flat_map}
use Rattle.std.proofs.Math.Option.{Option, none, some}
use Rattle.std.proofs.Math.ListN.{drop}
use Rattle.postman.specs.Refusal.{answer, unless}
use Rattle.postman.specs.PlanFile.{edition, vertex_count, arc_count, plan_of, read_refusal, read_answer}
use Rattle.encoding.specs.RecordBytes.{arc_bytes, arcs_in}
use Rattle.encoding.specs.Laws.RecordBytes.{length_lent}
use Rattle.answers.specs.Number.{one_number}
use Rattle.answers.specs.FileNumber.{packed}
use Rattle.file_exports.specs.Codec.{lent_after}

module _ (file lent : List ℕ) where
  abbrev numbers : ℕ × ℕ × ℕ
  numbers = (edition file, vertex_count file, arc_count file)

  by : (o : Option ℕ) → read_refusal file (length lent / 7) ≡ o
      → (one_number (packed (read_answer file (arcs_in lent))) ≡ one_number (packed (answer o numbers)))
      × (lent_after file lent ≡ unless o (flat_map arc_bytes (plan_of file).arcs ++ drop (7 * arc_count file) lent) lent)
  unfolding read_answer lent_after
  by o e = (
    ap (λ (o : Option ℕ). one_number (packed (answer o numbers))) (ap (read_refusal file) (length_lent lent) ∙ e),
    ap (λ (o : Option ℕ). unless o (flat_map arc_bytes (plan_of file).arcs ++ drop (7 * arc_count file) lent) lent) e,
  )

  pub lent_read_refused : (k : ℕ) → read_refusal file (length lent / 7) ≡ some k
      → (one_number (packed (read_answer file (arcs_in lent))) ≡ neg_ℤ (pos k)) × (lent_after file lent ≡ lent)
  unfolding answer unless
  lent_read_refused k e = by (some k) e

  pub lent_read_given : read_refusal file (length lent / 7) ≡ none
      → (one_number (packed (read_answer file (arcs_in lent))) ≡ pos (edition file * 65536 + vertex_count file * 512 + arc_count file))
      × (lent_after file lent ≡ flat_map arc_bytes (plan_of file).arcs ++ drop (7 * arc_count file) lent)
  unfolding answer unless
  lent_read_given e = by none e
