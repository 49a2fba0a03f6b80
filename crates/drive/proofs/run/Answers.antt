-- Of an answer the contract gives the floor's sign and the count of places, which lie within the sheet.
use Rattle.std.proofs.Common.{refl}
use Rattle.solution.specs.Laws.Answered.{floor_above, places_fit, places_count}
use Rattle.drive.proofs.run.Goals as goal

pub slice_bounds-sheet-end : goal.slice_bounds-sheet-end
slice_bounds-sheet-end c = places_fit _ _ _ _ _ _ c.in-Ok.ensures.planned refl

pub slice_bounds-print_answer-end : goal.slice_bounds-print_answer-end
slice_bounds-print_answer-end c = places_count _ _ _ _ _ _ c.in-Ok.ensures.planned refl

pub print_answer-requires : goal.print_answer-requires
print_answer-requires c = floor_above _ _ _ _ _ _ c.in-Ok.ensures.planned refl
