-- The plan file, proved.
use Rattle.std.proofs.Common.{sym, ◌∙◌}
use Rattle.std.specs.Prelude.{length}
use Rattle.promises.specs.PlanFile.{ReadRefused, ReadGiven, WriteRefused, WriteGiven, ReadsBack, WritesBack}
use Rattle.promises.specs.Laws.File.{read_refused, read_given, write_refused, write_given_list, same_plan_lem, written_back, read_back}

pub reading_refused : ReadRefused
reading_refused bytes list r k e = let x = read_refused bytes list k e in (r.answer_is ∙ x.0, r.after_is ∙ x.1)

pub reading_given : ReadGiven
reading_given bytes list r e = let x = read_given bytes list e in (r.answer_is ∙ x.0, r.after_is ∙ x.1)

pub writing_refused : WriteRefused
writing_refused e n list bytes w k h = let x = write_refused e _ bytes k h in (w.answer_is ∙ x.0, w.after_is ∙ x.1)

pub writing_given : WriteGiven
writing_given e n list bytes w h = let x = write_given_list e n list bytes h in (w.answer_is ∙ x.0, w.after_is ∙ x.1)

pub reads_back : ReadsBack
reads_back e n list bytes w k small h into enough r =
    let x = read_back e n list into bytes w.after k small (sym h ∙ w.answer_is) w.after_is enough in
    (r.answer_is ∙ x.0, r.after_is ∙ x.1)

pub writes_back : WritesBack
writes_back bytes list r small e slice enough w =
    let x = written_back bytes (length list) slice _ small e enough (same_plan_lem bytes list r.after e r.after_is) in
    (w.answer_is ∙ x.0, w.after_is ∙ x.1)
