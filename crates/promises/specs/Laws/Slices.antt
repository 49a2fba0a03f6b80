-- Slices that are the same; and what is read of an answer that was handed over.
use Rattle.std.specs.Prelude.{◌≡◌, List, ℕ, ◌<◌, ℤ, pos, length, get_or, Result}
use Rattle.std.proofs.Common.{sym, ◌∙◌}
use Rattle.std.proofs.Math.Path.{ap}
use Rattle.std.proofs.Math.Option.{Option, none}
use Rattle.postman.specs.Refusal.{unless}
use Rattle.refusal.specs.Verdict.{verdict_number}
use Rattle.refusal.specs.declared.Refusal.{Refusal}
use Rattle.solution.specs.Planned.{u_list}
use Rattle.solution.specs.declared.Planned.{Planned}
use Rattle.answers.specs.Answer.{words_of, put_first}
use Rattle.answers.specs.Laws.Answer.{put_at, answered_zero}
use Rattle.promises.specs.Slices.{Slices, HandsOver}

pub slices_same : {s t : Slices} → s.sheet ≡ t.sheet → s.words ≡ t.words → s.multipliers ≡ t.multipliers → s ≡ t
slices_same a b c = λ j. record { sheet = a j; words = b j; multipliers = c j }

module _ (r : Result Planned Refusal) (old new : Slices) (n : ℤ) (x : HandsOver r old new n) (zero : n ≡ pos 0) where
  pub not_refused : verdict_number r ≡ none
  not_refused = answered_zero r (sym x.number_is ∙ zero)

  pub words_put : new.words ≡ put_first (words_of r) old.words
  unfolding unless
  words_put = x.words_are ∙ ap (λ (o : Option ℕ). unless o (put_first (words_of r) old.words) old.words) not_refused

  pub multipliers_put : new.multipliers ≡ put_first (u_list r) old.multipliers
  unfolding unless
  multipliers_put =
      x.multipliers_are ∙ ap (λ (o : Option ℕ). unless o (put_first (u_list r) old.multipliers) old.multipliers) not_refused

  pub word_is : (i : ℕ) → i < 6 → i < length old.words → get_or new.words i 0 ≡ get_or (words_of r) i 0
  word_is i l m = ap (λ (w : List ℕ). get_or w i 0) words_put ∙ put_at (words_of r) old.words 0 i m l
