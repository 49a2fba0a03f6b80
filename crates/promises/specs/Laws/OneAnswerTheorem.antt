-- ONE ANSWER, for callers in other languages: what two calls that leave one answer have in common. One number; the same words, each that
-- both have room for; the same drive; and where all that was lent was the same, all is the same.
use Rattle.std.specs.Prelude.{◌≡◌, List, ℕ, ◌≤◌, ◌<◌, ℤ, pos, length, get_or, drop, Result}
use Rattle.std.proofs.Common.{sym, ◌∙◌, arith}
use Rattle.std.proofs.Math.Path.{ap, ap₂}
use Rattle.std.proofs.Math.Option.{Option}
use Rattle.std.proofs.Math.ListN.{take}
use Rattle.std.proofs.Math.Seq.{take-append_seam}
use Rattle.postman.specs.Refusal.{unless}
use Rattle.refusal.specs.Verdict.{verdict_number}
use Rattle.drive_legs.specs.Drive.{written}
use Rattle.refusal.specs.declared.Refusal.{Refusal}
use Rattle.solution.specs.Planned.{places_of, u_list}
use Rattle.solution.specs.declared.Planned.{Planned}
use Rattle.answers.specs.Answer.{words_of, put_first}
use Rattle.promises.specs.Slices.{Slices, drive_in, Leaves, LeaveOneAnswer}
use Rattle.promises.specs.Laws.Slices.{slices_same, not_refused, word_is}

-- what a call that is not refused leaves
module _ {r : Result Planned Refusal} {drive : List ℕ} {old new : Slices} {n : ℤ} (x : Leaves r drive old new n) (zero : n ≡ pos 0) where
  drive_is : places_of r ≡ length drive → 1 ≤ length old.words → drive_in new ≡ drive
  unfolding unless written
  drive_is c l =
      ap₂ take (word_is r old new n x.handed_over zero 0 (omega arith) (omega arith) ∙ c)
      (x.sheet_is ∙ ap (λ (o : Option ℕ). unless o (written drive old.sheet) old.sheet)
      (not_refused r old new n x.handed_over zero))
      ∙ take-append_seam drive (drop (length drive) old.sheet)

module _ {old new old' new' : Slices} {n n' : ℤ} (x : LeaveOneAnswer old new n old' new' n') where
  pub one_number : n ≡ n'
  one_number = x.first.handed_over.number_is ∙ sym x.second.handed_over.number_is

  pub same_word : n ≡ pos 0 → (i : ℕ) → i < 6 → i < length old.words → i < length old'.words
      → get_or new.words i 0 ≡ get_or new'.words i 0
  same_word zero i l m m' =
      word_is x.answer old new n x.first.handed_over zero i l m
      ∙ sym (word_is x.answer old' new' n' x.second.handed_over (sym one_number ∙ zero) i l m')

  pub same_drive : n ≡ pos 0 → 1 ≤ length old.words → 1 ≤ length old'.words → drive_in new ≡ drive_in new'
  same_drive zero m m' = drive_is x.first zero x.counted m ∙ sym (drive_is x.second (sym one_number ∙ zero) x.counted m')

  pub same_slices : old ≡ old' → new ≡ new'
  same_slices e =
      let r = x.answer in
      let o = verdict_number r in
      let s = x.first.sheet_is ∙ ap (λ (y : Slices). unless o (written x.drive y.sheet) y.sheet) e ∙ sym x.second.sheet_is in
      let w = x.first.handed_over.words_are ∙ ap (λ (y : Slices). unless o (put_first (words_of r) y.words) y.words) e
      ∙ sym x.second.handed_over.words_are in
      let u = x.first.handed_over.multipliers_are
      ∙ ap (λ (y : Slices). unless o (put_first (u_list r) y.multipliers) y.multipliers) e
      ∙ sym x.second.handed_over.multipliers_are in
      slices_same s w u
