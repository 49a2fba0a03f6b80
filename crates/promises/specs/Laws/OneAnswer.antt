-- Two calls on one plan, with one budget and one refusal, leave one answer: u and the drive are fixed by the plan, and the rest follows
-- from u (`solution` `Laws.SameAnswer`).
use Rattle.std.specs.Prelude.{◌≡◌, cond, List, [], ◌∷◌, ℕ, ℤ, nat_abs, length, Result}
use Rattle.std.proofs.Math.Path.{refl}
use Rattle.std.proofs.Common.{sym, ap, ◌∙◌, subst}
use Rattle.std.proofs.Math.Option.{Option, none, some}
use Rattle.postman.specs.Plan.{Plan}
use Rattle.postman.specs.Refusal.{answer, unless}
use Rattle.postman.specs.PlanFile.{plan_of}
use Rattle.postman.specs.Windows.{Departure, windows_in, plan_at, call_refusal_at}
use Rattle.refusal.specs.Verdict.{verdict_number}
use Rattle.drive_legs.specs.Drive.{written}
use Rattle.multipliers.specs.Drive.{drive_of}
use Rattle.refusal.specs.declared.Refusal.{Refusal}
use Rattle.solution.specs.declared.Planned.{Planned}
use Rattle.solution.specs.Planned.{count_unless, IsPlanned, u_list}
use Rattle.solution.specs.SameAnswer.{SameAnswer}
use Rattle.solution.specs.Laws.SameAnswer.{same_answer}
use Rattle.answers.specs.Number.{one_number}
use Rattle.answers.specs.Answer.{words_of, put_first, IsHandedOver}
use Rattle.promises.specs.Slices.{Slices, HandsOver, IsCalledAt, Leaves, LeaveOneAnswer}

-- the same answer has the same words
pub same_words : {r s : Result Planned Refusal} → SameAnswer r s → words_of r ≡ words_of s
same_words x = λ j. x.places j ∷ x.cost j ∷ nat_abs (x.floor j) ∷ x.trees j ∷ cond (x.whole j) 1 0 ∷ x.parts j ∷ []

-- and is handed over alike
handed_as : {r s : Result Planned Refusal} {words words' : List ℕ} {u u' : List ℤ} {n : ℤ}
    → verdict_number r ≡ verdict_number s → words_of r ≡ words_of s → u_list r ≡ u_list s
    → IsHandedOver s words words' u u' n → IsHandedOver r words words' u u' n
handed_as {r} {s} {words} {words'} {u} v w m h = record {
  number_is = h.number_is ∙ sym (ap (λ (o : Option ℕ). one_number (answer o 0)) v);
  words_are = h.words_are ∙ sym (λ j. unless (v j) (put_first (w j) words) words);
  multipliers_are = h.multipliers_are ∙ sym (λ j. unless (v j) (put_first (m j) u) u);
}

module _ (p : Plan) (budget : ℕ) (o : Option ℕ) where
  abbrev drive : List ℕ
  drive = unless o (drive_of p budget) []

  count : (q : Option ℕ) → count_unless q (length (drive_of p budget)) ≡ length (unless q (drive_of p budget) [])
  unfolding count_unless unless
  count none = refl
  count (some k) = refl

  sheet_as : (q : Option ℕ) (old : List ℕ)
      → unless q (written (drive_of p budget) old) old ≡ unless q (written (unless q (drive_of p budget) []) old) old
  unfolding unless
  sheet_as none old = refl
  sheet_as (some k) old = refl

  module _ (old new : Slices) (n : ℤ) (r : Result Planned Refusal) (i : IsPlanned p budget o old.sheet new.sheet r)
      (x : HandsOver r old new n) where
    leaves : Leaves r drive old new n
    leaves = record {
      handed_over = x;
      sheet_is = i.sheet ∙ sheet_as o old.sheet
          ∙ ap (λ (q : Option ℕ). unless q (written drive old.sheet) old.sheet) (sym i.verdict);
    }

  module _ (old new : Slices) (n : ℤ) (r : Result Planned Refusal) (i : IsPlanned p budget o old.sheet new.sheet r)
      (x : HandsOver r old new n)
      (old' new' : Slices) (n' : ℤ) (s : Result Planned Refusal) (j : IsPlanned p budget o old'.sheet new'.sheet s)
      (y : HandsOver s old' new' n') where
    -- the contract of the second answer on the first one's sheet
    same : SameAnswer r s
    same =
        let k : IsPlanned p budget o old.sheet (unless o (written (drive_of p budget) old.sheet) old.sheet) s =
        record {
          verdict = j.verdict;
          summary_is = j.summary_is;
          sheet = refl;
          places_are = j.places_are;
          no_multipliers = j.no_multipliers;
          answered = j.answered;
        }
        in
        (same_answer p budget old.sheet new.sheet _ r s o i k).0

    same_u : (q : Option ℕ) → o ≡ q → u_list r ≡ u_list s
    same_u none e = (i.answered e).multipliers_are ∙ sym (j.answered e).multipliers_are
    same_u (some k) e = i.no_multipliers k e ∙ sym (j.no_multipliers k e)

    pub one_answer : LeaveOneAnswer old new n old' new' n'
    one_answer = record {
      answer = r;
      drive = drive;
      counted = i.places_are ∙ count o;
      first = leaves old new n r i x;
      second = leaves old' new' n' r (record {
        verdict = i.verdict;
        summary_is = i.summary_is;
        sheet = j.sheet;
        places_are = i.places_are;
        no_multipliers = i.no_multipliers;
        answered = i.answered;
      }) (handed_as same.refusal (same_words same) (same_u o refl) y);
    }

-- ---- two calls on one file

module _ (file : List ℕ) (budget : ℕ) (windows : List ℕ) (d : Departure) (old new old' new' : Slices) (n n' : ℤ) where
  pub one_answer_at : length old.sheet ≡ length old'.sheet
      → IsCalledAt file budget windows d old new n
      → IsCalledAt file budget windows d old' new' n'
      → LeaveOneAnswer old new n old' new' n'
  one_answer_at e x y =
      let p = plan_at (plan_of file) (windows_in windows) d in
      let o = call_refusal_at file budget (length old.sheet) windows d in
      let j : IsPlanned p budget o old'.sheet new'.sheet y.answer =
      subst (λ (k : ℕ). IsPlanned p budget (call_refusal_at file budget k windows d) old'.sheet new'.sheet y.answer) (sym e)
      y.called.planned
      in
      one_answer p budget o old new n x.answer x.called.planned x.handed_over old' new' n' y.answer j y.handed_over
