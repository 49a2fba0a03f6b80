-- The three demands, from what the contract of a call says of its answer (`solution` `IsPlanned`), whatever plan it is for.
use Rattle.std.specs.Prelude.{◌≡◌, Bool, not, List, ℕ, length, pos, T, Result}
use Rattle.std.proofs.Math.Path.{sym, ap, ap₂}
use Rattle.std.proofs.Common.{◌∙◌, subst}
use Rattle.std.proofs.Math.Option.{Option, some}
use Rattle.std.proofs.Math.ListN.{drop}
use Rattle.std.proofs.Math.Seq.{drop-append_seam}
use Rattle.postman.specs.Plan.{Plan}
use Rattle.postman.specs.Refusal.{first_refusal, answer, unless}
use Rattle.postman.specs.PlanFile.{file_conditions}
use Rattle.postman.specs.PlanCall.{Summary, summary, fields}
use Rattle.postman.specs.Laws.Tests.{of_true}
use Rattle.postman_laws.specs.Laws.Refusal.{first_stop}
use Rattle.postman_laws.specs.Laws.Marks.{car_order}
use Rattle.refusal.specs.Verdict.{verdict_number}
use Rattle.drive_legs.specs.Drive.{written}
use Rattle.multipliers.specs.Drive.{drive_of}
use Rattle.multipliers.specs.Ascent.{multipliers_for}
use Rattle.refusal.specs.declared.Refusal.{Refusal}
use Rattle.solution.specs.declared.Planned.{Planned}
use Rattle.solution.specs.Planned.{summary_of, multipliers_of, count_unless, IsPlanned, places_of, u_list}
use Rattle.solution.specs.Laws.Answered.{is_answer, sheet_is, summary_given, floor_is, count_is, places_count, drive_written}
use Rattle.two_cars.specs.Contract.{IsCar}
use Rattle.promises.specs.Demands.{Refuses, Accepted, Drives, Bounds}

module _ {p : Plan} {budget : ℕ} {refusal : Option ℕ} {old new : List ℕ} {r : Result Planned Refusal}
    (i : IsPlanned p budget refusal old new r) where
  -- ---- demand 1

  pub refuses : Refuses refusal old new r
  unfolding answer fields unless count_unless
  refuses = record {
    number = i.verdict;
    number_only = λ k e.
        (let s = i.summary_is ∙ ap (λ (o : Option ℕ). fields (answer o (summary p budget (multipliers_of r)))) e in
        let n = i.places_are ∙ ap (λ (o : Option ℕ). count_unless o (length (drive_of p budget))) e in (
          n,
          ap (λ (x : Summary). x.cost) s,
          ap (λ (x : Summary). x.floor) s,
          ap (λ (x : Summary). x.trees) s,
          ap (λ (x : Summary). x.whole) s,
          ap (λ (x : Summary). x.parts) s,
          i.no_multipliers k e,
        ));
    untouched = λ k e. i.sheet ∙ ap (λ (o : Option ℕ). unless o (written (drive_of p budget) old) old) e;
  }

  module _ (good : Accepted r) where
    fields_are : summary_of r ≡ summary p budget (multipliers_of r)
    fields_are = summary_given p budget refusal old new r i good

    -- ---- demand 2

    later_kept : drop (places_of r) new ≡ drop (places_of r) old
    unfolding written
    later_kept =
        let d = drive_of p budget in
        let c = count_is p budget refusal old new r i good in
        ap₂ drop c (sheet_is p budget refusal old new r i good) ∙ drop-append_seam d (drop (length d) old)
        ∙ ap (λ (k : ℕ). drop k old) (sym c)

    pub drives : Drives p budget old new r
    unfolding summary
    drives = record {
      trees = ap (λ (s : Summary). s.trees) fields_are;
      whole = ap (λ (s : Summary). s.whole) fields_are;
      cost = ap (λ (s : Summary). s.cost) fields_are;
      parts = ap (λ (s : Summary). s.parts) fields_are;
      drive = drive_written p budget refusal old new r i good;
      count = sym (places_count p budget refusal old new r i good);
      later = later_kept;
    }

    -- ---- demand 3

    pub bounds : Bounds p r
    bounds =
        let a = is_answer p budget refusal old new r i good in
        let g = a.guarantee in
        let f = floor_is p budget refusal old new r i good in
        let c = drives.cost in
        let w = drives.whole in
        record {
          multipliers = a.multipliers;
          floor_whole = λ e. f ∙ g.whole_equal (of_true (sym w ∙ e)) ∙ sym (ap pos c);
          floor_partial = λ e. f ∙ g.partial_equal (subst (λ (b : Bool). T (not b)) (sym e ∙ w) tt);
          below_every_drive = λ v t. rw f (g.below_every_drive v t);
          whole_least = λ e v t. rw c (g.whole_least (of_true (sym w ∙ e)) v t);
          above_balancing = rw f g.above_balancing;
        }

-- ---- u

pub equal_multipliers : {p q : Plan} {b c : ℕ} {o o' : Option ℕ} {old new old' new' : List ℕ} {r s : Result Planned Refusal}
    → IsPlanned p b o old new r → IsPlanned q c o' old' new' s
    → p ≡ q → Accepted r → Accepted s → u_list r ≡ u_list s
equal_multipliers i j e good good' =
    (i.answered (sym i.verdict ∙ good)).multipliers_are ∙ ap multipliers_for e
    ∙ sym (j.answered (sym j.verdict ∙ good')).multipliers_are

-- ---- "Only 1 to 7 and 13 reach both"

pub file_refused_car : {bytes marks : List ℕ} {budget : ℕ} {old new : List ℕ} {r : Result Planned Refusal} {k : ℕ}
    → IsCar bytes marks budget old new r → first_refusal (file_conditions bytes) ≡ some k
    → verdict_number r ≡ some k
file_refused_car {bytes} {marks} {budget} {old} {k = k} c e =
    c.planned.verdict ∙ car_order bytes budget (length old) marks ∙ first_stop (file_conditions bytes) _ k e
