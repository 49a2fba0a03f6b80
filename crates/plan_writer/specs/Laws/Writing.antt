-- The refusal of writing, by the parts of a plan by value; and what a refusal, or none, answers and leaves.
use Rattle.std.specs.Prelude.{◌≡◌, refl, Bool, true, false, cond, not, ◌||◌, List, [], ◌∷◌, ◌++◌, ℕ, ◌<◌, ltb, length, drop}
use Rattle.std.proofs.Math.Bool.{or-true}
use Rattle.std.proofs.Math.Option.{Option, none, some}
use Rattle.std.proofs.Common.{lt-ltb}
use Rattle.postman.specs.Plan.{Plan as Graph}
use Rattle.postman.specs.Refusal.{first_refusal, unless, refused, given}
use Rattle.postman.specs.PlanFile.{is_edition, edition_conditions, extent_conditions, is_outside, file_length, plan_conditions, file_of, write_refusal, write_answer, bytes_after}
use Rattle.plan.specs.declared.Plan.{Plan}
use Rattle.postman_laws.specs.Laws.Below.{length_map_below}
use Rattle.postman_laws.specs.Laws.Refusal.{first_on, first_stop, answer_refused, answer_given, was_given, was_refused}
use Rattle.plan.specs.Records.{record_at, plan_value}
use Rattle.arc_rules.specs.Arcs.{plan_from}

-- The conditions of writing, of the edition, n, m and the records themselves.
pub plan-refusal
    : (e : ℕ) (p : Plan) (room : ℕ)
    → write_refusal e (plan_value p) room
    ≡ cond (not (is_edition e)) (some 2)
    (cond (is_outside p.n 1 64 || is_outside p.m 1 256) (some 3)
    (first_refusal (plan_conditions e (plan_from p.n (record_at p.arcs) p.m) ++ (ltb room (file_length e p.m), 8) ∷ [])))
unfolding first_refusal write_refusal edition_conditions extent_conditions plan_value
plan-refusal e p room = rw (length_map_below (record_at p.arcs) p.m)

-- In document 01's order: the edition, n, m, the records, the room.
module _ (e : ℕ) (p : Plan) (room : ℕ) where
  pub of_edition : is_edition e ≡ false → write_refusal e (plan_value p) room ≡ some 2
  of_edition i = rw (plan-refusal e p room, i)

  module _ (i : is_edition e ≡ true) where
    pub extent_n : is_outside p.n 1 64 ≡ true → write_refusal e (plan_value p) room ≡ some 3
    extent_n h = rw (plan-refusal e p room, i, h)

    pub extent_m : is_outside p.n 1 64 ≡ false → is_outside p.m 1 256 ≡ true → write_refusal e (plan_value p) room ≡ some 3
    extent_m h f = rw (plan-refusal e p room, i, h, f)

    module _ (hn : is_outside p.n 1 64 ≡ false) (hm : is_outside p.m 1 256 ≡ false) where
      pub of-record
          : (r : ℕ)
          → first_refusal (plan_conditions e (plan_from p.n (record_at p.arcs) p.m)) ≡ some r
          → write_refusal e (plan_value p) room ≡ some r
      of-record r h =
          rw (plan-refusal e p room, i, hn, hm)
          (first_stop (plan_conditions e (plan_from p.n (record_at p.arcs) p.m)) ((ltb room (file_length e p.m), 8) ∷ []) r h)

      pub of_room
          : first_refusal (plan_conditions e (plan_from p.n (record_at p.arcs) p.m)) ≡ none
          → write_refusal e (plan_value p) room ≡ cond (ltb room (file_length e p.m)) (some 8) none
      unfolding first_refusal
      of_room h =
          rw (plan-refusal e p room, i, hn, hm)
          (first_on (plan_conditions e (plan_from p.n (record_at p.arcs) p.m)) ((ltb room (file_length e p.m), 8) ∷ []) h)

-- 3, of n or m above its limit.
above : (x low high : ℕ) → high < x → is_outside x low high ≡ true
unfolding is_outside
above x low high h = rw (lt-ltb high x h) (or-true (ltb x low))

-- Then the refusal is 3, unless the edition is refused before.
abbrev pub header_refusal : ℕ → ℕ
header_refusal e = cond (is_edition e) 3 2

either : (b : Bool) → cond {A = Option ℕ} (not b) (some 2) (some 3) ≡ some (cond b 3 2)
either true = refl
either false = refl

module _ (e : ℕ) (p : Graph) (room : ℕ) where
  pub too_many_vertices : 64 < p.n → write_refusal e p room ≡ some (header_refusal e)
  unfolding write_refusal edition_conditions extent_conditions first_refusal
  too_many_vertices h = rw (above p.n 1 64 h) (either (is_edition e))

  pub too_many_arcs : 256 < length p.arcs → write_refusal e p room ≡ some (header_refusal e)
  unfolding write_refusal edition_conditions extent_conditions first_refusal
  too_many_arcs h = rw (above (length p.arcs) 1 256 h, or-true (is_outside p.n 1 64)) (either (is_edition e))

  pub no_edition : is_edition e ≡ false → write_refusal e p room ≡ some 2
  unfolding write_refusal edition_conditions first_refusal
  no_edition h = rw h

-- The answer and the slice, of a refusal and of a file; and from the answer back to the refusal.
module _ (e : ℕ) (p : Graph) (bytes : List ℕ) where
  pub refused_answer : (r : ℕ) → write_refusal e p (length bytes) ≡ some r → write_answer e p bytes ≡ refused r
  unfolding write_answer
  refused_answer r h = answer_refused _ _ r h

  pub refused_bytes : (r : ℕ) → write_refusal e p (length bytes) ≡ some r → bytes_after e p bytes ≡ bytes
  unfolding bytes_after unless
  refused_bytes r h = rw h

  pub given_answer : write_refusal e p (length bytes) ≡ none → write_answer e p bytes ≡ given (file_length e (length p.arcs))
  unfolding write_answer
  given_answer h = answer_given _ _ h

  pub given_bytes : write_refusal e p (length bytes) ≡ none
      → bytes_after e p bytes ≡ file_of e p ++ drop (file_length e (length p.arcs)) bytes
  unfolding bytes_after unless
  given_bytes h = rw h

  pub length_given : (k : ℕ) → given k ≡ write_answer e p bytes
      → (write_refusal e p (length bytes) ≡ none) × (k ≡ file_length e (length p.arcs))
  unfolding write_answer
  length_given k h = was_given _ _ k h

  pub refusal_given : (r : ℕ) → refused r ≡ write_answer e p bytes → write_refusal e p (length bytes) ≡ some r
  unfolding write_answer
  refusal_given r h = was_refused _ _ r h

-- A plan by value stands for a plan of m arcs.
pub length_value : (p : Plan) → length (plan_value p).arcs ≡ p.m
unfolding plan_value
length_value p = length_map_below (record_at p.arcs) p.m
