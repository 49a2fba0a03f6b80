-- The calls of an open plan over a lent state: a slice that is too short, or the state after the call.
use Rattle.std.specs.Prelude.{◌≡◌, List, [], ◌++◌, ℕ, ◌^◌, ◌≤◌, ◌<◌, ℤ, pos, neg_ℤ, length, Result}
use mir.Val.{to_z, of_z}
use Rattle.std.specs.Int.{w64}
use Rattle.std.specs.Int.Signed.{mag}
use Rattle.integers.specs.Linear.{back64}
use Rattle.std.proofs.Math.Path.{refl, ap, subst⁻¹}
use Rattle.std.proofs.Common.{sym, ◌∙◌, subst, lt-ltb, le-ltb}
use Rattle.std.proofs.Math.Option.{Option, none, some}
use Rattle.std.proofs.Math.ListN.{drop}
use Rattle.postman.specs.Refusal.{first_refusal, answer, unless}
use Rattle.postman.specs.PlanFile.{file_conditions}
use Rattle.postman.specs.OpenPlan.{Call, unless_refused}
use Rattle.refusal.specs.Verdict.{verdict_number, or_else}
use Rattle.open_plan.specs.declared.OpenPlan.{OpenPlan}
use Rattle.open_plan.specs.declared.Moved.{Moved}
use Rattle.postman.specs.Windows.{Departure}
use Rattle.refusal.specs.declared.Refusal.{Refusal}
use Rattle.solution.specs.declared.Planned.{Planned}
use Rattle.windows.specs.Contract.{IsPlanCallAt}
use Rattle.held_file.specs.Held.{file_in, held_of}
use Rattle.open_plan.specs.State.{fresh_state, refusal_of, next}
use Rattle.open_plan.specs.Contract.{IsOpened, IsMoved}
use Rattle.answers.specs.Number.{one_number}
use Rattle.open_plan_exports.specs.Editing.{short_state, open_refusal, IsExportedOpen, move_refusal, IsExportedMove}
use Rattle.open_plan_bytes.specs.StateBytes.{open_bytes, open_in, state_bytes, IsStored}

-- ---- files

-- ---- the calls

-- a state that has no room, and one that has
pub no_room : (bytes : List ℕ) (o : Option ℕ) → length bytes < open_bytes → short_state bytes o ≡ some 8
no_room bytes o h = rw (lt-ltb (length bytes) open_bytes h) refl

pub has_room : (bytes : List ℕ) (o : Option ℕ) → open_bytes ≤ length bytes → short_state bytes o ≡ o
has_room bytes o h = rw (le-ltb (length bytes) open_bytes h) refl

-- what is stored goes by the refusal: where there is none, the state is the one that the definition gives
same_unless : {A : Type 0} (o : Option ℕ) (f : OpenPlan → List A) (s : OpenPlan) (new old : OpenPlan) (l : List A)
    → s ≡ unless_refused o new old → unless o (f s) l ≡ unless o (f new) l
unfolding unless
same_unless none f s new old l e = ap f e
same_unless (some k) f s new old l e = refl

module _ (c : Call) (bytes : List ℕ) where
  pub moved_short : (n : ℤ) → length bytes < open_bytes → n ≡ neg_ℤ (pos 8) → IsExportedMove c bytes bytes n
  unfolding unless answer
  moved_short n h e =
      let q = no_room bytes (refusal_of (open_in bytes) c) h in
      record {
        number_is = e ∙ ap (λ (o : Option ℕ). one_number (answer o 0)) (sym q);
        state_is = ap (λ (o : Option ℕ). unless o (state_bytes (next (open_in bytes) c) ++ drop open_bytes bytes) bytes) (sym q);
      }

  pub moved_lent : (bytes' : List ℕ) (n : ℤ) (s : OpenPlan) (r : Moved) → open_bytes ≤ length bytes → s ≡ open_in bytes → IsMoved s c r
      → IsStored r bytes bytes' n → IsExportedMove c bytes bytes' n
  moved_lent bytes' n s r h e m i =
      let m' : IsMoved (open_in bytes) c r = subst (λ (x : OpenPlan). IsMoved x c r) e m in
      let q : verdict_number r.verdict ≡ move_refusal c bytes = m'.verdict ∙ sym (has_room bytes (refusal_of (open_in bytes) c) h) in
      let f : OpenPlan → List ℕ = λ x. state_bytes x ++ drop open_bytes bytes in
      record {
        number_is = i.number_is ∙ ap (λ (o : Option ℕ). one_number (answer o 0)) q;
        state_is = i.state_is ∙ ap (λ (o : Option ℕ). unless o (f r.state) bytes) q
            ∙ same_unless (move_refusal c bytes) f r.state (next (open_in bytes) c) (open_in bytes) bytes
            (m'.state ∙ ap (λ (o : Option ℕ). unless_refused o (next (open_in bytes) c) (open_in bytes))
            (sym (has_room bytes (refusal_of (open_in bytes) c) h)));
      }

-- The number is the same once it has been a word of 64 bits.
pub move_back : {c : Call} {bytes bytes' : List ℕ} {n : ℤ} → mag n < 2 ^ 63 → IsExportedMove c bytes bytes' n
    → IsExportedMove c bytes bytes' (to_z w64 (of_z w64 n))
move_back {c} {bytes} {bytes'} {n} small h = subst⁻¹ (IsExportedMove c bytes bytes') (back64 n small) h

module _ (file bytes : List ℕ) (n : ℤ) (r : Moved) (i : IsOpened file r) where
  abbrev first : Option ℕ
  first = first_refusal (file_conditions file)

  always : (o : Option ℕ) → unless (or_else o (some 8)) (state_bytes (fresh_state (held_of file)) ++ drop open_bytes bytes) bytes ≡ bytes
  unfolding unless
  always none = refl
  always (some k) = refl

  pub opened_short : length bytes < open_bytes → n ≡ one_number (answer (or_else (verdict_number r.verdict) (some 8)) 0)
      → IsExportedOpen file bytes bytes n
  opened_short h e =
      let q : open_refusal file bytes ≡ or_else first (some 8) = ap (or_else first) (no_room bytes none h) in
      record {
        number_is = e ∙ ap (λ (o : Option ℕ). one_number (answer (or_else o (some 8)) 0)) i.verdict
            ∙ ap (λ (o : Option ℕ). one_number (answer o 0)) (sym q);
        state_is = sym
            (ap (λ (o : Option ℕ). unless o (state_bytes (fresh_state (held_of file)) ++ drop open_bytes bytes) bytes) q ∙ always first);
      }

  or_none : (o : Option ℕ) → or_else o none ≡ o
  or_none none = refl
  or_none (some k) = refl

  stored : (o : Option ℕ) → r.state ≡ fresh_state (held_of (unless o file []))
      → unless o (state_bytes r.state ++ drop open_bytes bytes) bytes
      ≡ unless o (state_bytes (fresh_state (held_of file)) ++ drop open_bytes bytes) bytes
  unfolding unless
  stored none e = ap (λ (s : OpenPlan). state_bytes s ++ drop open_bytes bytes) e
  stored (some k) e = refl

  pub opened_lent : (bytes' : List ℕ) → open_bytes ≤ length bytes → IsStored r bytes bytes' n → IsExportedOpen file bytes bytes' n
  opened_lent bytes' h s =
      let q : open_refusal file bytes ≡ first = ap (or_else first) (has_room bytes none h) ∙ or_none first in
      let v : verdict_number r.verdict ≡ open_refusal file bytes = i.verdict ∙ sym q in
      record {
        number_is = s.number_is ∙ ap (λ (o : Option ℕ). one_number (answer o 0)) v;
        state_is = s.state_is ∙ ap (λ (o : Option ℕ). unless o (state_bytes r.state ++ drop open_bytes bytes) bytes) v
            ∙ stored (open_refusal file bytes) (i.state ∙ ap (λ (o : Option ℕ). fresh_state (held_of (unless o file []))) (sym q));
      }

-- ---- asking

pub asked_lent : (bytes : List ℕ) (s : OpenPlan) → s ≡ open_in bytes
    → (budget : ℕ) (windows : List ℕ) (d : Departure) (old new : List ℕ) (r : Result Planned Refusal)
    → IsPlanCallAt (file_in s.plan) budget windows d old new r
    → IsPlanCallAt (file_in (open_in bytes).plan) budget windows d old new r
asked_lent bytes s e budget windows d old new r h = subst (λ (x : OpenPlan). IsPlanCallAt (file_in x.plan) budget windows d old new r) e h
