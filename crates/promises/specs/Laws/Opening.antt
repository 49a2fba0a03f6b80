-- An opening that answers 0 is not refused: no condition of a file has the number 0.
use Rattle.std.specs.Prelude.{◌≡◌, refl, Bool, true, false, cond, ℕ, ◌≤◌, ltb, ℤ, pos, neg_ℤ, nat_abs, length}
use Rattle.std.proofs.Common.{sym, ap, ◌∙◌, arith}
use mathlib.Core.List.{List, [], ◌∷◌, ◌++◌, flat_map}
use Rattle.std.proofs.Math.Option.{Option, none, some, some-ne-none}
use Rattle.postman.specs.Plan.{Arc, Plan}
use Rattle.postman.specs.Refusal.{Conditions, first_refusal, answer}
use Rattle.postman.specs.PlanFile.{edition, plan_of, arc_conditions, arcs_conditions, plan_conditions, edition_conditions, extent_conditions, body_conditions, file_conditions}
use Rattle.refusal.specs.Verdict.{or_else}
use Rattle.answers.specs.Number.{one_number}
use Rattle.open_plan_bytes.specs.StateBytes.{open_bytes}
use Rattle.open_plan_exports.specs.Editing.{open_refusal, IsExportedOpen}
use Rattle.integers.specs.Linear.{abs_neg}

-- the conditions' numbers are 1 or more
abbrev AreSome : Conditions → Type 0
AreSome [] = Unit {0}
AreSome (c ∷ cs) = (1 ≤ c.1) × AreSome cs

some_append : (cs ds : Conditions) → AreSome cs → AreSome ds → AreSome (cs ++ ds)
some_append [] ds h g = g
some_append (c ∷ cs) ds h g = (h.0, some_append cs ds h.1 g)

some_flat_map : {A : Type 0} (f : A → Conditions) → ((x : A) → AreSome (f x)) → (xs : List A) → AreSome (flat_map f xs)
unfolding flat_map
some_flat_map f h [] = tt
some_flat_map f h (x ∷ xs) = some_append (f x) (flat_map f xs) (h x) (some_flat_map f h xs)

arc_some : (e n : ℕ) (a : Arc) → AreSome (arc_conditions e n a)
unfolding arc_conditions
arc_some e n a = (omega arith, (omega arith, (omega arith, tt)))

plan_some : (e : ℕ) (p : Plan) → AreSome (plan_conditions e p)
unfolding plan_conditions arcs_conditions
plan_some e p =
    some_append (flat_map (arc_conditions e p.n) p.arcs) _ (some_flat_map (arc_conditions e p.n) (arc_some e p.n) p.arcs)
    (omega arith, tt)

file_some : (file : List ℕ) → AreSome (file_conditions file)
unfolding file_conditions edition_conditions extent_conditions body_conditions
file_some file = (omega arith, (omega arith, (omega arith, (omega arith, (omega arith, plan_some (edition file) (plan_of file))))))

first_some : (cs : Conditions) → AreSome cs → (k : ℕ) → first_refusal cs ≡ some k → 1 ≤ k
unfolding first_refusal
first_some [] h k e = absurd (some-ne-none k (sym e))
first_some (c ∷ cs) h k e = at c.0 e (first_some cs h.1 k)
  where
    at : (b : Bool) → cond b (some c.1) (first_refusal cs) ≡ some k → (first_refusal cs ≡ some k → 1 ≤ k) → 1 ≤ k
    at true q more = let x : c.1 ≡ k = cc in let l = h.0 in omega arith
    at false q more = more q

pub zero_opened : (file bytes bytes' : List ℕ) (n : ℤ) → IsExportedOpen file bytes bytes' n → n ≡ pos 0 → open_refusal file bytes ≡ none
unfolding answer
zero_opened file bytes bytes' n m e = by (first_refusal (file_conditions file)) refl (ltb (length bytes) open_bytes) (sym m.number_is ∙ e)
  where
    not_zero : (k : ℕ) → 1 ≤ k → neg_ℤ (pos k) ≡ pos 0 → ⊥
    not_zero k l q = let a = abs_neg k in let b = ap nat_abs q in omega arith

    by : (o : Option ℕ) → first_refusal (file_conditions file) ≡ o → (b : Bool)
        → one_number (answer (or_else o (cond b (some 8) none)) 0) ≡ pos 0 → or_else o (cond b (some 8) none) ≡ none
    by (some k) i b q = absurd (not_zero k (first_some (file_conditions file) (file_some file) k i) q)
    by none i true q = absurd (not_zero 8 (omega arith) q)
    by none i false q = refl
