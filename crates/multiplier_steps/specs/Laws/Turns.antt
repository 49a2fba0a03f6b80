-- A loop, turn by turn.
use Rattle.std.specs.Prelude.{◌≡◌, Bool, true, ◌&&◌, List, length, set, take}
use Rattle.std.specs.List.{list_all}
use Rattle.std.proofs.lemmas.List.Folds.{list_all_more}
use Rattle.std.proofs.Math.Seq.{take-length}
use Rattle.std.proofs.lemmas.Grind.{get_or_default_zero}
use Rattle.residual_search.specs.Bounds.{AtMost}
use Rattle.std.proofs.Math.Path.{refl, ap}
use Rattle.std.proofs.Common.{sym, ◌∙◌, add-one, arith}
use Prim.Native.Nat.{ℕ, zero, suc, ◌+◌, ◌≤◌, ◌<◌}
use Rattle.std.proofs.Math.Decide.{ℕ_discrete}
use Rattle.std.proofs.Math.ListN.{get_or, length-set}
use Rattle.std.proofs.Math.Seq.{get_or-set_same, get_or-set_other}
use Rattle.multiplier_steps.specs.Turns.{turns}

module _ {S : Type 0} (g : S → ℕ → S) (s : S) where
  pub none : turns g s 0 ≡ s
  unfolding turns
  none = refl

  pub more : (i : ℕ) → turns g s (i + 1) ≡ g (turns g s i) i
  unfolding turns
  more i = ap (turns g s) (add-one i)

  -- one turn more
  pub next_turn : (i : ℕ) {r r' : S} → r ≡ turns g s i → r' ≡ g r i → r' ≡ turns g s (i + 1)
  next_turn i inv e = e ∙ ap (λ (q : S). g q i) inv ∙ sym (more i)

  -- the loop ends
  pub end : (i : ℕ) {n : ℕ} {r : S} → r ≡ turns g s i → i ≤ n → n ≤ i → r ≡ turns g s n
  end i {n} inv a b = let e : i ≡ n = omega arith in inv ∙ ap (turns g s) e

pub ruleset turn_by_turn = (none, more)

-- over the places of a list
module _ {S : Type 0} (g : S → ℕ → S) (vs : List ℕ) (s : S) where
  abbrev at : S → ℕ → S
  at r a = g r (get_or vs a 0)

  pub turn_at : (i : ℕ) {v : ℕ} {r r' : S} → r ≡ turns (λ r a. g r (get_or vs a 0)) s i → v ≡ get_or vs i 0 → r' ≡ g r v
      → r' ≡ turns (λ r a. g r (get_or vs a 0)) s (i + 1)
  turn_at i {v} {r} inv ev e = next_turn at s i inv (e ∙ ap (g r) ev)

-- a loop that gathers tests, of each item of a list
module _ (t : ℕ → Bool) (vs : List ℕ) where
  abbrev gathered : ℕ → Bool
  gathered n = turns (λ b a. b && t (get_or vs a 0)) true n

  all_so_far : (n : ℕ) → n ≤ length vs → list_all t (take n vs) ≡ gathered n
  unfolding turns
  all_so_far zero l = refl
  all_so_far (suc n) l =
      let k : n < length vs = omega arith in
      ap (λ i. list_all t (take i vs)) (sym (add-one n)) ∙ list_all_more t vs n 0 k
      ∙ ap (λ b. b && t (get_or vs n 0)) (all_so_far n (omega arith))

  pub all_turns : {r : Bool} → r ≡ list_all t vs → r ≡ turns (λ b a. b && t (get_or vs a 0)) true (length vs)
  all_turns e = e ∙ ap (list_all t) (sym (take-length vs)) ∙ all_so_far (length vs) (omega arith)

-- an item of a list of vertices
pub item_below : (vs : List ℕ) (k x : ℕ) → AtMost 63 vs → k < length vs → x ≡ get_or vs k x → x < 64
item_below vs k x m l e = let d = get_or_default_zero vs k x l in omega (arith, m k)

-- what each turn keeps
pub turns_keep : {S : Type 0} (g : S → ℕ → S) (Q : S → Type 0) → ((s : S) (i : ℕ) → Q s → Q (g s i)) → (s : S) → Q s → (n : ℕ)
    → Q (turns g s n)
unfolding turns
turns_keep g Q h s q zero = q
turns_keep g Q h s q (suc n) = h (turns g s n) n (turns_keep g Q h s q n)

-- a loop that stores at each vertex of a list what a function says
module _ {A : Type 0} (g : ℕ → A) (z : A) (vs : List ℕ) (s : List A) where
  abbrev stored : ℕ → List A
  stored n = turns (λ s a. set s (get_or vs a 0) (g (get_or vs a 0))) s n

  stored_length : (n : ℕ) → length (stored n) ≡ length s
  unfolding turns
  stored_length zero = refl
  stored_length (suc n) = length-set (stored n) (get_or vs n 0) (g (get_or vs n 0)) ∙ stored_length n

  pub stored_here : (n a : ℕ) → a < n → get_or vs a 0 < length s → get_or (stored n) (get_or vs a 0) z ≡ g (get_or vs a 0)
  unfolding turns
  stored_here zero a l m = absurd (omega arith)
  stored_here (suc n) a l m = elim (ℕ_discrete (get_or vs a 0) (get_or vs n 0)) [
    | yes e ↦ let k = stored_length n in
        ap (λ v. get_or (set (stored n) (get_or vs n 0) (g (get_or vs n 0))) v z) e
        ∙ get_or-set_same (stored n) (get_or vs n 0) (g (get_or vs n 0)) z (omega arith) ∙ ap g (sym e)
    | no e ↦ elim (ℕ_discrete a n) [
      | yes q ↦ absurd (e (ap (λ i. get_or vs i 0) q))
      | no q ↦ get_or-set_other (stored n) (get_or vs n 0) (get_or vs a 0) (g (get_or vs n 0)) z e ∙ stored_here n a (omega arith) m
    ]
  ]

  pub stored_other : (n v : ℕ) → ((a : ℕ) → a < n → v ≡ get_or vs a 0 → ⊥) → get_or (stored n) v z ≡ get_or s v z
  unfolding turns
  stored_other zero v h = refl
  stored_other (suc n) v h =
      get_or-set_other (stored n) (get_or vs n 0) v (g (get_or vs n 0)) z (h n (omega arith)) ∙ stored_other n v (λ a l. h a (omega arith))
