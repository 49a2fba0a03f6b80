-- The arcs that leave a vertex: from an arc that does, the lowest number is its own; from one that does not, it is that from the next arc
-- on. So no such arc is left out between two numbers of a chain.
use Rattle.std.specs.Prelude.{◌≡◌, refl, Bool, true, false, cond, ◌&&◌, List, [], ℕ, zero, suc, ◌+◌, ◌-◌, ◌≤◌, ◌<◌, get_or, set, replicate, T}
use Rattle.std.proofs.Math.Path.{sym}
use Rattle.std.proofs.Common.{ap, ◌∙◌, subst, eqb-true, eq-eqb, ne_eqb, length-set, get_or-set_same, get_or-set_other}
use Rattle.std.proofs.Math.Decide.{ℕ_discrete, dec_le}
use native.Mathlib.Omega.{arith}
use Rattle.std.proofs.Math.ListN.{length}
use Rattle.std.proofs.lemmas.List.{length-replicate, get_or-replicate}
use Rattle.postman.specs.Lists.{first_index, up_from}
use Rattle.postman.specs.Plan.{is_open}
use Rattle.plan.specs.Rows.{arc_in}
use Rattle.paths.specs.Leaving.{tail_of, leaves, leaving_from}
use Rattle.paths.specs.ShortestPath.{begins_in, next_in}
use Rattle.postman_laws.specs.Laws.FirstNumber.{first_at, first_none}

-- the first number from k on, below m, that passes a test
pub record IsFirstFrom (f : ℕ → Bool) (k m r : ℕ) : Type 0 where
  pub from : k ≤ r
  pub most : r ≤ m
  pub skipped : (i : ℕ) → k ≤ i → i < r → f i ≡ false
  pub passes : r < m → f r ≡ true

first_here : (f : ℕ → Bool) (k m : ℕ) → k ≤ m → f k ≡ true → IsFirstFrom f k m k
first_here f k m l e = record { from = omega arith; most = l; skipped = λ i g h. absurd (omega arith); passes = λ g. e }

first_later : (f : ℕ → Bool) (k m r : ℕ) → f k ≡ false → IsFirstFrom f (k + 1) m r → IsFirstFrom f k m r
first_later f k m r e h = record {
  from = let a = h.from in omega arith;
  most = h.most;
  skipped = λ i g l. elim (ℕ_discrete i k) [
    | yes q ↦ ap f q ∙ e
    | no q ↦ h.skipped i (omega arith) l
  ];
  passes = h.passes;
}

first_case : (f : ℕ → Bool) (k m r : ℕ) → k < m → IsFirstFrom f (k + 1) m (k + 1 + r) → (b : Bool) → f k ≡ b
    → IsFirstFrom f k m (k + cond b 0 (suc r))
first_case f k m r l h true e = subst (IsFirstFrom f k m) (omega arith) (first_here f k m (omega arith) e)
first_case f k m r l h false e = subst (IsFirstFrom f k m) (omega arith) (first_later f k m (k + 1 + r) e h)

first_from : (f : ℕ → Bool) (k m n : ℕ) → k + n ≡ m → IsFirstFrom f k m (k + first_index f (up_from k n))
unfolding first_index up_from
first_from f k m zero e =
    record { from = omega arith; most = omega arith; skipped = λ i g h. absurd (omega arith); passes = λ l. absurd (omega arith) }
first_from f k m (suc n) e =
    first_case f k m (first_index f (up_from (suc k) n)) (omega arith)
    (subst (λ x. IsFirstFrom f x m (x + first_index f (up_from (suc k) n))) (omega arith) (first_from f (suc k) m n (omega arith)))
    (f k) refl

-- there is one such number
first_le : (f : ℕ → Bool) {k m r s : ℕ} → IsFirstFrom f k m r → IsFirstFrom f k m s → r ≤ s
first_le f {k} {m} {r} {s} h g = elim (dec_le r s) [
  | yes l ↦ l
  | no l ↦ let a = h.most in let b = g.from in absurd (both (h.skipped s b (omega arith)) (g.passes (omega arith)))
]
  where
    both : {b : Bool} → b ≡ false → b ≡ true → ⊥
    both e t = subst (λ (b : Bool). T b) (sym t ∙ e) tt

pub first_unique : (f : ℕ → Bool) {k m r s : ℕ} → IsFirstFrom f k m r → IsFirstFrom f k m s → r ≡ s
first_unique f h g = let a = first_le f h g in let b = first_le f g h in omega arith

module _ (rows : List (List ℕ)) (v : ℕ) where
  pub leaving : (k : ℕ) → k ≤ length rows → IsFirstFrom (leaves rows v) k (length rows) (leaving_from rows v k)
  unfolding leaving_from
  leaving k l = first_from (leaves rows v) k (length rows) (length rows - k) (omega arith)

  -- from an arc that leaves v, from one that does not, and past the last
  pub leaving_here : (k : ℕ) → k < length rows → tail_of rows k ≡ v → k ≡ leaving_from rows v k
  leaving_here k l e =
      first_unique (leaves rows v) (first_here (leaves rows v) k (length rows) (omega arith) (eq-eqb _ v e)) (leaving k (omega arith))

  pub leaving_later : (k : ℕ) → k < length rows → (tail_of rows k ≡ v → ⊥) → leaving_from rows v (k + 1) ≡ leaving_from rows v k
  leaving_later k l n =
      first_unique (leaves rows v)
      (first_later (leaves rows v) k (length rows) (leaving_from rows v (k + 1)) (ne_eqb _ v n) (leaving (k + 1) (omega arith)))
      (leaving k (omega arith))

  pub leaving_none : length rows ≡ leaving_from rows v (length rows)
  leaving_none = let h = leaving (length rows) (omega arith) in let a = h.from in let b = h.most in omega arith

-- an arc that does not leave v begins no path from it
begins_leaves : (rows : List (List ℕ)) (column : List ℕ) (v k : ℕ) → leaves rows v k ≡ false → begins_in rows column v k ≡ false
unfolding begins_in
begins_leaves rows column v k e = second (is_open (arc_in (get_or rows k []))) _ e
  where
    second : (a : Bool) {b : Bool} (c : Bool) → b ≡ false → (a && b && c) ≡ false
    second true c e = rw e refl
    second false c e = refl

-- ---- a chain is made from the last arc to the first: of the arcs from k on

pub record IsChainFrom (rows : List (List ℕ)) (chain : List ℕ) (k : ℕ) : Type 0 where
  pub long : length chain ≡ 320
  pub few : k ≤ length rows
  pub first : (v : ℕ) → v < 64 → get_or chain v 0 ≡ leaving_from rows v k
  pub next : (i : ℕ) → k ≤ i → i < length rows → get_or chain (64 + i) 0 ≡ leaving_from rows (tail_of rows i) (i + 1)

pub chain_none : (rows : List (List ℕ)) → IsChainFrom rows (replicate 320 (length rows)) (length rows)
chain_none rows = record {
  long = length-replicate 320 (length rows);
  few = omega arith;
  first = λ v l. get_or-replicate 320 v (length rows) 0 (omega arith) ∙ leaving_none rows v;
  next = λ i l g. absurd (omega arith);
}

pub chain_more : (rows : List (List ℕ)) (chain : List ℕ) (k t : ℕ) → length rows ≤ 256 → k < length rows → t < 64 → t ≡ tail_of rows k
    → IsChainFrom rows chain (k + 1) → IsChainFrom rows (set (set chain (64 + k) (get_or chain t 0)) t k) k
chain_more rows chain k t few l s e h =
    let c = set chain (64 + k) (get_or chain t 0) in
    let long = length-set chain (64 + k) (get_or chain t 0) ∙ h.long in
    let full = h.long in
    record {
      long = length-set c t k ∙ long;
      few = omega arith;
      first = λ v g. elim (ℕ_discrete v t) [
        | yes q ↦ rw q (get_or-set_same c t k 0 (omega arith) ∙ leaving_here rows t k l (sym e))
        | no q ↦ get_or-set_other c t v k 0 q ∙ get_or-set_other chain (64 + k) v (get_or chain t 0) 0 (λ z. omega arith) ∙ h.first v g
            ∙ leaving_later rows v k l (λ z. q (sym z ∙ sym e))
      ];
      next = λ i g m. get_or-set_other c t (64 + i) k 0 (λ z. omega arith) ∙ elim (ℕ_discrete i k) [
        | yes q ↦ rw q
            (get_or-set_same chain (64 + k) (get_or chain t 0) 0 (omega arith) ∙ h.first t s ∙ ap (λ x. leaving_from rows x (k + 1)) e)
        | no q ↦ get_or-set_other chain (64 + k) (64 + i) (get_or chain t 0) 0 (λ z. q (omega arith)) ∙ h.next i (omega arith) m
      ];
    }

-- ---- a search along the arcs that leave v: `best` is the lowest met so far that begins a path, and k is the next to be met

pub record Meets (rows : List (List ℕ)) (column : List ℕ) (v best k : ℕ) : Type 0 where
  pub most : best ≤ length rows
  pub few : k ≤ length rows
  pub tail : k < length rows → tail_of rows k ≡ v
  pub lowest : (i : ℕ) → i < k → i < best → begins_in rows column v i ≡ false
  pub begins : best < length rows → begins_in rows column v best ≡ true

module _ (rows : List (List ℕ)) (column : List ℕ) (v : ℕ) where
  pub meets_none : {k : ℕ} → k ≡ leaving_from rows v 0 → Meets rows column v (length rows) k
  meets_none {k} e =
      let h = subst (IsFirstFrom (leaves rows v) 0 (length rows)) (sym e) (leaving rows v 0 (omega arith)) in
      record {
        most = omega arith;
        few = h.most;
        tail = λ l. eqb-true _ v (h.passes l);
        lowest = λ i l g. begins_leaves rows column v i (h.skipped i (omega arith) l);
        begins = λ l. absurd (omega arith);
      }

  module _ {best k next : ℕ} (h : Meets rows column v best k) (l : k < length rows)
      (e : next ≡ leaving_from rows (tail_of rows k) (k + 1)) where
    follows : IsFirstFrom (leaves rows v) (k + 1) (length rows) next
    follows =
        subst (IsFirstFrom (leaves rows v) (k + 1) (length rows)) (sym (e ∙ ap (λ x. leaving_from rows x (k + 1)) (h.tail l)))
        (leaving rows v (k + 1) (omega arith))

    pub meets_later : (k < next) × (next ≤ length rows)
    meets_later = let a = follows.from in (omega arith, follows.most)

    -- between the two no arc leaves v
    between : (i : ℕ) → k < i → i < next → begins_in rows column v i ≡ false
    between i a b = begins_leaves rows column v i (follows.skipped i (omega arith) b)

    -- k is below all that were taken, so that it is the lowest if it begins a path
    pub meets_more : k < best → (b : Bool) → begins_in rows column v k ≡ b → Meets rows column v (cond b k best) next
    meets_more n true g = record {
      most = omega arith;
      few = follows.most;
      tail = λ m. eqb-true _ v (follows.passes m);
      lowest = λ i a b. h.lowest i b (omega arith);
      begins = λ m. g;
    }
    meets_more n false g = record {
      most = h.most;
      few = follows.most;
      tail = λ m. eqb-true _ v (follows.passes m);
      lowest = λ i a b. elim (dec_le k i) [
        | yes m ↦ elim (ℕ_discrete i k) [
          | yes q ↦ ap (begins_in rows column v) q ∙ g
          | no q ↦ between i (omega arith) a
        ]
        | no m ↦ h.lowest i (omega arith) b
      ];
      begins = h.begins;
    }

  pub meets_all : {best k : ℕ} → Meets rows column v best k → best ≤ k → best ≡ next_in rows column v
  unfolding next_in
  meets_all {best} {k} h l = elim (dec_le (length rows) best) [
    | yes g ↦ let a = h.most in
        let e : best ≡ length rows = omega arith in
        e ∙ sym (first_none (begins_in rows column v) (length rows) (λ i m. h.lowest i (omega arith) (omega arith)))
    | no g ↦ sym
        (first_at (begins_in rows column v) (length rows) best (omega arith) (h.begins (omega arith)) (λ i m. h.lowest i (omega arith) m))
  ]
