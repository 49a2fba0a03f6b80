-- An exchange of two numbers keeps a numbering a numbering: by whether a vertex is one of the two. And what an array has in a place is
-- the same whatever stands for a missing entry.
use Rattle.std.specs.Prelude.{◌≡◌, refl, ◌≢◌, List, [], ◌∷◌, ℕ, zero, suc, ◌+◌, ◌≤◌, ◌<◌, length}
use Rattle.std.proofs.Math.Path.{sym}
use Rattle.std.proofs.Common.{ap, ◌∙◌, zero-add, arith, get_or-set_same, get_or-set_other, ext_get_or}
use Rattle.std.proofs.Math.Decide.{ℕ_discrete, dec_le}
use Rattle.std.proofs.Math.ListN.{get_or, set, length-set, get_or-eq_default}
use Rattle.postman.specs.Lists.{up_from, below}
use Rattle.postman.specs.Laws.Membership.{length_up_from}
use Rattle.postman.specs.Renumbering.{IsNumbering, number_in}
use Rattle.renumbering.specs.Numbering.{IsNumberingOf, unchanged, exchanged}
use Rattle.renumbering.specs.declared.numbering.Numbering.{Numbering}

pub in_place : {A : Type 0} (xs : List A) (k : ℕ) (d e : A) → k < length xs → get_or xs k d ≡ get_or xs k e
in_place [] k d e l = absurd (omega arith)
in_place (x ∷ xs) zero d e l = refl
in_place (x ∷ xs) (suc k) d e l = in_place xs k d e (omega arith)

-- ---- bounds

module _ (n : ℕ) (π σ : ℕ → ℕ) (h : IsNumbering n π σ) where
  pub inside_back : (v : ℕ) → v < n → σ v < n
  inside_back v l = let f = h.forth v in
      elim (dec_le n (σ v)) [ yes g ↦ let o = h.outside (σ v) g in absurd (omega arith) | no g ↦ omega arith ]

  outside_back : (v : ℕ) → n ≤ v → σ v ≡ v
  outside_back v l = ap σ (sym (h.outside v l)) ∙ h.back v

  pub to_inside : n ≤ 64 → (v : ℕ) → v < 64 → π v < 64
  to_inside few v l =
      elim (dec_le n v) [ yes g ↦ let o = h.outside v g in omega arith | no g ↦ let o = h.inside v (omega arith) in omega arith ]

  pub from_inside : n ≤ 64 → (v : ℕ) → v < 64 → σ v < 64
  from_inside few v l =
      elim (dec_le n v) [ yes g ↦ let o = outside_back v g in omega arith | no g ↦ let o = inside_back v (omega arith) in omega arith ]

  -- a numbering of fewer vertices is one of 64
  pub of_all : n ≤ 64 → IsNumbering 64 π σ
  of_all few = record { inside = to_inside few; outside = λ v l. h.outside v (omega arith); back = h.back; forth = h.forth }

-- ---- exchanges

-- g is f, but for what it gives to a and to b
pub record IsChanged (f g : ℕ → ℕ) (a p b q : ℕ) : Type 0 where
  pub second : g b ≡ q
  pub first : a ≢ b → g a ≡ p
  pub rest : (v : ℕ) → v ≢ a → v ≢ b → g v ≡ f v

changed : (l : List ℕ) (a p b q : ℕ) → a < length l → b < length l → IsChanged (number_in l) (number_in (set (set l a p) b q)) a p b q
changed l a p b q ha hb = record {
  second = (let e = length-set l a p in get_or-set_same (set l a p) b q b (omega arith));
  first = λ n. get_or-set_other (set l a p) b a q a n ∙ get_or-set_same l a p a ha;
  rest = λ v x y. get_or-set_other (set l a p) b v q v y ∙ get_or-set_other l a v p v x;
}

module _ (n : ℕ) (π σ : ℕ → ℕ) (h : IsNumbering n π σ) (i j : ℕ) (hi : i < n) (hj : j < n) (π' σ' : ℕ → ℕ)
    (to : IsChanged π π' (σ i) j (σ j) i) (from : IsChanged σ σ' i (σ j) j (σ i)) where
  one_to_one : (a b : ℕ) → σ a ≡ σ b → a ≡ b
  one_to_one a b e = sym (h.forth a) ∙ ap π e ∙ h.forth b

  back' : (v : ℕ) → σ' (π' v) ≡ v
  back' v = elim (ℕ_discrete v (σ j)) [
    | yes e ↦ ap σ' (ap π' e ∙ to.second)
        ∙ elim (ℕ_discrete i j) [ yes s ↦ ap σ' s ∙ from.second ∙ ap σ s ∙ sym e | no s ↦ from.first s ∙ sym e ]
    | no x ↦ elim (ℕ_discrete v (σ i)) [
      | yes e ↦ ap σ' (ap π' e ∙ to.first (λ s. x (e ∙ s))) ∙ from.second ∙ sym e
      | no y ↦
          let k = to.rest v y x in
          ap σ' k
          ∙ from.rest (π v) (λ s. y (sym (h.back v) ∙ ap σ s)) (λ s. x (sym (h.back v) ∙ ap σ s))
          ∙ h.back v
    ]
  ]

  forth' : (k : ℕ) → π' (σ' k) ≡ k
  forth' k = elim (ℕ_discrete k j) [
    | yes e ↦ ap π' (ap σ' e ∙ from.second)
        ∙ elim (ℕ_discrete (σ i) (σ j)) [ yes s ↦ ap π' s ∙ to.second ∙ one_to_one i j s ∙ sym e | no s ↦ to.first s ∙ sym e ]
    | no x ↦ elim (ℕ_discrete k i) [
      | yes e ↦ ap π' (ap σ' e ∙ from.first (λ s. x (e ∙ s))) ∙ to.second ∙ sym e
      | no y ↦ ap π' (from.rest k y x) ∙ to.rest (σ k) (λ s. y (one_to_one k i s)) (λ s. x (one_to_one k j s)) ∙ h.forth k
    ]
  ]

  inside' : (v : ℕ) → v < n → π' v < n
  inside' v l = elim (ℕ_discrete v (σ j)) [
    | yes e ↦ let s = ap π' e ∙ to.second in omega arith
    | no x ↦ elim (ℕ_discrete v (σ i)) [
      | yes e ↦ let s = ap π' e ∙ to.first (λ s. x (e ∙ s)) in omega arith
      | no y ↦ let s = to.rest v y x in let o = h.inside v l in omega arith
    ]
  ]

  outside' : (v : ℕ) → n ≤ v → π' v ≡ v
  outside' v l =
      let a = inside_back n π σ h i hi in
      let b = inside_back n π σ h j hj in
      to.rest v (λ s. omega arith) (λ s. omega arith) ∙ h.outside v l

  exchange_numbers : IsNumbering n π' σ'
  exchange_numbers = record { inside = inside'; outside = outside'; back = back'; forth = forth' }

module _ (n : ℕ) (few : n ≤ 64) (x : Numbering) (h : IsNumberingOf n x) where
  pub entry_from : (v : ℕ) → v < 64 → get_or x.from v 0 ≡ number_in x.from v
  entry_from v l = let e = h.long_from in in_place x.from v 0 v (omega arith)

  pub vertex_in : (v : ℕ) → v < 64 → get_or x.from v 0 < 64
  vertex_in v l = let e = entry_from v l in let f = from_inside n _ _ h.numbers few v l in omega arith

  pub as_all : IsNumberingOf 64 x
  as_all = record { long_to = h.long_to; long_from = h.long_from; numbers = of_all n _ _ h.numbers few }

  pub exchanged_numbering : (i j : ℕ) → i < n → j < n → IsNumberingOf n (exchanged i j x)
  unfolding exchanged
  exchanged_numbering i j hi hj =
      let v = get_or x.from i 0 in
      let w = get_or x.from j 0 in
      let a = vertex_in i (omega arith) in
      let b = vertex_in j (omega arith) in
      let t = h.long_to in
      let f = h.long_from in
      let ev = entry_from i (omega arith) in
      let ew = entry_from j (omega arith) in
      let to' = set (set x.to v j) w i in
      let from' = set (set x.from i w) j v in
      let ct : IsChanged (number_in x.to) (number_in to') (number_in x.from i) j (number_in x.from j) i =
      rw (sym ev, sym ew) (changed x.to v j w i (omega arith) (omega arith)) in
      let cf : IsChanged (number_in x.from) (number_in from') i (number_in x.from j) j (number_in x.from i) =
      rw (sym ev, sym ew) (changed x.from i w j v (omega arith) (omega arith)) in
      record {
        long_to = length-set (set x.to v j) w i ∙ length-set x.to v j ∙ t;
        long_from = length-set (set x.from i w) j v ∙ length-set x.from i w ∙ f;
        numbers = exchange_numbers n _ _ h.numbers i j hi hj (number_in to') (number_in from') ct cf;
      }

-- ---- every vertex keeps its number

in_up_from : (a n k d : ℕ) → k < n → get_or (up_from a n) k d ≡ a + k
unfolding up_from
in_up_from a zero k d l = absurd (omega arith)
in_up_from a (suc n) zero d l = omega arith
in_up_from a (suc n) (suc k) d l = in_up_from (suc a) n k d (omega arith) ∙ omega arith

pub same_number : (v : ℕ) → number_in (below 64) v ≡ v
unfolding below
same_number v = elim (dec_le 64 v) [
  | yes g ↦ let e = length_up_from 0 64 in get_or-eq_default (up_from 0 64) v {n = v} (omega arith)
  | no g ↦ in_up_from 0 64 v v (omega arith) ∙ zero-add v
]

pub unchanged_by : (xs : List ℕ) → length xs ≡ 64 → ((i : ℕ) → i < 64 → get_or xs i 0 ≡ i) → record { to = xs; from = xs } ≡ unchanged
unfolding unchanged below
unchanged_by xs long h =
    let e = length_up_from 0 64 in
    let s : xs ≡ up_from 0 64 =
    ext_get_or 0 xs (up_from 0 64) (omega arith) (λ i l. h i (omega arith) ∙ sym (in_up_from 0 64 i 0 (omega arith) ∙ zero-add i)) in
    λ i. record { to = s i; from = s i }

pub unchanged_numbering : (n : ℕ) → IsNumberingOf n unchanged
unfolding unchanged below
unchanged_numbering n =
    let e = length_up_from 0 64 in
    let s = same_number in
    record {
      long_to = e;
      long_from = e;
      numbers = record {
        inside = λ v l. let a = s v in omega arith;
        outside = λ v l. s v;
        back = λ v. s (number_in (below 64) v) ∙ s v;
        forth = λ v. s (number_in (below 64) v) ∙ s v;
      };
    }
