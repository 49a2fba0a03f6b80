-- One arc more, from t to h: one unit more is sent from h to t, along a cheapest residual path.
use Rattle.std.specs.Prelude.{◌≡◌, cond, ℕ, zero, suc, ◌+◌, ◌*◌, ◌-◌, min, get_or, set, replicate, eqb, ltb}
use Rattle.std.proofs.Math.Bool.{false}
use mathlib.Core.List.{List, [], ◌∷◌}
use Rattle.postman.specs.Link.{Link}
use Rattle.residual_search.specs.Bounds.{AtMost}
use Rattle.residual_search.specs.Fold.{fold}
use Rattle.residual_search.specs.Search.{Found, search}
use Rattle.postman.specs.Steps.{amount}

abbrev pub potential : List ℕ → ℕ → ℕ
potential u i = get_or u i 0

-- The residual length of a pair of vertices i and j: 0 where something is sent from j to i, since
-- that can be sent less; else the reduced cost.
abbrev pub residual : ℕ → ℕ → ℕ → ℕ → ℕ
residual d ui uj back = cond (ltb 0 back) 0 (d + uj - ui)

abbrev pub residual_length : (ℕ → ℕ → ℕ) → List ℕ → List ℕ → ℕ → ℕ → ℕ
residual_length d f u i j = residual (d i j) (potential u i) (potential u j) (amount f j i)

-- One unit more from v to w: one less of what is sent from w to v, where something is; else one more from v to w.
abbrev pub place : ℕ → ℕ → ℕ → ℕ
place back v w = cond (ltb 0 back) (w * 64 + v) (v * 64 + w)

abbrev pub moved : ℕ → ℕ → ℕ
moved back ahead = cond (ltb 0 back) (back - 1) (ahead + 1)

abbrev pub push : List ℕ → ℕ → ℕ → List ℕ
push f v w = set f (place (amount f w v) v w) (moved (amount f w v) (amount f v w))

-- One unit more along the way from v to t, of at most n steps.
unfoldable pub augment : List ℕ → ℕ → ℕ → List ℕ → ℕ → List ℕ
augment next t zero f v = f
augment next t (suc n) f v = cond (eqb v t) f (augment next t n (push f v (get_or next v 0)) (get_or next v 0))

-- The potentials, raised by the distances, by no more than `most`.
unfoldable pub raise : List ℕ → ℕ → List ℕ → List ℕ → List ℕ
unfolding fold
raise distance most u vs = fold (λ s v. set s v (get_or u v 0 + min (get_or distance v 0) most)) u vs

-- Arcs by their tails and heads.
unfoldable pub arcs_of : List ℕ → List ℕ → List Link
arcs_of [] hs = []
arcs_of (t ∷ ts) [] = []
arcs_of (t ∷ ts) (h ∷ hs) = record { tail = t; head = h } ∷ arcs_of ts hs

-- The state: amounts and potentials, the amounts' cost, and how many arcs were counted.
pub record State : Type 0 where
  pub amounts : List ℕ
  pub potentials : List ℕ
  pub cost : ℕ
  pub count : ℕ

abbrev pub state_in : List ℕ → List ℕ → ℕ → ℕ → State
state_in f u cost count = record { amounts = f; potentials = u; cost = cost; count = count }

unfoldable pub empty : State
empty = record { amounts = replicate 4096 0; potentials = replicate 64 0; cost = 0; count = 0 }

module _ (d : ℕ → ℕ → ℕ) (vs : List ℕ) where
  -- The search for the cheapest way from h to t.
  unfoldable pub way : State → ℕ → ℕ → Found
  unfolding search
  way s t h = search (residual_length d s.amounts s.potentials) vs t false h

  unfoldable pub add : State → ℕ → ℕ → State
  unfolding way raise augment
  add s t h =
      let w = way s t h in
      let u = raise w.distance (get_or w.distance h 0) s.potentials vs in
      record {
        amounts = augment w.next t 64 s.amounts h;
        potentials = u;
        cost = s.cost + potential u h - potential u t;
        count = s.count + 1;
      }

  -- What adding an arc comes to: the next vertices on a way for its unit, the potentials and the cost.
  pub record IsAdded (s : State) (t h : ℕ) (next potentials : List ℕ) (cost : ℕ) : Type 0 where
    pub next_low : AtMost 63 next
    pub amounts_are : augment next t 64 s.amounts h ≡ (add s t h).amounts
    pub potentials_are : potentials ≡ (add s t h).potentials
    pub cost_is : cost ≡ (add s t h).cost

  -- Arcs added one by one, in their order.
  unfoldable pub add_all : State → List Link → State
  unfolding add
  add_all s [] = s
  add_all s (a ∷ arcs) = add_all (add s a.tail a.head) arcs
