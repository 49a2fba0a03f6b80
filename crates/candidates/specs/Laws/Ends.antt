-- The ends of the pairs in the list are those of the candidates, whose places it holds.
use Rattle.std.specs.Prelude.{◌≡◌, Bool, List, ℕ, ◌/◌, ◌%◌, ◌<◌, length, get_or}
use Rattle.std.proofs.Common.{ap, ◌∙◌, arith}
use Rattle.candidates.specs.Places.{places_before, AreGrouped, AreEnds, HaveEnds}
use Rattle.candidates.specs.Laws.Holds.{holds_at}
use Rattle.candidates.specs.Laws.Places.{before_place}

tail_in : (x : ℕ) → x < 4096 → x / 64 % 64 ≡ x / 64
tail_in x l = omega arith

module _ (links : List Bool) (component : List ℕ) (k : ℕ) (start list sources tails heads : List ℕ)
    (g : AreGrouped links component k start list)
    (h : AreEnds component list 4096 sources tails heads) where
  abbrev all : List ℕ
  all = places_before links component k

  module _ (m : ℕ) (l : m < length all) where
    within : m < 4096
    within = let f = g.places.fits in omega arith

    entry : get_or list m 0 ≡ get_or all m 0
    entry = holds_at g.places m l

    tail : get_or list m 0 / 64 % 64 ≡ get_or all m 0 / 64
    tail = ap (λ x. x / 64 % 64) entry ∙ tail_in (get_or all m 0) (before_place links component k m l)

  pub have_ends : HaveEnds links component k start sources tails heads
  have_ends = record {
    starts = g.starts;
    tail = λ m l. h.tail m (within m l) ∙ tail m l;
    head = λ m l. h.head m (within m l) ∙ ap (λ x. x % 64) (entry m l);
    source = λ m l. h.source m (within m l) ∙ ap (λ x. get_or component x 0) (tail m l);
  }
