-- Lists made from the numbers below n: their length, their elements, and one element more.
use Rattle.std.specs.Prelude.{◌≡◌, [], ◌∷◌, ◌++◌, map, ℕ, zero, suc, ◌+◌, ◌<◌, length, get_or}
use Rattle.std.proofs.Math.Path.{ap}
use Rattle.std.proofs.Common.{◌∙◌, zero-add, add-one, arith}
use Rattle.std.proofs.lemmas.List.{map-append, length-map}
use Rattle.postman.specs.Lists.{up_from, below}
use Rattle.postman.specs.Laws.Membership.{length_below, get_d_map_up_from}

up_from_more : (a n : ℕ) → up_from a (suc n) ≡ up_from a n ++ (a + n) ∷ []
unfolding up_from
up_from_more a zero = let e : a + 0 ≡ a = omega arith in rw e
up_from_more a (suc n) = let e : suc a + n ≡ a + suc n = omega arith in ap (λ l. a ∷ l) (up_from_more (suc a) n ∙ rw e)

below_more : (n : ℕ) → below (n + 1) ≡ below n ++ n ∷ []
unfolding below
below_more n = rw add-one (up_from_more 0 n ∙ rw (zero-add n))

module _ {A : Type 0} (f : ℕ → A) where
  pub length_map_below : (n : ℕ) → length (map f (below n)) ≡ n
  length_map_below n = length-map (below n) f ∙ length_below n

  pub get_d_map_below : (n k : ℕ) (d : A) → k < n → get_or (map f (below n)) k d ≡ f k
  unfolding below
  get_d_map_below n k d l = get_d_map_up_from f 0 n k d l ∙ ap f (zero-add k)

  pub map_below_more : (n : ℕ) → map f (below (n + 1)) ≡ map f (below n) ++ f n ∷ []
  map_below_more n = ap (map f) (below_more n) ∙ map-append f (below n) (n ∷ [])
