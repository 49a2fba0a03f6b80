-- The test for stray pairs: there are too many, one was found, or each was looked at; and what the call then refuses.
use Rattle.std.specs.Prelude.{◌≡◌, List, ℕ, ◌≤◌, ◌<◌, leb, ltb, length, get_or}
use Rattle.std.proofs.Math.Path.{refl, subst}
use Rattle.std.proofs.Common.{sym, ap, ◌∙◌}
use Rattle.std.proofs.Math.Bool.{true, false}
use Rattle.std.proofs.Math.Option.{some, none}
use borrow.Author.Tests.{le-leb, lt-leb, lt-ltb, le-ltb}
use Rattle.std.proofs.Math.Dec.{T}
use Rattle.postman.specs.Lists.{any_of}
use Rattle.postman.specs.Refusal.{first_refusal}
use Rattle.postman.specs.DistanceCall.{first, second, is_stray, has_stray, pairs_conditions}
use Rattle.postman.specs.Laws.Tests.{same_test, of_true}
use Rattle.postman.specs.Laws.Membership.{get_d_mem, mem_get_d, any_of_mem, any_of_at}

-- ---- one pair

pub first_stray : (n x : ℕ) → n ≤ first x → true ≡ is_stray n x
unfolding is_stray
first_stray n x h = let e = le-leb n (first x) h in rw e refl

pub second_stray : (n x : ℕ) → first x < n → leb n (second x) ≡ is_stray n x
unfolding is_stray
second_stray n x h = let e = lt-leb n (first x) h in rw e refl

-- ---- the list

module _ (n : ℕ) (pairs : List ℕ) where
  pub many_stray : 256 < length pairs → true ≡ has_stray n pairs
  unfolding has_stray
  many_stray h = let e = lt-ltb 256 (length pairs) h in rw e refl

  module _ (few : length pairs ≤ 256) where
    pub stray_found : (k : ℕ) → k < length pairs → is_stray n (get_or pairs k 0) ≡ true → true ≡ has_stray n pairs
    unfolding has_stray
    stray_found k l e =
        let t = le-ltb 256 (length pairs) few in
        rw t (same_test true (any_of (is_stray n) pairs) (λ u. any_of_mem (is_stray n) (get_d_mem pairs 0 k l) (of_true e)) (λ u. tt))

    pub none_stray : ((k : ℕ) → k < length pairs → is_stray n (get_or pairs k 0) ≡ false) → false ≡ has_stray n pairs
    unfolding has_stray
    none_stray h =
        let t = le-ltb 256 (length pairs) few in
        rw t (same_test false (any_of (is_stray n) pairs) (λ u. absurd u) (λ u.
        let r = any_of_at (is_stray n) pairs u in
        let g = mem_get_d 0 r.1 in
        subst T (ap (is_stray n) (sym g.2) ∙ h g.0 g.1) r.2))

  -- ---- 17, then 8

  module _ (room : ℕ) where
    pub stray_refused : has_stray n pairs ≡ true → some 17 ≡ first_refusal (pairs_conditions n pairs room)
    unfolding first_refusal pairs_conditions
    stray_refused h = rw h refl

    pub short_refused : has_stray n pairs ≡ false → ltb room (length pairs) ≡ true → some 8 ≡ first_refusal (pairs_conditions n pairs room)
    unfolding first_refusal pairs_conditions
    short_refused h s = rw (h, s) refl

    pub pairs_good : has_stray n pairs ≡ false → ltb room (length pairs) ≡ false → none ≡ first_refusal (pairs_conditions n pairs room)
    unfolding first_refusal pairs_conditions
    pairs_good h s = rw (h, s) refl
