-- An array that a loop fills from the start on: nothing, one entry more, and the entry at a place.
use Rattle.std.specs.Prelude.{◌≡◌, refl, Bool, true, false, List, [], ◌∷◌, ◌++◌, ℕ, ◌+◌, ◌≤◌, ◌<◌, length, get_or, set, take, replicate}
use Rattle.std.proofs.Common.{sym, ap, ◌∙◌, subst, append_assoc, append-nil, add-one, arith, length-set, length-append, take-suc-set, length-take-le, get_or-take}
use Rattle.std.proofs.lemmas.List.{length-replicate}
use Rattle.postman.specs.Lists.{select, below}
use Rattle.candidates.specs.Holds.{Holds}
use Rattle.candidates.specs.Laws.Selection.{next_taken, next_passed, select_none_below, select_within}

pub holds_none : (n : ℕ) → Holds n (replicate n 0) 0 []
holds_none n = record { size = length-replicate n 0; fits = omega arith; content = refl }

module _ {n : ℕ} {array : List ℕ} {count : ℕ} {xs : List ℕ} (h : Holds n array count xs) where
  pub holds_more : (v : ℕ) → count < n → Holds n (set array count v) (count + 1) (xs ++ v ∷ [])
  holds_more v l =
      let s = h.size in
      record {
        size = length-set array count v ∙ h.size;
        fits = omega arith;
        content = rw (add-one, take-suc-set array count v (omega arith)) (ap (λ (l : List ℕ). l ++ v ∷ []) h.content);
      }

  pub holds_length : count ≡ length xs
  holds_length =
      let s = h.size in
      let f = h.fits in
      sym (length-take-le count array (omega arith)) ∙ ap length h.content

  pub holds_at : (i : ℕ) → i < count → get_or array i 0 ≡ get_or xs i 0
  holds_at i l = sym (get_or-take count array i 0 l) ∙ ap (λ (l : List ℕ). get_or l i 0) h.content

pub holds_as : {n : ℕ} {array : List ℕ} {count : ℕ} {xs ys : List ℕ} → Holds n array count xs → xs ≡ ys → Holds n array count ys
holds_as h e = rw e at h

pub holds_by : {n : ℕ} {array a : List ℕ} {count c : ℕ} {xs : List ℕ} → array ≡ a → count ≡ c → Holds n a c xs → Holds n array count xs
holds_by e f h = rw (← e, ← f) at h

pub holds_whole : {n : ℕ} {array : List ℕ} {count : ℕ} {xs : List ℕ} (ys : List ℕ) → Holds n array count xs → xs ≡ ys
    → Holds n array (length ys) ys
holds_whole {n} {array} ys h e = subst (λ c. Holds n array c ys) (holds_length h ∙ ap length e) (holds_as h e)

pub holds_start : (n : ℕ) (array : List ℕ) (count : ℕ) (f : ℕ → Bool) → length array ≡ n → count ≤ n
    → Holds n array count (take count array ++ select f (below 0))
holds_start n array count f s l =
    record {
      size = s;
      fits = l;
      content = sym (ap (λ (zs : List ℕ). take count array ++ zs) (select_none_below f) ∙ append-nil (take count array));
    }

-- ---- a selection of numbers behind ys, up to the number x

module _ {n : ℕ} {array : List ℕ} {count : ℕ} (ys : List ℕ) (f : ℕ → Bool) (x : ℕ)
    (h : Holds n array count (ys ++ select f (below x))) where
  pub pick_taken : f x ≡ true → count < n → Holds n (set array count x) (count + 1) (ys ++ select f (below (x + 1)))
  pick_taken e l =
      holds_as (holds_more h x l) (append_assoc ys (select f (below x)) (x ∷ []) ∙ ap (λ (zs : List ℕ). ys ++ zs) (sym (next_taken f x e)))

  pub pick_passed : f x ≡ false → Holds n array count (ys ++ select f (below (x + 1)))
  pick_passed e = holds_as h (ap (λ (zs : List ℕ). ys ++ zs) (sym (next_passed f x e)))

  -- there is room for x where there is for all below m
  pub pick_room : (m : ℕ) → f x ≡ true → x < m → length ys + length (select f (below m)) ≤ n → count < n
  pick_room m e l r =
      let a = holds_length h in
      let b = length-append ys (select f (below x)) in
      let c = ap length (next_taken f x e) in
      let d = length-append (select f (below x)) (x ∷ []) in
      let w = select_within f (x + 1) m (omega arith) in
      omega arith
