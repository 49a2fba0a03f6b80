-- Filling a page. A row is put pair by pair. A search puts the entries of its source's pairs, so that after the pairs before the kth the
-- entries are those of all pairs whose first vertex occurs among these; a source that occurs there already needs no search, and one that
-- does not adds itself to the distinct ones. After all pairs every first vertex occurs.
use Rattle.std.specs.Prelude.{◌≡◌, refl, ◌≢◌, Bool, true, false, cond, ◌||◌, ℕ, ◌+◌, ◌-◌, ◌≤◌, ◌<◌, eqb, get_or, take, drop, set, replicate}
use Rattle.std.proofs.Common.{sym, ◌∙◌, add-one, arith, eq-eqb, ne_eqb, eqb-true, length-append, length-drop, length-set, take-suc, take_all, get_or-drop, get_or-append-add, get_or-set_same, get_or-set_other, ext_get_or}
use Rattle.std.proofs.Math.Path.{ap, subst⁻¹}
use Rattle.std.proofs.Math.Bool.{or-true, or-false}
use mathlib.Core.List.{List, [], ◌∷◌, ◌++◌, map}
use Rattle.std.proofs.Math.Decide.{ℕ_discrete, dec_le}
use Rattle.std.proofs.Math.ListN.{length, get_or-append}
use Rattle.std.proofs.lemmas.List.{length-map, length-replicate, get_or-replicate}
use Rattle.postman.specs.Lists.{occurs, distinct}
use Rattle.postman.specs.Plan.{Plan}
use Rattle.postman.specs.Distance.{distance}
use Rattle.postman.specs.DistanceCall.{first, second, entry, search_count}
use Rattle.postman.specs.Laws.Tests.{is_true}
use Rattle.postman.specs.Laws.Membership.{get_d_mem, mem_map, get_d_map_in}
use Rattle.postman_laws.specs.Laws.Distinct.{mem_occurs, occurs_none, occurs_more, distinct_none, distinct_more}
use Rattle.postman.specs.Steps.{ArePairs}
use Rattle.shortest.specs.StepContracts.{IsRow}
use Rattle.distances.specs.Filling.{entry_by, IsPut, IsRowPut, IsSearchPut}

-- ---- one entry

pub entry_kept : (source from to old : ℕ) (row : List ℕ) → from ≢ source → old ≡ entry_by source row from to old
entry_kept source from to old row n = let t = ne_eqb from source n in rw t refl

-- ---- pair by pair

module _ (new : ℕ → ℕ → ℕ) (pairs old : List ℕ) where
  -- The entries of the first k pairs are put.
  pub record PutTo (now : List ℕ) (k : ℕ) : Type 0 where
    pub turns : k ≤ length pairs
    pub room : length pairs ≤ length old
    pub same : length now ≡ length old
    pub put : (j : ℕ) → j < k → get_or now j 0 ≡ new (get_or pairs j 0) (get_or old j 0)
    pub kept : (j : ℕ) → k ≤ j → get_or now j 0 ≡ get_or old j 0

  pub put_start : length pairs ≤ length old → PutTo old 0
  put_start l = record { turns = omega arith; room = l; same = refl; put = λ j h. absurd (omega arith); kept = λ j h. refl }

  pub put_more : (now : List ℕ) (k v : ℕ) → PutTo now k → k < length pairs → v ≡ new (get_or pairs k 0) (get_or now k 0)
      → PutTo (set now k v) (k + 1)
  put_more now k v h l e =
      let r = h.room in
      let s = h.same in
      let inside : k < length now = omega arith in
      record {
        turns = omega arith;
        room = r;
        same = length-set now k v ∙ s;
        put = λ j g. elim (ℕ_discrete j k) [
          | yes i ↦ rw (i, get_or-set_same now k v 0 inside) (e ∙ ap (new (get_or pairs k 0)) (h.kept k (omega arith)))
          | no n ↦ get_or-set_other now k j v 0 n ∙ h.put j (omega arith)
        ];
        kept = λ j g. get_or-set_other now k j v 0 (omega arith) ∙ h.kept j (omega arith);
      }

-- ---- search by search

pub pairs_within : (n m : ℕ) (pairs : List ℕ) → n ≤ m → ArePairs n pairs → ArePairs m pairs
pairs_within n m pairs l h =
    record { few = h.few; inside = λ k i. let a = (h.inside k i).0 in let b = (h.inside k i).1 in (omega arith, omega arith) }

pub row_put : (p : Plan) (source : ℕ) (row pairs old now : List ℕ) → p.n ≤ 64 → ArePairs p.n pairs → IsRow p source row
    → IsRowPut source row pairs old now
    → IsSearchPut p source pairs old now
unfolding entry
row_put p source row pairs old now w a r h = record {
  same = h.same;
  put = λ k l. h.put k l ∙ by (get_or pairs k 0) (get_or old k 0) (let g = (a.inside k l).1 in omega arith);
  kept = h.kept;
}
  where
    by : (x e : ℕ) → second x < 64 → entry_by source row (first x) (second x) e ≡ cond (eqb (first x) source) (entry p x) e
    by x e l = at (eqb (first x) source) refl
      where
        at : (b : Bool) → eqb (first x) source ≡ b → cond b (get_or row (second x) 0) e ≡ cond b (entry p x) e
        at true t = let s = eqb-true (first x) source t in r (second x) l ∙ ap (λ i. distance p i (second x)) (sym s)
        at false t = refl

-- ---- the first vertices of the pairs before the kth

abbrev seen : List ℕ → ℕ → List ℕ
seen pairs k = take k (map first pairs)

seen_more : (pairs : List ℕ) (k : ℕ) → k < length pairs → seen pairs (k + 1) ≡ seen pairs k ++ first (get_or pairs k 0) ∷ []
seen_more pairs k l =
    let m = length-map pairs first in
    rw add-one (take-suc (map first pairs) k 0 (omega arith) ∙ ap (λ v. seen pairs k ++ v ∷ []) (get_d_map_in first pairs k 0 l))

seen_all : (pairs : List ℕ) (k : ℕ) → length pairs ≤ k → seen pairs k ≡ map first pairs
seen_all pairs k l = let m = length-map pairs first in take_all k (map first pairs) (omega arith)

-- one that occurs already adds nothing
occurs_again : (xs : List ℕ) (s : ℕ) → occurs s xs ≡ true → (v : ℕ) → occurs v (xs ++ s ∷ []) ≡ occurs v xs
occurs_again xs s e v = occurs_more v xs s ∙ at (eqb v s) refl
  where
    at : (b : Bool) → eqb v s ≡ b → (occurs v xs || b) ≡ occurs v xs
    at true t = let i = eqb-true v s t in or-true (occurs v xs) ∙ sym (ap (λ z. occurs z xs) i ∙ e)
    at false t = or-false (occurs v xs)

-- ---- the page

pub source_small : (n : ℕ) (pairs : List ℕ) (k source : ℕ) → n ≤ 64 → ArePairs n pairs → k < length pairs
    → source ≡ first (get_or pairs k 0)
    → source < 64
source_small n pairs k source w a l e = let h = (a.inside k l).0 in omega arith

module _ (p : Plan) (pairs old : List ℕ) where
  -- An entry once the first vertices of `xs` have been searched from.
  abbrev entry_once : List ℕ → ℕ → ℕ → ℕ
  entry_once xs x e = cond (occurs (first x) xs) (entry p x) e

  -- The pairs before the kth are done.
  pub record IsFilled (now : List ℕ) (searched : List Bool) (searches k : ℕ) : Type 0 where
    pub turns : k ≤ length pairs
    pub room : length pairs ≤ length old
    pub flags : length searched ≡ 64
    pub flag : (v : ℕ) → v < 64 → get_or searched v false ≡ occurs v (seen pairs k)
    pub filled : IsPut (entry_once (seen pairs k)) pairs old now
    pub count : searches ≡ length (distinct (seen pairs k))
    pub small : searches ≤ k

  pub filled_start : length pairs ≤ length old → IsFilled old (replicate 64 false) 0 0
  filled_start l = record {
    turns = omega arith;
    room = l;
    flags = length-replicate 64 false;
    flag = λ v h. get_or-replicate 64 v false false h ∙ sym (occurs_none v);
    filled = record { same = refl; put = λ k h. rw occurs_none refl; kept = λ k h. refl };
    count = sym distinct_none;
    small = omega arith;
  }

  -- No search where the source occurs already.
  pub filled_again : (now : List ℕ) (searched : List Bool) (searches k source : ℕ) → source ≡ first (get_or pairs k 0) → k < length pairs
      → source < 64
      → get_or searched source false ≡ true → IsFilled now searched searches k → IsFilled now searched searches (k + 1)
  filled_again now searched searches k source e l s t h =
      let o : occurs source (seen pairs k) ≡ true = sym (h.flag source s) ∙ t in
      let m : seen pairs (k + 1) ≡ seen pairs k ++ source ∷ [] = seen_more pairs k l ∙ ap (λ v. seen pairs k ++ v ∷ []) (sym e) in
      let a = occurs_again (seen pairs k) source o in
      let i = h.small in
      record {
        turns = omega arith;
        room = h.room;
        flags = h.flags;
        flag = λ v g. rw m (h.flag v g ∙ sym (a v));
        filled = rw m record {
          same = h.filled.same;
          put = λ j g. h.filled.put j g ∙ ap (λ b. cond b (entry p (get_or pairs j 0)) (get_or old j 0))
              (sym (a (first (get_or pairs j 0))));
          kept = h.filled.kept;
        };
        count = rw m (rw (distinct_more (seen pairs k) source, o) h.count);
        small = omega arith;
      }

  -- A search where it does not.
  pub filled_more : (now now' : List ℕ) (searched : List Bool) (searches k source : ℕ) → source ≡ first (get_or pairs k 0)
      → k < length pairs
      → source < 64
      → get_or searched source false ≡ false → IsFilled now searched searches k → IsSearchPut p source pairs now now'
      → IsFilled now' (set searched source true) (searches + 1) (k + 1)
  filled_more now now' searched searches k source e l s t h r =
      let o : occurs source (seen pairs k) ≡ false = sym (h.flag source s) ∙ t in
      let m : seen pairs (k + 1) ≡ seen pairs k ++ source ∷ [] = seen_more pairs k l ∙ ap (λ v. seen pairs k ++ v ∷ []) (sym e) in
      let i = h.small in
      let c = h.count in
      record {
        turns = omega arith;
        room = h.room;
        flags = length-set searched source true ∙ h.flags;
        flag = λ v g. rw (m, occurs_more v (seen pairs k) source) (flag_set v g);
        filled = rw m record {
          same = r.same ∙ h.filled.same;
          put = λ j g. r.put j g ∙ ap (cond (eqb (first (get_or pairs j 0)) source) (entry p (get_or pairs j 0))) (h.filled.put j g)
              ∙ both (first (get_or pairs j 0)) (entry p (get_or pairs j 0)) (get_or old j 0);
          kept = λ j g. r.kept j g ∙ h.filled.kept j g;
        };
        count = rw m (rw (distinct_more (seen pairs k) source, o) (ap (λ n. n + 1) h.count));
        small = omega arith;
      }
    where
      both : (v a b : ℕ) → cond (eqb v source) a (cond (occurs v (seen pairs k)) a b) ≡ cond (occurs v (seen pairs k ++ source ∷ [])) a b
      both v a b = rw (occurs_more v (seen pairs k) source) (at (occurs v (seen pairs k)) (eqb v source))
        where
          at : (c d : Bool) → cond d a (cond c a b) ≡ cond (c || d) a b
          at true true = refl
          at true false = refl
          at false true = refl
          at false false = refl

      flag_set : (v : ℕ) → v < 64 → get_or (set searched source true) v false ≡ (occurs v (seen pairs k) || eqb v source)
      flag_set v g = elim (ℕ_discrete v source) [
        | yes i ↦ rw (eq-eqb v source i)
            (rw (i, get_or-set_same searched source true false (let f = h.flags in omega arith))
            (sym (or-true (occurs source (seen pairs k)))))
        | no n ↦ rw (ne_eqb v source n)
            (get_or-set_other searched source v true false n ∙ h.flag v g ∙ sym (or-false (occurs v (seen pairs k))))
      ]

  pub filled_as : {now now' : List ℕ} {searched searched' : List Bool} {searches searches' k : ℕ} → now' ≡ now → searched' ≡ searched
      → searches' ≡ searches
      → IsFilled now searched searches k → IsFilled now' searched' searches' k
  filled_as {now = now} {searched = old} {searched' = flags} {searches' = m} {k = k} e f g h =
      subst⁻¹ (λ x. IsFilled x flags m k) e (subst⁻¹ (λ x. IsFilled now x m k) f (subst⁻¹ (λ x. IsFilled now old x k) g h))

  module _ (now : List ℕ) (searched : List Bool) (searches k : ℕ) (h : IsFilled now searched searches k) (l : length pairs ≤ k) where
    pub filled_count : searches ≡ search_count pairs
    unfolding search_count
    filled_count = h.count ∙ ap (λ (xs : List ℕ). length (distinct xs)) (seen_all pairs k l)

    pub filled_all : now ≡ map (entry p) pairs ++ drop (length pairs) old
    filled_all =
        let r = h.room in
        let s = h.filled.same in
        let m = length-map pairs (entry p) in
        let a = length-append (map (entry p) pairs) (drop (length pairs) old) in
        let d = length-drop (length pairs) old in
        ext_get_or 0 now (map (entry p) pairs ++ drop (length pairs) old) (omega arith) (λ j g. elim (dec_le (length pairs) j) [
          | yes i ↦ after j i
          | no n ↦ before j (omega arith)
        ])
      where
        before : (j : ℕ) → j < length pairs → get_or now j 0 ≡ get_or (map (entry p) pairs ++ drop (length pairs) old) j 0
        before j g =
            let m = length-map pairs (entry p) in
            let o : occurs (first (get_or pairs j 0)) (seen pairs k) ≡ true =
            rw (seen_all pairs k l) (is_true (mem_occurs (mem_map first (get_d_mem pairs 0 j g)))) in
            h.filled.put j g ∙ ap (λ b. cond b (entry p (get_or pairs j 0)) (get_or old j 0)) o
            ∙ sym (get_or-append (map (entry p) pairs) (drop (length pairs) old) 0 j (omega arith) ∙ get_d_map_in (entry p) pairs j 0 g)

        after : (j : ℕ) → length pairs ≤ j → get_or now j 0 ≡ get_or (map (entry p) pairs ++ drop (length pairs) old) j 0
        after j g =
            let m = length-map pairs (entry p) in
            let i : j ≡ length (map (entry p) pairs) + (j - length pairs) = omega arith in
            let k : length pairs + (j - length pairs) ≡ j = omega arith in
            h.filled.kept j g ∙ sym (ap (λ z. get_or (map (entry p) pairs ++ drop (length pairs) old) z 0) i
            ∙ get_or-append-add (map (entry p) pairs) (drop (length pairs) old) (j - length pairs) 0
            ∙ get_or-drop (length pairs) old (j - length pairs) 0 ∙ ap (λ z. get_or old z 0) k)
