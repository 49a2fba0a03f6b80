-- What k stores leave, by induction on k.
use Rattle.std.specs.Prelude.{◌≡◌, refl, List, [], ◌∷◌, ◌++◌, map, ℕ, zero, suc, ◌≤◌, length, get_or, set, take, drop}
use Rattle.std.proofs.Common.{sym, ap, ◌∙◌, add-one, arith, length-set, length-take-le, drop-cons}
use Rattle.std.proofs.lemmas.List.{set_at}
use Rattle.std.proofs.Math.Seq.{append_snoc}
use Rattle.std.proofs.lemmas.Grind.{common_steps}
use Rattle.postman.specs.Lists.{below}
use Rattle.plan.specs.declared.Arc.{Arc}
use Rattle.postman_laws.specs.Laws.Below.{length_map_below, map_below_more}
use Rattle.record_writer.specs.Stored.{stored_to}

pub length_stored : (new : ℕ → Arc) (records : List Arc) (k : ℕ) → length (stored_to new records k) ≡ length records
length_stored new records zero = refl
length_stored new records (suc k) = length-set (stored_to new records k) k (new k) ∙ length_stored new records k

-- k stores leave the new records before those from k on.
pub stored_is : (new : ℕ → Arc) (records : List Arc) (k : ℕ) → k ≤ length records
    → stored_to new records k ≡ map new (below k) ++ drop k records
unfolding below
stored_is new records zero h = refl
stored_is new records (suc k) h =
    let done = map new (below k) in
    ap (λ (l : List Arc). set l k (new k))
    (stored_is new records k (omega arith) ∙ ap (λ (l : List Arc). done ++ l) (drop-cons records k (new k) h))
    ∙ set_at done (get_or records k (new k)) (drop (suc k) records) (new k) k (length_map_below new k)
    ∙ sym
    (ap (λ (l : List Arc). l ++ drop (suc k) records) (ap (λ (n : ℕ). map new (below n)) (sym (add-one k)) ∙ map_below_more new k)
    ∙ append_snoc done (new k) (drop (suc k) records))

-- Stores of a list's own records copy them.
pub copied_is : (z : Arc) (xs records : List Arc) (k : ℕ) → k ≤ length xs → k ≤ length records
    → stored_to (λ i. get_or xs i z) records k ≡ take k xs ++ drop k records
copied_is z xs records zero h l = refl
copied_is z xs records (suc k) h l =
    let v = get_or xs k z in
    let done = take k xs in
    let rest = drop (suc k) records in
    ap (λ (t : List Arc). set t k v)
    (copied_is z xs records k (omega arith) (omega arith) ∙ ap (λ (t : List Arc). done ++ t) (drop-cons records k z l))
    ∙ set_at done (get_or records k z) rest v k (length-take-le k xs (omega arith))
    ∙ next done rest v (take (suc k) xs) (grind (arith, common_steps))
  where
    next : (d r : List Arc) (v : Arc) (t : List Arc) → t ≡ d ++ v ∷ [] → d ++ v ∷ r ≡ t ++ r
    next d r v t e = grind (arith, common_steps)
