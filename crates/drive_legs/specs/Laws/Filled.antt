-- Legs added after others.
use Rattle.std.specs.Prelude.{◌≡◌, refl, ℕ, ◌+◌, ◌-◌, ◌≤◌, ◌<◌, length, get_or, take, drop, replicate}
use Rattle.std.proofs.Common.{sym, ap, ◌∙◌, zero-add, arith, length-append, length-take-le}
use Rattle.std.proofs.Math.Path.{subst⁻¹}
use Rattle.std.proofs.Math.Seq.{take-append_seam}
use mathlib.Core.List.{List, [], ◌∷◌, ◌++◌, map, flat_map, append_assoc, map-append, append-nil}
use Rattle.std.proofs.lemmas.List.{length-replicate, length-map}
use Rattle.postman.specs.Lists.{below, up_from}
use Rattle.postman.specs.Link.{Link}
use Rattle.postman_laws.specs.Laws.Lists.{flat_map_append}
use Rattle.postman_laws.specs.Laws.Selection.{up_from_append}
use Rattle.postman.specs.Steps.{pair_at}
use Rattle.drive_legs.specs.Legs.{units_below, units}
use Rattle.drive_legs.specs.Filled.{LegLists, Added}
use Rattle.hierholzer.specs.Laws.Lists.{map_replicate}

-- what is written after the first `at` elements is there
pub part_there : (old new : List ℕ) (at k : ℕ) → k ≡ length new → at + k ≤ length old
    → take (at + k) (take at old ++ (new ++ drop k (drop at old))) ≡ take at old ++ new
part_there old new at k m l =
    let rest = drop k (drop at old) in
    let e : at + k ≡ length (take at old ++ new) = omega (arith, length-append (take at old) new, length-take-le at old) in
    rw (e, ← append_assoc (take at old) new rest) (take-append_seam (take at old ++ new) rest)

-- the same leg, so many times
pub added_same : (times tail head n : ℕ) (ns ts ts' hs hs' : List ℕ) → take (n + times) ts' ≡ take n ts ++ replicate times tail
    → take (n + times) hs' ≡ take n hs ++ replicate times head
    → Added (replicate times (record { tail = tail; head = head })) (record { numbers = ns; tails = take n ts; heads = take n hs })
    (record { numbers = ns; tails = take (n + times) ts'; heads = take (n + times) hs' })
added_same times tail head n ns ts ts' hs hs' a b =
    let l : Link = record { tail = tail; head = head } in
    record {
      numbers_are = refl;
      tails_are = a ∙ ap (λ z. take n ts ++ z) (sym (map_replicate (λ (l : Link). l.tail) times l));
      heads_are = b ∙ ap (λ z. take n hs ++ z) (sym (map_replicate (λ (l : Link). l.head) times l));
    }

-- ---- one part after another

pub added_none : (s : LegLists) → Added [] s s
added_none s = record { numbers_are = refl; tails_are = sym (append-nil s.tails); heads_are = sym (append-nil s.heads) }

pub added_more : (ls ms : List Link) (s s' s'' : LegLists) → Added ls s s' → Added ms s' s'' → Added (ls ++ ms) s s''
added_more ls ms s s' s'' a b =
    record {
      numbers_are = b.numbers_are ∙ a.numbers_are;
      tails_are = one (λ l. l.tail) s.tails s'.tails s''.tails a.tails_are b.tails_are;
      heads_are = one (λ l. l.head) s.heads s'.heads s''.heads a.heads_are b.heads_are;
    }
  where
    one : (f : Link → ℕ) (xs ys zs : List ℕ) → ys ≡ xs ++ map f ls → zs ≡ ys ++ map f ms → zs ≡ xs ++ map f (ls ++ ms)
    one f xs ys zs e g =
        g ∙ ap (λ z. z ++ map f ms) e ∙ append_assoc xs (map f ls) (map f ms) ∙ ap (λ z. xs ++ z) (sym (map-append f ls ms))

pub added_length : (ls : List Link) (s s' : LegLists) → Added ls s s' → length s'.tails ≡ length s.tails + length ls
added_length ls s s' a =
    ap length a.tails_are ∙ length-append s.tails (map (λ l. l.tail) ls) ∙ ap (λ z. length s.tails + z) (length-map ls (λ l. l.tail))

-- ---- the units, place by place

units_more : (amounts : List ℕ) (x : ℕ) → units_below (x + 1) amounts ≡ units_below x amounts ++ replicate (get_or amounts x 0) (pair_at x)
unfolding units_below below flat_map
units_more amounts x =
    let f : ℕ → List Link = λ x. replicate (get_or amounts x 0) (pair_at x) in
    ap (flat_map f) (up_from_append 0 x 1 ∙ ap (λ z. up_from 0 x ++ z ∷ []) (zero-add x)) ∙ flat_map_append f (up_from 0 x) (x ∷ [])
    ∙ ap (λ z. flat_map f (up_from 0 x) ++ z) (append-nil (f x))

units_up_to : (amounts : List ℕ) (x d : ℕ) → length (units_below x amounts) ≤ length (units_below (x + d) amounts)
unfolding units_below below
units_up_to amounts x d =
    let f : ℕ → List Link = λ x. replicate (get_or amounts x 0) (pair_at x) in
    let e = ap length (ap (flat_map f) (up_from_append 0 x d) ∙ flat_map_append f (up_from 0 x) (up_from (0 + x) d)) in
    let l = length-append (flat_map f (up_from 0 x)) (flat_map f (up_from (0 + x) d)) in
    omega arith

-- the units of place x fit
pub units_fit : (amounts : List ℕ) (x : ℕ) → x < 4096 → length (units_below x amounts) + get_or amounts x 0 ≤ length (units amounts)
unfolding units
units_fit amounts x l =
    let a = ap length (units_more amounts x) in
    let b = length-append (units_below x amounts) (replicate (get_or amounts x 0) (pair_at x)) in
    let c = length-replicate (get_or amounts x 0) (pair_at x) in
    let d = units_up_to amounts (x + 1) (4096 - (x + 1)) in
    let i : x + 1 + (4096 - (x + 1)) ≡ 4096 = omega arith in
    let e = ap (λ z. length (units_below z amounts)) i in
    omega arith

pub added_units : (amounts : List ℕ) (x k : ℕ) (s s' s'' : LegLists) → k ≡ get_or amounts x 0
    → Added (units_below x amounts) s s' → Added (replicate k (pair_at x)) s' s'' → Added (units_below (x + 1) amounts) s s''
added_units amounts x k s s' s'' e a b =
    subst⁻¹ (λ z. Added z s s'') (units_more amounts x ∙ ap (λ z. units_below x amounts ++ replicate z (pair_at x)) (sym e))
    (added_more (units_below x amounts) (replicate k (pair_at x)) s s' s'' a b)
