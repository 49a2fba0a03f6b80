-- The districts of a machine, in an array. A place is taken if one of them has it; and those that a machine is made of wait in it.
use Rattle.std.specs.Prelude.{◌≡◌, refl, ◌≢◌, Bool, true, false, List, [], ◌∷◌, ◌++◌, map, ℕ, zero, suc, ◌+◌, ◌-◌, ◌≤◌, ◌<◌, min, length, get_or, take, drop, set, replicate, eqb}
use Rattle.std.specs.Bool.{MatchBool}
use Rattle.std.specs.List.{HoldsAt, AllWithin}
use Rattle.std.proofs.Common.{sym, ap, ◌∙◌, arith, length-append, length-take, length-drop, length-take-le, eqb→eq}
use Rattle.std.proofs.Math.Bool.{or-true}
use Rattle.std.proofs.lemmas.List.{length-map, get_or-take}
use Rattle.std.proofs.Math.Seq.{take-append_seam}
use Rattle.postman.specs.Lists.{occurs, any_of}
use Rattle.postman.specs.Laws.Tests.{is_true, is_false, eqb_same}
use Rattle.held_file.specs.Padded.{padded}
use Rattle.held_file.specs.Laws.Padded.{padded_set}
use Rattle.district_machine.specs.declared.machine.District.{District as DistrictRecord}
use Rattle.postman.specs.Districts.{places}
use Rattle.district_machine.specs.declared.machine.Machine.{Machine}
use Rattle.district_machine.specs.Machine.{district_of, districts_in, waiting_in, line_of, empty_district, machine_of, no_district}

-- ---- places

pub none_taken : (q : ℕ) (line : List DistrictRecord) (n : ℕ) → ((j : ℕ) → j < n → (get_or line j no_district).place ≢ q) → n ≤ length line
    → occurs q (places (districts_in line n)) ≡ false
unfolding occurs any_of
none_taken q line zero h l = refl
none_taken q [] (suc n) h l = refl
none_taken q (x ∷ xs) (suc n) h l =
    let e : eqb q x.place ≡ false = is_false (λ t. h 0 (omega arith) (sym (eqb→eq q x.place t))) in
    rw e (none_taken q xs n (λ j m. h (suc j) (omega arith)) (omega arith))

pub some_taken : (q : ℕ) (line : List DistrictRecord) (n i : ℕ) → i < n → i < length line → (get_or line i no_district).place ≡ q
    → occurs q (places (districts_in line n)) ≡ true
unfolding occurs any_of
some_taken q line zero i l m e = absurd (omega arith)
some_taken q [] (suc n) i l m e = absurd (omega arith)
some_taken q (x ∷ xs) (suc n) zero l m e =
    let t : eqb q x.place ≡ true = is_true (eqb_same (sym e)) in
    rw t
some_taken q (x ∷ xs) (suc n) (suc i) l m e = rw (some_taken q xs n i (omega arith) (omega arith) e) (or-true (eqb q x.place))

-- what a call of `any` over the first n says
pub any_taken : (q : ℕ) (line : List DistrictRecord) (n : ℕ) → n ≤ length line → (b : Bool)
    → MatchBool b ((k : ℕ) × (k < length (take n line)) × HoldsAt (λ (d : DistrictRecord). d.place ≡ q) (take n line) k)
    (AllWithin (λ (d : DistrictRecord). d.place ≢ q) (take n line) 0 (length (take n line)))
    → b ≡ occurs q (places (districts_in line n))
any_taken q line n l true h =
    let size = length-take-le n line l in
    let m : h.0 < n = omega arith in
    sym (some_taken q line n h.0 m (omega arith) (rw (get_or-take n line h.0 no_district m) at (h.2 no_district)))
any_taken q line n l false h =
    let size = length-take-le n line l in
    sym (none_taken q line n (λ j m. rw (get_or-take n line j no_district m) at (h j no_district (omega arith) (omega arith))) l)

-- ---- lined up

behind : {A : Type 0} (z : A) (n m : ℕ) → drop n (replicate m z) ≡ replicate (m - n) z
behind z zero m = ap (λ (k : ℕ). replicate k z) (let e : m ≡ m - 0 = omega arith in e)
behind z (suc n) zero = ap (λ (k : ℕ). replicate k z) (let e : 0 ≡ 0 - suc n = omega arith in e)
behind z (suc n) (suc m) = behind z n m ∙ ap (λ (k : ℕ). replicate k z) (let e : m - n ≡ suc m - suc n = omega arith in e)

-- districts that are copied over an array in which there is none
pub copied : (line x : List DistrictRecord) (from n : ℕ) (z : DistrictRecord) → length line ≡ 8 → from + n ≤ 8
    → x ≡ take (from + n - from) (drop from line) → z ≡ empty_district
    → x ++ drop n (replicate 8 z) ≡ padded 8 empty_district (take n (drop from line))
copied line x from n z long room e f =
    let k : from + n - from ≡ n = omega arith in
    let xs = take n (drop from line) in
    let t : x ≡ xs = e ∙ ap (λ j. take j (drop from line)) k in
    let d = length-drop from line in
    let size = length-take-le n (drop from line) (omega arith) in
    ap (λ (y : DistrictRecord). x ++ drop n (replicate 8 y)) f
    ∙ ap (λ (r : List DistrictRecord). r ++ drop n (replicate 8 empty_district)) t
    ∙ ap (λ (r : List DistrictRecord). xs ++ r) (behind empty_district n 8 ∙ ap (λ j. replicate (8 - j) empty_district) (sym size))

-- ---- how many

pub line_length : (line : List DistrictRecord) (n : ℕ) → length line ≡ 8 → length (districts_in line n) ≡ min n 8
line_length line n long = length-map (take n line) district_of ∙ length-take n line ∙ ap (λ k. min n k) long

pub room : (line : List DistrictRecord) (n : ℕ) → length line ≡ 8 → n < 8 → length (districts_in line n) < 8
room line n long few = let size = line_length line n long in omega arith

-- ---- the front one

pub front : {A : Type 0} (line : List A) (n : ℕ) (z : A) → 1 ≤ n → 1 ≤ length line → take n line ≡ get_or line 0 z ∷ drop 1 (take n line)
front line zero z l m = absurd (omega arith)
front [] (suc n) z l m = absurd (omega arith)
front (x ∷ xs) (suc n) z l m = refl

-- those behind it
pub rest_is : {A : Type 0} (line : List A) (n : ℕ) → 1 ≤ n → take (n - 1) (drop 1 line) ≡ drop 1 (take n line)
rest_is line zero l = absurd (omega arith)
rest_is [] (suc n) l = nil (suc n - 1)
  where
    nil : {A : Type 0} (k : ℕ) → take {A = A} k [] ≡ []
    nil zero = refl
    nil (suc k) = refl
rest_is (x ∷ xs) (suc n) l = ap (λ k. take k xs) (let e : suc n - 1 ≡ n = omega arith in e)

-- ---- machines of just these districts

pub waiting_are : (ds : List DistrictRecord) → waiting_in (machine_of ds) ≡ ds
waiting_are ds = take-append_seam ds (replicate (8 - length ds) empty_district)

pub line_is : (ds : List DistrictRecord) → line_of (machine_of ds) ≡ map district_of ds
line_is ds = ap (λ (x : List DistrictRecord). map district_of x) (waiting_are ds)

-- the machine with these in its array, and so many waiting
pub machine_is : (line : List DistrictRecord) (n : ℕ) (ds : List DistrictRecord) → line ≡ padded 8 empty_district ds → n ≡ length ds
    → record { line = line; waiting = n } ≡ machine_of ds
machine_is line n ds e f = λ i. record { line = e i; waiting = f i }

-- one goes behind the last
pub back_is : (m : Machine) (ds : List DistrictRecord) (x : DistrictRecord) → m ≡ machine_of ds → m.waiting < 8
    → record { line = set m.line m.waiting x; waiting = m.waiting + 1 } ≡ machine_of (ds ++ x ∷ [])
back_is m ds x e l =
    let n : length ds < 8 = (let w = ap (λ (y : Machine). y.waiting) e in omega arith) in
    let a = length-append ds (x ∷ []) in
    ap {B = Machine} (λ (y : Machine). record { line = set y.line y.waiting x; waiting = y.waiting + 1 }) e
    ∙ machine_is (set (padded 8 empty_district ds) (length ds) x) (length ds + 1) (ds ++ x ∷ []) (padded_set 8 empty_district ds x n)
    (omega arith)

-- the others, once the front one is left out
pub others_are : (m : Machine) (line : List DistrictRecord) → length m.line ≡ 8 → 1 ≤ m.waiting → m.waiting ≤ 8
    → line ≡ padded 8 empty_district (take (m.waiting - 1) (drop 1 m.line))
    → record { line = line; waiting = m.waiting - 1 } ≡ machine_of (drop 1 (waiting_in m))
others_are m line long one most e =
    let a = length-drop 1 (waiting_in m) in
    let b = length-take-le m.waiting m.line (omega arith) in
    machine_is line (m.waiting - 1) (drop 1 (waiting_in m)) (e ∙ ap (padded 8 empty_district) (rest_is m.line m.waiting one))
    (omega arith)
