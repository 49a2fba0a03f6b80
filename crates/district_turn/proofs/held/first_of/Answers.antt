-- The first n are copied over zeros.
use Rattle.std.proofs.Common.{◌≡◌, ℕ, zero, suc, ◌-◌, ◌≤◌, List, ◌++◌, length, take, drop, replicate, sym, ◌∙◌, ap, arith, rules, length-take-le}
use Rattle.held_file.specs.Padded.{padded}
use Rattle.district_turn.proofs.held.first_of.Goals as goal

behind : (n m : ℕ) → drop {A = ℕ} n (replicate m 0) ≡ replicate (m - n) 0
behind zero m = ap (λ (k : ℕ). replicate k 0) (let e : m ≡ m - 0 = omega arith in e)
behind (suc n) zero = ap (λ (k : ℕ). replicate k 0) (let e : 0 ≡ 0 - suc n = omega arith in e)
behind (suc n) (suc m) = behind n m ∙ ap (λ (k : ℕ). replicate k 0) (let e : m - n ≡ suc m - suc n = omega arith in e)

copied : (xs x : List ℕ) (n : ℕ) → n ≤ length xs → x ≡ take n xs → x ++ drop n (replicate 8 0) ≡ padded 8 0 (take n xs)
copied xs x n l e =
    ap (λ (r : List ℕ). r ++ drop n (replicate 8 0)) e
    ∙ ap (λ (r : List ℕ). take n xs ++ r) (behind n 8 ∙ ap (λ k. replicate (8 - k) 0) (sym (length-take-le n xs l)))

pub returns : goal.returns
returns c =
    let long : length c.args.xs ≡ 8 = search (rules, c.well_formed) in
    let few = c.requires in
    copied c.args.xs _ c.args.n (omega arith) c.copy_from_slice.ensures.after
