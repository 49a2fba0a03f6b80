-- What can be read off the numbers that the calls of a run answered.
use Rattle.std.specs.Prelude.{◌≢◌, Bool, false, cond, ◌&&◌, List, [], ◌∷◌, ℕ, ◌+◌, pos}
use Rattle.std.specs.Int.Signed.{le_z}
use Rattle.district_exports.specs.Turns.{Call, enters, turns}

-- Whether a call is a turn that a district had: it answered 0 to 15.
abbrev pub is_told : Call → Bool
is_told (enters plan budget n) = false
is_told (turns places n) = le_z (pos 0) n && le_z n (pos 15)

-- How many there are.
unfoldable pub turns_told : List Call → ℕ
turns_told [] = 0
turns_told (c ∷ cs) = cond (is_told c) 1 0 + turns_told cs

-- No turn was answered with place q, or with 8 and q.
unfoldable pub NeverTold : ℕ → List Call → Type 0
NeverTold q [] = Unit {0}
NeverTold q (enters plan budget n ∷ cs) = NeverTold q cs
NeverTold q (turns places n ∷ cs) = (n ≢ pos q) × (n ≢ pos (8 + q)) × NeverTold q cs
