-- A test over all windows of a list of numbers: window by window, one was found, or each was looked at. And the tests of one window, of the
-- list's length and of the departure, one after the other.
use Rattle.std.specs.Prelude.{◌≡◌, Bool, ◌≢◌, List, ℕ, ◌/◌, ◌%◌, ◌<◌, ◌≤◌, length, ltb}
use Rattle.std.proofs.Math.Path.{refl, subst}
use Rattle.std.proofs.Common.{ap, ◌∙◌}
use Rattle.std.proofs.Math.Bool.{true, false}
use borrow.Author.Tests.{lt-ltb, le-ltb, le-leb, lt-leb, eq-eqb, ne_eqb}
use Rattle.std.proofs.Math.Dec.{T}
use Rattle.postman.specs.Lists.{any_of, below}
use Rattle.postman.specs.Windows.{Window, Departure, window_in, windows_in, is_bad_window, is_bad_departure, is_bad_length, has_bad_window}
use Rattle.postman.specs.Laws.Tests.{same_test, of_true}
use Rattle.postman.specs.Laws.Membership.{any_of_mem, any_of_at, mem_map, map_mem, mem_below, below_mem}

-- ---- all windows

module _ (f : Window → Bool) (numbers : List ℕ) where
  pub window_found : (k : ℕ) → k < length numbers / 4 → f (window_in numbers k) ≡ true → true ≡ any_of f (windows_in numbers)
  unfolding windows_in
  window_found k l e =
      same_test true (any_of f (windows_in numbers)) (λ u. any_of_mem f (mem_map (window_in numbers) (mem_below l)) (of_true e)) (λ u. tt)

  pub none_found : ((k : ℕ) → k < length numbers / 4 → f (window_in numbers k) ≡ false) → false ≡ any_of f (windows_in numbers)
  unfolding windows_in
  none_found h =
      same_test false (any_of f (windows_in numbers)) (λ u. absurd u)
      (λ u.
      let r = any_of_at f (windows_in numbers) u in
      let k = map_mem (window_in numbers) (below (length numbers / 4)) r.1 in
      subst T (ap f k.2 ∙ h k.0 (below_mem k.1)) r.2)

-- ---- one window

module _ (m : ℕ) (w : Window) where
  pub bad_arc : m ≤ w.arc → true ≡ is_bad_window m w
  unfolding is_bad_window
  bad_arc h = let e = le-leb m w.arc h in rw e refl

  pub bad_weekday : w.arc < m → 6 < w.weekday → true ≡ is_bad_window m w
  unfolding is_bad_window
  bad_weekday a h = let x = lt-leb m w.arc a in let e = lt-ltb 6 w.weekday h in rw (x, e) refl

  pub bad_order : w.arc < m → w.weekday ≤ 6 → w.to ≤ w.from → true ≡ is_bad_window m w
  unfolding is_bad_window
  bad_order a b h = let x = lt-leb m w.arc a in let y = le-ltb 6 w.weekday b in let e = le-leb w.to w.from h in
      rw (x, y, e) refl

  pub bad_end : w.arc < m → w.weekday ≤ 6 → w.from < w.to → ltb 1440 w.to ≡ is_bad_window m w
  unfolding is_bad_window
  bad_end a b c = let x = lt-leb m w.arc a in let y = le-ltb 6 w.weekday b in let e = lt-leb w.to w.from c in rw (x, y, e) refl

-- ---- the departure, then the length, then the windows

module _ (m : ℕ) (numbers : List ℕ) (d : Departure) where
  pub late_weekday : 6 < d.weekday → true ≡ has_bad_window m numbers d
  unfolding has_bad_window is_bad_departure
  late_weekday h = let e = lt-ltb 6 d.weekday h in rw e refl

  module _ (day : d.weekday ≤ 6) where
    pub late_minute : 1439 < d.minute → true ≡ has_bad_window m numbers d
    unfolding has_bad_window is_bad_departure
    late_minute h = let x = le-ltb 6 d.weekday day in let e = lt-ltb 1439 d.minute h in rw (x, e) refl

    module _ (minute : d.minute ≤ 1439) where
      pub odd_length : length numbers % 4 ≢ 0 → true ≡ has_bad_window m numbers d
      unfolding has_bad_window is_bad_departure is_bad_length
      odd_length h = let x = le-ltb 6 d.weekday day in let y = le-ltb 1439 d.minute minute in
          let e = ne_eqb (length numbers % 4) 0 h in rw (x, y, e) refl

      pub many_windows : length numbers % 4 ≡ 0 → 128 < length numbers / 4 → true ≡ has_bad_window m numbers d
      unfolding has_bad_window is_bad_departure is_bad_length
      many_windows q h =
          let x = le-ltb 6 d.weekday day in
          let y = le-ltb 1439 d.minute minute in
          let z = eq-eqb (length numbers % 4) 0 q in
          let e = lt-ltb 128 (length numbers / 4) h in
          rw (x, y, z, e) refl

      pub by_windows : length numbers % 4 ≡ 0 → length numbers / 4 ≤ 128
          → any_of (is_bad_window m) (windows_in numbers) ≡ has_bad_window m numbers d
      unfolding has_bad_window is_bad_departure is_bad_length
      by_windows q h =
          let x = le-ltb 6 d.weekday day in
          let y = le-ltb 1439 d.minute minute in
          let z = eq-eqb (length numbers % 4) 0 q in
          let e = le-ltb 128 (length numbers / 4) h in
          rw (x, y, z, e) refl

-- The tests of one window, and those of a call.
pub ruleset of_window = (bad_arc, bad_weekday, bad_order, bad_end)

pub ruleset of_call = (late_weekday, late_minute, odd_length, many_windows, by_windows)
