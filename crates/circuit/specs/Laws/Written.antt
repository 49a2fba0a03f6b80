-- Legs written one after the other.
use Rattle.std.specs.Prelude.{◌≡◌, refl, ℕ, ◌+◌, ◌≤◌, ◌<◌, get_or, take, drop, set}
use Rattle.std.proofs.Common.{sym, ap₂, ◌∙◌, add-one, length-drop, take-append-drop, drop-drop}
use Rattle.std.proofs.Math.Path.{ap}
use mathlib.Core.List.{List, [], ◌∷◌, ◌++◌, flat_map, append_assoc, append-nil}
use native.Mathlib.Omega.{arith}
use Rattle.std.proofs.Math.ListN.{length, length-append}
use Rattle.std.proofs.Math.Seq.{take-append_seam, drop-append-add}
use Rattle.std.proofs.lemmas.List.{set_split}
use Rattle.postman_laws.specs.Laws.Lists.{flat_map_append}
use Rattle.shortest.specs.StepContracts.{overwrite}
use Rattle.drive_legs.specs.Drive.{leg_places, places_of, written}
use Rattle.drive_legs.specs.Laws.Drive.{places_number, places_path}
use Rattle.hierholzer.specs.Laws.Lists.{take_one}

module _ (path : ℕ → ℕ → List ℕ) (numbers tails heads : List ℕ) where
  -- ---- one leg more

  pub places_more : (order : List ℕ) (x : ℕ) → x < length order
      → places_of path numbers tails heads (take (x + 1) order)
      ≡ places_of path numbers tails heads (take x order) ++ leg_places path numbers tails heads (get_or order x 0)
  unfolding places_of flat_map
  places_more order x l =
      ap (flat_map (leg_places path numbers tails heads)) (sym (take_one order x l))
      ∙ flat_map_append (leg_places path numbers tails heads) (take x order) (get_or order x 0 ∷ [])
      ∙ ap (λ z. flat_map (leg_places path numbers tails heads) (take x order) ++ z)
      (append-nil (leg_places path numbers tails heads (get_or order x 0)))

  -- the legs up to x take no more room than all
  places_part : (order : List ℕ) (x : ℕ)
      → length (places_of path numbers tails heads (take x order)) ≤ length (places_of path numbers tails heads order)
  unfolding places_of
  places_part order x =
      let f = leg_places path numbers tails heads in
      let e = ap (λ z. length (flat_map f z)) (sym (take-append-drop x order))
      ∙ ap length (flat_map_append f (take x order) (drop x order)) in
      let l = length-append (flat_map f (take x order)) (flat_map f (drop x order)) in
      omega arith

  pub places_fit : (order : List ℕ) (x : ℕ) → x < length order
      → length (places_of path numbers tails heads (take x order)) + length (leg_places path numbers tails heads (get_or order x 0))
      ≤ length (places_of path numbers tails heads order)
  places_fit order x l =
      let a = ap length (places_more order x l) in
      let b = length-append (places_of path numbers tails heads (take x order)) (leg_places path numbers tails heads (get_or order x 0)) in
      let c = places_part order (x + 1) in
      omega arith

-- ---- what the places hold

pub written_none : (old : List ℕ) → old ≡ written [] old
unfolding written
written_none old = refl

pub written_more : (xs ys old : List ℕ) → overwrite (written xs old) (length xs) ys ≡ written (xs ++ ys) old
unfolding written overwrite
written_more xs ys old =
    let l = length-append xs ys in
    ap₂ (λ (a b : List ℕ). a ++ ys ++ b) (take-append_seam xs (drop (length xs) old))
    (drop-append-add xs (drop (length xs) old) (length ys) ∙ drop-drop (length ys) (length xs) old ∙ ap (λ z. drop z old) (sym l))

pub written_length : (xs old : List ℕ) → length xs ≤ length old → length (written xs old) ≡ length old
unfolding written
written_length xs old h = let a = length-append xs (drop (length xs) old) in let b = length-drop (length xs) old in omega arith

pub overwrite_one : (old : List ℕ) (at v : ℕ) → at < length old → set old at v ≡ overwrite old at (v ∷ [])
unfolding overwrite
overwrite_one old at v l =
    set_split old at v l ∙ ap (λ z. take at old ++ v ∷ drop z old) (sym (add-one at))
    ∙ sym (append_assoc (take at old) (v ∷ []) (drop (at + 1) old))

-- ---- one leg, as the code writes it

module _ (path : ℕ → ℕ → List ℕ) (numbers tails heads : List ℕ) (e : ℕ) where
  pub number_room : (n at : ℕ) → e < length numbers → at + length (leg_places path numbers tails heads e) ≤ n → at < n
  number_room n at l h = let a = ap length (places_number path numbers tails heads e l) in omega arith

  pub number_written : (old : List ℕ) (at : ℕ) → e < length numbers → at < length old
      → (set old at (get_or numbers e 0) ≡ overwrite old at (leg_places path numbers tails heads e))
      × (at + 1 ≡ at + length (leg_places path numbers tails heads e))
  number_written old at l h =
      let a = places_number path numbers tails heads e l in
      (overwrite_one old at (get_or numbers e 0) h ∙ ap (overwrite old at) (sym a), ap (λ z. at + length z) (sym a))

  pub path_of : (i j : ℕ) → length numbers ≤ e → i ≡ get_or tails e 0 → j ≡ get_or heads e 0
      → path i j ≡ leg_places path numbers tails heads e
  path_of i j l a b = ap₂ path a b ∙ sym (places_path path numbers tails heads e l)

-- ---- the legs up to x, as the code holds them

module _ (path : ℕ → ℕ → List ℕ) (numbers tails heads order old : List ℕ) where
  pub record WrittenTo (x at : ℕ) (places : List ℕ) : Type 0 where
    pub count : at ≡ length (places_of path numbers tails heads (take x order))
    pub content : places ≡ written (places_of path numbers tails heads (take x order)) old

  pub to_none : WrittenTo 0 0 old
  unfolding places_of flat_map
  to_none = record { count = refl; content = written_none old }

  pub to_length : (x at : ℕ) (places : List ℕ) → length (places_of path numbers tails heads order) ≤ length old → WrittenTo x at places
      → length places ≡ length old
  to_length x at places fits w = let a = places_part path numbers tails heads order x in
      ap length w.content ∙ written_length (places_of path numbers tails heads (take x order)) old (omega arith)

  module _ (x at : ℕ) (places : List ℕ) (l : x < length order) (fits : length (places_of path numbers tails heads order) ≤ length old)
      (w : WrittenTo x at places) where
    pub to_room : (e : ℕ) → e ≡ get_or order x 0 → at + length (leg_places path numbers tails heads e) ≤ length places
    to_room e i =
        let a = places_fit path numbers tails heads order x l in
        let b = to_length x at places fits w in
        let c = w.count in
        let d = ap (λ z. length (leg_places path numbers tails heads z)) i in
        omega arith

    pub to_more : (e at' : ℕ) (places' : List ℕ) → e ≡ get_or order x 0
        → places' ≡ overwrite places at (leg_places path numbers tails heads e)
        → at' ≡ at + length (leg_places path numbers tails heads e) → WrittenTo (x + 1) at' places'
    to_more e at' places' i f g =
        let ps = places_of path numbers tails heads (take x order) in
        let q = leg_places path numbers tails heads (get_or order x 0) in
        let m = places_more path numbers tails heads order x l in
        let d = ap (leg_places path numbers tails heads) i in
        record {
          count = (let a = ap length m in let b = length-append ps q in let c = w.count in let h = ap length d in omega arith);
          content = f ∙ ap (overwrite places at) d ∙ ap₂ (λ (y : List ℕ) (z : ℕ). overwrite y z q) w.content w.count
              ∙ written_more ps q old ∙ ap (λ z. written z old) (sym m);
        }
