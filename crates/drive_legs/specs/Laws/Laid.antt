-- The required arcs, the links and the units, laid one after the other, are the legs.
use Rattle.std.specs.Prelude.{◌≡◌, refl, List, [], ◌∷◌, ◌++◌, map, ℕ, ◌+◌, length, take}
use Rattle.std.proofs.Common.{sym, ap, ◌∙◌, arith}
use Rattle.std.proofs.lemmas.List.{length-map}
use Rattle.postman.specs.Plan.{Plan, required_numbers}
use Rattle.postman.specs.Link.{Link}
use Rattle.drive_legs.specs.Legs.{units, leg_tails, leg_heads}
use Rattle.drive_legs.specs.Filled.{LegLists, Added, links_of, Noted, Laid}
use Rattle.drive_legs.specs.Laws.Drive.{split}

pub links_tails : (ts hs : List ℕ) → length hs ≡ length ts → map (λ l. l.tail) (links_of ts hs) ≡ ts
unfolding links_of
links_tails [] hs e = refl
links_tails (t ∷ ts) [] e = absurd (omega arith)
links_tails (t ∷ ts) (h ∷ hs) e = ap (λ l. t ∷ l) (links_tails ts hs (omega arith))

pub links_heads : (ts hs : List ℕ) → length hs ≡ length ts → map (λ l. l.head) (links_of ts hs) ≡ hs
unfolding links_of
links_heads [] [] e = refl
links_heads [] (h ∷ hs) e = absurd (omega arith)
links_heads (t ∷ ts) [] e = absurd (omega arith)
links_heads (t ∷ ts) (h ∷ hs) e = ap (λ l. h ∷ l) (links_heads ts hs (omega arith))

pub links_length : (ts hs : List ℕ) → length hs ≡ length ts → length (links_of ts hs) ≡ length ts
links_length ts hs e = sym (length-map (links_of ts hs) (λ l. l.tail)) ∙ ap length (links_tails ts hs e)

-- the ends of links
pub added_links : (us vs : List ℕ) (n : ℕ) (ns ts ts' hs hs' : List ℕ) → length vs ≡ length us → take (n + length us) ts' ≡ take n ts ++ us
    → take (n + length us) hs' ≡ take n hs ++ vs
    → Added (links_of us vs) (record { numbers = ns; tails = take n ts; heads = take n hs })
    (record { numbers = ns; tails = take (n + length us) ts'; heads = take (n + length us) hs' })
added_links us vs n ns ts ts' hs hs' e a b =
    record {
      numbers_are = refl;
      tails_are = a ∙ ap (λ z. take n ts ++ z) (sym (links_tails us vs e));
      heads_are = b ∙ ap (λ z. take n hs ++ z) (sym (links_heads us vs e));
    }

pub laid : (p : Plan) (t : List Link) (amounts : List ℕ) (s s' : LegLists) → Noted p (required_numbers p) s
    → Added (t ++ units amounts) s s' → Laid p t amounts s'
unfolding leg_tails leg_heads
laid p t amounts s s' a b =
    let others = t ++ units amounts in
    record {
      numbers_are = b.numbers_are ∙ a.numbers_are;
      tails_are = b.tails_are ∙ ap (λ z. z ++ map (λ l. l.tail) others) a.tails_are ∙ sym (split p t amounts (λ l. l.tail));
      heads_are = b.heads_are ∙ ap (λ z. z ++ map (λ l. l.head) others) a.heads_are ∙ sym (split p t amounts (λ l. l.head));
    }
