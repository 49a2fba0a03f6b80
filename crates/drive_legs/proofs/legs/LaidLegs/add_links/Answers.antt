-- Each part is the list that is copied.
use Rattle.std.proofs.Common.{rules, arith, ap, ◌≡◌, ◌+◌, ◌-◌, ◌≤◌, length, take, length-take-le}
use Rattle.std.proofs.Math.Path.{refl, sym}
use Rattle.drive_legs.specs.Filled.{LegLists}
use Rattle.drive_legs.specs.Laws.Filled.{part_there}
use Rattle.drive_legs.specs.Laws.Laid.{added_links}
use Rattle.drive_legs.proofs.legs.LaidLegs.add_links.Goals as goal

pub returns : goal.returns
returns c =
    let a = c.args in
    let s = c.self.inside in
    let i = c.self.invariant in
    let q = c.requires in
    let v : a.self.now ≡ record { numbers = take s.required s.numbers; tails = take s.count s.tails; heads = take s.count s.heads }
    = sym c.self.view_is in
    let room : s.count + length a.tails.now ≤ 526
    = omega (arith, ap (λ (z : LegLists). length z.tails) v, length-take-le s.count s.tails, q.1, i.1, i.4) in
    let t : c.copy_from_slice.new.self ≡ a.tails.now = search rules in
    let h : c.copy_from_slice-2.new.self ≡ a.heads.now = search rules in
    let k : s.count + length a.tails.now - s.count ≡ length a.tails.now = omega arith in
    rw (v, t, h, k)
    (added_links a.tails.now a.heads.now s.count _ s.tails _ s.heads _ q.0
    (part_there s.tails a.tails.now s.count (length a.tails.now) refl (omega (arith, i.1, room)))
    (part_there s.heads a.heads.now s.count (length a.tails.now) (sym q.0) (omega (arith, i.2, room))))
