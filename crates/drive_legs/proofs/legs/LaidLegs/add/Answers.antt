-- Each part is the value, so many times.
use Rattle.std.proofs.Common.{rules, arith, sym, ap, ◌≡◌, ◌+◌, ◌-◌, ◌≤◌, length, replicate, take, length-take-le}
use Rattle.std.proofs.lemmas.List.{length-replicate}
use Rattle.drive_legs.specs.Filled.{LegLists}
use Rattle.drive_legs.specs.Laws.Filled.{part_there, added_same}
use Rattle.drive_legs.proofs.legs.LaidLegs.add.Goals as goal

pub returns : goal.returns
returns c =
    let a = c.args in
    let s = c.self.inside in
    let i = c.self.invariant in
    let v : a.self.now ≡ record { numbers = take s.required s.numbers; tails = take s.count s.tails; heads = take s.count s.heads }
    = sym c.self.view_is in
    let room : s.count + a.times ≤ 526
    = omega (arith, ap (λ (z : LegLists). length z.tails) v, length-take-le s.count s.tails, c.requires, i.1, i.4) in
    let t : c.fill.new.self ≡ replicate a.times a.tail = search rules in
    let h : c.fill-2.new.self ≡ replicate a.times a.head = search rules in
    let k : s.count + a.times - s.count ≡ a.times = omega arith in
    rw (v, t, h, k)
    (added_same a.times a.tail a.head s.count _ s.tails _ s.heads _
    (part_there s.tails (replicate a.times a.tail) s.count a.times (sym (length-replicate a.times a.tail)) (omega (arith, i.1, room)))
    (part_there s.heads (replicate a.times a.head) s.count a.times (sym (length-replicate a.times a.head)) (omega (arith, i.2, room))))
