use Rattle.std.proofs.Common.{sym, ◌∙◌, ap}
use Rattle.std.specs.Prelude.{vec_capacity}
use Rattle.cm_ordered.specs.Undone.{undone, put_back}
use Rattle.cm_ordered.proofs.Undoing.{undone_last, room_less, room_grown}
use Rattle.cm_ordered.proofs.undo.unwind.Goals as goal

pub put_back-requires-clause-room : goal.put_back-requires-clause-room
put_back-requires-clause-room g c =
    (room_less g.T.Numbered.number (vec_capacity c.loop-number.list) c.pop.new.self.items (c.in-Some.number, c.in-Some.old)
    c.loop-number.list.items (rw c.in-Some.ensures.items at c.loop-number.invariant.room)).0

pub loop-number-preserved : goal.loop-number-preserved
loop-number-preserved g c =
    let number = g.T.Numbered.number in
    let rest = c.pop.new.self.items in
    let xs = c.loop-number.list.items in
    let has = room_less number (vec_capacity c.loop-number.list) rest (c.in-Some.number, c.in-Some.old) xs
    (rw c.in-Some.ensures.items at c.loop-number.invariant.room) in
    record {
      items = ap (undone number rest) c.put_back.ensures.items
          ∙ sym (undone_last number rest (c.in-Some.number, c.in-Some.old) xs)
          ∙ ap (λ es. undone number es xs) (sym c.in-Some.ensures.items) ∙ c.loop-number.invariant.items;
      ascends = c.put_back.ensures.ascends;
      room = rw c.put_back.ensures.items (room_grown number (vec_capacity c.loop-number.list) (vec_capacity c.put_back.new.list)
          rest (put_back number c.in-Some.number c.in-Some.old xs) c.put_back.ensures.capacity has.1);
    }
