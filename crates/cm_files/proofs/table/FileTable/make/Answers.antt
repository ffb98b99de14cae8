use Rattle.cm_files.proofs.Faultless.{keeps_table}
use Rattle.cm_files.proofs.table.FileTable.make.Goals as goal

pub invariant_of-result : goal.invariant_of-result
invariant_of-result c =
    keeps_table c.args.mounts.items c.args.rows.items c.in_ok-filled.filled.index.order.items c.in_ok-filled.filled.index.keys.items c.in_ok-filled.filled.views.items
    (rw c.deref-3.ensures.value at c.see_mounts.ensures)
    (rw c.deref-2.ensures.value at c.in_ok-filled.ensures.keeps)
    c.requires.rows
    (rw (c.deref.ensures.value, c.deref-2.ensures.value) at c.in_ok-filled.ensures.fine)
    (rw c.deref-2.ensures.value at c.in_ok-filled.ensures.index)
    (rw c.deref-2.ensures.value at c.in_ok-filled.ensures.keys)
    (rw (c.deref.ensures.value, c.deref-2.ensures.value) at c.in_ok-filled.ensures.seen)
