use Rattle.std.proofs.Common.{sym, ◌∙◌, ap, map}
use Rattle.cm_strace_parts.specs.Lists.{of_process, descriptors_in}
use Rattle.cm_strace_parts.proofs.ListOrders.{own_ascends}
use Rattle.cm_strace_parts.proofs.Lists.{copies_in}
use Rattle.cm_strace_parts.proofs.file_changes.bear.Goals as goal
use Rattle.model_strace.specs.Parts.{descriptor_before, put_all}

pub put_copies-requires-clause-up : goal.put_copies-requires-clause-up
put_copies-requires-clause-up c =
    let is = c.in_ok-news-in-Some.ensures ∙ rw c.items.ensures at c.in-Some.ensures.some in
    rw is (own_ascends c.args.parent c.args.files.now.items c.requires.each)

pub returns-in_ok-news-in-Some-clause-items : goal.returns-in_ok-news-in-Some-clause-items
returns-in_ok-news-in-Some-clause-items c =
    let fs = c.args.files.now.items in
    let is = c.in_ok-news-in-Some.ensures ∙ rw c.items.ensures at c.in-Some.ensures.some in
    let copies = ap (λ l. put_all descriptor_before (map (of_process c.args.child) l) (descriptors_in fs)) is
    ∙ ap (λ l. put_all descriptor_before l (descriptors_in fs))
    (sym (copies_in c.args.parent c.args.child fs c.requires.processes)) in
    rw (← copies) c.put_copies.ensures.items

pub returns-in-None-clause-items : goal.returns-in-None-clause-items
returns-in-None-clause-items c =
    let fs = c.args.files.now.items in
    ap (λ l. put_all descriptor_before l (descriptors_in fs))
    (sym (copies_in c.args.parent c.args.child fs c.requires.processes
    ∙ ap (map (of_process c.args.child)) (rw c.items.ensures at c.in-None.ensures.none)))
