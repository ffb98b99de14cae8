use Rattle.std.proofs.Common.{◌≡◌, ◌+◌, ◌∙◌, List, Some, ap, find, get_or, length, map, sym}
use Rattle.cm_strace.proofs.Dues.{first_of, line_at, pids_gone_on, still_kept, queue_by}
use Rattle.model_strace.proofs.Counts.{one_less}
use Rattle.model_strace.proofs.HeldLines.{found_pid}
use Rattle.cm_strace.proofs.waiting.Waiting.take_first.Goals as goal
use Rattle.model_strace.specs.Lines.{Line, is_line_of}
use Rattle.model_strace.specs.Rest.{without_first}
use Rattle.cm_strace.specs.Taken.{untaken}
use Rattle.cm_strace.specs.declared.agenda.Due.{Due}

-- the line that is found
found : (c : goal.After-index-self-at) → find (is_line_of c.in_ok-due.due.pid) (untaken c.self.inside.lines.now
    c.self.inside.taken.items) ≡ Some (get_or c.self.inside.lines.now c.in_ok-at.at c.index-self-at.result)
found c = sym (rw c.deref.ensures.value at c.in_ok-at.ensures.line) ∙ line_at c.self.inside.lines.now c.in_ok-at.at c.index-self-at.result
    c.in_ok-at.ensures.within

pub invariant_of-self : goal.invariant_of-self
invariant_of-self c =
    rw (c.go_on.ensures)
    (still_kept c.self.inside.lines.now c.self.inside.taken.items c.in_ok-at.at c.in_ok-due.due c.self.inside.agenda
    (sym c.in_ok-due.ensures) c.self.invariant (rw c.deref.ensures.value at c.in_ok-at.ensures.past))

pub returns-clause-line : goal.returns-clause-line
returns-clause-line c =
    rw (← c.self.view_is) (sym (found c) ∙ sym (first_of c.self.inside.agenda c.in_ok-due.due
    (untaken c.self.inside.lines.now c.self.inside.taken.items) (sym c.in_ok-due.ensures)))

pub returns-clause-rest : goal.returns-clause-rest
returns-clause-rest c =
    let left = untaken c.self.inside.lines.now c.self.inside.taken.items in
    let own = found_pid c.in_ok-due.due.pid left (get_or c.self.inside.lines.now c.in_ok-at.at c.index-self-at.result) (found c) in
    rw (← c.self.view_is) (queue_by c.self.inside.lines.now _ _ _ _
    ((rw c.deref.ensures.value at c.in_ok-at.ensures.rest) ∙ ap (λ pid. without_first pid left) (sym own))
    (ap (map (λ (due : Due). due.pid)) c.go_on.ensures ∙ pids_gone_on _ c.self.inside.agenda))

pub returns-clause-fewer : goal.returns-clause-fewer
returns-clause-fewer c =
    rw (← c.self.view_is) (ap (λ (ls : List Line). length ls + 1) (rw c.deref.ensures.value at c.in_ok-at.ensures.rest)
    ∙ one_less c.in_ok-due.due.pid (untaken c.self.inside.lines.now c.self.inside.taken.items)
    (get_or c.self.inside.lines.now c.in_ok-at.at c.index-self-at.result) (found c))
