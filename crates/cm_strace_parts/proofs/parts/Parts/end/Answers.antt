use Rattle.std.proofs.Common.{sym}
use Rattle.cm_strace_parts.proofs.Bare.{filtered_bare}
use Rattle.cm_strace_parts.proofs.Counts.{counted_anew, ended_stay, recounted}
use Rattle.cm_strace_parts.proofs.Noted.{ended_noted}
use Rattle.cm_strace_parts.proofs.Saved.{left_never, unset}
use Rattle.cm_strace_parts.proofs.parts.Parts.end.Goals as goal

pub count_after-self-inside-requires-clause-changed : goal.count_after-self-inside-requires-clause-changed
count_after-self-inside-requires-clause-changed c =
    recounted c.args.pid _ _ _ _ _ c.self.invariant.counted c.items.ensures c.items-2.ensures c.count_of-own.ensures
    c.in_ok-remove-3.ensures.items (ended_stay c.args.pid _)

pub invariant_of-self-in_err-remove-2 : goal.invariant_of-self-in_err-remove-2
invariant_of-self-in_err-remove-2 c = record {
  counted = c.self.invariant.counted;
  saved = rw (c.in_err-remove-2.ensures.saved, c.in_ok-remove.ensures.saved) c.self.invariant.saved;
  noted = rw c.in_ok-remove.ensures.items (ended_noted c.args.pid c.forget.ensures.gone c.forget.ensures.others
      c.self.invariant.noted);
  bare = c.self.invariant.bare;
}

pub invariant_of-self-in_err-remove-3 : goal.invariant_of-self-in_err-remove-3
invariant_of-self-in_err-remove-3 c = record {
  counted = rw c.in_err-remove-3.ensures.unchanged c.self.invariant.counted;
  saved = rw (c.in_err-remove-3.ensures.saved, c.in_ok-remove-2.ensures.saved, c.in_ok-remove.ensures.saved)
      c.self.invariant.saved;
  noted = rw c.in_ok-remove.ensures.items (ended_noted c.args.pid c.forget.ensures.gone c.forget.ensures.others
      c.self.invariant.noted);
  bare = rw c.in_err-remove-3.ensures.unchanged c.self.invariant.bare;
}

pub invariant_of-self-2 : goal.invariant_of-self-2
invariant_of-self-2 c = record {
  counted = counted_anew c.in_ok-remove-3.ensures.ordered c.items-2.ensures c.count_after-self-inside.ensures;
  saved = rw (c.in_ok-remove-3.ensures.saved, c.in_ok-remove-2.ensures.saved, c.in_ok-remove.ensures.saved)
      c.self.invariant.saved;
  noted = rw c.in_ok-remove.ensures.items (ended_noted c.args.pid c.forget.ensures.gone c.forget.ensures.others
      c.self.invariant.noted);
  bare = rw c.in_ok-remove-3.ensures.items (filtered_bare _ c.self.invariant.bare);
}

pub returns-in_err-remove-clause-never : goal.returns-in_err-remove-clause-never
returns-in_err-remove-clause-never c none =
    let ok = c.in_err-remove.ensures.never (unset _ c.self.invariant.saved (sym c.self.view_is) none).tasks in
    absurd (cc)

pub returns-in_err-remove-2-clause-unchanged : goal.returns-in_err-remove-2-clause-unchanged
returns-in_err-remove-2-clause-unchanged c = left_never _ _ _ (λ none.
    c.in_err-remove-2.ensures.never (unset _ c.self.invariant.saved (sym c.self.view_is) none).kept)

pub returns-in_err-remove-2-clause-never : goal.returns-in_err-remove-2-clause-never
returns-in_err-remove-2-clause-never c none =
    let ok = c.in_err-remove-2.ensures.never (unset _ c.self.invariant.saved (sym c.self.view_is) none).kept in
    absurd (cc)

pub returns-in_err-remove-3-clause-unchanged : goal.returns-in_err-remove-3-clause-unchanged
returns-in_err-remove-3-clause-unchanged c = left_never _ _ _ (λ none.
    c.in_err-remove-3.ensures.never (unset _ c.self.invariant.saved (sym c.self.view_is) none).files)

pub returns-in_err-remove-3-clause-never : goal.returns-in_err-remove-3-clause-never
returns-in_err-remove-3-clause-never c none =
    let ok = c.in_err-remove-3.ensures.never (unset _ c.self.invariant.saved (sym c.self.view_is) none).files in
    absurd (cc)
