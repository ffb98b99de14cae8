use Rattle.std.proofs.Common.{◌∙◌, refl, sym}
use Rattle.cm_strace_parts.proofs.Bare.{asked_bare, none_forgotten, same_parts}
use Rattle.cm_strace_parts.proofs.Counts.{counted_anew, forgotten_stay, recounted}
use Rattle.cm_strace_parts.proofs.parts.Parts.forget_descriptor.Goals as goal

pub count_after-self-inside-requires-clause-changed : goal.count_after-self-inside-requires-clause-changed
count_after-self-inside-requires-clause-changed c =
    recounted c.args.pid _ _ _ _ _ c.self.invariant.counted c.items.ensures c.items-2.ensures c.count_of-own.ensures
    c.in_ok-forget.ensures.items (forgotten_stay c.args.pid c.args.number _)

pub invariant_of-self-2 : goal.invariant_of-self-2
invariant_of-self-2 c = record {
  counted = counted_anew c.in_ok-forget.ensures.ordered c.items-2.ensures c.count_after-self-inside.ensures;
  saved = rw c.in_ok-forget.ensures.saved c.self.invariant.saved;
  noted = c.self.invariant.noted;
  bare = rw c.in_ok-forget.ensures.items (asked_bare c.args.pid c.has_any-any.result c.note_if.ensures.own
      (c.has_any-any.ensures ∙ rw (c.items-3.ensures, c.in_ok-forget.ensures.items) refl) c.note_if.ensures.others
      (forgotten_stay c.args.pid c.args.number _) c.self.invariant.bare);
}

pub returns-then-has-clause-changed : goal.returns-then-has-clause-changed
returns-then-has-clause-changed c =
    let same = none_forgotten c.args.pid c.args.number c.self.invariant.bare
    (sym c.has.ensures ∙ c.if-has.true) in
    rw (← c.self.view_is) (same_parts _ _ same)
