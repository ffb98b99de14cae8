use Rattle.std.proofs.Common.{◌∙◌, List, ap, arith, filter, length, refl, sym}
use Rattle.std.proofs.lemmas.List.{length-map}
use Rattle.cm_strace_parts.proofs.Bare.{asked_bare}
use Rattle.cm_strace_parts.proofs.Counts.{born_stay, counted_anew, recounted}
use Rattle.cm_strace_parts.proofs.Noted.{born_noted, changed_noted}
use Rattle.cm_strace_parts.proofs.Saved.{left_never, unset}
use Rattle.cm_strace_parts.proofs.parts.Parts.bear.Goals as goal
use Rattle.cm_strace_parts.specs.Lists.{descriptors_in}
use Rattle.model_strace.specs.Parts.{Task, is_of, sharing_task}

pub count_after-self-inside-requires-clause-changed : goal.count_after-self-inside-requires-clause-changed
count_after-self-inside-requires-clause-changed c =
    let ds = descriptors_in c.self.inside.files.items in
    recounted c.args.child _ _ _ _ _ c.self.invariant.counted c.items.ensures c.items-2.ensures c.count_of-own.ensures
    c.in_ok-bear_unless.ensures.items (born_stay c.args.shares c.args.child (filter (is_of c.args.parent) ds) ds)

pub invariant_of-self-in_err-bear_unless : goal.invariant_of-self-in_err-bear_unless
invariant_of-self-in_err-bear_unless c = record {
  counted = rw c.in_err-bear_unless.ensures.unchanged c.self.invariant.counted;
  saved = rw (c.in_err-bear_unless.ensures.saved, c.in_ok-reserve_one.ensures.saved) c.self.invariant.saved;
  noted = rw c.in_ok-reserve_one.ensures.items c.self.invariant.noted;
  bare = rw c.in_err-bear_unless.ensures.unchanged c.self.invariant.bare;
}

pub invariant_of-self-in_err-share : goal.invariant_of-self-in_err-share
invariant_of-self-in_err-share c = record {
  counted = counted_anew c.in_ok-bear_unless.ensures.ordered c.items-2.ensures c.count_after-self-inside.ensures;
  saved = rw (c.in_err-share.ensures.saved, c.in_ok-reserve_one.ensures.saved, c.in_ok-bear_unless.ensures.saved)
      c.self.invariant.saved;
  noted = rw (c.in_err-share.ensures.unchanged, c.in_ok-reserve_one.ensures.items) c.self.invariant.noted;
  bare = rw c.in_ok-bear_unless.ensures.items (asked_bare c.args.child c.has_any-any.result c.note_if.ensures.own
      (c.has_any-any.ensures ∙ rw (c.items-3.ensures, c.in_ok-bear_unless.ensures.items) refl) c.note_if.ensures.others
      (born_stay c.args.shares c.args.child (filter (is_of c.args.parent) (descriptors_in c.self.inside.files.items))
      (descriptors_in c.self.inside.files.items)) c.self.invariant.bare);
}

pub invariant_of-self-in_err-put : goal.invariant_of-self-in_err-put
invariant_of-self-in_err-put c = record {
  counted = counted_anew c.in_ok-bear_unless.ensures.ordered c.items-2.ensures c.count_after-self-inside.ensures;
  saved = rw (
    c.in_err-put.ensures.saved,
    c.in_ok-share.ensures.saved,
    c.in_ok-reserve_one.ensures.saved,
    c.in_ok-bear_unless.ensures.saved,
  ) c.self.invariant.saved;
  noted = rw (c.in_err-put.ensures.unchanged, c.in_ok-share.ensures.items) (changed_noted
      (sharing_task c.args.parent c.args.shares) (λ t. grind arith)
      (rw c.in_ok-reserve_one.ensures.items c.self.invariant.noted));
  bare = rw c.in_ok-bear_unless.ensures.items (asked_bare c.args.child c.has_any-any.result c.note_if.ensures.own
      (c.has_any-any.ensures ∙ rw (c.items-3.ensures, c.in_ok-bear_unless.ensures.items) refl) c.note_if.ensures.others
      (born_stay c.args.shares c.args.child (filter (is_of c.args.parent) (descriptors_in c.self.inside.files.items))
      (descriptors_in c.self.inside.files.items)) c.self.invariant.bare);
}

pub invariant_of-self-2 : goal.invariant_of-self-2
invariant_of-self-2 c = record {
  counted = counted_anew c.in_ok-bear_unless.ensures.ordered c.items-2.ensures c.count_after-self-inside.ensures;
  saved = rw (
    c.in_ok-put.ensures.saved,
    c.in_ok-share.ensures.saved,
    c.in_ok-reserve_one.ensures.saved,
    c.in_ok-bear_unless.ensures.saved,
  ) c.self.invariant.saved;
  noted = rw (c.in_ok-put.ensures.items, c.in_ok-share.ensures.items) (born_noted _
      c.note.ensures.others (changed_noted (sharing_task c.args.parent c.args.shares)
      (λ t. grind arith) (rw c.in_ok-reserve_one.ensures.items c.self.invariant.noted)));
  bare = rw c.in_ok-bear_unless.ensures.items (asked_bare c.args.child c.has_any-any.result c.note_if.ensures.own
      (c.has_any-any.ensures ∙ rw (c.items-3.ensures, c.in_ok-bear_unless.ensures.items) refl) c.note_if.ensures.others
      (born_stay c.args.shares c.args.child (filter (is_of c.args.parent) (descriptors_in c.self.inside.files.items))
      (descriptors_in c.self.inside.files.items)) c.self.invariant.bare);
}

pub returns-in_err-share-clause-unchanged : goal.returns-in_err-share-clause-unchanged
returns-in_err-share-clause-unchanged c = left_never _ _ _ (λ none.
    let free = unset _ c.self.invariant.saved (sym c.self.view_is) none in
    c.in_err-share.ensures.never (c.in_ok-reserve_one.ensures.saved ∙ free.tasks))

pub returns-in_err-put-clause-unchanged : goal.returns-in_err-put-clause-unchanged
returns-in_err-put-clause-unchanged c = left_never _ _ _ (λ none.
    let free = unset _ c.self.invariant.saved (sym c.self.view_is) none in
    let many = ap (λ (ts : List Task). length ts) c.in_ok-share.ensures.items
    ∙ length-map c.reserve_one.new.self.items (sharing_task c.args.parent c.args.shares) in
    let room = c.in_ok-reserve_one.ensures.room in
    let more = c.in_ok-share.ensures.room in
    c.in_err-put.ensures.never (c.in_ok-share.ensures.saved ∙ c.in_ok-reserve_one.ensures.saved ∙ free.tasks)
    (omega (arith, many, room, more)))
