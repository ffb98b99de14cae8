use Rattle.std.proofs.Common.{◌∙◌, sym, ap, refl, is_some}
use Rattle.cm_strace_parts.proofs.Bare.{cleared_bare}
use Rattle.cm_strace_parts.proofs.Saved.{lists_then, was_saved}
use Rattle.cm_strace_parts.proofs.parts.Parts.roll_back.Goals as goal
use Rattle.cm_strace_parts.specs.Savepoints.{Saved}

pub invariant_of-self : goal.invariant_of-self
invariant_of-self c =
    let set = ap (λ (s : Saved). is_some s.saved) c.self.view_is ∙ sym c.has_savepoint.ensures
    ∙ c.if-not-has_savepoint.false in
    let there = lists_then c.self.inside.tasks.saved c.self.inside.kept.saved c.self.inside.files.saved
    c.self.inside.saved_spaces c.self.inside.saved_followed c.self.invariant.saved set in
    record {
      counted = rw (c.roll_back-3.ensures.items there.lists there.files) there.counted;
      saved = rw (c.roll_back.ensures.saved, c.roll_back-2.ensures.saved, c.roll_back-3.ensures.saved) (record {
        kept = refl;
        files = refl;
        counted = tt;
      });
      noted = rw (← c.items.ensures) c.renew.ensures;
      bare = cleared_bare c.clear.ensures;
    }

pub returns-clause-back : goal.returns-clause-back
returns-clause-back c p is =
    let was = was_saved c.self.inside.tasks.saved c.self.inside.kept.saved c.self.inside.files.saved
    c.self.inside.saved_spaces p (ap (λ (s : Saved). s.saved) c.self.view_is ∙ is) in
    rw (
      c.roll_back.ensures.items p.tasks was.tasks,
      c.roll_back-2.ensures.items p.kept was.kept,
      c.roll_back-3.ensures.items was.lists was.files,
      was.descriptors,
      was.spaces_then,
      c.roll_back.ensures.saved,
    ) refl
