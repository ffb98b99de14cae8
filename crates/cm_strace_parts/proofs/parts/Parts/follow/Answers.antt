use Rattle.std.proofs.Common.{ap, eq-eqb, sym}
use Rattle.cm_strace_parts.proofs.Bare.{followed_bare}
use Rattle.cm_strace_parts.proofs.Counts.{counted_anew, put_stay, recounted}
use Rattle.cm_strace_parts.proofs.parts.Parts.follow.Goals as goal
use Rattle.model_strace.specs.Parts.{Descriptor}

pub count_after-self-inside-requires-clause-changed : goal.count_after-self-inside-requires-clause-changed
count_after-self-inside-requires-clause-changed c =
    recounted c.new.inside.pid _ _ _ _ _ c.self.invariant.counted c.items.ensures c.items-2.ensures
    c.count_of-own.ensures c.in_ok-follow.ensures.items
    (put_stay c.new.inside.pid c.args.new _ (eq-eqb _ _ (sym (ap (λ (d : Descriptor). d.pid) c.new.view_is))))

pub invariant_of-self-2 : goal.invariant_of-self-2
invariant_of-self-2 c = record {
  counted = counted_anew c.in_ok-follow.ensures.ordered c.items-2.ensures c.count_after-self-inside.ensures;
  saved = rw c.in_ok-follow.ensures.saved c.self.invariant.saved;
  noted = c.self.invariant.noted;
  bare = rw c.in_ok-follow.ensures.items (followed_bare c.new.inside.pid c.forget.ensures.gone c.forget.ensures.others
      (put_stay c.new.inside.pid c.args.new _ (eq-eqb _ _ (sym (ap (λ (d : Descriptor). d.pid) c.new.view_is))))
      c.self.invariant.bare);
}
