use Rattle.std.proofs.Common.{refl}
use Rattle.cm_strace_parts.proofs.Bare.{empty_bare}
use Rattle.cm_strace_parts.proofs.Orders.{first_ascends}
use Rattle.cm_strace_parts.proofs.parts.Parts.first.Goals as goal

pub of-requires-2 : goal.of-requires-2
of-requires-2 c = rw (c.in_ok-tasks.ensures, c.items.ensures) (first_ascends _ c.start.invariant.0)

pub invariant_of-result : goal.invariant_of-result
invariant_of-result c = record {
  counted = rw (c.of-4.ensures.items, c.new-2.ensures.items) (record {
    files = record { processes = tt; each = tt };
    count = refl;
  });
  saved = rw (c.of-2.ensures.fresh, c.of-3.ensures.fresh, c.of-4.ensures.fresh) (record {
    kept = refl;
    files = refl;
    counted = tt;
  });
  noted = rw (c.of-2.ensures.items, ← c.deref.ensures.value) c.in_ok-known.ensures;
  bare = rw (c.of-4.ensures.items, c.new-2.ensures.items) (empty_bare _);
}
