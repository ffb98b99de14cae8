use Rattle.std.proofs.Common.{◌≡◌, ◌+◌, ◌-◌, ◌/◌, true, false, sym, ◌∙◌, arith}
use Rattle.cm_files.specs.Index.{is_before, path_at}
use Rattle.cm_files.proofs.Indexes.{before_up_to, not_before_from}
use Rattle.cm_files.proofs.index.place_of.Goals as goal

pub loop-low-preserved-then-comes_before : goal.loop-low-preserved-then-comes_before
loop-low-preserved-then-comes_before c =
    let here : is_before (path_at c.args.rows.now c.args.index.now.order.items (c.loop-low.low + (c.loop-low.high - c.loop-low.low) / 2)) c.args.path.now ≡ true =
    sym c.comes_before.ensures ∙ c.if-comes_before.true in
    record {
      below = before_up_to c.args.rows.now c.args.index.now.order.items c.args.path.now c.requires.ascend _ (omega arith) here;
      rest = c.loop-low.invariant.rest;
      order = omega arith;
      within = c.loop-low.invariant.within;
    }

pub loop-low-preserved : goal.loop-low-preserved
loop-low-preserved c =
    let here : is_before (path_at c.args.rows.now c.args.index.now.order.items (c.loop-low.low + (c.loop-low.high - c.loop-low.low) / 2)) c.args.path.now ≡ false =
    sym c.comes_before.ensures ∙ c.if-comes_before.false in
    record {
      below = c.loop-low.invariant.below;
      rest = not_before_from c.args.rows.now c.args.index.now.order.items c.args.path.now c.requires.ascend _ here;
      order = omega arith;
      within = omega arith;
    }
