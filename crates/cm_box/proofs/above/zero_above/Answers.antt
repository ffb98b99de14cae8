use Rattle.std.proofs.Common.{ℕ, refl, sym, ◌∙◌}
use Rattle.std.specs.Prelude.{option_map}
use Rattle.std.proofs.lemmas.Bool.{false≢true}
use Rattle.cm_base.specs.declared.id.SpaceId.{SpaceId}
use Rattle.cm_box_rows.proofs.Chains.{some_here, some_end}
use Rattle.cm_box.proofs.above.zero_above.Goals as goal
use Rattle.cm_box_rows.specs.Rows.{RowsHold}
use Rattle.model_box.specs.Files.{ZeroIn}
use Rattle.model_box.specs.Row.{Standing}

pub returns-then-zero_in : goal.returns-then-zero_in
returns-then-zero_in c =
    let spaces = c.args.spaces.now in
    let Zero = λ (a : ℕ). ZeroIn spaces (RowsHold c.args.bounds.now) (Standing a) c.args.id in
    let parent = option_map (λ (p : SpaceId). p.0) c.parent-parent.result in
    let zero = c.zero_in.ensures.0 c.if-zero_in.true in
    let some = some_here spaces Zero c.loop-parent.at.0 parent c.parent-parent.ensures.chain zero in
    (λ _. c.loop-parent.invariant.same.0 some, λ _. refl)

pub returns-in-None : goal.returns-in-None
returns-in-None c =
    let spaces = c.args.spaces.now in
    let Zero = λ (a : ℕ). ZeroIn spaces (RowsHold c.args.bounds.now) (Standing a) c.args.id in
    let last = some_end spaces Zero c.loop-parent.at.0 c.in-None.ensures.chain in (
      λ wrong. absurd (cc),
      λ some.
          let here = last.1 (c.loop-parent.invariant.same.1 some) in
          absurd (false≢true (sym c.if-zero_in.false ∙ c.zero_in.ensures.1 here)),
    )
