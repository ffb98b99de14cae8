use Rattle.std.proofs.Common.{arith, rules, ap, List, ℕ, refl, sym, ◌∙◌}
use Rattle.cm_lines.specs.Lines.{line_len, line_size}
use Rattle.cm_io.specs.Cutter.{Cutting}
use Rattle.cm_io.specs.CutterSteps.{found_of}
use Rattle.cm_io.proofs.Cutting.{past_now, past_found, line_is_found, end_is_found, finds_front, kept_same, keeps_noted, keeps_on, none_was, not_hand, breaks_within}
use Rattle.cm_io.proofs.FileReads.{file_then}
use Rattle.cm_io.proofs.cutter.LineCutter.find.Goals as goal

pub returns-in-Some-clause-is : goal.returns-in-Some-clause-is
returns-in-Some-clause-is g c =
    past_found _ _ c.loop-past.self c.loop-past.self _ c.in-Some.past _ c.loop-past.invariant.keeps c.error_of.ensures
    (past_now _ c.loop-past.self _ _ _ c.loop-past.invariant.fits c.past.ensures.reached refl refl (sym c.past.ensures.is ∙ c.in-Some.is))

pub returns-then-is_at_hand-clause-is : goal.returns-then-is_at_hand-clause-is
returns-then-is_at_hand-clause-is g c =
    rw c.front.ensures.is (line_is_found _ _ c.loop-past.self c.front.new.self _ _ _ c.loop-past.invariant.keeps c.loop-past.invariant.fits
    (sym c.is_at_hand.ensures ∙ c.if-is_at_hand.true) (ap (λ (v : Cutting). v.kept) c.front.ensures.noted)
    refl refl (sym c.past.ensures.is ∙ c.in_default.is))

pub returns-in-Ok-eq0-clause-found : goal.returns-in-Ok-eq0-clause-found
returns-in-Ok-eq0-clause-found g c =
    let same = kept_same c.loop-past.self c.fill.new.self _ c.in-Ok-eq0.ensures.keeps c.in-Ok-eq0.field-0-test in
    rw (c.front-in-Ok-eq0.ensures.is ∙ ap (λ (kept : List ℕ). found_of (line_len kept) (line_size kept)) same)
    (finds_front _ c.loop-past.self c.front-in-Ok-eq0.new.self _ c.loop-past.invariant.keeps (sym c.past.ensures.is ∙ c.in_default.is)
    (ap (λ (v : Cutting). v.kept) c.front-in-Ok-eq0.ensures.noted ∙ same))

pub returns-in-Ok-eq0-clause-is : goal.returns-in-Ok-eq0-clause-is
returns-in-Ok-eq0-clause-is g c =
    let same = kept_same c.loop-past.self c.fill.new.self _ c.in-Ok-eq0.ensures.keeps c.in-Ok-eq0.field-0-test in
    rw (c.front-in-Ok-eq0.ensures.is ∙ ap (λ (kept : List ℕ). found_of (line_len kept) (line_size kept)) same)
    (end_is_found _ _ c.loop-past.self c.front-in-Ok-eq0.new.self _ _ _ c.loop-past.invariant.keeps c.loop-past.invariant.fits
    (sym c.is_at_hand.ensures ∙ c.if-is_at_hand.false)
    (ap (λ (v : Cutting). v.kept) c.front-in-Ok-eq0.ensures.noted ∙ same)
    (rw c.loop-past.invariant.file.held at (c.in-Ok-eq0.ensures.whole c.in-Ok-eq0.field-0-test))
    refl refl (sym c.past.ensures.is ∙ c.in_default.is))

pub returns-then-is_at_hand-clause-stays : goal.returns-then-is_at_hand-clause-stays
returns-then-is_at_hand-clause-stays g c =
    (_, keeps_noted _ c.loop-past.self _ _ _ c.front.ensures.noted c.loop-past.invariant.keeps)

pub returns-in-Ok-eq0-clause-stays : goal.returns-in-Ok-eq0-clause-stays
returns-in-Ok-eq0-clause-stays g c = (
  _,
  keeps_noted _ c.fill.new.self _ _ _ c.front-in-Ok-eq0.ensures.noted
      (keeps_on _ _ _ _ _ c.loop-past.invariant.keeps c.in-Ok-eq0.ensures.keeps),
)

pub returns-in-Ok-eq0-clause-unread : goal.returns-in-Ok-eq0-clause-unread
returns-in-Ok-eq0-clause-unread g c =
    not_hand _ _ _ _ c.loop-past.invariant.keeps (sym c.is_at_hand.ensures ∙ c.if-is_at_hand.false)

pub loop-past-preserved : goal.loop-past-preserved
loop-past-preserved g c =
    let none = sym c.is_at_hand.ensures ∙ c.if-is_at_hand.false in
    let name = c.loop-past.invariant.keeps.same.name in
    record {
      keeps = keeps_on _ _ _ _ _ c.loop-past.invariant.keeps c.in-Ok.ensures.keeps;
      ended = search rules;
      shows = search rules;
      kept = search rules;
      few = c.loop-past.invariant.few;
      fits = search rules;
      unread = not_hand _ _ _ _ c.loop-past.invariant.keeps none;
      file = file_then _ _ _ c.args.self.now.name _ _ _ _ _ _ (λ never. never) c.loop-past.invariant.file (rw name at c.in-Ok.ensures.file)
          (omega (arith, c.in-Ok.ensures.keeps.len, c.loop-past.invariant.keeps.len)) (search rules) (λ failed. cc) (λ never. absurd never);
    }

pub returns-in-Err-clause-unread : goal.returns-in-Err-clause-unread
returns-in-Err-clause-unread g c =
    not_hand _ _ _ _ c.loop-past.invariant.keeps (sym c.is_at_hand.ensures ∙ c.if-is_at_hand.false)

pub returns-in-Err-clause-breaks : goal.returns-in-Err-clause-breaks
returns-in-Err-clause-breaks g c is =
    let none = sym c.is_at_hand.ensures ∙ c.if-is_at_hand.false in
    let name = c.loop-past.invariant.keeps.same.name in
    breaks_within _ _ c.loop-past.self _ _ _ _ c.loop-past.invariant.keeps c.loop-past.invariant.fits none c.loop-past.invariant.file.takes
    (rw name at c.in-Err.ensures.file.takes)

pub returns-in-Err-clause-wants : goal.returns-in-Err-clause-wants
returns-in-Err-clause-wants g c is =
    none_was _ _ _ c.loop-past.invariant.keeps (sym c.is_at_hand.ensures ∙ c.if-is_at_hand.false)
