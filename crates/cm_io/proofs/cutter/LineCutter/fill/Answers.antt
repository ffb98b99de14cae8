use Rattle.std.proofs.Common.{◌≤◌, ◌∙◌, ℕ, List, arith, ap, ap₂, subst, rules, sym, take, drop, length, ◌+◌, ◌-◌}
use Rattle.cm_lines.specs.Lines.{line_len}
use Rattle.cm_io.specs.Cutter.{Cutting}
use Rattle.cm_io.proofs.Kept.{keeps_read, fits_read, none_more, told_more, same_cutting, same_fits, on_err, len_read, len_same}
use Rattle.cm_io.proofs.cutter.LineCutter.fill.Goals as goal

pub invariant_of-self : goal.invariant_of-self
invariant_of-self g c = record {
  ordered = c.self.invariant.ordered;
  within = c.read_behind.ensures.within;
  measured = len_same c.self.inside.buffer.items _ _ _ _ c.self.invariant.measured c.self.invariant.ordered c.read_behind.ensures.front;
  few = c.self.invariant.few;
  reached = c.self.invariant.reached;
  small = c.self.invariant.small;
  short = c.self.invariant.short;
}

pub returns-in_err-n-clause-fits : goal.returns-in_err-n-clause-fits
returns-in_err-n-clause-fits g c =
    same_fits _ _ _ (same_cutting _ _ _ _ _ _ c.self.inside.buffer.items _ _ _ (c.self.view_is ∙ c.move_to_front.ensures)
    c.self.invariant.ordered c.read_behind.ensures.front) c.requires.fits

pub returns-in_err-n-clause-err : goal.returns-in_err-n-clause-err
returns-in_err-n-clause-err g c =
    on_err _ _ (same_cutting _ _ _ _ _ _ c.self.inside.buffer.items _ _ _ (c.self.view_is ∙ c.move_to_front.ensures)
    c.self.invariant.ordered c.read_behind.ensures.front)

pub returns-clause-keeps : goal.returns-clause-keeps
returns-clause-keeps g c =
    keeps_read _ _ _ _ _ _ c.self.inside.buffer.items _ _ _ _ (c.self.view_is ∙ c.move_to_front.ensures)
    c.self.invariant.ordered (search rules) (search rules) c.read_behind.ensures.front (search rules)

pub returns-clause-fits : goal.returns-clause-fits
returns-clause-fits g c =
    fits_read _ _ _ _ _ _ _ c.self.inside.buffer.items _ _ _ _ (c.self.view_is ∙ c.move_to_front.ensures) c.self.invariant.ordered
    (search rules) (search rules) c.read_behind.ensures.front c.requires.fits
    (rw c.deref.ensures at c.in_ok-n.ensures.part)

pub returns-clause-whole : goal.returns-clause-whole
returns-clause-whole g c =
    none_more _ _ _ _ _ _ _ c.self.inside.buffer.items _ _ _ (c.self.view_is ∙ c.move_to_front.ensures) (search rules)
    (rw c.deref.ensures at c.in_ok-n.ensures.end)

pub returns-clause-told : goal.returns-clause-told
returns-clause-told g c =
    told_more (g.H.Shelf.told_end c.read_behind.new.shelf) _ _ _ _ _ _ c.self.inside.buffer.items _ _ _
    (c.self.view_is ∙ c.move_to_front.ensures) (search rules) (rw c.deref.ensures at c.in_ok-n.ensures.told)

pub invariant_of-self-2 : goal.invariant_of-self-2
invariant_of-self-2 g c =
    let kept = ap (λ (v : Cutting). v.kept) (c.self.view_is ∙ c.move_to_front.ensures) in
    let no_lf = subst (λ (k : List ℕ). length k ≤ line_len k) (sym kept) c.requires.open in
    let read = ap₂ (λ (k : ℕ) (l : List ℕ). line_len (take k (drop c.self.inside.end l))) (omega arith) c.deref-2.ensures.value in
    record {
      ordered = search rules;
      within = c.in_ok-n.ensures.room;
      measured = ap (λ n. c.self.inside.end - c.self.inside.start + n) (c.line_len.ensures.len ∙ read)
          ∙ len_read c.self.inside.buffer.items _ _ _ _ c.self.invariant.ordered c.read_behind.ensures.front (search rules) no_lf;
      few = search rules;
      reached = c.self.invariant.reached;
      small = c.self.invariant.small;
      short = c.self.invariant.short;
    }
