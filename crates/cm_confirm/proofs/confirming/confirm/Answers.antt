use Rattle.std.proofs.Common.{◌≡◌, ◌∙◌, ◌+◌, ◌≤◌, List, [], ◌∷◌, ℕ, ap, arith, length, rules, sym}
use Rattle.std.proofs.lemmas.Grind.{common_steps}
use Rattle.cm_base.specs.Limited.{limit_number}
use Rattle.cm_base.specs.declared.limited.Limited.TheVariants as limit
use Rattle.cm_confirm.proofs.Endings.{finished_same, line_comes}
use Rattle.cm_confirm.proofs.RunLines.{run_comes}
use Rattle.cm_confirm.proofs.confirming.confirm.Goals as goal
use Rattle.cm_confirm.specs.Lines.{lines_come}
use Rattle.cm_declared.specs.World.{world_of}
use Rattle.cm_lines.specs.Cut.{Cut}
use Rattle.cm_lines.specs.Lines.{lines_of}
use Rattle.cm_log.specs.Counts.{lines_read}
use Rattle.cm_confirm.specs.declared.confirming.Turn.TheVariants as turn
use Rattle.cm_log.specs.Left.{left, told_of}
use Rattle.cm_state.specs.Right.{right_of}
use Rattle.model_confirm.specs.Confirm.{confirm_of}
use Rattle.model_text.specs.Reading.{Reading, script_of_cut, script_reading}

pub loop-line-init : goal.loop-line-init
loop-line-init c =
    let w = world_of c.args.w.now in
    let right = right_of c.args.right.now in
    let lines = lines_of c.args.text.now in
    record {
      same =
          ap (λ (cut : Cut). confirm_of w c.args.machine.state c.new-members.result right (script_of_cut w cut)) (run_comes c.args.text.now)
          ∙ ap (λ (r : Reading). confirm_of w c.args.machine.state c.new-members.result right r)
          (sym (c.of_script-run.ensures.reading w (lines_come (limit_number limit.Line) lines)));
      within = c.requires.within;
      script = c.of_script-run.ensures.script;
      lines = omega (arith, c.of_script-run.ensures.fresh.lines, c.requires.text);
    }

pub loop-line-preserved : goal.loop-line-preserved
loop-line-preserved c =
    let w = world_of c.args.w.now in
    let rest = lines_come (limit_number limit.Line) (lines_of c.in-Some.after.now) in
    let later = left w c.read_line.new.run rest in
    let cut : lines_of c.loop-line.rest.now ≡ c.in-Some.line.now ∷ lines_of c.in-Some.after.now = c.in-Some.ensures.line in
    let reading = left w c.loop-line.run (lines_come (limit_number limit.Line) (lines_of c.loop-line.rest.now)) in
    let is = ap (λ (ls : List (List ℕ)). left w c.loop-line.run (lines_come (limit_number limit.Line) ls)) cut
    ∙ c.in_ok-stage.ensures.told rest in
    let goes = rw c.in-Goes.is at c.in_ok-take_told.ensures.turn in
    let comes = line_comes w c.loop-line.machine.state c.loop-line.members (right_of c.args.right.now) reading later
    (told_of c.read_line.new.run) c.events-told.result.now
    c.in_ok-stage.stage turn.Goes c.take_told.new.machine.state c.take_told.new.members is c.events-told.ensures
    (goes later) in
    let lines : lines_read c.read_line.new.run ≤ lines_read c.loop-line.run + 1 = c.in_ok-stage.ensures.lines in
    let shorter : length c.in-Some.after.now + 1 ≤ length c.loop-line.rest.now = c.in-Some.ensures.shorter in
    record {
      same = c.loop-line.invariant.same ∙ comes.0;
      within = comes.1;
      script = c.in_ok-stage.ensures.script;
      lines = omega (arith, lines, shorter, c.loop-line.invariant.lines);
    }

pub returns-in-Ends : goal.returns-in-Ends
returns-in-Ends c =
    let w = world_of c.args.w.now in
    let right = right_of c.args.right.now in
    let rest = lines_come (limit_number limit.Line) (lines_of c.in-Some.after.now) in
    let later = left w c.read_line.new.run rest in
    let cut : lines_of c.loop-line.rest.now
    ≡ c.in-Some.line.now ∷ lines_of c.in-Some.after.now = c.in-Some.ensures.line in
    let reading = left w c.loop-line.run (lines_come (limit_number limit.Line) (lines_of c.loop-line.rest.now)) in
    let is = ap (λ (ls : List (List ℕ)). left w c.loop-line.run (lines_come (limit_number limit.Line) ls)) cut
    ∙ c.in_ok-stage.ensures.told rest in
    let ends = rw c.in-Ends.is at c.in_ok-take_told.ensures.turn in
    let comes = line_comes w c.loop-line.machine.state c.loop-line.members right reading later
    (told_of c.read_line.new.run) c.events-told.result.now
    c.in_ok-stage.stage (turn.Ends c.in-Ends.confirmed) c.take_told.new.machine.state c.take_told.new.members is
    c.events-told.ensures (ends later) in
    sym comes ∙ sym c.loop-line.invariant.same
    ∙ ap (λ (ms : List ℕ). confirm_of w c.args.machine.state ms right (script_reading w c.args.text.now))
    c.new-members.ensures

pub returns : goal.returns
returns c =
    let w = world_of c.args.w.now in
    let right = right_of c.args.right.now in
    let none : lines_of c.loop-line.rest.now ≡ [] = first_of (search rules, grind (arith, common_steps)) in
    let same = c.loop-line.invariant.same
    ∙ ap (λ (ls : List (List ℕ)). confirm_of w c.loop-line.machine.state c.loop-line.members right
    (left w c.loop-line.run (lines_come (limit_number limit.Line) ls))) none in
    finished_same c.finish.result _ _
    (sym same ∙ ap (λ (ms : List ℕ). confirm_of w c.args.machine.state ms right (script_reading w c.args.text.now))
    c.new-members.ensures) c.finish.ensures
