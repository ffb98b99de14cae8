use Rattle.std.proofs.Common.{◌+◌, sym, ◌∙◌, ap}
use Rattle.cm_lines.specs.Cut.{before}
use Rattle.cm_strace.proofs.Sessions.{answer_after, at_stage, session_after}
use Rattle.cm_strace.specs.Answers.{reading_is}
use Rattle.cm_strace.specs.Stages.{session_is}
use Rattle.cm_strace.proofs.tracer.Tracer.feed_line.Goals as goal
use Rattle.cm_declared.specs.World.{world_of}
use Rattle.model_strace.proofs.RestLaws.{lines_go_on}
use Rattle.model_strace.specs.Rest.{Going, fed, rest, after_line, answered_then, line_answer, LinesGoOn}

pub returns-in_ok-stage-in-Going-clause-given : goal.returns-in_ok-stage-in-Going-clause-given
returns-in_ok-stage-in-Going-clause-given c =
    let w = world_of c.args.w.now in
    let line = c.args.line.now in
    let t = c.self.inside.work in
    answer_after c.feed.new.events.items c.feed.new.self (fed w line t) c.in_ok-stage-in-Going.stage
    (rw c.clear.ensures.items at c.in_ok-stage-in-Going.ensures.fed)
    ∙ sym (ap (λ s. line_answer w s line) (sym c.self.view_is ∙ ap (λ s. session_is s t) c.in-Going.is))

pub returns-in_ok-stage-in-Going-clause-after : goal.returns-in_ok-stage-in-Going-clause-after
returns-in_ok-stage-in-Going-clause-after c =
    let w = world_of c.args.w.now in
    let line = c.args.line.now in
    let t = c.self.inside.work in
    session_after c.feed.new.events.items c.feed.new.self (t.count + 1) (fed w line t) c.in_ok-stage-in-Going.stage
    (rw c.clear.ensures.items at c.in_ok-stage-in-Going.ensures.fed) c.in_ok-stage-in-Going.ensures.counted
    ∙ sym (ap (λ s. after_line w s line) (sym c.self.view_is ∙ ap (λ s. session_is s t) c.in-Going.is))

pub returns-in_ok-stage-in-Going-clause-told : goal.returns-in_ok-stage-in-Going-clause-told
unfolding LinesGoOn
returns-in_ok-stage-in-Going-clause-told c cut =
    let w = world_of c.args.w.now in
    let line = c.args.line.now in
    let t = c.self.inside.work in
    let stage = c.in_ok-stage-in-Going.stage in
    let events = c.feed.new.events.items in
    ap (λ s. rest w s (before line cut)) (sym c.self.view_is ∙ ap (λ s. session_is s t) c.in-Going.is)
    ∙ lines_go_on w (Going t) line cut
    ∙ ap (λ a. answered_then a (rest w (after_line w (Going t) line) cut))
    (sym (answer_after events c.feed.new.self (fed w line t) stage
    (rw c.clear.ensures.items at c.in_ok-stage-in-Going.ensures.fed)))
    ∙ ap (λ s. answered_then (reading_is events stage) (rest w s cut))
    (sym (session_after events c.feed.new.self (t.count + 1) (fed w line t) stage
    (rw c.clear.ensures.items at c.in_ok-stage-in-Going.ensures.fed) c.in_ok-stage-in-Going.ensures.counted))

pub returns-in_ok-stage-in-Going-clause-at : goal.returns-in_ok-stage-in-Going-clause-at
returns-in_ok-stage-in-Going-clause-at c = at_stage c.in_ok-stage-in-Going.stage c.feed.new.self
