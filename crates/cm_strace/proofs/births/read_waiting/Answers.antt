use Rattle.std.proofs.Common.{◌≡◌, ◌++◌, ◌∙◌, List, length, suc, subst, sym, ap, append-nil, arith}
use Rattle.cm_strace.specs.Births.{work_of}
use Rattle.cm_strace.specs.Given.{Gave, born_is, read_is}
use Rattle.cm_strace.specs.Queues.{Queue}
use Rattle.cm_strace.proofs.Released.{goes_then, released_none, released_next, released_same, stopped_then}
use Rattle.cm_strace.proofs.births.read_waiting.Goals as goal
use Rattle.cm_declared.specs.World.{world_of}
use Rattle.model_strace.specs.After.{After, Goes, preceded}
use Rattle.model_strace.specs.Lines.{Line, Read, read_line}
use Rattle.model_strace.specs.Rest.{Work, released, without_first}

pub returns-clause-released : goal.returns-clause-released
returns-clause-released c count =
    let w = world_of c.args.w.now in
    let t = work_of count c.loop-l.waiting c.loop-l.parts in
    let none = released_none w (length t.held) c.loop-l.waiting.pids t (sym c.in_default.ensures.next) in
    ap (λ (ls : List Line). Goes c.loop-l.events.items (record t { held = ls })) c.in_default.ensures.left
    ∙ ap (λ es. Goes es t) (sym (append-nil c.loop-l.events.items))
    ∙ ap (preceded c.loop-l.events.items) (sym none) ∙ c.loop-l.invariant.released count

pub returns-in_default-stage-clause-released : goal.returns-in_default-stage-clause-released
returns-in_default-stage-clause-released c count =
    let w = world_of c.args.w.now in
    let t = work_of count c.loop-l.waiting c.loop-l.parts in
    let q = c.take_next.new.self in
    let l : Line = c.in-Some.l.now in
    let size : length t.held ≡ suc (length q.left) = omega (arith, c.in-Some.ensures.fewer) in
    let step = released_next w (length q.left) c.loop-l.waiting.pids t l q.pids size (sym c.in-Some.ensures.next) in
    subst (λ (a : After Work). Gave c.in_ok-stage.stage c.read.new.events.items (work_of count q c.read.new.parts) a)
    (ap (preceded c.loop-l.events.items) (sym step) ∙ c.loop-l.invariant.released count)
    (stopped_then c.in_ok-stage.stage c.loop-l.events.items c.read.new.events.items (read_line w l t.parts)
    (read_is c.in_ok-stage.born c.read.new.parts.known) (λ r. released w (length q.left) (r.born ++ q.pids)
    (record t { parts = r.parts; held = without_first l.pid t.held })) (work_of count q c.read.new.parts)
    c.in_default-stage.not-Going c.in_ok-stage.ensures.given)

pub loop-l-preserved : goal.loop-l-preserved
loop-l-preserved c =
    let w = world_of c.args.w.now in
    let q = c.take_next.new.self in
    let put = c.in_ok-put.ensures in
    let l : Line = c.in-Some.l.now in
    let size : length c.loop-l.waiting.left ≡ suc (length q.left) = omega (arith, c.in-Some.ensures.fewer) in
    let r : Read = record { parts = c.read.new.parts.known; born = born_is c.in_ok-stage.born } in
    let left : c.put.new.self.left ≡ q.left = ap (λ (q : Queue). q.left) put in
    record {
      released = λ count. let t = work_of count c.loop-l.waiting c.loop-l.parts in
          let step = released_next w (length q.left) c.loop-l.waiting.pids t l q.pids size
          (sym c.in-Some.ensures.next) in
          let now = ap (λ (ls : List Line). let u : Work = record t { parts = c.read.new.parts.known; held = ls } in u)
          (left ∙ c.in-Some.ensures.left) in
          ap (preceded c.read.new.events.items) (released_same w _ _ _ _ _ _ (ap (λ (ls : List Line). length ls) left)
          (ap (λ (q : Queue). q.pids) put) now)
          ∙ goes_then c.loop-l.events.items c.read.new.events.items (read_line w l t.parts) r
          (λ r. released w (length q.left) (r.born
          ++ q.pids) (record t { parts = r.parts; held = without_first l.pid t.held }))
          (rw c.in-Going.is at c.in_ok-stage.ensures.given)
          ∙ ap (preceded c.loop-l.events.items) (sym step) ∙ c.loop-l.invariant.released count;
      saved = c.read.ensures.saved ∙ c.loop-l.invariant.saved;
      all = ap (λ (q : Queue). q.all) put ∙ c.in-Some.ensures.all ∙ c.loop-l.invariant.all;
      uses = omega (
        arith,
        size,
        ap (λ (ls : List Line). length ls) left,
        c.in_ok-stage.ensures.spaces,
        c.loop-l.invariant.uses,
      );
    }
