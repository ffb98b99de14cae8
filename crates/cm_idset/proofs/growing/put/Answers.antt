use Rattle.std.proofs.Common.{◌∙◌, ap, List}
use Rattle.model_cred.specs.Intervals.{Interval}
use Rattle.cm_idset.specs.Order.{last_reaches}
use Rattle.cm_idset.proofs.Growth.{put_joined, put_pushed}
use Rattle.cm_idset.proofs.growing.put.Goals as goal

pub returns-then-last_reaches : goal.returns-then-last_reaches
returns-then-last_reaches c =
    let asked = c.if-last_reaches.ensures ∙ ap (λ (list : List Interval). last_reaches list c.args.next.now) c.deref.ensures.value in
    put_joined c.args.list.now.items _ c.args.next.now c.requires asked c.join_last.ensures

pub returns-in_ok-push : goal.returns-in_ok-push
returns-in_ok-push c =
    let asked = c.if-last_reaches.ensures ∙ ap (λ (list : List Interval). last_reaches list c.args.next.now) c.deref.ensures.value in
    put_pushed c.args.list.now.items _ c.args.next.now c.requires asked c.in_ok-push.ensures.items
