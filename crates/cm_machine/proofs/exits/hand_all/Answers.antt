use Rattle.std.proofs.Common.{◌≡◌, ◌+◌, ℕ, suc, length, List, get_or, slice_set, sym, ◌∙◌, ap, arith}
use Rattle.cm_machine.proofs.Handing.{map_first, map_next, map_whole}
use Rattle.cm_machine.proofs.exits.hand_all.Goals as goal
use Rattle.model_cred.specs.Process.{Process, after_exit}

pub loop-p-preserved : goal.loop-p-preserved
loop-p-preserved c =
    let next : suc c.loop-p.p-index ≡ c.loop-p.p-index + 1 = omega arith in
    ap (λ (ps : List Process). slice_set ps c.loop-p.p-index c.take_over.new.p) c.loop-p.invariant
    ∙ map_next (after_exit c.args.gone.now) c.loop-p.p-index c.args.list.now c.p-item.result c.take_over.new.p (omega arith)
    (c.p-item.is ∙ ap (λ (ps : List Process). get_or ps c.loop-p.p-index c.p-item.result) c.loop-p.invariant)
    (c.take_over.ensures ∙ ap (after_exit c.args.gone.now) (sym c.p-item.is))
    ∙ ap (λ (i : ℕ). map_first i (after_exit c.args.gone.now) c.args.list.now) next

pub returns : goal.returns
returns c =
    let all : c.loop-p.p-index ≡ length c.args.list.now = omega arith in
    c.loop-p.invariant ∙ ap (λ (i : ℕ). map_first i (after_exit c.args.gone.now) c.args.list.now) all
    ∙ map_whole (after_exit c.args.gone.now) c.args.list.now
