use Rattle.std.proofs.Common.{◌∙◌, sym}
use Rattle.std.proofs.lemmas.Bool.{false≢true}
use Rattle.cm_box.specs.Rules.{rule_of}
use Rattle.cm_maker.proofs.Tries.{rests_next, visits_more, visits_same}
use Rattle.cm_maker.proofs.resting.try_rules.Goals as goal
use Rattle.cm_maker.proofs.resting.try_rules.Goals.{then-branch, else-branch}

pub loop-k-preserved : goal.loop-k-preserved
loop-k-preserved c =
    let before = c.loop-k.invariant in
    let tried = c.in_ok-try_rule.ensures in
    elim c.if-branch.branch [
      | then-branch w ↦ record {
        visits = rw w.more-is (visits_more before.visits tried.visits w.if-branch.true);
        closed = λ none. absurd (false≢true (sym none ∙ w.more-is));
      }
      | else-branch w ↦ record {
        visits = rw w.more-is (visits_same before.visits tried.visits w.if-branch.false);
        closed = λ none.
            rests_next before.visits (rule_of c.of_number.result) c.args.from c.loop-k.k c.of_number.ensures
            (before.closed (sym w.more-is ∙ none)) tried.visits w.if-branch.false (tried.closed w.if-branch.false);
      }
    ]
