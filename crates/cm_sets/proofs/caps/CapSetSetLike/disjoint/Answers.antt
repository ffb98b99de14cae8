use Rattle.std.proofs.Common.{sym, ◌∙◌}
use Rattle.std.proofs.lemmas.Bool.{eqb-true, eqb-false}
use Rattle.cm_sets.proofs.Members.{common_held, none_common}
use Rattle.cm_sets.proofs.caps.CapSetSetLike.disjoint.Goals as goal

pub returns-clause-yes : goal.returns-clause-yes
returns-clause-yes c = λ is.
    none_common c.args.self.now.0 c.args.other.now.0 c.meet.result c.meet.ensures (sym c.bits.ensures.value ∙ eqb-true c.bits.result 0 is)

pub returns-clause-no : goal.returns-clause-no
returns-clause-no c = λ is.
    common_held c.args.self.now.0 c.args.other.now.0 c.meet.result c.meet.ensures
    (λ none. eqb-false c.bits.result 0 is (c.bits.ensures.value ∙ none))
