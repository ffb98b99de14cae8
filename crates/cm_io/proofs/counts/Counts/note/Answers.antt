use Rattle.std.proofs.Common.{rules, refl}
use Rattle.cm_io.proofs.Counting.{noted_known, noted_new, noted_not}
use Rattle.cm_io.proofs.counts.Counts.note.Goals as goal

pub returns-then-place_of-len : goal.returns-then-place_of-len
returns-then-place_of-len c = noted_known c.args.self.now c.args.name.now (search rules)

pub returns : goal.returns
returns c =
    let row = c.new.ensures in
    let pushed = c.in_ok-push.ensures.items in
    noted_new c.args.self.now _ c.args.name.now c.in_ok-name.name (search rules) (search rules) (cc)

pub returns-in_err-name : goal.returns-in_err-name
returns-in_err-name c = noted_not c.args.self.now _ c.args.name.now _ (search rules) refl (search rules)

pub returns-in_err-push : goal.returns-in_err-push
returns-in_err-push c = noted_not c.args.self.now _ c.args.name.now _ (search rules) (search rules) (search rules)
