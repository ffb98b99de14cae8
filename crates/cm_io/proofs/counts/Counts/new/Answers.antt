use Rattle.std.proofs.Common.{◌≡◌, map, ap, sym, ◌∙◌, rules}
use Rattle.std.proofs.lemmas.Iterator.Adapters.{YieldsList-from_vec}
use Rattle.std.proofs.lemmas.Iterator.Consumers.{YieldsList-end}
use Rattle.std.proofs.lemmas.List.{map-id}
use Rattle.cm_io.specs.Counts.{name_of}
use Rattle.cm_io.proofs.Counting.{fresh, names-fresh, starts_fresh}
use Rattle.cm_io.proofs.counts.Counts.new.Goals as goal

pub returns-clause-names : goal.returns-clause-names
returns-clause-names c =
    let all = YieldsList-end
    (YieldsList-from_vec {s = c.into_iter-name-iterator.result} c.args.names.items (search rules) (search rules))
    c.loop-name.yielded c.loop-name.name-iterator c.loop-name.yielded_by c.next.result c.next.new.self c.in-None.is
    c.next.ensures.steps in
    let passed : c.loop-name.yielded ≡ c.args.names.items = sym (map-id c.loop-name.yielded) ∙ all.0 in
    ap (λ rs. map name_of rs) (c.loop-name.invariant ∙ ap (λ names. map fresh names) passed) ∙ names-fresh c.args.names.items

pub returns-clause-zero : goal.returns-clause-zero
returns-clause-zero c = starts_fresh _ c.loop-name.yielded c.loop-name.invariant
