use Rattle.std.proofs.Common.{bytes_eq, map, string_bytes, rules, tests, sym, ◌∙◌}
use Rattle.std.specs.List.{list_any}
use Rattle.std.specs.Map.{keys_of}
use Rattle.std.proofs.lemmas.Iterator.Consumers.{YieldsList-from_rest}
use Rattle.std.proofs.lemmas.Iterator.Search.{all_from_yields_List}
use Rattle.cm_values.specs.Keys.{keys_of as model_keys}
use Rattle.cm_values.proofs.Members.{has_only-members_view}
use Rattle.cm_values.proofs.checks.has_only_keys.Goals as goal

pub returns : goal.returns
returns c =
    all_from_yields_List (λ name. list_any (bytes_eq (string_bytes name))
    (map (λ k. k.name) (model_keys c.args.keys.now))) _ _ _ c.all.ensures.ran
    (YieldsList-from_rest (keys_of c.args.row.now.entries) c.keys.ensures.rest) (λ x b q k. search (rules, tests))
    ∙ sym (has_only-members_view (map (λ k. k.name) (model_keys c.args.keys.now)) c.args.row.now.entries)
