use Rattle.std.proofs.Common.{◌≡◌, ◌++◌, ◌∷◌, drop, decimal, flat_map}
use Rattle.cm_credentials.proofs.credential_line.put_rest.Given as goal

abbrev pub invariant-loop-group : goal.invariant-loop-group
invariant-loop-group l = l.text.items ++ flat_map (λ g. 44 ∷ decimal g) (drop l.group-index l.groups)
    ≡ l.initial.text.items ++ flat_map (λ g. 44 ∷ decimal g) l.groups
