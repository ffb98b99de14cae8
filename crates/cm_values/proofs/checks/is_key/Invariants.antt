use Rattle.std.proofs.Common.{◌≡◌, bytes_eq, drop, map}
use Rattle.std.specs.List.{list_any}
use Rattle.cm_values.specs.Keys.{keys_of}
use Rattle.cm_values.proofs.checks.is_key.Given as goal

abbrev pub invariant-loop-key : goal.invariant-loop-key
invariant-loop-key l =
    list_any (bytes_eq l.name) (map (λ k. k.name) (keys_of (drop l.key-index l.keys))) ≡ list_any (bytes_eq l.name) (map (λ k. k.name) (keys_of l.keys))
