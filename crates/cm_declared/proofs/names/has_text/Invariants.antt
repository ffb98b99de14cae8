use Rattle.std.proofs.Common.{◌≡◌, drop, map}
use Rattle.std.specs.String.{string_bytes}
use Rattle.model_text.specs.NameText.{is_one_of}
use Rattle.cm_declared.proofs.names.has_text.Given as goal

abbrev pub invariant-loop-known : goal.invariant-loop-known
invariant-loop-known l = is_one_of (map string_bytes (drop l.known-index l.names)) l.name ≡ is_one_of (map string_bytes l.names) l.name
