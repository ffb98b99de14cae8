use Rattle.std.proofs.Common.{◌≡◌, ◌<◌, ◌≤◌, ◌-◌, IfSome, length}
use Rattle.std.specs.Option.{option_or}
use Rattle.cm_strace_text.proofs.written.last_sign.Given as goal
use Rattle.cm_strace_text.specs.Places.{sign_from}
use Rattle.model_strace.specs.Written.{Plain, last_sign}

-- the last places in what is left, or the last ones so far, are those in all
abbrev pub invariant-signs : goal.invariant-signs
invariant-signs l = record {
  places : option_or (sign_from Plain l.from l.text) l.last ≡ last_sign Plain 0 l.text;
  within : IfSome l.last (λ places. (places.0 < places.1) × (places.1 < length l.text));
  inside : l.from ≤ length l.text;
}

abbrev pub decreases-signs : goal.decreases-signs
decreases-signs l = length l.text - l.from
