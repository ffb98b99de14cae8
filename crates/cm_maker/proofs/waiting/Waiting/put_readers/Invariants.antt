use Rattle.std.proofs.Common.{◌≡◌, ℕ, ◌/◌, ◌<◌, true, length}
use Rattle.std.specs.Prelude.{IsTrue}
use Rattle.model_cred.specs.Space.{is_at_or_above}
use Rattle.cm_maker.specs.Widening.{is_listed}
use Rattle.cm_maker.proofs.waiting.Waiting.put_readers.Given as goal

abbrev pub invariant-loop-n : goal.invariant-loop-n
invariant-loop-n l = record {
  count : length l.self ≡ length l.fn.self;
  kept : (z : ℕ) → is_listed l.fn.self z ≡ true → is_listed l.self z ≡ true;
  put : (z : ℕ) → z / 2 < l.n → IsTrue (is_at_or_above l.spaces l.above.0 (z / 2)) → is_listed l.self z ≡ true;
}
