use Rattle.std.proofs.Common.{◌≡◌, ℕ, ◌-◌, ◌<◌, ◌≤◌, length, false}
use Rattle.std.specs.Prelude.{IsTrue}
use Rattle.cm_files.specs.Index.{path_at, is_before}
use Rattle.cm_files.proofs.index.place_of.Given as goal

-- below low the paths come before the one that is looked for, from high on they don't
abbrev pub invariant-loop-low : goal.invariant-loop-low
invariant-loop-low l = record {
  below : (k : ℕ) → k < l.low → IsTrue (is_before (path_at l.rows l.index.order.items k) l.path);
  rest : (k : ℕ) → l.high ≤ k → k < length l.index.order.items → is_before (path_at l.rows l.index.order.items k) l.path ≡ false;
  order : l.low ≤ l.high;
  within : l.high ≤ length l.index.order.items;
}

abbrev pub decreases-loop-low : goal.decreases-loop-low
decreases-loop-low l = l.high - l.low
