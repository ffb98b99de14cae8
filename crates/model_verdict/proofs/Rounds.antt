-- Rounds of the sweep: where its bounds lie, that a round which adds nothing begins with closed bounds, and that closed
-- bounds which it comes to are the least.
use Rattle.std.proofs.Common.{◌≡◌, ℕ, zero, suc, ◌+◌, ◌*◌, ◌<◌, ◌≤◌, Bool, List, length, sym, ap, ◌∙◌, inl, inr, subst, arith}
use Rattle.std.specs.Prelude.{IsTrue}
use Rattle.std.proofs.lemmas.Bool.{ltb-true}
use Rattle.std.proofs.Math.Nat.{mul-le-mul_right}
use Rattle.cm_base.specs.Limits.{id_count}
use Rattle.cm_filter.specs.declared.kind.CallKind.{CallKind}
use Rattle.model_cred.specs.Files.{FileTable}
use Rattle.model_cred.specs.Process.{State, KeepsState}
use Rattle.model_cred.specs.Space.{Spaces, stands}
use Rattle.model_box.specs.Row.{Part, Row, row_number, space_under}
use Rattle.model_box.specs.Rule.{Rule, rule_number}
use Rattle.model_box.specs.Closed.{Adds, Closed}
use Rattle.model_box.specs.Covers.{StateFits}
use Rattle.model_box.specs.Laws.{tested}
use Rattle.model_box.proofs.Monotone.{adds_more}
use Rattle.model_box.proofs.Numbers.{rule_low, number_low}
use Rattle.model_box.proofs.Starts.{row_back, covers_start}
use Rattle.model_verdict.specs.Least.{Test, Says, IsLeast}
use Rattle.model_verdict.specs.Sweep.{Turn, row_count, turn_at, swept, turns_before, AddsNothing, TurnsGoByRounds}
use Rattle.model_verdict.specs.Sweep.{IdleRoundsBeginClosed, ClosedTurnsAreLeast}
use Rattle.model_verdict.proofs.Sweeps.{turn_stands, start_stands, grows, stays_within, turns_go_by_rounds}
use Rattle.cm_base.specs.CapSet.{cap_count}
use Rattle.model_verdict.proofs.Limits.{adds_low, start_low, limit_low, limit_is, part_bar}
use Rattle.model_verdict.specs.Rows.{part_limit}

-- the rows of standing spaces are those below the count
pub standing_low : (spaces : Spaces) (row : Row) → IsTrue (stands spaces (space_under row)) → row_number row < row_count spaces
standing_low spaces row standing = number_low row (length spaces) (ltb-true (space_under row) (length spaces) standing)

pub one_more : (a rows : ℕ) → (a + 1) * rows ≡ a * rows + rows
one_more a rows = grind arith

module _ (permitted : CallKind → Bool) (files : FileTable) (s : State) (members : List ℕ) where
  -- what the sweep gives is in standing rows, and below the number of ids
  pub swept_stands : StateFits s → (k : ℕ) (row : Row) (part : Part) (x : ℕ) → swept permitted files s members k row part x
      → IsTrue (stands s.spaces (space_under row))
  swept_stands fits zero row part x held = start_stands s members fits row part x held
  swept_stands fits (suc k) row part x (inl held) = swept_stands fits k row part x held
  swept_stands fits (suc k) row part x (inr (same, added)) =
      subst (λ (r : Row). IsTrue (stands s.spaces (space_under r))) (sym same) (turn_stands s.spaces k fits.tree)

  pub swept_fits : KeepsState s → (k : ℕ) (row : Row) (part : Part) (x : ℕ) → swept permitted files s members k row part x → x < part_limit part
  swept_fits keeps zero row part x held = start_low s members keeps row part x held
  swept_fits keeps (suc k) row part x (inl held) = swept_fits keeps k row part x held
  swept_fits keeps (suc k) row part x (inr (same, added)) =
      let low : x < part_bar id_count cap_count 1 part
      = adds_low id_count cap_count 1 permitted files s.spaces (swept permitted files s members k)
      (λ row part x held. subst (λ (n : ℕ). x < n) (limit_is part) (swept_fits keeps k row part x held)) (omega arith) (omega arith)
      (turn_at s.spaces k).rule (turn_at s.spaces k).row part x added in
      subst (λ (n : ℕ). x < n) (sym (limit_is part)) low

  pub swept_low : KeepsState s → (k : ℕ) (row : Row) (part : Part) (x : ℕ) → swept permitted files s members k row part x → x < id_count
  swept_low keeps k row part x held = omega (arith, swept_fits keeps k row part x held, limit_low part)

  -- ---- a round that adds nothing
  module _ (round : ℕ) (idle : AddsNothing permitted files s members round) where
    turn_of : Rule → Row → ℕ
    turn_of rule row = (14 * round + rule_number rule) * row_count s.spaces + row_number row

    turn_early : (rule : Rule) (row : Row) → turns_before s.spaces round ≤ turn_of rule row
    unfolding turn_of
    turn_early rule row =
        let low : 14 * round * row_count s.spaces ≤ (14 * round + rule_number rule) * row_count s.spaces
        = mul-le-mul_right (row_count s.spaces) (omega arith) in
        omega (arith, low)

    turn_late : (rule : Rule) (row : Row) → row_number row < row_count s.spaces → suc (turn_of rule row) ≤ turns_before s.spaces (suc round)
    unfolding turn_of
    turn_late rule row low =
        let small : rule_number rule < 14 = rule_low rule in
        let after : (14 * round + rule_number rule + 1) * row_count s.spaces ≤ 14 * suc round * row_count s.spaces
        = mul-le-mul_right (row_count s.spaces) (omega (arith, small)) in
        let more : (14 * round + rule_number rule + 1) * row_count s.spaces
        ≡ (14 * round + rule_number rule) * row_count s.spaces + row_count s.spaces
        = one_more (14 * round + rule_number rule) (row_count s.spaces) in
        omega (arith, after, more, low)

    turn_is : (rule : Rule) (row : Row) → row_number row < row_count s.spaces → turn_at s.spaces (turn_of rule row) ≡ record { rule = rule; row = row }
    unfolding turn_of TurnsGoByRounds
    turn_is rule row low =
        turns_go_by_rounds s.spaces round rule (row_number row) low
        ∙ ap (λ (r : Row). record { rule = rule; row = r }) (row_back row)

    pub idle_closed : Closed permitted files s.spaces (swept permitted files s members (turns_before s.spaces round))
    idle_closed rule row standing part x added =
        let low : row_number row < row_count s.spaces = standing_low s.spaces row standing in
        let k : ℕ = turn_of rule row in
        let is : turn_at s.spaces k ≡ record { rule = rule; row = row } = turn_is rule row low in
        let now : Adds permitted files s.spaces (swept permitted files s members k) rule row part x
        = adds_more permitted files s.spaces (swept permitted files s members (turns_before s.spaces round)) (swept permitted files s members k)
        (grows permitted files s members (turns_before s.spaces round) k (turn_early rule row)) rule row part x added in
        let turned : Adds permitted files s.spaces (swept permitted files s members k) (turn_at s.spaces k).rule (turn_at s.spaces k).row part x
        = subst (λ (t : Turn). Adds permitted files s.spaces (swept permitted files s members k) t.rule t.row part x) (sym is) now in
        let there : swept permitted files s members (suc k) row part x = inr (sym (ap (λ (t : Turn). t.row) is), turned) in
        idle row part x (grows permitted files s members (suc k) (turns_before s.spaces (suc round)) (turn_late rule row low) row part x there)

  -- rows that say what the sweep gives, and are closed, are the least closed bounds that cover the members
  pub says_least : StateFits s → (test : Test) (k : ℕ) → Says test (swept permitted files s members k) → Closed permitted files s.spaces (tested test)
      → IsLeast permitted files s members test
  says_least fits test k says closed = record {
    encloses = record {
      closed = closed;
      covers = covers_start s members (tested test) fits
          (λ row standing part x has. (says row part x).1 (grows permitted files s members 0 k (omega arith) row part x has));
    };
    within = λ other encloses row part x held.
        stays_within permitted files s members (tested other) fits encloses.closed encloses.covers k row part x ((says row part x).0 held);
  }

pub idle_rounds_begin_closed : IdleRoundsBeginClosed
unfolding IdleRoundsBeginClosed
idle_rounds_begin_closed permitted files s members round idle = idle_closed permitted files s members round idle

pub closed_turns_are_least : ClosedTurnsAreLeast
unfolding ClosedTurnsAreLeast
closed_turns_are_least permitted files s members test k fits says closed = says_least permitted files s members fits test k says closed
