-- Rounds end: each on bounds that aren't closed leaves fewer numbers lacking.
use Rattle.std.proofs.Common.{◌≡◌, ℕ, suc, ◌*◌, ◌<◌, ◌≤◌, Bool, true, List, sym, inl, inr, subst, arith}
use Rattle.std.proofs.Math.Nat.{mul-le-mul_right}
use Rattle.cm_base.specs.Limits.{id_count}
use Rattle.cm_filter.specs.declared.kind.CallKind.{CallKind}
use Rattle.model_cred.specs.Files.{FileTable}
use Rattle.model_cred.specs.Process.{State, KeepsState}
use Rattle.model_box.specs.Row.{Part, Row, row_at, row_number, IsWithin}
use Rattle.model_box.specs.Closed.{Closed}
use Rattle.model_box.specs.Laws.{tested}
use Rattle.model_box.proofs.Monotone.{adds_more}
use Rattle.model_box.proofs.Starts.{number_back}
use Rattle.model_box.proofs.Worlds.{state_fits}
use Rattle.model_verdict.specs.Least.{Test, Says}
use Rattle.model_verdict.specs.Sweep.{row_count, swept, turns_before, AddsNothing}
use Rattle.model_verdict.proofs.Sweeps.{grows}
use Rattle.model_verdict.proofs.Rounds.{standing_low, swept_stands, swept_low, idle_closed}
use Rattle.model_verdict.proofs.Lacking.{lacking, same_lack}
use Rattle.model_verdict.proofs.Sums.{grown_or_not}

pub turns_grow : (rows round : ℕ) → 14 * round * rows ≤ 14 * suc round * rows
turns_grow rows round = mul-le-mul_right rows (omega arith)

-- tests that say what the sweep gives before a round and after it
module _ (permitted : CallKind → Bool) (files : FileTable) (s : State) (members : List ℕ) (keeps : KeepsState s) (round : ℕ) (old new : Test)
    (before : Says old (swept permitted files s members (turns_before s.spaces round)))
    (after : Says new (swept permitted files s members (turns_before s.spaces (suc round)))) where
  grown : IsWithin (tested old) (tested new)
  grown row part x held =
      (after row part x).1
      (grows permitted files s members (turns_before s.spaces round) (turns_before s.spaces (suc round)) (turns_grow (row_count s.spaces) round)
      row part x ((before row part x).0 held))

  grown_by_number : (y : ℕ) (part : Part) (x : ℕ) → old y part x ≡ true → new y part x ≡ true
  grown_by_number y part x held =
      let Held : Test → ℕ → Type 0 = λ test n. test n part x ≡ true in
      subst (Held new) (number_back y) (grown (row_at y) part x (subst (Held old) (sym (number_back y)) held))

  in_range : (row : Row) (part : Part) (x : ℕ) → tested new row part x → (row_number row < row_count s.spaces) × (x < id_count)
  in_range row part x held =
      let there : swept permitted files s members (turns_before s.spaces (suc round)) row part x = (after row part x).0 held in (
        standing_low s.spaces row (swept_stands permitted files s members (state_fits s keeps) (turns_before s.spaces (suc round)) row part x there),
        swept_low permitted files s members keeps (turns_before s.spaces (suc round)) row part x there,
      )

  -- a round after which as much lacks adds nothing
  pub same_idle : lacking (row_count s.spaces) old ≤ lacking (row_count s.spaces) new → AddsNothing permitted files s members round
  same_idle same row part x held =
      (before row part x).0
      (same_lack (row_count s.spaces) old new grown_by_number in_range same row part x ((after row part x).1 held))

  -- it began with closed bounds
  pub idle_said : AddsNothing permitted files s members round → Closed permitted files s.spaces (tested old)
  idle_said idle rule row standing part x added =
      (before row part x).1
      (idle_closed permitted files s members round idle rule row standing part x
      (adds_more permitted files s.spaces (tested old) (swept permitted files s members (turns_before s.spaces round))
      (λ r p z held. (before r p z).0 held) rule row part x added))

  -- a round on bounds that aren't closed leaves fewer lacking
  pub round_lacks_less : (Closed permitted files s.spaces (tested old) → ⊥) → lacking (row_count s.spaces) new < lacking (row_count s.spaces) old
  round_lacks_less unclosed = elim (grown_or_not (lacking (row_count s.spaces) new) (lacking (row_count s.spaces) old)) [
    | inl same ↦ absurd (unclosed (idle_said (same_idle same)))
    | inr less ↦ less
  ]
