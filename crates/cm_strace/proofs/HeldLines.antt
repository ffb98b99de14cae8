-- Held lines: where none is one of a pid.
use Rattle.std.proofs.Common.{◌≡◌, ℕ, ◌||◌, true, false, cond, find, List, [], ◌∷◌, Some, None, refl}
use Rattle.std.specs.List.{list_any}
use Rattle.model_strace.specs.Lines.{Line, is_line_of}

-- where no line is one of the pid, none is found
pub any_none : (pid : ℕ) (ls : List Line) → list_any (is_line_of pid) ls ≡ false → find (is_line_of pid) ls ≡ None
any_none pid [] none = refl
any_none pid (x ∷ ls) none =
    (elim (is_line_of pid x) as (λ b. (b || list_any (is_line_of pid) ls) ≡ false
    → cond b (Some x) (find (is_line_of pid) ls) ≡ None) [
      | true ↦ λ h. absurd (cc)
      | false ↦ λ h. any_none pid ls h
    ]) none
