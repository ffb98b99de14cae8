-- What adds nothing to a row: a pid that no process has, and a process that stands elsewhere.
use Rattle.std.proofs.Common.{◌≡◌, ℕ, List, None, Some, true, subst, inl, inr}
use Rattle.std.specs.Prelude.{◌↔◌, IsTrue}
use Rattle.model_cred.specs.Process.{Process, State, process_at}
use Rattle.model_box.specs.Row.{Part}
use Rattle.cm_box_rows.specs.Members.{MemberGives, MemberHeld}
use Rattle.cm_box_rows.specs.Rows.{AreSameRows, InEitherRow}
use Rattle.cm_box_rows.proofs.Tests.{yes}

-- a row to which nothing comes is as it was
pub nothing_more : (row Added : Part → ℕ → Type 0) → ((part : Part) (x : ℕ) → Added part x → ⊥)
    → AreSameRows row (InEitherRow row Added)
nothing_more row Added none part x = (
  λ held. inl held,
  λ either. elim either [ inl held ↦ held | inr added ↦ absurd (none part x added) ],
)

module _ (s : State) (n pid : ℕ) (row : Part → ℕ → Type 0) where
  gone : (list : List Process) → list ≡ s.processes → process_at list pid ≡ None
      → (p : Process) → process_at s.processes pid ≡ Some p → ⊥
  gone list same none p at =
      let here : process_at s.processes pid ≡ None = subst (λ (l : List Process). process_at l pid ≡ None) same none in
      cc

  pub gives_none : (list : List Process) → list ≡ s.processes → process_at list pid ≡ None
      → AreSameRows row (InEitherRow row (MemberGives s n pid))
  gives_none list same none = nothing_more row (MemberGives s n pid) (λ part x gives. gone list same none gives.0 gives.1)

  pub held_none : (list : List Process) → list ≡ s.processes → process_at list pid ≡ None
      → IsTrue true ↔ MemberHeld s n row pid
  held_none list same none = yes (MemberHeld s n row pid) (λ p at here. absurd (gone list same none p at))

  away : (q p : Process) → process_at s.processes pid ≡ Some q → p ≡ q → (p.space ≡ n → ⊥)
      → (r : Process) → process_at s.processes pid ≡ Some r → r.space ≡ n → ⊥
  away q p found same other r at here =
      let one : r ≡ p = cc in
      other (subst (λ (t : Process). t.space ≡ n) one here)

  pub gives_elsewhere : (q p : Process) → process_at s.processes pid ≡ Some q → p ≡ q → (p.space ≡ n → ⊥)
      → AreSameRows row (InEitherRow row (MemberGives s n pid))
  gives_elsewhere q p found same other =
      nothing_more row (MemberGives s n pid) (λ part x gives. away q p found same other gives.0 gives.1 gives.2)

  pub held_elsewhere : (q p : Process) → process_at s.processes pid ≡ Some q → p ≡ q → (p.space ≡ n → ⊥)
      → IsTrue true ↔ MemberHeld s n row pid
  held_elsewhere q p found same other =
      yes (MemberHeld s n row pid) (λ r at here. absurd (away q p found same other r at here))
