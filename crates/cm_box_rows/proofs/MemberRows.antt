-- A row with one member more, from the first member to the last.
use Rattle.std.proofs.Common.{◌≡◌, ℕ, ◌+◌, ◌<◌, ◌≤◌, ◌==◌, ◌||◌, Bool, List, Some, length, get_or, take, refl, sym, ap}
use Rattle.std.proofs.Common.{subst, ◌∙◌, inl, inr}
use Rattle.std.specs.Prelude.{◌↔◌, IsTrue}
use Rattle.std.proofs.lemmas.Bool.{or_cases, or_left, or_right, eqb-true, eq-eqb}
use Rattle.std.proofs.lemmas.List.{take_all}
use Rattle.std.proofs.lemmas.List.Folds.{list_any_more}
use Rattle.model_cred.specs.Process.{Process, State, process_at}
use Rattle.model_run.specs.Later.{is_member}
use Rattle.model_box.specs.Row.{Part, CredHas, Standing}
use Rattle.model_box.specs.Start.{StartHas}
use Rattle.cm_box_rows.specs.Members.{MemberGives, MemberHeld}
use Rattle.cm_box_rows.specs.Rows.{HoldsAll, AreSameRows, InEitherRow}

module _ (s : State) (n pid : ℕ) where
  pub gives_here : (p : Process) → process_at s.processes pid ≡ Some p → p.space ≡ n
      → AreSameRows (CredHas p.cred) (MemberGives s n pid)
  gives_here p is here part x = (
    λ has. (p, is, here, has),
    λ gives. let one : gives.0 ≡ p = (let at = gives.1 in cc) in subst (λ (r : Process). CredHas r.cred part x) one
        gives.3,
  )

pub row_joined : (both row more Gives : Part → ℕ → Type 0) → AreSameRows both (InEitherRow row more)
    → AreSameRows more Gives → AreSameRows both (InEitherRow row Gives)
row_joined both row more Gives joined same part x = (
  λ held. elim ((joined part x).0 held) [ inl a ↦ inl a | inr b ↦ inr ((same part x).0 b) ],
  λ either. (joined part x).1 (elim either [ inl a ↦ inl a | inr b ↦ inr ((same part x).1 b) ]),
)

-- the test of its credentials is the test of the member
pub member_told : (s : State) (n pid : ℕ) (row : Part → ℕ → Type 0) (q p : Process) (b : Bool)
    → process_at s.processes pid ≡ Some q → p ≡ q → p.space ≡ n
    → IsTrue b ↔ HoldsAll row (CredHas p.cred) → IsTrue b ↔ MemberHeld s n row pid
member_told s n pid row q p b found same here told = (
  λ is r at there. let one : p ≡ r = cc in subst (λ (t : Process). HoldsAll row (CredHas t.cred)) one (told.0 is),
  λ held. told.1 (held p (found ∙ ap (λ (t : Process). Some t) (sym same)) here),
)

-- and what they put into a row is what the member gives
pub member_joined : (s : State) (n pid : ℕ) (q p : Process) (both row more : Part → ℕ → Type 0)
    → process_at s.processes pid ≡ Some q → p ≡ q → p.space ≡ n
    → AreSameRows more (CredHas p.cred) → AreSameRows both (InEitherRow row more)
    → AreSameRows both (InEitherRow row (MemberGives s n pid))
member_joined s n pid q p both row more found same here gives joined =
    row_joined both row more (MemberGives s n pid) joined (λ part x. (
      λ has. (p, found ∙ ap (λ (t : Process). Some t) (sym same), here, (gives part x).0 has),
      λ has. (gives part x).1 (((gives_here s n pid p (found ∙ ap (λ (t : Process). Some t) (sym same)) here) part x).1
          has),
    ))

pub member_more : (s : State) (members : List ℕ) (k n pid : ℕ) (row next : Part → ℕ → Type 0) → k < length members
    → pid ≡ get_or members k pid
    → AreSameRows row (StartHas s (take k members) (Standing n))
    → AreSameRows next (InEitherRow row (MemberGives s n pid))
    → AreSameRows next (StartHas s (take (k + 1) members) (Standing n))
member_more s members k n pid row next low is so_far joined part x = (to, from) where
  more : (q : ℕ) → is_member (take (k + 1) members) q ≡ (is_member (take k members) q || (pid == q))
  more q = list_any_more (λ m. m == q) members k pid low ∙ ap (λ (m : ℕ). is_member (take k members) q || (m == q))
      (sym is)

  to : next part x → StartHas s (take (k + 1) members) (Standing n) part x
  to held = elim ((joined part x).0 held) [
    | inl here ↦ elim ((so_far part x).0 here) [
      | inl (q, p, member, at, same, has) ↦ inl (
        q,
        p,
        more q ∙ or_left (is_member (take k members) q) (pid == q)
            member,
        at,
        same,
        has,
      )
      | inr maps ↦ inr maps
    ]
    | inr (p, at, same, has) ↦ inl (
      pid,
      p,
      more pid ∙ or_right (is_member (take k members) pid) (pid == pid)
          (eq-eqb pid pid refl),
      at,
      same,
      has,
    )
  ]

  from : StartHas s (take (k + 1) members) (Standing n) part x → next part x
  from has = (joined part x).1 (elim has [
    | inr maps ↦ inl ((so_far part x).1 (inr maps))
    | inl (q, p, member, at, same, has) ↦ elim (or_cases (is_member (take k members) q) (pid == q)
        (sym (more q) ∙ member)) [
          | inl old ↦ inl ((so_far part x).1 (inl (q, p, old, at, same, has)))
          | inr new ↦ inr (p, rw (eqb-true pid q new) at, same, has)
        ]
  ])

pub all_members : (s : State) (members : List ℕ) (k n : ℕ) (row : Part → ℕ → Type 0) → length members ≤ k
    → AreSameRows row (StartHas s (take k members) (Standing n)) → AreSameRows row (StartHas s members (Standing n))
all_members s members k n row past same = subst (λ (ms : List ℕ). AreSameRows row (StartHas s ms (Standing n)))
    (take_all k members past) same
