-- The table of the drill (choice): sixteen calls, with what is drawn for each.
use Rattle.std.specs.Prelude.{ℕ, ◌%◌, nat_lt, length, get_or, List, [], ◌∷◌, if◌then◌else◌}
use Rattle.cm_base.specs.Limits.{minus_one}
use Rattle.cm_base.specs.declared.res.FileRef.TheVariants.{Row as TheRow, Plain}
use Rattle.model_cred.specs.Call.{Call, SetResUid, SetReUid, SetUid, SetFsUid, SetResGid, SetGroups, CapSet, BsetDrop}
use Rattle.model_cred.specs.Call.{AmbRaise, KeepCaps, SecureBits, NoNewPrivs, Fork, Unshare, WriteUidMap, Exec, Exit}
use Rattle.model_cred.specs.Process.{Process, State}

-- A row: how many items are drawn for its call, and the call that the process makes in the state, where the draw of each
-- place, from 0 on, gives this.
pub record DrillRow : Type 0 where
  pub draws : ℕ
  pub call : State → Process → (ℕ → ℕ) → Call

-- the row of so many items
abbrev pub row : ℕ → (State → Process → (ℕ → ℕ) → Call) → DrillRow
row draws call = record { draws = draws; call = call }

-- ---- items
-- the id that a draw stands for: -1, 0, 1000 or 1001
abbrev pub id_drawn : ℕ → ℕ
id_drawn draw = get_or (minus_one ∷ 0 ∷ 1000 ∷ 1001 ∷ []) (draw % 4) 0

-- the groups that a draw stands for: none, 10, or 10 and 11
abbrev pub groups_drawn : ℕ → List ℕ
groups_drawn draw = get_or ([] ∷ (10 ∷ []) ∷ (10 ∷ 11 ∷ []) ∷ []) (draw % 3) []

-- ---- the calls that go by how many live and how many spaces stand
-- so many processes live at most, and so many spaces stand at most
abbrev pub most : ℕ
most = 16

-- a birth where there is room, else an exit
abbrev pub fork_or_exit : State → Call
fork_or_exit s = if nat_lt (length s.processes) most then Fork else Exit

-- a new space where there is room, else no_new_privs
abbrev pub unshare_or_bar : State → Call
unshare_or_bar s = if nat_lt (length s.spaces) most then Unshare else NoNewPrivs 1

-- an exit where another process lives, else an execve of the plain file
abbrev pub exit_or_run : State → Call
exit_or_run s = if nat_lt 1 (length s.processes) then Exit else Exec Plain

-- ---- the table
-- capset makes what is permitted effective, and leaves the other sets; the map of the caller's space takes its 0 to 1000;
-- row 0 of the files is the set-user-ID program.
unfoldable pub table : List DrillRow
table =
    row 3 (λ s p d. SetResUid (id_drawn (d 0)) (id_drawn (d 1)) (id_drawn (d 2)))
    ∷ row 2 (λ s p d. SetReUid (id_drawn (d 0)) (id_drawn (d 1)))
    ∷ row 1 (λ s p d. SetUid (id_drawn (d 0)))
    ∷ row 1 (λ s p d. SetFsUid (id_drawn (d 0)))
    ∷ row 3 (λ s p d. SetResGid (id_drawn (d 0)) (id_drawn (d 1)) (id_drawn (d 2)))
    ∷ row 1 (λ s p d. SetGroups (groups_drawn (d 0)))
    ∷ row 0 (λ s p d. CapSet p.cred.permitted p.cred.permitted p.cred.inheritable)
    ∷ row 1 (λ s p d. BsetDrop (d 0 % 42))
    ∷ row 1 (λ s p d. AmbRaise (d 0 % 42))
    ∷ row 1 (λ s p d. KeepCaps (d 0 % 2))
    ∷ row 1 (λ s p d. SecureBits (d 0 % 256))
    ∷ row 0 (λ s p d. fork_or_exit s)
    ∷ row 0 (λ s p d. unshare_or_bar s)
    ∷ row 0 (λ s p d. WriteUidMap p.space (record { inside = 0; outside = 1000; length = 1 } ∷ []))
    ∷ row 0 (λ s p d. Exec (TheRow 0))
    ∷ row 0 (λ s p d. exit_or_run s) ∷ []

-- the row of that number, from 0 on (past the last one the last one)
abbrev pub row_at : ℕ → DrillRow
row_at n = get_or table n (row 0 (λ s p d. exit_or_run s))

-- the row that a draw stands for
abbrev pub row_drawn : ℕ → DrillRow
row_drawn draw = row_at (draw % 16)
