-- The cells of a family's members after a call.
use Rattle.std.proofs.Common.{◌≡◌, ℕ, Bool, true, false, not, List, [], ◌∷◌, refl, sym, ap, ◌∙◌, eqb}
use Rattle.std.specs.Prelude.{IsTrue, filter}
use Rattle.std.proofs.lemmas.Bool.{false≢true, eqb-true, eq-eqb, ne_eqb}
use Rattle.cm_base.specs.declared.errno.Errno.{Errno}
use Rattle.cm_base.specs.declared.res.Res.{Res}
use Rattle.cm_base.specs.declared.res.Res.TheVariants.{Done, Child, Err}
use Rattle.cm_filter.specs.declared.kind.CallKind.TheVariants as kind
use Rattle.model_cred.specs.Call.{Call, Exit, kind_of}
use Rattle.model_cred.specs.Process.{Process, is_alive}
use Rattle.model_run.specs.Step.{is_living_child}
use Rattle.model_run.specs.Same.{same_res}
use Rattle.model_run.specs.Outside.{comes_from_outside}
use Rattle.model_box.specs.Parting.{InCell, cell_of, parting_with, parting_without, parting_after}
use Rattle.model_box.proofs.Writing.{choose}

-- the first entry is the pid's
cell_here : (entry : InCell) (parting : List InCell) (q : ℕ) → eqb entry.pid q ≡ true → cell_of (entry ∷ parting) q ≡ entry.cell
cell_here entry parting q same = rw same

cell_below : (entry : InCell) (parting : List InCell) (q : ℕ) → eqb entry.pid q ≡ false → cell_of (entry ∷ parting) q ≡ cell_of parting q
cell_below entry parting q other = rw other

-- another's entries may go
cell_without : (parting : List InCell) (gone q : ℕ) → (q ≡ gone → ⊥)
    → cell_of (filter (λ entry. not (eqb entry.pid gone)) parting) q ≡ cell_of parting q
cell_without [] gone q other = refl
cell_without (entry ∷ parting) gone q other =
    choose (λ (kept : List InCell). cell_of kept q ≡ cell_of (entry ∷ parting) q)
    (not (eqb entry.pid gone)) (entry ∷ filter (λ entry. not (eqb entry.pid gone)) parting) (filter (λ entry. not (eqb entry.pid gone)) parting)
    (λ _. stays (eqb entry.pid q) refl (cell_without parting gone q other))
    (λ goes. cell_without parting gone q other ∙ sym (cell_below entry parting q (apart (is_gone (eqb entry.pid gone) refl goes)))) where
      stays : (b : Bool) → eqb entry.pid q ≡ b
          → cell_of (filter (λ entry. not (eqb entry.pid gone)) parting) q ≡ cell_of parting q
          → cell_of (entry ∷ filter (λ entry. not (eqb entry.pid gone)) parting) q ≡ cell_of (entry ∷ parting) q
      stays true here rest =
          cell_here entry (filter (λ entry. not (eqb entry.pid gone)) parting) q here ∙ sym (cell_here entry parting q here)
      stays false there rest =
          cell_below entry (filter (λ entry. not (eqb entry.pid gone)) parting) q there ∙ rest ∙ sym (cell_below entry parting q there)

      is_gone : (b : Bool) → eqb entry.pid gone ≡ b → not b ≡ false → entry.pid ≡ gone
      is_gone true here goes = eqb-true entry.pid gone here
      is_gone false there goes = absurd (false≢true (sym goes))

      apart : entry.pid ≡ gone → eqb entry.pid q ≡ false
      apart same = ne_eqb entry.pid q (λ is. other (sym is ∙ same))

-- who lived before a birth isn't the child
cell_with : (ps : List Process) (parting : List InCell) (caller q : ℕ) (res : Res) → is_living_child ps res ≡ false
    → IsTrue (is_alive ps q) → cell_of (parting_with parting caller res) q ≡ cell_of parting q
cell_with ps parting caller q (Child k) free alive =
    cell_below (record { pid = k; cell = cell_of parting caller }) parting q
    (ne_eqb k q (λ same. false≢true (sym free ∙ ap (is_alive ps) same ∙ alive)))
cell_with ps parting caller q _ free alive = refl

without_cell : (parting : List InCell) (caller q : ℕ) (res : Res) → (res ≡ Done → q ≡ caller → ⊥)
    → cell_of (parting_without parting caller res) q ≡ cell_of parting q
without_cell parting caller q Done stays = cell_without parting caller q (stays refl)
without_cell parting caller q _ stays = refl

-- Who lives before and after a call keeps its cell.
pub cell_stays : (ps : List Process) (parting : List InCell) (caller q : ℕ) (call : Call) (res : Res) → is_living_child ps res ≡ false
    → IsTrue (is_alive ps q) → (kind_of call ≡ kind.Exit → res ≡ Done → q ≡ caller → ⊥)
    → cell_of (parting_after parting caller call res) q ≡ cell_of parting q
cell_stays ps parting caller q Exit res free alive stays = without_cell parting caller q res (stays refl)
cell_stays ps parting caller q call res free alive stays = cell_with ps parting caller q res free alive

-- A child has its parent's cell.
pub cell_born : (parting : List InCell) (caller k : ℕ) → cell_of (parting_with parting caller (Child k)) k ≡ cell_of parting caller
cell_born parting caller k = cell_here (record { pid = k; cell = cell_of parting caller }) parting k (eq-eqb k k refl)

-- ---- results
pub is_child : (res : Res) (k : ℕ) → IsTrue (same_res res (Child k)) → res ≡ Child k
is_child (Child j) k same = ap Child (eqb-true j k same)
is_child _ k wrong = absurd (false≢true wrong)

-- an error ends no process
pub no_end : (res : Res) (e : Errno) → IsTrue (same_res res (Err e)) → res ≡ Done → ⊥
no_end Done e wrong is = false≢true wrong
no_end _ e wrong is = cc

pub outside_ends_none : (call : Call) (res : Res) → comes_from_outside call res ≡ true → res ≡ Done → ⊥
outside_ends_none call Done wrong is = false≢true wrong
outside_ends_none call _ same is = cc
