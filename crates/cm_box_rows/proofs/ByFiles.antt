-- The ids and the capabilities that programs give: those of the table's rows, and none past its end.
use Rattle.std.proofs.Common.{◌≡◌, ◌∙◌, ℕ, ◌<◌, ◌≤◌, Bool, true, false, List, Option, None, Some, length, refl, inl, inr, arith, sym, subst}
use Rattle.std.specs.Prelude.{◌↔◌, IsTrue, is_none}
use Rattle.std.proofs.lemmas.Bool.{cases_lt, false≢true}
use Rattle.cm_sets.specs.Sets.{IsWithin}
use Rattle.model_cred.specs.Files.{FileTable}
use Rattle.model_cred.specs.Space.{Spaces}
use Rattle.model_rules.specs.FileView.{FileView, plain_view, view}
use Rattle.model_box.specs.Closed.{CapByFile}
use Rattle.model_box.specs.Bounds.{BoxRow, row_has, row_in}
use Rattle.model_box.specs.Files.{FileGives, TakesCan}
use Rattle.model_box.specs.Row.{Part, Row, PermittedCaps, row_number}
use Rattle.model_box.proofs.Views.{view_past}
use Rattle.cm_box_rows.specs.declared.kind.IdKind.{IdKind}
use Rattle.cm_box_rows.specs.declared.kind.IdKind.TheVariants.{Users}
use Rattle.cm_box_rows.specs.declared.kind.IdKind.TheVariants as kinds
use Rattle.cm_box_rows.specs.Programs.{has_id_bit, StandsFor, Given, IdGiven, GivenByFile, AttributeCan, CapGiven}
use Rattle.cm_box_rows.specs.Rows.{RowHolds, RowsHold}
use Rattle.cm_box_rows.proofs.Gathered.{GivenBelow, gathered_all}

-- a set-id bit stands for an id only where it is set
pub id_bit_set : (kind : IdKind) (f : FileView) (x : ℕ) → StandsFor kind f x → IsTrue (has_id_bit kind f)
id_bit_set Users f x stands = stands.0
id_bit_set kinds.Groups f x stands = stands.0

-- a plain file gives no id
none_given : (kind : IdKind) (spaces : Spaces) (n : ℕ) (row : Part → ℕ → Type 0) (x : ℕ)
    → Given kind spaces n row plain_view x → ⊥
none_given Users spaces n row x given = given.1.2
none_given kinds.Groups spaces n row x given = given.1.2

module _ (kind : IdKind) (files : FileTable) (spaces : Spaces) (n : ℕ) (row : Part → ℕ → Type 0) where
  no_id : (k x : ℕ) → length files.rows ≤ k → IdGiven kind files spaces n row k x → ⊥
  no_id k x past given = none_given kind spaces n row x (rw (view_past files k past) at given.1)

  -- a file without the set-id bit gives none
  pub none_without_bit : (k x : ℕ) → has_id_bit kind (view files k) ≡ false
      → IdGiven kind files spaces n row k x → ⊥
  none_without_bit k x out given = false≢true (sym out ∙ id_bit_set kind (view files k) x given.1.2)

  -- a set that holds what each of the table's rows gives holds what programs give
  pub each_id : (Set : ℕ → Type 0) (end : ℕ) → length files.rows ≤ end
      → ((k : ℕ) → k < end → IsWithin (IdGiven kind files spaces n row k) Set)
      → IsWithin (GivenByFile kind files spaces n row) Set
  each_id Set end all each x by = elim (cases_lt by.0 end) [
    | inl low ↦ each by.0 low x by.1
    | inr past ↦ absurd (no_id by.0 x (omega arith) by.1)
  ]

  -- the ids that were gathered from the table's rows are those that programs give
  pub all_ids : (Set : ℕ → Type 0) (end : ℕ) → length files.rows ≤ end
      → ((x : ℕ) → Set x ↔ GivenBelow (IdGiven kind files spaces n row) end x)
      → (x : ℕ) → Set x ↔ GivenByFile kind files spaces n row x
  all_ids Set end all so_far =
      gathered_all (IdGiven kind files spaces n row) Set end so_far (λ k y past. no_id k y (omega arith))

module _ (files : FileTable) (spaces : Spaces) (bounds : Row → Part → ℕ → Type 0) (row : Row) where
  -- a plain file's attribute takes no effect
  none_taken : TakesCan spaces bounds row plain_view → ⊥
  none_taken takes = false≢true takes.1

  no_cap : (k x : ℕ) → length files.rows ≤ k → CapGiven files spaces bounds row k x → ⊥
  no_cap k x past given = none_taken (rw (view_past files k past) at given.0.2)

  -- the capabilities that were gathered from the table's rows are those that programs bring
  pub all_caps : (Set : ℕ → Type 0) (n : ℕ) → length files.rows ≤ n
      → ((x : ℕ) → Set x ↔ GivenBelow (CapGiven files spaces bounds row) n x)
      → (x : ℕ) → Set x ↔ CapByFile files spaces bounds row x
  all_caps Set n all so_far x = (to, from) where
    gathered : Set x ↔ ((k : ℕ) × CapGiven files spaces bounds row k x)
    gathered =
        gathered_all (CapGiven files spaces bounds row) Set n so_far (λ k y past. no_cap k y (omega arith)) x

    to : Set x → CapByFile files spaces bounds row x
    to has =
        let given : (k : ℕ) × CapGiven files spaces bounds row k x = gathered.0 has in
        (given.0, given.1.0.0, given.1.0.1, given.1.0.2, given.1.1)

    from : CapByFile files spaces bounds row x → Set x
    from by = gathered.1 (by.0, ((by.1, by.2, by.3), by.4))

  -- a set that holds what each of the table's rows brings holds what programs bring
  pub each_cap : (Set : ℕ → Type 0) (n : ℕ) → length files.rows ≤ n
      → ((k : ℕ) → k < n → (x : ℕ) → CapGiven files spaces bounds row k x → Set x)
      → (x : ℕ) → CapByFile files spaces bounds row x → Set x
  each_cap Set n all each x by = elim (cases_lt by.0 n) [
    | inl low ↦ each by.0 low x ((by.1, by.2, by.3), by.4)
    | inr past ↦ absurd (no_cap by.0 x (omega arith) ((by.1, by.2, by.3), by.4))
  ]

-- a row of bounds, and a file of the table
module _ (rows : List BoxRow) (row : Row) (r : BoxRow) (r_is : r ≡ row_in rows (row_number row)) where
  caps_there : (x : ℕ) → RowHolds r PermittedCaps x ↔ RowsHold rows row PermittedCaps x
  caps_there x = (
    λ held. subst (λ (s : BoxRow). RowHolds s PermittedCaps x) r_is held,
    λ held. subst (λ (s : BoxRow). RowHolds s PermittedCaps x) (sym r_is) held,
  )

  module _ (files : FileTable) (k : ℕ) (f : FileView) (f_is : f ≡ view files k) where
    gives_there : (x : ℕ) → FileGives (RowHolds r) f x → FileGives (RowsHold rows row) (view files k) x
    gives_there x gives =
        let here : FileGives (RowsHold rows row) f x = subst (λ (s : BoxRow). FileGives (RowHolds s) f x) r_is gives in
        subst (λ (v : FileView). FileGives (RowsHold rows row) v x) f_is here

    gives_here : (x : ℕ) → FileGives (RowsHold rows row) (view files k) x → FileGives (RowHolds r) f x
    gives_here x gives =
        let here : FileGives (RowHolds r) (view files k) x =
        subst (λ (s : BoxRow). FileGives (RowHolds s) (view files k) x) (sym r_is) gives in
        subst (λ (v : FileView). FileGives (RowHolds r) v x) (sym f_is) here

    -- where its attribute can take effect, it brings what its sets can
    module _ (spaces : Spaces) (can : AttributeCan files spaces (RowsHold rows) row k) where
      pub cap_here : (x : ℕ) → FileGives (RowHolds r) f x ↔ CapGiven files spaces (RowsHold rows) row k x
      cap_here x = (λ gives. (can, gives_there x gives), λ given. gives_here x given.1)

      pub caps_here : ((x : ℕ) → FileGives (RowHolds r) f x → RowHolds r PermittedCaps x)
          ↔ ((x : ℕ) → CapGiven files spaces (RowsHold rows) row k x → RowsHold rows row PermittedCaps x)
      caps_here = (
        λ held x given. (caps_there x).0 (held x ((cap_here x).1 given)),
        λ held x gives. (caps_there x).1 (held x ((cap_here x).0 gives)),
      )

-- no id is given that a row lacks: the row holds those that are given
pub none_lacking : (row : BoxRow) (part : Part) (Gives : ℕ → Type 0) (o : Option ℕ)
    → ((x : ℕ) → (o ≡ Some x) ↔ (Gives x × (RowHolds row part x → ⊥))) → IsTrue (is_none o) ↔ IsWithin Gives (RowHolds row part)
none_lacking row part Gives None told = (λ is x gives. by x (row_has row part x) refl gives, λ within. refl) where
  by : (x : ℕ) (b : Bool) → row_has row part x ≡ b → Gives x → RowHolds row part x
  by x true is gives = is
  by x false is gives =
      let wrong : None ≡ Some x = (told x).1 (gives, λ held. false≢true (sym is ∙ held)) in
      absurd (cc)
none_lacking row part Gives (Some y) told = (
  λ wrong. absurd (false≢true wrong),
  λ within. let both : Gives y × (RowHolds row part y → ⊥) = (told y).0 refl in absurd (both.1 (within y both.0)),
)

-- a set-id bit stands for one id
pub one_stands : (kind : IdKind) (f : FileView) (o : Option ℕ) → ((x : ℕ) → (o ≡ Some x) ↔ StandsFor kind f x) → (x y : ℕ) → o ≡ Some y
    → StandsFor kind f x → x ≡ y
one_stands kind f o told x y is stands =
    let at : o ≡ Some x = (told x).1 stands in
    let same : Some x ≡ Some y = sym at ∙ is in
    cc
