-- The rules on programs at one row, and rows that hold capabilities alone.
use Rattle.std.proofs.Common.{ℕ, Bool}
use Rattle.std.specs.Prelude.{◌↔◌, IsTrue}
use Rattle.std.proofs.lemmas.Bool.{and_parts, and_from}
use Rattle.cm_sets.specs.Sets.{AreSame}
use Rattle.model_cred.specs.Files.{FileTable}
use Rattle.model_cred.specs.Space.{Spaces}
use Rattle.model_box.specs.Closed.{OwnerByFile, GroupByFile, OnlyCaps}
use Rattle.model_box.specs.Row.{Part, PermittedCaps}
use Rattle.cm_box_rows.specs.declared.kind.IdKind.{IdKind}
use Rattle.cm_box_rows.specs.declared.kind.IdKind.TheVariants.{Users}
use Rattle.cm_box_rows.specs.declared.kind.IdKind.TheVariants as kinds
use Rattle.cm_box_rows.specs.Kinds.{SpreadsId}
use Rattle.cm_box_rows.specs.Programs.{GivenByFile}
use Rattle.cm_box_rows.specs.Rows.{HoldsAll}
use Rattle.cm_box_rows.proofs.IdKinds.{spread_same}

module _ (files : FileTable) (spaces : Spaces) (n : ℕ) (row : Part → ℕ → Type 0) where
  -- the ids of one kind that programs give, as the definitions name them
  abbrev pub ByFile : IdKind → ℕ → Type 0
  ByFile Users = OwnerByFile files spaces n row
  ByFile kinds.Groups = GroupByFile files spaces n row

  pub by_file : (kind : IdKind) → AreSame (GivenByFile kind files spaces n row) (ByFile kind)
  by_file Users x = (
    λ given. (given.0, given.1.0, given.1.1.0, given.1.1.1, given.1.1.2.0, given.1.1.2.1),
    λ by. (by.0, (by.1, (by.2, by.3, (by.4, by.5)))),
  )
  by_file kinds.Groups x = (
    λ given. let bits = and_parts _ _ given.1.1.2.0 in
        (given.0, given.1.0, given.1.1.0, given.1.1.1, bits.0, bits.1, given.1.1.2.1),
    λ by. (by.0, (by.1, (by.2, by.3, (and_from _ _ by.4 by.5, by.6)))),
  )

  -- a test of what they add
  pub by_file_told : (kind : IdKind) (b : Bool)
      → IsTrue b ↔ HoldsAll row (SpreadsId kind row (GivenByFile kind files spaces n row))
      → IsTrue b ↔ HoldsAll row (SpreadsId kind row (ByFile kind))
  by_file_told kind b told = (
    λ is part x has. told.0 is part x ((same part x).1 has),
    λ all. told.1 (λ part x has. all part x ((same part x).0 has)),
  ) where
    same : (part : Part) (x : ℕ) → SpreadsId kind row (GivenByFile kind files spaces n row) part x
        ↔ SpreadsId kind row (ByFile kind) part x
    same = spread_same row kind (GivenByFile kind files spaces n row) (ByFile kind)
        (SpreadsId kind row (GivenByFile kind files spaces n row)) (by_file kind)
        (λ part x. (λ has. has, λ has. has))

-- a row holds capabilities alone where its permitted set does
pub only_caps_held : (row : Part → ℕ → Type 0) (Set : ℕ → Type 0) (b : Bool)
    → IsTrue b ↔ ((x : ℕ) → Set x → row PermittedCaps x)
    → IsTrue b ↔ HoldsAll row (OnlyCaps Set)
only_caps_held row Set b told = (λ is. to (told.0 is), λ all. told.1 (λ x has. all PermittedCaps x has)) where
  to : ((x : ℕ) → Set x → row PermittedCaps x) → HoldsAll row (OnlyCaps Set)
  to held PermittedCaps x has = held x has
  to held _ x none = absurd none
