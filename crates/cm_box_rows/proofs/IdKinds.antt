-- What members gain of the ids of one kind, whichever it is.
use Rattle.std.proofs.Common.{ℕ, Bool, false, inl, inr}
use Rattle.std.specs.Prelude.{◌↔◌, ◌⊎◌, IsTrue, List, []}
use Rattle.cm_sets.specs.Sets.{AreSame, IsWithin, InEither}
use Rattle.cm_idset.specs.Held.{Held}
use Rattle.model_cred.specs.Intervals.{Interval}
use Rattle.model_box.specs.Row.{Part, Uids, EffectiveUids, FsUids, Gids, EffectiveGids, FsGids}
use Rattle.cm_box_rows.specs.declared.kind.IdKind.{IdKind}
use Rattle.cm_box_rows.specs.declared.kind.IdKind.TheVariants.{Users}
use Rattle.cm_box_rows.specs.declared.kind.IdKind.TheVariants as kinds
use Rattle.cm_box_rows.specs.Kinds.{three, effective, fs, SettableId, SpreadsId, GainsFsId, id_row}
use Rattle.cm_box_rows.specs.Rows.{RowHolds, HoldsAll, AreSameRows}
use Rattle.cm_box_rows.proofs.RowParts.{nothing}
use Rattle.cm_box_rows.proofs.Tests.{no}

-- new ids come to three parts, and to no other
module _ (row : Part → ℕ → Type 0) (New : ℕ → Type 0) where
  to_effective : (kind : IdKind) (x : ℕ) → New x → SpreadsId kind row New (effective kind) x
  to_effective Users x new = new
  to_effective kinds.Groups x new = new

  to_three : (kind : IdKind) (x : ℕ) → row (effective kind) x ⊎ New x → SpreadsId kind row New (three kind) x
  to_three Users x has = has
  to_three kinds.Groups x has = has

  to_fs : (kind : IdKind) (x : ℕ) → row (effective kind) x ⊎ New x → SpreadsId kind row New (fs kind) x
  to_fs Users x has = has
  to_fs kinds.Groups x has = has

  to_three_parts : (kind : IdKind) (Goal : Part → ℕ → Type 0) → IsWithin New (Goal (effective kind))
      → IsWithin (InEither (row (effective kind)) New) (Goal (three kind))
      → IsWithin (InEither (row (effective kind)) New) (Goal (fs kind))
      → (part : Part) (x : ℕ) → SpreadsId kind row New part x → Goal part x
  to_three_parts Users Goal one two last EffectiveUids x has = one x has
  to_three_parts Users Goal one two last Uids x has = two x has
  to_three_parts Users Goal one two last FsUids x has = last x has
  to_three_parts kinds.Groups Goal one two last EffectiveGids x has = one x has
  to_three_parts kinds.Groups Goal one two last Gids x has = two x has
  to_three_parts kinds.Groups Goal one two last FsGids x has = last x has
  to_three_parts _ Goal one two last _ x none = absurd none

module _ (row : Part → ℕ → Type 0) (kind : IdKind) where
  -- the effective ids are among the other ones
  abbrev pub AreSpread : Type 0
  AreSpread = IsWithin (row (effective kind)) (row (three kind)) × IsWithin (row (effective kind)) (row (fs kind))

  -- where new effective ids are held, and all effective ones are among the real, saved and fs ones, all is held
  spread_all : (New : ℕ → Type 0) → IsWithin New (row (effective kind)) → AreSpread
      → HoldsAll row (SpreadsId kind row New)
  spread_all New new spread =
      to_three_parts row New kind row new (λ x has. spread.0 x (held x has)) (λ x has. spread.1 x (held x has)) where
        held : IsWithin (InEither (row (effective kind)) New) (row (effective kind))
        held x (inl old) = old
        held x (inr comes) = new x comes

  -- as the answers of tests: the one where new ids are held, the other where they aren't
  pub spread_rest : (New : ℕ → Type 0) (b : Bool) → IsWithin New (row (effective kind)) → IsTrue b ↔ AreSpread
      → IsTrue b ↔ HoldsAll row (SpreadsId kind row New)
  spread_rest New b new told = (
    λ is. spread_all New new (told.0 is),
    λ all. told.1 (
      λ x old. all (three kind) x (to_three row New kind x (inl old)),
      λ x old. all (fs kind) x (to_fs row New kind x (inl old)),
    ),
  )

  pub spread_not : (New : ℕ → Type 0) → ¬ IsWithin New (row (effective kind))
      → IsTrue false ↔ HoldsAll row (SpreadsId kind row New)
  spread_not New out =
      no (HoldsAll row (SpreadsId kind row New)) (λ all. out (λ x new. all (effective kind) x (to_effective row New kind x new)))

  -- more new ids spread further, and those that are the same the same
  pub spread_more : (Set New : ℕ → Type 0) → IsWithin Set New → (part : Part) (x : ℕ)
      → SpreadsId kind row Set part x → SpreadsId kind row New part x
  spread_more Set New more =
      to_three_parts row Set kind (SpreadsId kind row New) (λ x has. to_effective row New kind x (more x has))
      (λ x has. to_three row New kind x (also x has)) (λ x has. to_fs row New kind x (also x has)) where
        also : IsWithin (InEither (row (effective kind)) Set) (InEither (row (effective kind)) New)
        also x (inl old) = inl old
        also x (inr comes) = inr (more x comes)

  pub spread_same : (Set New : ℕ → Type 0) (gained : Part → ℕ → Type 0) → AreSame Set New
      → AreSameRows gained (SpreadsId kind row Set) → AreSameRows gained (SpreadsId kind row New)
  spread_same Set New gained same is part x = (
    λ has. spread_more Set New (λ y. (same y).0) part x ((is part x).0 has),
    λ has. (is part x).1 (spread_more New Set (λ y. (same y).1) part x has),
  )

module _ (row : Part → ℕ → Type 0) where
  -- what comes to the fs ids alone is held where they hold it
  pub fs_held : (kind : IdKind) → IsWithin (SettableId kind row) (row (fs kind)) ↔ HoldsAll row (GainsFsId kind row)
  fs_held Users = (to, λ all x new. all FsUids x new) where
    to : IsWithin (SettableId Users row) (row FsUids) → HoldsAll row (GainsFsId Users row)
    to held FsUids x new = held x new
    to held _ x none = absurd none
  fs_held kinds.Groups = (to, λ all x new. all FsGids x new) where
    to : IsWithin (SettableId kinds.Groups row) (row FsGids) → HoldsAll row (GainsFsId kinds.Groups row)
    to held FsGids x new = held x new
    to held _ x none = absurd none

  -- a row of three sets of ids, of the new effective ids and those besides
  pub spread_row : (kind : IdKind) (ids now last : List Interval) (New : ℕ → Type 0)
      → AreSame (Held ids) (InEither (row (effective kind)) New) → AreSame (Held now) New
      → AreSame (Held last) (InEither (row (effective kind)) New)
      → AreSameRows (RowHolds (id_row kind ids now last)) (SpreadsId kind row New)
  spread_row Users ids now last New two one other Uids x = two x
  spread_row Users ids now last New two one other EffectiveUids x = one x
  spread_row Users ids now last New two one other FsUids x = other x
  spread_row kinds.Groups ids now last New two one other Gids x = two x
  spread_row kinds.Groups ids now last New two one other EffectiveGids x = one x
  spread_row kinds.Groups ids now last New two one other FsGids x = other x
  spread_row _ ids now last New two one other part x = nothing part x

  -- a row of fs ids alone
  pub fs_row : (kind : IdKind) (last : List Interval) → AreSame (Held last) (SettableId kind row)
      → AreSameRows (RowHolds (id_row kind [] [] last)) (GainsFsId kind row)
  fs_row Users last same FsUids x = same x
  fs_row kinds.Groups last same FsGids x = same x
  fs_row _ last same part x = nothing part x

-- a bound as a set that holds the same
pub within_same : (Set One Other : ℕ → Type 0) → AreSame One Other → IsWithin Set One ↔ IsWithin Set Other
within_same Set One Other same = (
  λ within x has. (same x).0 (within x has),
  λ within x has. (same x).1 (within x has),
)
