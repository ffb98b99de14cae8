-- What comes to a row from another, test by test.
use Rattle.std.proofs.Common.{◌≡◌, ℕ, ◌==◌, ◌∷◌, Bool, true, false, not, Some, None, refl, inl, inr}
use Rattle.std.specs.Prelude.{◌↔◌, ◌⊎◌, IsTrue, Result, Ok, Err}
use Rattle.cm_base.specs.Outcome.{OrNoMemory}
use Rattle.std.proofs.lemmas.Bool.{false≢true, and_parts, and_from, eqb-true, eq-eqb, not-true, not_from_false}
use Rattle.cm_sets.specs.Sets.{IsWithin, Exceeds}
use Rattle.model_cred.specs.Space.{Space, Spaces, chain, chain_from, space_of}
use Rattle.model_box.specs.Bounds.{BoxRow}
use Rattle.model_box.specs.Row.{Part, NewPrivs, Row, Standing}
use Rattle.model_box.specs.Spread.{Brings}
use Rattle.cm_box_rows.specs.Rows.{HoldsAll, RowHolds, AreSameRows, InEitherRow}
use Rattle.cm_box_rows.specs.Spread.{IdsHeld, FullHeld, CanJoinBy, JoinsHeld, JoinedBy, ByJoiningTo}
use Rattle.cm_box_rows.proofs.Chains.{next_end}
use Rattle.cm_box_rows.proofs.Joining.{brings_held, joins_step, joining_step}
use Rattle.cm_box_rows.proofs.Tests.{no, yes}

-- what a test told
pub refused : (P : Type 0) → IsTrue false ↔ P → ¬ P
refused P told p = false≢true (told.1 p)

pub granted : (P : Type 0) → IsTrue true ↔ P → P
granted P told = told.0 refl

-- what holds of a value that there was memory for
pub of_value : {T E : Type 0} (r : Result T E) (P Q : T → Type 0) → ((x : T) → P x → Q x) → OrNoMemory r P
    → OrNoMemory r Q
of_value (Ok x) P Q more has = more x has
of_value (Err e) P Q more has = has

-- that a member may lack no_new_privs
new_privs_is : (row : BoxRow) (x : ℕ) → ((x ≡ 0) × (row.no_new_privs ≡ false)) ↔ RowHolds row NewPrivs x
new_privs_is row x = (
  λ both. and_from (x == 0) (not row.no_new_privs) (eq-eqb x 0 both.0) (not_from_false row.no_new_privs both.1),
  λ held. let parts =
      and_parts (x == 0) (not row.no_new_privs) held in (eqb-true x 0 parts.0, not-true row.no_new_privs parts.1),
)

pub new_privs_within : (f r from row : BoxRow) → f ≡ from → r ≡ row
    → IsWithin (λ x. (x ≡ 0) × (f.no_new_privs ≡ false)) (λ x. (x ≡ 0) × (r.no_new_privs ≡ false))
    → (x : ℕ) → RowHolds from NewPrivs x → RowHolds row NewPrivs x
new_privs_within f r from row f_is r_is within =
    rw (← f_is, ← r_is) (λ (x : ℕ) (held : RowHolds f NewPrivs x). (new_privs_is r x).0 (within x ((new_privs_is f x).1 held)))

pub new_privs_out : (f r from row : BoxRow) → f ≡ from → r ≡ row
    → Exceeds (λ x. (x ≡ 0) × (f.no_new_privs ≡ false)) (λ x. (x ≡ 0) × (r.no_new_privs ≡ false))
    → ((x : ℕ) → RowHolds from NewPrivs x → RowHolds row NewPrivs x) → ⊥
new_privs_out f r from row f_is r_is out =
    rw (← f_is, ← r_is) (λ (all : (x : ℕ) → RowHolds f NewPrivs x → RowHolds r NewPrivs x).
    out.2 ((new_privs_is r out.0).1 (all out.0 ((new_privs_is f out.0).0 out.1))))

-- ---- newcomers
module _ (from row : Part → ℕ → Type 0) where
  pub brings_not_ids : IsTrue false ↔ IdsHeld from row → IsTrue false ↔ HoldsAll row (Brings from)
  brings_not_ids told =
      no (HoldsAll row (Brings from)) (λ all. refused (IdsHeld from row) told ((brings_held from row).1 all).0)

  pub brings_not_flag : (((x : ℕ) → from NewPrivs x → row NewPrivs x) → ⊥) → IsTrue false ↔ HoldsAll row (Brings from)
  brings_not_flag out = no (HoldsAll row (Brings from)) (λ all. out ((brings_held from row).1 all).1)

  pub brings_rest : (b : Bool) → IsTrue true ↔ IdsHeld from row → ((x : ℕ) → from NewPrivs x → row NewPrivs x)
      → IsTrue b ↔ FullHeld row
      → IsTrue b ↔ HoldsAll row (Brings from)
  brings_rest b ids flag told =
      (λ is. (brings_held from row).0 (granted (IdsHeld from row) ids, flag, told.0 is), λ all. told.1 ((brings_held from row).1 all).2)

-- ---- those who can join
module _ (parent : Part → ℕ → Type 0) (child : Space) where
  -- what comes with them to a row
  pub joined_more : (old more new : Part → ℕ → Type 0) → CanJoinBy parent child → AreSameRows more (Brings parent)
      → AreSameRows new (InEitherRow old more) → AreSameRows new (InEitherRow old (JoinedBy parent child))
  joined_more old more new can brought joined part x = (to, from) where
    to : new part x → old part x ⊎ JoinedBy parent child part x
    to held = elim ((joined part x).0 held) [ inl was ↦ inl was | inr comes ↦ inr (can, (brought part x).0 comes) ]

    from : old part x ⊎ JoinedBy parent child part x → new part x
    from (inl was) = (joined part x).1 (inl was)
    from (inr (_, comes)) = (joined part x).1 (inr ((brought part x).1 comes))

-- ---- all who can join, from parent to parent
module _ (spaces : Spaces) (bounds : Row → Part → ℕ → Type 0) (n at p : ℕ) (is : chain spaces at ≡ at ∷ chain_from spaces (Some p))
    (parent : (space_of spaces at).parent ≡ Some p) where
  pub joins_not : (row : Part → ℕ → Type 0) → JoinsHeld spaces bounds row at ↔ JoinsHeld spaces bounds row n
      → IsTrue false ↔ (CanJoinBy (bounds (Standing p)) (space_of spaces at) → HoldsAll row (Brings (bounds (Standing p))))
      → IsTrue false ↔ JoinsHeld spaces bounds row n
  joins_not row same told =
      no (JoinsHeld spaces bounds row n)
      (λ all. refused (CanJoinBy (bounds (Standing p)) (space_of spaces at) → HoldsAll row (Brings (bounds (Standing p)))) told
      ((joins_step spaces bounds row at p is parent).1 (same.1 all)).0)

  pub joins_next : (row : Part → ℕ → Type 0) → JoinsHeld spaces bounds row at ↔ JoinsHeld spaces bounds row n
      → IsTrue true ↔ (CanJoinBy (bounds (Standing p)) (space_of spaces at) → HoldsAll row (Brings (bounds (Standing p))))
      → JoinsHeld spaces bounds row p ↔ JoinsHeld spaces bounds row n
  joins_next row same told =
      let step = joins_step spaces bounds row at p is parent in
      (λ above. same.0 (step.0 (told.0 refl, above)), λ all. (step.1 (same.1 all)).1)

  pub joined_next : (old new Goal : Part → ℕ → Type 0)
      → AreSameRows (InEitherRow old (ByJoiningTo spaces bounds at)) Goal
      → AreSameRows new (InEitherRow old (JoinedBy (bounds (Standing p)) (space_of spaces at)))
      → AreSameRows (InEitherRow new (ByJoiningTo spaces bounds p)) Goal
  joined_next old new Goal same joined part x = (to, from) where
    to : new part x ⊎ ByJoiningTo spaces bounds p part x → Goal part x
    to (inl held) = elim ((joined part x).0 held) [
      | inl was ↦ (same part x).0 (inl was)
      | inr comes ↦ (same part x).0 (inr ((joining_step spaces bounds at p is parent part x).0 (inl comes)))
    ]
    to (inr above) = (same part x).0 (inr ((joining_step spaces bounds at p is parent part x).0 (inr above)))

    from : Goal part x → new part x ⊎ ByJoiningTo spaces bounds p part x
    from has = elim ((same part x).1 has) [
      | inl was ↦ inl ((joined part x).1 (inl was))
      | inr here ↦ elim ((joining_step spaces bounds at p is parent part x).1 here) [
        | inl comes ↦ inl ((joined part x).1 (inr comes))
        | inr above ↦ inr above
      ]
    ]

module _ (spaces : Spaces) (bounds : Row → Part → ℕ → Type 0) (n at : ℕ) (is : chain spaces at ≡ at ∷ chain_from spaces None)
    (parent : (space_of spaces at).parent ≡ None) where
  pub joins_all : (row : Part → ℕ → Type 0) → JoinsHeld spaces bounds row at ↔ JoinsHeld spaces bounds row n
      → IsTrue true ↔ JoinsHeld spaces bounds row n
  joins_all row same =
      yes (JoinsHeld spaces bounds row n) (same.0 (λ a m next. absurd (next_end spaces a at m is parent next)))

  pub joined_all : (old Goal : Part → ℕ → Type 0) → AreSameRows (InEitherRow old (ByJoiningTo spaces bounds at)) Goal
      → AreSameRows old Goal
  joined_all old Goal same part x = (λ held. (same part x).0 (inl held), from) where
    from : Goal part x → old part x
    from has = elim ((same part x).1 has) [ inl was ↦ was | inr here ↦ absurd (next_end spaces here.0 at here.1 is parent here.2) ]
