-- What a credential puts into a row: its ids, its groups, its sets and its flags.
use Rattle.std.proofs.Common.{◌≡◌, ◌≢◌, ℕ, zero, suc, ◌==◌, ◌||◌, Bool, true, false, not, List, [], ◌++◌, refl, sym, ap}
use Rattle.std.proofs.Common.{subst, ◌∙◌, inl, inr, arith}
use Rattle.std.specs.Prelude.{◌↔◌, IsTrue}
use Rattle.std.specs.List.{list_any}
use Rattle.std.proofs.lemmas.Bool.{false≢true, or_cases, or_left, or_right, eqb-true, eq-eqb, ne_eqb}
use Rattle.std.proofs.lemmas.List.Folds.{list_any-append}
use Rattle.cm_sets.specs.Sets.{AreSame, InEither}
use Rattle.cm_idset.specs.Held.{Held}
use Rattle.model_cred.specs.Credential.{Credential, FourIds, is_one_of_three}
use Rattle.model_cred.specs.Intervals.{Interval}
use Rattle.model_rules.specs.Securebits.{has_flag, lock_of, noroot}
use Rattle.model_box.specs.Bounds.{BoxRow}
use Rattle.model_box.specs.Row.{Uids, EffectiveUids, FsUids, Gids, EffectiveGids, FsGids, Groups, MappedUids}
use Rattle.model_box.specs.Row.{MappedGids, PermittedCaps, InheritableCaps, BoundingCaps, NewPrivs, RootCounts}
use Rattle.model_box.specs.Row.{LockClear, CredHas}
use Rattle.cm_box_rows.specs.Rows.{RowHolds, AreSameRows}
use Rattle.cm_box_rows.proofs.RowParts.{raised_is, lowered_is}

-- one of the three ids of a process
abbrev pub OneOfThree : FourIds → ℕ → Type 0
OneOfThree ids x = IsTrue (is_one_of_three ids x)

-- the set of the three, put together of those of each
pub three_same : (ids : FourIds) (real effective saved two three : List Interval)
    → AreSame (Held real) (λ n. n ≡ ids.real) → AreSame (Held effective) (λ n. n ≡ ids.effective)
    → AreSame (Held saved) (λ n. n ≡ ids.saved)
    → AreSame (Held two) (InEither (Held real) (Held effective))
    → AreSame (Held three) (InEither (Held two) (Held saved))
    → AreSame (Held three) (OneOfThree ids)
three_same ids real effective saved two three r e s t a x = (to, from) where
  to : Held three x → OneOfThree ids x
  to held = elim ((a x).0 held) [
    | inl both ↦ or_left (x == ids.real || x == ids.effective) (x == ids.saved) (elim ((t x).0 both) [
      | inl is ↦ or_left (x == ids.real) (x == ids.effective) (eq-eqb x ids.real ((r x).0 is))
      | inr is ↦ or_right (x == ids.real) (x == ids.effective) (eq-eqb x ids.effective ((e x).0 is))
    ])
    | inr is ↦ or_right (x == ids.real || x == ids.effective) (x == ids.saved) (eq-eqb x ids.saved ((s x).0 is))
  ]

  from : OneOfThree ids x → Held three x
  from one = elim (or_cases (x == ids.real || x == ids.effective) (x == ids.saved) one) [
    | inr is ↦ (a x).1 (inr ((s x).1 (eqb-true x ids.saved is)))
    | inl two ↦ (a x).1 (inl ((t x).1 (elim (or_cases (x == ids.real) (x == ids.effective) two) [
      | inl is ↦ inl ((r x).1 (eqb-true x ids.real is))
      | inr is ↦ inr ((e x).1 (eqb-true x ids.effective is))
    ])))
  ]

-- a set of one id, which is another's name
pub one_at : (set : List Interval) (a b : ℕ) → a ≡ b → AreSame (Held set) (λ n. n ≡ a) → AreSame (Held set) (λ n. n ≡ b)
one_at set a b is same = subst (λ (k : ℕ). AreSame (Held set) (λ n. n ≡ k)) is same

-- the ids of a list
abbrev pub Among : List ℕ → ℕ → Type 0
Among list x = IsTrue (list_any (λ item. item == x) list)

pub among_both : (list one other : List ℕ) (low high set : List Interval) → one ++ other ≡ list
    → AreSame (Held low) (Among one) → AreSame (Held high) (Among other)
    → AreSame (Held set) (InEither (Held low) (Held high)) → AreSame (Held set) (Among list)
among_both list one other low high set is in_one in_other either x = (to, from) where
  to : Held set x → Among list x
  to held = rw (sym is) (
      list_any-append (λ item. item == x) one other ∙ elim ((either x).0 held) [
        | inl a ↦ or_left (list_any (λ item. item == x) one) (list_any (λ item. item == x) other) ((in_one x).0 a)
        | inr b ↦ or_right (list_any (λ item. item == x) one) (list_any (λ item. item == x) other) ((in_other x).0 b)
      ]
      )

  from : Among list x → Held set x
  from among =
      let two : Among (one ++ other) x = rw is among in
      (either x).1 (elim (or_cases (list_any (λ item. item == x) one) (list_any (λ item. item == x) other)
      (sym (list_any-append (λ item. item == x) one other) ∙ two)) [
        | inl a ↦ inl ((in_one x).1 a)
        | inr b ↦ inr ((in_other x).1 b)
      ])

-- what a test of securebits tells of a flag
pub flag_told : (r : Bool) (n : ℕ) → IsTrue r ↔ (n ≢ 0) → r ≡ not (n == 0)
flag_told true zero told = absurd ((told.0 refl) refl)
flag_told true (suc n) told = sym (ap not (ne_eqb (suc n) 0 (λ wrong. omega arith)))
flag_told false zero told = refl
flag_told false (suc n) told = absurd (false≢true (told.1 (λ wrong. omega arith)))

not_is : (b : Bool) → IsTrue (not b) ↔ (b ≡ false)
not_is true = (λ wrong. absurd (false≢true wrong), λ wrong. absurd (false≢true (sym wrong)))
not_is false = (λ _. refl, λ _. refl)

module _ (row : BoxRow) (c : Credential) where
  -- each part of the row is what the credential puts into it
  pub record IsCredRow : Type 0 where
    pub uids : AreSame (Held row.uids) (OneOfThree c.uid)
    pub effective_uids : AreSame (Held row.effective_uids) (λ x. x ≡ c.uid.effective)
    pub fs_uids : AreSame (Held row.fs_uids) (λ x. x ≡ c.uid.fs)
    pub gids : AreSame (Held row.gids) (OneOfThree c.gid)
    pub effective_gids : AreSame (Held row.effective_gids) (λ x. x ≡ c.gid.effective)
    pub fs_gids : AreSame (Held row.fs_gids) (λ x. x ≡ c.gid.fs)
    pub groups : AreSame (Held row.groups) (Among c.groups)
    pub mapped_uids : row.mapped_uids ≡ []
    pub mapped_gids : row.mapped_gids ≡ []
    pub permitted : row.permitted ≡ c.permitted
    pub inheritable : row.inheritable ≡ c.inheritable
    pub bounding : row.bounding ≡ c.bounding
    pub no_new_privs : row.no_new_privs ≡ c.no_new_privs
    pub root_counts : row.root_counts ≡ not (has_flag c noroot)
    pub lock_clear : row.lock_clear ≡ not (has_flag c (lock_of noroot))

  pub cred_row : IsCredRow → AreSameRows (RowHolds row) (CredHas c)
  cred_row is Uids x = is.uids x
  cred_row is EffectiveUids x = is.effective_uids x
  cred_row is FsUids x = is.fs_uids x
  cred_row is Gids x = is.gids x
  cred_row is EffectiveGids x = is.effective_gids x
  cred_row is FsGids x = is.fs_gids x
  cred_row is Groups x = is.groups x
  cred_row is MappedUids x = (
    λ held. absurd (false≢true (subst (λ (l : List Interval). Held l x) is.mapped_uids held)),
    λ wrong. absurd wrong,
  )
  cred_row is MappedGids x = (
    λ held. absurd (false≢true (subst (λ (l : List Interval). Held l x) is.mapped_gids held)),
    λ wrong. absurd wrong,
  )
  cred_row is PermittedCaps x = rw is.permitted (λ held. held, λ held. held)
  cred_row is InheritableCaps x = rw is.inheritable (λ held. held, λ held. held)
  cred_row is BoundingCaps x = rw is.bounding (λ held. held, λ held. held)
  cred_row is NewPrivs x = (
    λ held. let two = (lowered_is row.no_new_privs x).0 held in (two.0, sym is.no_new_privs ∙ two.1),
    λ has. (lowered_is row.no_new_privs x).1 (has.0, is.no_new_privs ∙ has.1),
  )
  cred_row is RootCounts x = (
    λ held. let two = (raised_is row.root_counts x).0 held in
        (two.0, (not_is (has_flag c noroot)).0 (sym is.root_counts ∙ two.1)),
    λ has. (raised_is row.root_counts x).1 (has.0, is.root_counts ∙ (not_is (has_flag c noroot)).1 has.1),
  )
  cred_row is LockClear x = (
    λ held. let two = (raised_is row.lock_clear x).0 held in (
      two.0,
      (not_is (has_flag c (lock_of noroot))).0
          (sym is.lock_clear ∙ two.1),
    ),
    λ has. (raised_is row.lock_clear x).1 (has.0, is.lock_clear ∙ (not_is (has_flag c (lock_of noroot))).1 has.1),
  )
