-- A worked case of blame: the program that one member may run and by which the other would gain. Up to the rule of
-- set-user-ID programs the sweep holds no user id but 1000; after it at the initial space, it holds the program's owner.
use Rattle.std.proofs.Common.{◌≡◌, ℕ, zero, suc, ◌/◌, ◌%◌, ◌<◌, ◌≤◌, ◌==◌, ◌||◌, true, false, [], ◌∷◌, refl, sym, ap, ◌∙◌, inl, inr, subst, arith}
use Rattle.std.specs.List.{list_any}
use Rattle.std.proofs.lemmas.Bool.{eqb-true, false≢true, or_cases}
use Rattle.cm_base.specs.CapSet.{holds, none}
use Rattle.cm_base.proofs.CapSets.{holds_none}
use Rattle.cm_filter.specs.Filters.{permits}
use Rattle.model_cred.specs.Credential.{Credential, all_four, is_one_of_three}
use Rattle.model_cred.specs.Right.{Uid}
use Rattle.model_cred.specs.Space.{first_spaces, space_of}
use Rattle.model_box.specs.Row.{Part, Uids, EffectiveUids, FsUids, Gids, EffectiveGids, FsGids, Groups, MappedUids, MappedGids}
use Rattle.model_box.specs.Row.{PermittedCaps, InheritableCaps, BoundingCaps, NewPrivs, RootCounts, LockClear, Row, Standing, Fresh}
use Rattle.model_box.specs.Row.{CredHas, IsWithin}
use Rattle.model_box.specs.Rule.{Rule, SetUid, SetFsUid, SetGid, SetFsGid, SetGroups, CapSet, SecureBits, ExecUid}
use Rattle.model_box.specs.Rule.{rule_number}
use Rattle.model_box.specs.Closed.{Adds}
use Rattle.model_box.specs.Meets.{Meets}
use Rattle.model_box.specs.Start.{StartHas, SpaceMaps}
use Rattle.model_box.proofs.Monotone.{adds_more, meets_more}
use Rattle.model_verdict.specs.Sweep.{rule_at, turn_at, swept}
use Rattle.model_verdict.specs.Blame.{FirstMeets}
use Rattle.model_verdict.proofs.Cases.{with_group, without_group, two, opt_x, each_of_two}
use Rattle.model_verdict.proofs.Sweeps.{grows}

-- what the sweep stays within up to that rule
abbrev under : Row → Part → ℕ → Type 0
under (Fresh n) part x = ⊥
under (Standing n) Groups x = x ≡ 34
under (Standing n) MappedUids x = Unit {0}
under (Standing n) MappedGids x = Unit {0}
under (Standing n) PermittedCaps x = ⊥
under (Standing n) InheritableCaps x = ⊥
under (Standing n) BoundingCaps x = Unit {0}
under (Standing n) NewPrivs x = Unit {0}
under (Standing n) RootCounts x = Unit {0}
under (Standing n) LockClear x = Unit {0}
under (Standing n) _ x = x ≡ 1000

-- ---- the start
three_1000 : (x : ℕ) → is_one_of_three (all_four 1000) x ≡ true → x ≡ 1000
three_1000 x one = elim (or_cases (x == 1000 || x == 1000) (x == 1000) one) [
  | inl first ↦ elim (or_cases (x == 1000) (x == 1000) first) [ inl is ↦ eqb-true x 1000 is | inr is ↦ eqb-true x 1000 is ]
  | inr is ↦ eqb-true x 1000 is
]

no_cap : (x : ℕ) → holds none x ≡ true → ⊥
no_cap x held = false≢true (sym (holds_none x) ∙ held)

-- what one with ids 1000, these groups and no capability has
has_under : (n : ℕ) (c : Credential) → c.uid ≡ all_four 1000 → c.gid ≡ all_four 1000 → c.permitted ≡ none → c.inheritable ≡ none
    → ((x : ℕ) → list_any (λ group. group == x) c.groups ≡ true → x ≡ 34)
    → (part : Part) (x : ℕ) → CredHas c part x → under (Standing n) part x
has_under n c uid gid permitted inheritable groups Uids x has = three_1000 x (ap (λ ids. is_one_of_three ids x) (sym uid) ∙ has)
has_under n c uid gid permitted inheritable groups EffectiveUids x has = has ∙ ap (λ ids. ids.effective) uid
has_under n c uid gid permitted inheritable groups FsUids x has = has ∙ ap (λ ids. ids.fs) uid
has_under n c uid gid permitted inheritable groups Gids x has = three_1000 x (ap (λ ids. is_one_of_three ids x) (sym gid) ∙ has)
has_under n c uid gid permitted inheritable groups EffectiveGids x has = has ∙ ap (λ ids. ids.effective) gid
has_under n c uid gid permitted inheritable groups FsGids x has = has ∙ ap (λ ids. ids.fs) gid
has_under n c uid gid permitted inheritable groups Groups x has = groups x has
has_under n c uid gid permitted inheritable groups PermittedCaps x has = no_cap x (ap (λ (set : ℕ). holds set x) (sym permitted) ∙ has)
has_under n c uid gid permitted inheritable groups InheritableCaps x has = no_cap x (ap (λ (set : ℕ). holds set x) (sym inheritable) ∙ has)
has_under n c uid gid permitted inheritable groups _ x has = tt

group_34 : (x : ℕ) → list_any (λ group. group == x) (34 ∷ []) ≡ true → x ≡ 34
group_34 x held = elim (or_cases (34 == x) false held) [ inl is ↦ sym (eqb-true 34 x is) | inr wrong ↦ absurd (false≢true wrong) ]

no_group : (x : ℕ) → list_any (λ group. group == x) [] ≡ true → x ≡ 34
no_group x wrong = absurd (false≢true wrong)

maps_under : (n : ℕ) (part : Part) (x : ℕ) → SpaceMaps (space_of first_spaces n) part x
    → under (Standing n) part x
maps_under n MappedUids x has = tt
maps_under n MappedGids x has = tt
maps_under n _ x wrong = absurd wrong

start_under : IsWithin (StartHas two (31 ∷ 32 ∷ [])) under
start_under (Standing n) part x (inl (pid, p, member, at, space, has)) =
    each_of_two with_group without_group first_spaces (31 ∷ 32 ∷ []) (λ q. (r : Part) (y : ℕ) → CredHas q.cred r y → under (Standing n) r y)
    (has_under n with_group.cred refl refl refl refl group_34) (has_under n without_group.cred refl refl refl refl no_group)
    pid p member at part x has
start_under (Standing n) part x (inr maps) = maps_under n part x maps
start_under (Fresh n) part x wrong = wrong

-- ---- the first seven rules
early_under : (rule : Rule) → rule_number rule < 7 → (row : Row) (part : Part) (x : ℕ)
    → Adds (permits opt_x.filter) opt_x.files first_spaces under rule row part x → under row part x
early_under SetUid early (Standing n) EffectiveUids x (may, has, inl (own, mapped)) = own
early_under SetUid early (Standing n) EffectiveUids x (may, has, inr (cap, mapped)) = absurd cap
early_under SetUid early (Standing n) Uids x (may, has, inl is) = is
early_under SetUid early (Standing n) Uids x (may, has, inr (inl (own, mapped))) = own
early_under SetUid early (Standing n) Uids x (may, has, inr (inr (cap, mapped))) = absurd cap
early_under SetUid early (Standing n) FsUids x (may, has, inl is) = is
early_under SetUid early (Standing n) FsUids x (may, has, inr (inl (own, mapped))) = own
early_under SetUid early (Standing n) FsUids x (may, has, inr (inr (cap, mapped))) = absurd cap
early_under SetUid early (Standing n) _ x (may, has, wrong) = absurd wrong
early_under SetUid early (Fresh n) part x (may, (id, wrong), added) = absurd wrong
early_under SetFsUid early (Standing n) FsUids x (may, has, inl (own, mapped)) = own
early_under SetFsUid early (Standing n) FsUids x (may, has, inr (cap, mapped)) = absurd cap
early_under SetFsUid early (Standing n) _ x (may, has, wrong) = absurd wrong
early_under SetFsUid early (Fresh n) part x (may, (id, wrong), added) = absurd wrong
early_under SetGid early (Standing n) EffectiveGids x (may, has, inl (own, mapped)) = own
early_under SetGid early (Standing n) EffectiveGids x (may, has, inr (cap, mapped)) = absurd cap
early_under SetGid early (Standing n) Gids x (may, has, inl is) = is
early_under SetGid early (Standing n) Gids x (may, has, inr (inl (own, mapped))) = own
early_under SetGid early (Standing n) Gids x (may, has, inr (inr (cap, mapped))) = absurd cap
early_under SetGid early (Standing n) FsGids x (may, has, inl is) = is
early_under SetGid early (Standing n) FsGids x (may, has, inr (inl (own, mapped))) = own
early_under SetGid early (Standing n) FsGids x (may, has, inr (inr (cap, mapped))) = absurd cap
early_under SetGid early (Standing n) _ x (may, has, wrong) = absurd wrong
early_under SetGid early (Fresh n) part x (may, (id, wrong), added) = absurd wrong
early_under SetFsGid early (Standing n) FsGids x (may, has, inl (own, mapped)) = own
early_under SetFsGid early (Standing n) FsGids x (may, has, inr (cap, mapped)) = absurd cap
early_under SetFsGid early (Standing n) _ x (may, has, wrong) = absurd wrong
early_under SetFsGid early (Fresh n) part x (may, (id, wrong), added) = absurd wrong
early_under SetGroups early (Standing n) Groups x (may, has, word, (cap, mapped)) = absurd cap
early_under SetGroups early (Standing n) _ x (may, has, word, wrong) = absurd wrong
early_under SetGroups early (Fresh n) part x (may, (id, wrong), word, added) = absurd wrong
early_under CapSet early (Standing n) InheritableCaps x (may, has, inl (cap, bounding)) = cap
early_under CapSet early (Standing n) InheritableCaps x (may, has, inr (cap, bounding)) = cap
early_under CapSet early (Standing n) _ x (may, has, wrong) = absurd wrong
early_under CapSet early (Fresh n) part x (may, (id, wrong), added) = absurd wrong
early_under SecureBits early (Standing n) RootCounts x (may, has, added) = tt
early_under SecureBits early (Standing n) _ x (may, has, wrong) = absurd wrong
early_under SecureBits early (Fresh n) part x (may, (id, wrong), added) = absurd wrong
early_under _ early row part x added = absurd (omega (arith, early))

early_rule : (n : ℕ) → n < 7 → rule_number (rule_at n) < 7
early_rule (suc (suc (suc (suc (suc (suc (suc n))))))) low = absurd (omega (arith, low))
early_rule _ low = omega arith

-- the bounds after so many turns
abbrev bounds_at : ℕ → Row → Part → ℕ → Type 0
bounds_at k = swept (permits opt_x.filter) opt_x.files two (31 ∷ 32 ∷ []) k

swept_under : (k : ℕ) → k ≤ 14 → IsWithin (bounds_at k) under
swept_under zero low row part x held = start_under row part x held
swept_under (suc k) low row part x (inl held) = swept_under k (omega (arith, low)) row part x held
swept_under (suc k) low row part x (inr (same, added)) =
    subst (λ (r : Row). under r part x) (sym same)
    (early_under (turn_at first_spaces k).rule (early_rule (k / 2 % 14) (omega (arith, low))) (turn_at first_spaces k).row part x
    (adds_more (permits opt_x.filter) opt_x.files first_spaces (bounds_at k) under (swept_under k (omega (arith, low)))
    (turn_at first_spaces k).rule (turn_at first_spaces k).row part x added))

not_root : Meets first_spaces under (Uid 0) → ⊥
not_root (Standing n, standing, is) = absurd (omega (arith, is))
not_root (Fresh n, standing, wrong) = wrong

-- the turn of set-user-ID programs at the initial space
pub it_is_the_turn_of_programs : turn_at first_spaces 14 ≡ record { rule = ExecUid; row = Standing 0 }
it_is_the_turn_of_programs = refl

-- is that after which the bounds first meet the right
pub the_program_is_blamed : FirstMeets (permits opt_x.filter) opt_x.files two (31 ∷ 32 ∷ []) (Uid 0) 14
the_program_is_blamed = record {
  before = λ j low met. not_root (meets_more first_spaces (bounds_at j) under (swept_under j low) (Uid 0) met);
  meets = (
    Standing 0,
    refl,
    inr (
      refl,
      (
        refl,
        (1000, start (Standing 0) EffectiveUids 1000 (inl (31, _, refl, refl, refl, refl))),
        (
          0,
          refl,
          (
            refl,
            inr (inl (
              inr (start (Standing 0) Groups 34 (inl (31, _, refl, refl, refl, refl))),
              (1000, start (Standing 0) FsUids 1000 (inl (31, _, refl, refl, refl, refl)), refl),
              refl,
            )),
          ),
          (
            start (Standing 0) NewPrivs 0 (inl (32, _, refl, refl, refl, (refl, refl))),
            refl,
            start (Standing 0) MappedUids 0 (inr refl),
            start (Standing 0) MappedGids 34 (inr refl),
          ),
          refl,
          refl,
        ),
      ),
    ),
  );
} where
  start : IsWithin (bounds_at 0) (bounds_at 14)
  start = grows (permits opt_x.filter) opt_x.files two (31 ∷ 32 ∷ []) 0 14 (omega arith)
