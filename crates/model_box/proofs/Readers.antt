-- Which rows a rule reads.
use Rattle.std.proofs.Common.{◌≡◌, ℕ, suc, ◌<◌, Bool, Option, Some, length, refl, sym, inl, inr, subst, arith}
use Rattle.std.specs.Prelude.{IsTrue}
use Rattle.std.proofs.lemmas.Bool.{ltb-true}
use Rattle.cm_filter.specs.declared.kind.CallKind.{CallKind}
use Rattle.model_cred.specs.Files.{FileTable}
use Rattle.model_cred.specs.Space.{Spaces, is_at_or_above, stands, space_of}
use Rattle.model_rules.specs.FileView.{view}
use Rattle.model_box.specs.Row.{Part, MappedUids, MappedGids, PermittedCaps, NewPrivs, Row, Standing, Fresh, space_under}
use Rattle.model_box.specs.Rule.{Rule, SetUid, SetFsUid, SetGid, SetFsGid, SetGroups, CapSet, SecureBits, ExecUid}
use Rattle.model_box.specs.Rule.{ExecGid, ExecCaps, ExecRoot, Create, Join, Maps}
use Rattle.model_box.specs.Closed.{Adds, CapByFile, ByMaps}
use Rattle.model_box.specs.Covers.{Earlier}
use Rattle.model_box.specs.Files.{RootCan, ZeroAbove}
use Rattle.model_box.specs.Reads.{Reads, IsAbove, RulesReadTheseAlone, ReadRowsAreAbove}
use Rattle.model_box.specs.Laws.{tested}
use Rattle.model_box.specs.Spread.{NewUid, NewGid, FreshUid, FreshGid, IsNext}
use Rattle.model_box.proofs.Monotone.{adds_more, can_run_more, file_gives_more, zero_id_more, can_join_more, brings_more, members_more}
use Rattle.model_box.proofs.Trees.{at_or_above_self, at_or_above_up, at_or_above_ind, has_parent_stands}

-- the first row holds no more than the second
abbrev HoldsNoMore : (Part → ℕ → Type 0) → (Part → ℕ → Type 0) → Type 0
HoldsNoMore one other = (part : Part) (x : ℕ) → one part x → other part x

module _ (permitted : CallKind → Bool) (files : FileTable) (spaces : Spaces) (bounds other : Row → Part → ℕ → Type 0) where
  zero_above_read : (n : ℕ) → ((a : ℕ) → IsTrue (is_at_or_above spaces a n) → HoldsNoMore (bounds (Standing a)) (other (Standing a)))
      → (id : Option ℕ) → ZeroAbove spaces bounds n id → ZeroAbove spaces other n id
  zero_above_read n above id (a, up, held) =
      (a, up, zero_id_more (λ _. bounds (Standing a)) (λ _. other (Standing a)) (λ _. above a up) spaces (Standing a) id held)

  root_read : (row : Row) → HoldsNoMore (bounds row) (other row)
      → ((a : ℕ) → IsTrue (is_at_or_above spaces a (space_under row)) → HoldsNoMore (bounds (Standing a)) (other (Standing a)))
      → (id : Option ℕ) → RootCan spaces bounds row id → RootCan spaces other row id
  root_read (Standing n) own above id held = zero_above_read n above id held
  root_read (Fresh n) own above id (inl held) =
      inl (zero_id_more (λ _. bounds (Fresh n)) (λ _. other (Fresh n)) (λ _. own) spaces (Fresh n) id held)
  root_read (Fresh n) own above id (inr held) = inr (zero_above_read n above id held)

  cap_read : (row : Row) → HoldsNoMore (bounds row) (other row)
      → ((a : ℕ) → IsTrue (is_at_or_above spaces a (space_under row)) → HoldsNoMore (bounds (Standing a)) (other (Standing a)))
      → (x : ℕ) → CapByFile files spaces bounds row x → CapByFile files spaces other row x
  cap_read row own above x (k, program, runs, (free, has, raises, root), gives) = (
    k,
    program,
    can_run_more (bounds row) (other row) own (view files k) runs,
    (own NewPrivs 0 free, has, raises, root_read row own above (view files k).root root),
    file_gives_more (bounds row) (other row) own (view files k) x gives,
  )

  new_uid_read : (n q owner x : ℕ) → HoldsNoMore (bounds (Standing n)) (other (Standing n)) → HoldsNoMore (bounds (Standing q)) (other (Standing q))
      → NewUid bounds n q owner x → NewUid other n q owner x
  new_uid_read n q owner x own parent held = grind (arith, own, parent)

  new_gid_read : (n q owner x : ℕ) → HoldsNoMore (bounds (Standing n)) (other (Standing n)) → HoldsNoMore (bounds (Standing q)) (other (Standing q))
      → NewGid bounds n q owner x → NewGid other n q owner x
  new_gid_read n q owner x own parent held = grind (arith, own, parent)

  fresh_gid_read : (n x : ℕ) → HoldsNoMore (bounds (Standing n)) (other (Standing n)) → HoldsNoMore (bounds (Fresh n)) (other (Fresh n))
      → FreshGid bounds n x → FreshGid other n x
  fresh_gid_read n x own fresh held = grind (arith, own, fresh)

  fresh_uid_read : (n x : ℕ) → HoldsNoMore (bounds (Standing n)) (other (Standing n)) → FreshUid bounds n x → FreshUid other n x
  fresh_uid_read n x own held = grind (arith, own)

  maps_read : (row : Row) → ((from : Row) → Reads spaces Maps row from → HoldsNoMore (bounds from) (other from))
      → (part : Part) (x : ℕ) → ByMaps permitted spaces bounds row part x → ByMaps permitted spaces other row part x
  maps_read (Standing n) same MappedUids x (may, none, (q, parent, new)) =
      (may, none, (q, parent, new_uid_read n q (space_of spaces n).owner x (same (Standing n) (inl refl)) (same (Standing q) (inr (q, parent, refl))) new))
  maps_read (Standing n) same MappedGids x (may, none, (q, parent, new)) =
      (may, none, (q, parent, new_gid_read n q (space_of spaces n).owner x (same (Standing n) (inl refl)) (same (Standing q) (inr (q, parent, refl))) new))
  maps_read (Fresh n) same MappedUids x (may, has, new) = (
    may,
    (has.0, same (Fresh n) (inl refl) _ has.0 has.1),
    fresh_uid_read n x (same (Standing n) (inr refl)) new,
  )
  maps_read (Fresh n) same MappedGids x (may, has, new) = (
    may,
    (has.0, same (Fresh n) (inl refl) _ has.0 has.1),
    fresh_gid_read n x (same (Standing n) (inr refl)) (same (Fresh n) (inl refl)) new,
  )
  maps_read _ same _ x wrong = wrong

  -- a rule that reads the row alone
  alone : (rule : Rule) (row : Row) → HoldsNoMore (bounds row) (other row) → (part : Part) (x : ℕ)
      → Adds permitted files spaces (λ _. bounds row) rule row part x → Adds permitted files spaces (λ _. other row) rule row part x
  alone rule row own part x added = adds_more permitted files spaces (λ _. bounds row) (λ _. other row) (λ _. own) rule row part x added

  -- A rule adds no more where the rows that it reads hold no more.
  pub reads_alone : (rule : Rule) (row : Row) → ((from : Row) → Reads spaces rule row from → HoldsNoMore (bounds from) (other from))
      → (part : Part) (x : ℕ) → Adds permitted files spaces bounds rule row part x → Adds permitted files spaces other rule row part x
  reads_alone SetUid row same part x added = alone SetUid row (same row refl) part x added
  reads_alone SetFsUid row same part x added = alone SetFsUid row (same row refl) part x added
  reads_alone SetGid row same part x added = alone SetGid row (same row refl) part x added
  reads_alone SetFsGid row same part x added = alone SetFsGid row (same row refl) part x added
  reads_alone SetGroups row same part x added = alone SetGroups row (same row refl) part x added
  reads_alone CapSet row same part x added = alone CapSet row (same row refl) part x added
  reads_alone SecureBits row same part x added = alone SecureBits row (same row refl) part x added
  reads_alone ExecUid row same part x added = alone ExecUid row (same row refl) part x added
  reads_alone ExecGid row same part x added = alone ExecGid row (same row refl) part x added
  reads_alone ExecCaps row same PermittedCaps x (may, has, added) = (
    may,
    members_more (λ _. bounds row) (λ _. other row) (λ _. same row (inl refl)) row has,
    cap_read row (same row (inl refl)) (λ a up. same (Standing a) (inr up)) x added,
  )
  reads_alone ExecCaps row same _ x (may, has, wrong) = absurd wrong
  reads_alone ExecRoot (Standing n) same part x added = alone ExecRoot (Standing n) (same (Standing n) refl) part x added
  reads_alone ExecRoot (Fresh n) same part x added = alone ExecRoot (Fresh n) (same (Fresh n) refl) part x added
  reads_alone Create (Fresh n) same part x added =
      adds_more permitted files spaces (λ _. bounds (Standing n)) (λ _. other (Standing n)) (λ _. same (Standing n) refl) Create (Fresh n) part x added
  reads_alone Join (Standing n) same part x (may, (a, (m, next, members, cause), brings)) =
      let above : HoldsNoMore (bounds (Standing a)) (other (Standing a)) = same (Standing a) (a, m, next, refl) in (
        may,
        (
          a,
          can_join_more (λ _. bounds (Standing a)) (λ _. other (Standing a)) (λ _. above) spaces a n (m, next, members, cause),
          brings_more (bounds (Standing a)) (other (Standing a)) above part x brings,
        ),
      )
  reads_alone Maps row same part x added = maps_read row same part x added
  reads_alone _ _ same part x wrong = wrong

pub rules_read_these_alone : RulesReadTheseAlone
rules_read_these_alone permitted files spaces bounds other rule row same part x added =
    reads_alone permitted files spaces (tested bounds) (tested other) rule row same part x added

-- ---- they are above
self_above : (spaces : Spaces) → Earlier spaces → (n : ℕ) (from : Row) → IsTrue (stands spaces n) → from ≡ Standing n → IsAbove spaces n from
self_above spaces earlier n from standing is =
    subst (λ (r : Row). IsAbove spaces n r) (sym is) (at_or_above_self spaces earlier n (ltb-true n (length spaces) standing))

parent_up : (spaces : Spaces) → Earlier spaces → (n q : ℕ) → (space_of spaces n).parent ≡ Some q → IsTrue (is_at_or_above spaces q n)
parent_up spaces earlier n q parent =
    let below : q < n = earlier n q parent in
    let low : n < length spaces = has_parent_stands spaces n q parent in
    at_or_above_up spaces earlier q n q parent (at_or_above_self spaces earlier q (omega (arith, below, low)))

next_up : (spaces : Spaces) → Earlier spaces → (a n m : ℕ) → IsNext spaces a n m → IsTrue (is_at_or_above spaces a n)
next_up spaces earlier a n m (above, parent) =
    at_or_above_ind spaces earlier m (λ k. IsTrue (is_at_or_above spaces a k)) (parent_up spaces earlier m a parent)
    (λ k p up_is up held. at_or_above_up spaces earlier a k p up_is held) (suc n) n (omega arith) above

put_above : (spaces : Spaces) (a n : ℕ) (from : Row) → IsTrue (is_at_or_above spaces a n) → from ≡ Standing a → IsAbove spaces n from
put_above spaces a n from above is = subst (λ (r : Row). IsAbove spaces n r) (sym is) above

pub read_rows_are_above : ReadRowsAreAbove
read_rows_are_above spaces earlier ExecCaps row from standing read = read
read_rows_are_above spaces earlier Create (Standing n) from standing wrong = absurd wrong
read_rows_are_above spaces earlier Create (Fresh n) from standing read = inr (self_above spaces earlier n from standing read)
read_rows_are_above spaces earlier Join (Standing n) from standing (a, m, next, is) = inr (put_above spaces a n from (next_up spaces earlier a n m next) is)
read_rows_are_above spaces earlier Join (Fresh n) from standing wrong = absurd wrong
read_rows_are_above spaces earlier Maps (Standing n) from standing (inl own) = inl own
read_rows_are_above spaces earlier Maps (Standing n) from standing (inr (q, parent, is)) = inr (put_above spaces q n from (parent_up spaces earlier n q parent) is)
read_rows_are_above spaces earlier Maps (Fresh n) from standing (inl own) = inl own
read_rows_are_above spaces earlier Maps (Fresh n) from standing (inr is) = inr (self_above spaces earlier n from standing is)
read_rows_are_above spaces earlier _ row from standing read = inl read
