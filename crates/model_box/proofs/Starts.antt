-- The start bounds, the rows by number, and what the rules read.
use Rattle.std.proofs.Common.{◌≡◌, ℕ, zero, suc, ◌+◌, ◌*◌, ◌/◌, ◌%◌, ◌<◌, Bool, false, ◌||◌, Some, List, length, refl, sym, ◌∙◌, inl, inr, subst, arith}
use Rattle.std.specs.Prelude.{IsTrue, All}
use Rattle.std.proofs.lemmas.Bool.{false≢true, ltb-true, lt-ltb}
use Rattle.cm_filter.specs.Filters.{Filter, excludes}
use Rattle.cm_filter.specs.declared.kind.CallKind.{CallKind}
use Rattle.cm_filter.specs.declared.kind.CallKind.TheVariants as kind
use Rattle.model_cred.specs.Files.{FileTable}
use Rattle.model_cred.specs.Process.{Process, State, process_at}
use Rattle.model_cred.specs.Space.{Spaces, space_of, stands}
use Rattle.model_run.specs.Later.{is_member}
use Rattle.model_run.proofs.Filters.{member_excludes, filter_found}
use Rattle.model_box.specs.Row.{Part, MappedUids, MappedGids, Row, Standing, Fresh, row_number, row_at, IsWithin, CredHas}
use Rattle.model_box.specs.Rule.{Rule, SetUid, SetFsUid, SetGid, SetFsGid, SetGroups, CapSet, SecureBits, Create, Join}
use Rattle.model_box.specs.Rule.{Maps}
use Rattle.model_box.specs.Closed.{Adds, ByMaps}
use Rattle.model_box.specs.Covers.{RowOf, Covers, StateFits, MapsIn, child, deeper}
use Rattle.model_box.specs.Covers as rows
use Rattle.model_box.specs.Start.{HoldsStart, SpaceMaps}
use Rattle.model_box.specs.Laws.{RestsOn}
use Rattle.model_box.proofs.Trees.{has_parent_stands, row_standing}
use Rattle.model_box.proofs.Excludes.{all_named}
use Rattle.model_box.proofs.Monotone.{adds_more}

-- ---- the start bounds
module _ (s : State) (members : List ℕ) (bounds : Row → Part → ℕ → Type 0) where
  -- At the query there is no later space.
  none_later : (n a : ℕ) → RowOf (length s.spaces) s.spaces n (Fresh a) → ⊥
  none_later n a (child _ p _ late parent up) = let here : n < length s.spaces = has_parent_stands s.spaces n p parent in omega arith
  none_later n a (deeper _ p _ late parent up) = let here : n < length s.spaces = has_parent_stands s.spaces n p parent in omega arith

  -- Bounds that hold the start bounds cover the members at the query, where each process is in a space that stands.
  pub covers_standing : All (λ p. p.space < length s.spaces) s.processes → HoldsStart s members bounds
      → Covers s members s members bounds
  covers_standing standing within = record {
    members_in =
        λ pid p row member at is part x has.
        members_in pid p row member at is
        (all_named (λ (q : Process). q.space < length s.spaces) s.processes standing pid p at) part x has;
    spaces_stay = record {
      grown = omega arith;
      stay = λ n low. record { parent = refl; owner = refl; uids = λ map written. written; gids = λ map written. written; deny = λ word. word };
      deny = λ n a row. absurd (none_later n a row);
    };
    maps_in = λ n row is. maps_in n row is;
    parents = λ n late low. absurd (omega arith);
    owners = λ n p row late parent row_p. absurd (let here : n < length s.spaces = has_parent_stands s.spaces n p parent in omega arith);
    filled = λ n a row. absurd (none_later n a row);
    filters = λ pid p member at kind held.
        subst (λ (f : Filter). IsTrue (excludes f kind)) (filter_found s pid p at) (member_excludes s members pid kind member held);
  } where
    members_in : (pid : ℕ) (p : Process) (row : Row) → IsTrue (is_member members pid) → process_at s.processes pid ≡ Some p
        → RowOf (length s.spaces) s.spaces p.space row
        → p.space < length s.spaces → (part : Part) (x : ℕ) → CredHas p.cred part x → bounds row part x
    members_in pid p (Standing n) member at is here part x has =
        let two = row_standing is in
        within (Standing n) (lt-ltb n (length s.spaces) (rw two.0 at two.1)) part x (inl (pid, p, member, at, two.0, has))
    members_in pid p (Fresh a) member at is here part x has = absurd (none_later p.space a is)

    maps_in : (n : ℕ) (row : Row) → RowOf (length s.spaces) s.spaces n row → MapsIn (space_of s.spaces n) (bounds row)
    maps_in n (Standing a) is =
        let two = row_standing is in
        let low : IsTrue (stands s.spaces a) = lt-ltb a (length s.spaces) (rw two.0 at two.1) in
        rw two.0 (record { uids = λ x out. within (Standing a) low MappedUids x (inr out); gids = λ x out. within (Standing a) low MappedGids x (inr out) })
    maps_in n (Fresh a) is = absurd (none_later n a is)

  pub covers_start : StateFits s → HoldsStart s members bounds → Covers s members s members bounds
  covers_start fits within = covers_standing fits.stands within

  -- And the other way: they hold the start bounds.
  pub holds_start : Covers s members s members bounds → HoldsStart s members bounds
  holds_start covers (Standing n) standing part x (inl (pid, p, member, at, same, has)) =
      covers.members_in pid p (Standing n) member at (rw same (rows.own n (ltb-true n (length s.spaces) standing))) part x has
  holds_start covers (Standing n) standing part x (inr maps) = by part maps where
    inside : MapsIn (space_of s.spaces n) (bounds (Standing n))
    inside = covers.maps_in n (Standing n) (rows.own n (ltb-true n (length s.spaces) standing))

    by : (part : Part) → SpaceMaps (space_of s.spaces n) part x → bounds (Standing n) part x
    by MappedUids out = inside.uids x out
    by MappedGids out = inside.gids x out
    by _ out = absurd out
  holds_start covers (Fresh n) standing part x wrong = absurd wrong

-- ---- what flows to a standing row
-- bounds with the standing rows of the one and the fresh rows of the other
abbrev merged : (Row → Part → ℕ → Type 0) → (Row → Part → ℕ → Type 0) → Row → Part → ℕ → Type 0
merged standing fresh (Standing n) = standing (Standing n)
merged standing fresh (Fresh n) = fresh (Fresh n)

module _ (permitted : CallKind → Bool) (files : FileTable) (spaces : Spaces) (bounds other : Row → Part → ℕ → Type 0) where
  merged_adds : (rule : Rule) (n : ℕ) (part : Part) (x : ℕ) → Adds permitted files spaces (merged other bounds) rule (Standing n) part x
      → Adds permitted files spaces other rule (Standing n) part x
  merged_adds Maps n MappedUids x added = added
  merged_adds _ n _ x added = added

  -- No later space is above a standing one, so what comes to a standing row is read from standing rows alone.
  pub standing_apart : ((n : ℕ) (part : Part) (x : ℕ) → bounds (Standing n) part x → other (Standing n) part x) → (rule : Rule) (n : ℕ) (part : Part) (x : ℕ)
      → Adds permitted files spaces bounds rule (Standing n) part x → Adds permitted files spaces other rule (Standing n) part x
  standing_apart within rule n part x added =
      merged_adds rule n part x
      (adds_more permitted files spaces bounds (merged other bounds) both rule (Standing n) part x added) where
        both : IsWithin bounds (merged other bounds)
        both (Standing m) part' y held = within m part' y held
        both (Fresh m) part' y held = held

-- ---- what a rule rests on
none_of_three : (a b d : Bool) → a ≡ false → b ≡ false → d ≡ false → IsTrue (a || b || d) → ⊥
none_of_three a b d first second third held = false≢true (rw (first, second, third) at held)

none_of_two : (a b : Bool) → a ≡ false → b ≡ false → IsTrue (a || b) → ⊥
none_of_two a b first second held = false≢true (rw (first, second) at held)

module _ (permitted : CallKind → Bool) (files : FileTable) (spaces : Spaces) (bounds : Row → Part → ℕ → Type 0) where
  maps_need_writes : permitted kind.WriteUidMap ≡ false → permitted kind.WriteGidMap ≡ false
      → (row : Row) (part : Part) (x : ℕ) → ByMaps permitted spaces bounds row part x → ⊥
  maps_need_writes uid gid (Standing n) MappedUids x added = false≢true (sym uid ∙ added.0)
  maps_need_writes uid gid (Standing n) MappedGids x added = false≢true (sym gid ∙ added.0)
  maps_need_writes uid gid (Fresh n) MappedUids x added = false≢true (sym uid ∙ added.0)
  maps_need_writes uid gid (Fresh n) MappedGids x added = false≢true (sym gid ∙ added.0)
  maps_need_writes uid gid _ _ x added = added

  -- Where the filter excludes all calls that a rule rests on, it adds nothing.
  pub excluded_adds_nothing : (rule : Rule) → ((k : CallKind) → RestsOn rule k → permitted k ≡ false) → (row : Row) (part : Part) (x : ℕ)
      → Adds permitted files spaces bounds rule row part x → ⊥
  excluded_adds_nothing SetUid none row part x added =
      none_of_three (permitted kind.SetUid) (permitted kind.SetReUid) (permitted kind.SetResUid)
      (none kind.SetUid (inl refl)) (none kind.SetReUid (inr (inl refl)))
      (none kind.SetResUid (inr (inr refl))) added.0
  excluded_adds_nothing SetFsUid none row part x added = false≢true (sym (none kind.SetFsUid refl) ∙ added.0)
  excluded_adds_nothing SetGid none row part x added =
      none_of_three (permitted kind.SetGid) (permitted kind.SetReGid) (permitted kind.SetResGid)
      (none kind.SetGid (inl refl)) (none kind.SetReGid (inr (inl refl)))
      (none kind.SetResGid (inr (inr refl))) added.0
  excluded_adds_nothing SetFsGid none row part x added = false≢true (sym (none kind.SetFsGid refl) ∙ added.0)
  excluded_adds_nothing SetGroups none row part x added = false≢true (sym (none kind.SetGroups refl) ∙ added.0)
  excluded_adds_nothing CapSet none row part x added = false≢true (sym (none kind.CapSet refl) ∙ added.0)
  excluded_adds_nothing SecureBits none row part x added = false≢true (sym (none kind.SecureBits refl) ∙ added.0)
  excluded_adds_nothing Create none (Standing n) part x added = added
  excluded_adds_nothing Create none (Fresh n) part x added =
      none_of_two (permitted kind.Unshare) (permitted kind.CloneUser) (none kind.Unshare (inl refl)) (none kind.CloneUser (inr refl)) added.0
  excluded_adds_nothing Join none (Standing n) part x added = false≢true (sym (none kind.SetNs refl) ∙ added.0)
  excluded_adds_nothing Join none (Fresh n) part x added = added
  excluded_adds_nothing Maps none row part x added = maps_need_writes (none kind.WriteUidMap (inl refl)) (none kind.WriteGidMap (inr refl)) row part x added
  excluded_adds_nothing _ none row part x added = false≢true (sym (none kind.Exec refl) ∙ added.0)

-- ---- rows by number
pub row_back : (row : Row) → row_at (row_number row) ≡ row
row_back (Standing n) =
    let even : (2 * n) % 2 ≡ 0 = omega arith in
    let half : (2 * n) / 2 ≡ n = omega arith in
    rw (even, half)
row_back (Fresh n) =
    let odd : (2 * n + 1) % 2 ≡ 1 = omega arith in
    let half : (2 * n + 1) / 2 ≡ n = omega arith in
    rw (odd, half)

pub number_back : (y : ℕ) → row_number (row_at y) ≡ y
number_back y = by (y % 2) refl (omega arith) where
  by : (b : ℕ) → y % 2 ≡ b → b < 2 → row_number (row_at y) ≡ y
  by zero even low = rw even (let whole : 2 * (y / 2) ≡ y = omega arith in whole)
  by (suc zero) odd low = rw odd (let whole : 2 * (y / 2) + 1 ≡ y = omega arith in whole)
  by (suc (suc b)) wrong low = absurd (omega arith)
