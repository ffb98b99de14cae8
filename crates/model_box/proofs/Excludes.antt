-- From the query to the end of a later run: soundness and exclusion.
use Rattle.std.proofs.Common.{◌≡◌, ℕ, suc, ◌<◌, ◌≤◌, Bool, true, false, Some, None, Option, List, [], ◌∷◌, length, refl, sym, ap, ◌∙◌, inl, inr, arith, eqb}
use Rattle.std.specs.Prelude.{◌⊎◌, IsTrue, All, if◌then◌else◌}
use Rattle.std.proofs.lemmas.Bool.{or_cases, cases_eq, eqb-true, ltb-true, lt-ltb}
use Rattle.std.specs.List.{list_any}
use Rattle.cm_base.specs.CapSet.{holds}
use Rattle.cm_base.proofs.CapSets.{member_of_wider}
use Rattle.model_cred.specs.Call.{Event}
use Rattle.cm_filter.specs.declared.kind.CallKind.{CallKind}
use Rattle.model_cred.specs.Credential.{Credential, Included}
use Rattle.model_cred.specs.Files.{FileTable}
use Rattle.model_cred.specs.Process.{Process, State, process_at}
use Rattle.model_cred.specs.Right.{Right, Cap, Uid, Gid}
use Rattle.model_cred.specs.Space.{Space, Spaces, IsTree, space_of, is_at_or_above}
use Rattle.model_cred.specs.World.{World}
use Rattle.model_run.specs.Holds.{process_holds, holds_for, holds_right}
use Rattle.model_run.specs.Later.{is_member, members_after, Later}
use Rattle.model_run.specs.Own.{may_call, shared_filter}
use Rattle.model_box.specs.Row.{Part, EffectiveUids, EffectiveGids, Groups, PermittedCaps, Row, Standing, Fresh, HasMembers, space_under}
use Rattle.model_box.specs.Files.{FilesFit}
use Rattle.model_box.specs.Closed.{Closed}
use Rattle.model_box.specs.Covers.{RowOf, SpacesStay, ParentsEarlier, FiltersExclude, Covers, CanStart, StateFits}
use Rattle.model_box.specs.Parting.{InCell, cell_of, parting_then, LaterBy}
use Rattle.model_box.specs.Rule.{Create, Maps}
use Rattle.model_box.specs.Covers as rows
use Rattle.model_box.specs.Laws.{PermitsWithin}
use Rattle.model_box.specs.Meets.{Meets, IsOverStanding}
use Rattle.model_box.proofs.Trees.{Earlier, space_of_newest, space_of_older, at_or_above_low, power_cases, row_stands}
use Rattle.model_box.proofs.Making.{row_here}
use Rattle.model_box.proofs.Fits.{TreeFits, FilledAt, ClosedTogether, MemberFits, at_or_above_stays, next_stays}
use Rattle.model_box.proofs.Steps.{row_for}
use Rattle.model_box.proofs.Filtered.{only_falls, later_excludes}
use Rattle.model_box.proofs.Runs.{Kept, later_kept}

-- the spaces of a state are a tree
pub tree_earlier : (spaces : Spaces) → IsTree spaces → Earlier spaces
tree_earlier [] wrong n p parent = absurd wrong
tree_earlier (s ∷ []) top n p parent =
    elim (cases_eq n 0) [
      | inl same ↦
          absurd (let up : s.parent ≡ Some p
          = sym (ap (λ (x : Space). x.parent) (space_of_newest s [])) ∙ (rw same at parent) in
          let none : s.parent ≡ None = top in cc)
      | inr other ↦ absurd (let up : None ≡ Some p = sym (ap (λ (x : Space). x.parent) (space_of_older s [] n other)) ∙ parent in cc)
    ]
tree_earlier (s ∷ t ∷ older) tree n p parent =
    elim (cases_eq n (length (t ∷ older))) [
      | inl same ↦
          let up : s.parent ≡ Some p = sym (ap (λ (x : Space). x.parent) (space_of_newest s (t ∷ older))) ∙ (rw same at parent) in
          let low : p < length (t ∷ older) = rw up at tree.0 in
          rw same low
      | inr other ↦ tree_earlier (t ∷ older) tree.1 n p (sym (ap (λ (x : Space). x.parent) (space_of_older s (t ∷ older) n other)) ∙ parent)
    ]

-- what holds of all processes holds of the one that a pid names
pub all_named : (P : Process → Type 0) (ps : List Process) → All P ps → (q : ℕ) (p : Process) → process_at ps q ≡ Some p → P p
all_named P [] all q p at = absurd (cc)
all_named P (x ∷ ps) all q p at = go (eqb x.pid q) at (λ rest. all_named P ps (λ k d low. all (suc k) d (omega arith)) q p rest) where
  go : (b : Bool) → (if b then Some x else process_at ps q) ≡ Some p → (process_at ps q ≡ Some p → P p) → P p
  go true same rest = let is : x ≡ p = cc in rw is at (all 0 x (omega arith))
  go false same rest = rest same

-- what stays of the spaces, with the tree that they form
start_tree : (s : State) → CanStart s → SpacesStay s.spaces s.spaces → ParentsEarlier s.spaces s.spaces → TreeFits s.spaces s.spaces
start_tree s fits stay parents = record {
  before = fits.earlier;
  earlier = fits.earlier;
  grown = stay.grown;
  stay = stay.stay;
  deny = stay.deny;
  parents = parents;
}

tree_stays : (old new : Spaces) → TreeFits old new → SpacesStay old new
tree_stays old new fit = record { grown = fit.grown; stay = fit.stay; deny = fit.deny }

-- later runs can start from a state that fits
pub fits_starts : (s : State) → StateFits s → CanStart s
fits_starts s fits = record { earlier = tree_earlier s.spaces fits.tree; stands = fits.stands; included = fits.included }

module _ (old new : Spaces) (bounds : Row → Part → ℕ → Type 0) (fit : TreeFits old new) (at : ℕ) (c : Credential)
    (fits : MemberFits old new bounds at c) where
  -- who holds a right is in a row that meets it
  pub holder_meets : (right : Right) → IsOverStanding old right → IsTrue (holds_right new at c right) → Meets old bounds right
  holder_meets (Cap capability n) standing power = by found.2 where
    low : n < length old
    low = ltb-true n (length old) standing

    found : (m : ℕ) × IsTrue (is_at_or_above new m n)
        × (((m ≡ at) × IsTrue (holds c.effective capability))
        ⊎ (((space_of new m).parent ≡ Some at)
        × ((space_of new m).owner ≡ c.uid.effective)))
    found = power_cases new at c.effective c.uid.effective capability n power

    m_low : found.0 ≤ n
    m_low = at_or_above_low new fit.earlier found.0 n found.1

    by : (((found.0 ≡ at) × IsTrue (holds c.effective capability))
        ⊎ (((space_of new found.0).parent ≡ Some at)
        × ((space_of new found.0).owner ≡ c.uid.effective)))
        → Meets old bounds (Cap capability n)
    by (inl here) =
        let standing_low : n < length old = low in
        let below : found.0 ≤ n = m_low in
        let same : found.0 ≡ at = here.0 in
        let row_at : RowOf (length old) new at (Standing at) = rows.own at (omega arith) in (
          Standing at,
          lt-ltb at (length old) (omega arith),
          inl (
            at_or_above_stays old new fit at n low (rw here.0 at found.1),
            (c.uid.effective, fits.held (Standing at) row_at EffectiveUids c.uid.effective refl),
            fits.held (Standing at) row_at PermittedCaps capability
                (member_of_wider c.effective c.permitted fits.included.effective capability here.1),
          ),
        )
    by (inr owned) =
        let standing_low : n < length old = low in
        let below : found.0 ≤ n = m_low in
        let up : at < found.0 = fit.earlier found.0 at owned.0 in
        let row_at : RowOf (length old) new at (Standing at) = rows.own at (omega arith) in (
          Standing at,
          lt-ltb at (length old) (omega arith),
          inr (
            found.0,
            next_stays old new fit at n found.0 low found.1 owned.0,
            fits.held (Standing at) row_at EffectiveUids (space_of old found.0).owner (sym (fit.stay found.0 (omega arith)).owner ∙ owned.1),
          ),
        )
  holder_meets (Uid id) standing holds_it =
      let some = row_for old new fit (suc at) at (omega arith) fits.here in (
        some.row,
        lt-ltb (space_under some.row) (length old) some.stands,
        fits.held some.row some.is EffectiveUids id (sym (eqb-true c.uid.effective id holds_it)),
      )
  holder_meets (Gid id) standing holds_it =
      let some = row_for old new fit (suc at) at (omega arith) fits.here in (
        some.row,
        lt-ltb (space_under some.row) (length old) some.stands,
        elim (or_cases (eqb c.gid.effective id) (list_any (λ g. eqb g id) c.groups) holds_it) [
          | inl effective ↦ inl (fits.held some.row some.is EffectiveGids id (sym (eqb-true c.gid.effective id effective)))
          | inr among ↦ inr (fits.held some.row some.is Groups id among)
        ],
      )

-- Where no cell's bounds meet a right, no member that a run keeps holds it.
pub never_held : (old : Spaces) (Cell : ℕ → Type 0) (permits : ℕ → CallKind → Bool) (bounds : ℕ → Row → Part → ℕ → Type 0)
    (all : Row → Part → ℕ → Type 0) (Made : ℕ → Type 0) (may : State → ℕ → CallKind → Bool)
    (s : State) (members : List ℕ) (parting : List InCell) → Kept old Cell permits bounds all Made may s members parting
    → (right : Right) → IsOverStanding old right → ((j : ℕ) → Cell j → Meets old (bounds j) right → ⊥)
    → (pid : ℕ) → IsTrue (is_member members pid) → process_holds s pid right ≡ false
never_held old Cell permits bounds all Made may s members parting kept right standing apart pid member = at (process_at s.processes pid) refl where
  never : (p : Process) → process_at s.processes pid ≡ Some p → (b : Bool) → holds_right s.spaces p.space p.cred right ≡ b → b ≡ false
  never p named true holds_it =
      let mine = kept.members_kept pid p member named in
      absurd (apart (cell_of parting pid) mine.cell
      (holder_meets old s.spaces (bounds (cell_of parting pid)) kept.spaces.tree p.space p.cred mine.fits right standing holds_it))
  never p named false holds_it = refl

  at : (o : Option Process) → process_at s.processes pid ≡ o → holds_for s.spaces o right ≡ false
  at None named = refl
  at (Some p) named = never p named (holds_right s.spaces p.space p.cred right) refl

-- ---- bounds by themselves: they are the bounds of a cell that holds the whole family
abbrev Alone : ℕ → Type 0
Alone j = Unit {0}

-- a space has been made: its fresh row is filled, and has members
abbrev MadeAlone : (Row → Part → ℕ → Type 0) → ℕ → Type 0
MadeAlone bounds a = FilledAt bounds a × HasMembers (bounds (Fresh a))

alone_closed : (permitted : CallKind → Bool) (files : FileTable) (old : Spaces) (bounds : Row → Part → ℕ → Type 0)
    → Closed permitted files old bounds
    → ClosedTogether files old Alone (λ _. permitted) permitted (λ _. bounds) bounds (MadeAlone bounds)
alone_closed permitted files old bounds closed = record {
  closed = λ j cell. closed;
  within = λ j cell row part x held. held;
  less = λ j cell k held. held;
  maps = λ j cell row standing part x added. closed Maps row standing part x added;
  makes = λ j cell allowed a standing can. (
    λ part x brings. closed Create (Fresh a) standing part x (allowed, can, brings),
    (can.1.0, closed Create (Fresh a) standing EffectiveUids can.1.0 (allowed, can, can.1.1)),
  );
  filled = λ a standing made j cell allowed members. made.0;
  peopled = λ a standing made. made.1;
}

-- in a later run each member may call what its own filter doesn't exclude
each_by_its_own : (permitted : CallKind → Bool) (w : World) (s : State) (members : List ℕ) (events : List Event) (later : State) (members_then : List ℕ)
    → Later permitted w s members events later members_then → LaterBy (may_call permitted) w s members events later members_then
each_by_its_own permitted w s members [] later members_then run = run
each_by_its_own permitted w s members (e ∷ es) later members_then (mid, caller, allowed, step, rest) =
    (mid, caller, allowed, step, each_by_its_own permitted w mid (members_after members e.pid e.call e.res) es later members_then rest)

-- there is no later space at the query
none_later : (spaces : Spaces) (n a : ℕ) → RowOf (length spaces) spaces n (Fresh a) → ⊥
none_later spaces n a row =
    let late : length spaces ≤ n = (row_stands row).1 in
    let here : n < length spaces = row_here (omega arith) row in omega arith

abbrev KeptAlone : (CallKind → Bool) → (CallKind → Bool) → Spaces → (Row → Part → ℕ → Type 0) → State → List ℕ → List InCell → Type 0
KeptAlone permitted allowed old bounds = Kept old Alone (λ _. permitted) (λ _. bounds) bounds (MadeAlone bounds) (may_call allowed)

-- the calls that each member may make at the query are permitted in closing the bounds
abbrev pub MayAtMost : (CallKind → Bool) → State → List ℕ → (CallKind → Bool) → Type 0
MayAtMost allowed s members permitted = (pid : ℕ) → IsTrue (is_member members pid) → PermitsWithin (may_call allowed s pid) permitted

-- what the query keeps, as a run keeps it
kept_at_start : (permitted allowed : CallKind → Bool) (s : State) (members : List ℕ) (bounds : Row → Part → ℕ → Type 0) → CanStart s
    → Covers s members s members bounds → MayAtMost allowed s members permitted → KeptAlone permitted allowed s.spaces bounds s members []
kept_at_start permitted allowed s members bounds fits covers suits = record {
  spaces = record {
    tree = start_tree s fits covers.spaces_stay covers.parents;
    mapped = λ j cell. covers.maps_in;
    owners = covers.owners;
    made = λ n a row. absurd (none_later s.spaces n a row);
  };
  members_kept = λ pid p member at. record {
    cell = tt;
    less = suits pid member;
    fits = record {
      here = all_named (λ (q : Process). q.space < length s.spaces) s.processes fits.stands pid p at;
      held = λ row is part x has. covers.members_in pid p row member at is part x has;
      settled = λ a row. absurd (none_later s.spaces p.space a row);
      included = all_named (λ (q : Process). Included q.cred) s.processes fits.included pid p at;
    };
  };
}

covers_kept : (permitted allowed : CallKind → Bool) (old : State) (members_old : List ℕ) (s : State) (members : List ℕ) (parting : List InCell)
    (bounds : Row → Part → ℕ → Type 0) → KeptAlone permitted allowed old.spaces bounds s members parting
    → FiltersExclude (shared_filter old members_old) s members → Covers old members_old s members bounds
covers_kept permitted allowed old members_old s members parting bounds kept filters = record {
  members_in = λ pid p row member at is part x has. (kept.members_kept pid p member at).fits.held row is part x has;
  spaces_stay = tree_stays old.spaces s.spaces kept.spaces.tree;
  maps_in = kept.spaces.mapped 0 tt;
  parents = kept.spaces.tree.parents;
  owners = kept.spaces.owners;
  filled = λ n a row. (kept.spaces.made n a row).0;
  filters = filters;
}

module _ (permitted allowed : CallKind → Bool) (w : World) (s : State) (members : List ℕ) (bounds : Row → Part → ℕ → Type 0)
    (fits_now : CanStart s) (files_fit : FilesFit w.files s.spaces) (covers : Covers s members s members bounds)
    (closed : Closed permitted w.files s.spaces bounds) (suits : MayAtMost allowed s members permitted) where
  kept_then : (events : List Event) (later : State) (members_then : List ℕ) → Later allowed w s members events later members_then
      → KeptAlone permitted allowed s.spaces bounds later members_then (parting_then [] events)
  kept_then events later members_then run =
      later_kept w s.spaces Alone (λ _. permitted) permitted (λ _. bounds) bounds (MadeAlone bounds) (may_call allowed)
      (alone_closed permitted w.files s.spaces bounds closed) files_fit (only_falls allowed w) s members [] events later members_then
      (kept_at_start permitted allowed s members bounds fits_now covers suits) (each_by_its_own allowed w s members events later members_then run)

  -- Bounds that cover the members at the query and are closed cover them after every later run.
  pub soundness : (events : List Event) (later : State) (members_then : List ℕ) → Later allowed w s members events later members_then
      → Covers s members later members_then bounds
  soundness events later members_then run =
      covers_kept permitted allowed s members later members_then (parting_then [] events) bounds (kept_then events later members_then run)
      (later_excludes (shared_filter s members) w (may_call allowed) s members events later members_then
      (each_by_its_own allowed w s members events later members_then run) covers.filters)

  -- Where they don't meet a right, no member holds it after any later run.
  pub exclusion : (right : Right) → IsOverStanding s.spaces right → (Meets s.spaces bounds right → ⊥)
      → (events : List Event) (later : State) (members_then : List ℕ)
      → Later allowed w s members events later members_then → (pid : ℕ) → IsTrue (is_member members_then pid) → process_holds later pid right ≡ false
  exclusion right standing apart events later members_then run pid member =
      never_held s.spaces Alone (λ _. permitted) (λ _. bounds) bounds (MadeAlone bounds) (may_call allowed) later members_then
      (parting_then [] events) (kept_then events later members_then run) right standing (λ j cell. apart) pid member
