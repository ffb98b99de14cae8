-- The processes that a world's text declares keep what processes keep: the space of each stands, and its credential keeps
-- what a credential keeps.
use Rattle.std.proofs.Common.{◌≡◌, ℕ, ◌+◌, ◌<◌, ◌≤◌, ◌==◌, ◌&&◌, true, List, [], length, Option, Some, None, Ok}
use Rattle.std.proofs.Common.{IfSome, codes, subst, lit<, arith, All}
use Rattle.std.proofs.lemmas.Bool.{and_parts, cond_both, not-false}
use Rattle.std.proofs.lemmas.List.Elements.{All-nil, All-cons}
use Rattle.std.specs.Prelude.{unwrap_or}
use Rattle.cm_base.specs.CapSet.{IsCapSet, full, none, is_within}
use Rattle.cm_base.specs.declared.faults.Table.TheVariants as table
use Rattle.cm_base.specs.declared.limited.Limited.TheVariants as limit
use Rattle.model_cred.proofs.IdSets.{set_ascends}
use Rattle.model_cred.proofs.Orders.{all_insert}
use Rattle.model_cred.specs.Credential.{AreIds, FourIds, IsId, Keeps, all_four}
use Rattle.model_cred.specs.Process.{Process}
use Rattle.model_text.proofs.CapTexts.{full_is, none_is, text_is}
use Rattle.model_text.proofs.Rows.{any_rows, read_ok, rows_keep}
use Rattle.model_text.proofs.Starts.{process_read}
use Rattle.model_text.proofs.Values.{number_or_within, number_within, or_default, row_space_within}
use Rattle.model_text.specs.Keys.{last_id}
use Rattle.model_text.specs.ProcessText.{FiveSets, are_included, credential_with, five_sets, four_of, held_by_default, id_of, ids_listed, ids_of}
use Rattle.model_text.specs.ProcessText.{no_sets, process_declared, process_row, set_at, set_declared, sets_declared, sets_with}
use Rattle.model_text.specs.Refusal.{read_rows}
use Rattle.model_text.specs.Toml.{array_items, number_from, text_of}
use Rattle.toml.specs.Data.{Data, array, Items, no_items, item, Members, get_member}

-- ---- ids
id_is : (value : Data) → IsId (id_of value)
id_is value =
    let within : id_of value ≤ last_id
    = or_default (λ n. n ≤ last_id) (number_from 0 last_id value) 0 (number_within 0 last_id value) (omega arith) in
    omega (arith, within)

all_four_are : (id : ℕ) → IsId id → AreIds (all_four id)
all_four_are id is = record { real = is; effective = is; saved = is; fs = is }

four_are : (ids : Items) → AreIds (four_of ids)
four_are (item r (item e (item s (item f no_items)))) = record { real = id_is r; effective = id_is e; saved = id_is s; fs = id_is f }
four_are _ = all_four_are 0 (lit< tt)

ids_are : (value : Option Data) → AreIds (ids_of value)
ids_are None = all_four_are 0 (lit< tt)
ids_are (Some (array ids)) = four_are ids
ids_are (Some value) = all_four_are (id_of value) (id_is value)

listed_are : (values : Items) → All IsId (ids_listed values)
listed_are no_items = All-nil IsId
listed_are (item value values) = All-cons IsId (id_of value) (ids_listed values) (id_is value) (listed_are values)

-- ---- sets of capabilities
set_is : (default : ℕ) (text : Option (List ℕ)) → IsCapSet default → IfSome (set_declared default text) IsCapSet
set_is default None is = is
set_is default (Some text) is = text_is text

held_is : (uid : FourIds) → IsCapSet (held_by_default uid)
held_is uid = cond_both (uid.effective == 0) full none IsCapSet (λ _. full_is) (λ _. none_is)

-- Three of the five sets are sets of capabilities.
record AreSets (s : FiveSets) : Type 0 where
  permitted : IsCapSet s.permitted
  inheritable : IsCapSet s.inheritable
  bounding : IsCapSet s.bounding

five_are : (p e i a b : Option ℕ) → IfSome p IsCapSet → IfSome i IsCapSet → IfSome b IsCapSet → IfSome (five_sets p e i a b) AreSets
five_are (Some p) (Some e) (Some i) (Some a) (Some b) permitted inheritable bounding =
    record { permitted = permitted; inheritable = inheritable; bounding = bounding }
five_are _ _ _ _ _ permitted inheritable bounding = tt

sets_are : (uid : FourIds) (row : Members) → IfSome (sets_with uid row) AreSets
sets_are uid row =
    five_are
    (set_at (held_by_default uid) (codes "permitted") row)
    (set_at (held_by_default uid) (codes "effective") row)
    (set_at none (codes "inheritable") row)
    (set_at none (codes "ambient") row)
    (set_at full (codes "bounding") row)
    (set_is (held_by_default uid) (text_of (get_member (codes "permitted") row)) (held_is uid))
    (set_is none (text_of (get_member (codes "inheritable") row)) none_is)
    (set_is full (text_of (get_member (codes "bounding") row)) full_is)

-- the sets of a row, or none of them
abbrev sets_of : Members → FiveSets
sets_of row = unwrap_or (sets_declared row) no_sets

-- ---- processes
credential_keeps : (row : Members) → are_included (sets_of row) ≡ true → Keeps (credential_with (sets_of row) row)
credential_keeps row is =
    let s : FiveSets = sets_of row in
    let groups : Items = array_items (get_member (codes "groups") row) in
    let are : AreSets s = or_default AreSets (sets_declared row) no_sets (sets_are (ids_of (get_member (codes "uid") row)) row)
    (record { permitted = none_is; inheritable = none_is; bounding = none_is }) in
    let (both, inheritable)
    = and_parts (is_within s.effective s.permitted && is_within s.ambient s.permitted) (is_within s.ambient s.inheritable) is in
    let (effective, permitted) = and_parts (is_within s.effective s.permitted) (is_within s.ambient s.permitted) both in
    let bits = number_or_within 0 255 0 (codes "securebits") row (omega arith) in
    record {
      included = record { effective = effective; ambient_permitted = permitted; ambient_inheritable = inheritable };
      uid = ids_are (get_member (codes "uid") row);
      gid = ids_are (get_member (codes "gid") row);
      groups = set_ascends (ids_listed groups) (listed_are groups);
      inheritable = are.inheritable;
      permitted = are.permitted;
      bounding = are.bounding;
      securebits = omega (arith, bits);
    }

-- The space of each process is one of so many, and its credential keeps what a credential keeps.
pub record KeepProcesses (spaces : ℕ) (processes : List Process) : Type 0 where
  pub stand : All (λ p. p.space < spaces) processes
  pub credentials : All (λ p. Keeps p.cred) processes

one_more : (names : List (List ℕ)) (before : List Process) (row : Members) (all : List Process)
    → KeepProcesses (length names + 1) before → Unit {0} → process_row names before row ≡ Ok all → KeepProcesses (length names + 1) all
one_more names before row all keeps any is =
    let parts = process_read names before row all is in
    let new : Process = process_declared names row in
    let included = not-false (are_included (sets_of row)) parts.0.1.1.1.1.1.1.1.1.1.0 in
    subst (KeepProcesses (length names + 1)) parts.1 (record {
      stand = all_insert (λ p. p.space < length names + 1) new before (row_space_within names row) keeps.stand;
      credentials = all_insert (λ p. Keeps p.cred) new before (credential_keeps row included) keeps.credentials;
    })

-- the processes of a world's text, where its spaces have these names
pub processes_keep : (names : List (List ℕ)) (rows : Items) (processes : List Process)
    → read_rows table.Process limit.Processes 0 (process_row names) [] rows ≡ Ok processes → KeepProcesses (length names + 1) processes
processes_keep names rows processes is =
    rows_keep table.Process (process_row names) (KeepProcesses (length names + 1)) (λ row. Unit {0}) (one_more names) 1 [] rows processes
    (record { stand = All-nil (λ p. p.space < length names + 1); credentials = All-nil (λ p. Keeps p.cred) })
    (any_rows rows) (read_ok table.Process limit.Processes 0 (process_row names) [] rows processes is).1
