-- The rows that values of JSON stand for: first the shape of each, and, once all have it, the order in the sets of
-- each.
use Rattle.std.specs.Prelude.{ℕ, suc, ◌==◌, ◌&&◌, Bool, List, [], ◌∷◌, codes, Option, Some, None, if◌then◌else◌}
use Rattle.std.specs.Prelude.{Result, Ok, Err}
use Rattle.model_box.specs.Bounds.{BoxRow}
use Rattle.model_cred.specs.Intervals.{Interval, is_canonical}
use Rattle.model_cert.specs.Fault.{CertFault, Shape, Order, ◌>>=◌}
use Rattle.model_cert.specs.Json.{key_count, field}
use Rattle.model_cert.specs.Sets.{caps_of, ids_of}
use Rattle.serde_json.specs.Data.{Data, Items, no_items, item}
use Rattle.serde_json.specs.Find.{as_bool}

-- ---- the shape

-- what is there, or the shape of the row of that number is refused
abbrev pub in_row : {A : Type 0} → ℕ → Option A → Result A CertFault
in_row y (Some x) = Ok x
in_row y None = Err (Shape (Some y))

-- the ids at a key of the row of that number, in whatever order they are
abbrev pub ids_at : ℕ → List ℕ → Data → Result (List Interval) CertFault
ids_at y key d = in_row y (field ids_of key d)

-- the capabilities there
abbrev pub caps_at : ℕ → List ℕ → Data → Result ℕ CertFault
caps_at y key d = in_row y (field caps_of key d)

-- the flag there
abbrev pub flag_at : ℕ → List ℕ → Data → Result Bool CertFault
flag_at y key d = in_row y (field as_bool key d)

-- the row, if each of the 15 keys is there, and its value of its kind
unfoldable pub row_fields : ℕ → Data → Result BoxRow CertFault
row_fields y d = do
  bounding ← caps_at y (codes "b") d
  effective_gids ← ids_at y (codes "eg") d
  effective_uids ← ids_at y (codes "eu") d
  fs_gids ← ids_at y (codes "fg") d
  fs_uids ← ids_at y (codes "fu") d
  gids ← ids_at y (codes "g") d
  inheritable ← caps_at y (codes "i") d
  lock_clear ← flag_at y (codes "k") d
  mapped_gids ← ids_at y (codes "mg") d
  mapped_uids ← ids_at y (codes "mu") d
  no_new_privs ← flag_at y (codes "n") d
  permitted ← caps_at y (codes "p") d
  root_counts ← flag_at y (codes "r") d
  groups ← ids_at y (codes "s") d
  uids ← ids_at y (codes "u") d
  Ok (record {
    uids = uids;
    effective_uids = effective_uids;
    fs_uids = fs_uids;
    gids = gids;
    effective_gids = effective_gids;
    fs_gids = fs_gids;
    groups = groups;
    mapped_uids = mapped_uids;
    mapped_gids = mapped_gids;
    permitted = permitted;
    inheritable = inheritable;
    bounding = bounding;
    no_new_privs = no_new_privs;
    root_counts = root_counts;
    lock_clear = lock_clear;
  })

-- the row of that number, in whatever order the intervals of its sets are: an object with these 15 keys and no other,
-- since what is read has each key once
unfoldable pub row_shape : ℕ → Data → Result BoxRow CertFault
row_shape y d = if key_count d == 15 then row_fields y d else Err (Shape (Some y))

-- rows from that number on
abbrev pub rows_shape : ℕ → Items → Result (List BoxRow) CertFault
rows_shape y no_items = Ok []
rows_shape y (item d ds) = row_shape y d >>= λ row. rows_shape (suc y) ds >>= λ rows. Ok (row ∷ rows)

-- ---- the order

-- each of the three sets has ids alone, ascending, and none of its intervals reaches the next
abbrev pub three_ascend : List Interval → List Interval → List Interval → Bool
three_ascend a b c = is_canonical a && is_canonical b && is_canonical c

-- each set of ids of the row does
abbrev pub sets_ascend : BoxRow → Bool
sets_ascend row =
    three_ascend row.uids row.effective_uids row.fs_uids && three_ascend row.gids row.effective_gids row.fs_gids
    && three_ascend row.groups row.mapped_uids row.mapped_gids

-- the row of that number, if its sets ascend
abbrev pub row_order : ℕ → BoxRow → Result BoxRow CertFault
row_order y row = if sets_ascend row then Ok row else Err (Order y)

-- rows from that number on, if the sets of each ascend
abbrev pub rows_order : ℕ → List BoxRow → Result (List BoxRow) CertFault
rows_order y [] = Ok []
rows_order y (row ∷ rows) = row_order y row >>= λ first. rows_order (suc y) rows >>= λ more. Ok (first ∷ more)

-- ---- one row

-- one row alone, its shape before its order
abbrev pub row_read : ℕ → Data → Result BoxRow CertFault
row_read y d = row_shape y d >>= row_order y
