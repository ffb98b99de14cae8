-- Worked cases of events that are read again as they were written: the condition can be met.
use Rattle.std.proofs.Common.{◌≡◌, ◌≢◌, ℕ, zero, suc, ◌<◌, Bool, true, false, not, ◌&&◌, List, []}
use Rattle.std.proofs.Common.{◌∷◌, length, map, refl, sym, ap, ◌∙◌, arith, get_or, IsTrue, lit≤}
use Rattle.std.proofs.lemmas.Bool.{and_parts, not-true, or_parts, false≢true}
use Rattle.std.proofs.lemmas.List.Elements.{All-nil, All-cons}
use Rattle.std.specs.Prelude.{codes, bytes_eq, AllPairs}
use Rattle.std.specs.List.{list_any}
use Rattle.cm_base.specs.declared.res.FileRef.TheVariants.{Row}
use Rattle.cm_base.specs.declared.res.Res.TheVariants.{Done}
use Rattle.model_cred.specs.Call.{SetNs, Exec}
use Rattle.model_text.proofs.CaseWorld.{the_world}
use Rattle.model_text.proofs.Found.{text_same}
use Rattle.model_text.proofs.LineCases.{event_of}
use Rattle.model_text.proofs.ReadBack.{event_read_back}
use Rattle.model_text.specs.Arguments.{File, Space}
use Rattle.model_text.specs.Line.{Tells, script_line}
use Rattle.model_text.specs.NameText.{is_name, is_path}
use Rattle.model_text.specs.Print.{event_text}
use Rattle.model_text.specs.Written.{AreNames, ArePaths, KeepsNames, IsInRange, IsWritable}

-- no two texts are equal
are_distinct : List (List ℕ) → Bool
are_distinct [] = true
are_distinct (text ∷ texts) = not (list_any (bytes_eq text) texts) && are_distinct texts

-- a text differs from each of those among which it isn't
not_among : (text : List ℕ) (texts : List (List ℕ)) (j : ℕ) (d : List ℕ) → list_any (bytes_eq text) texts ≡ false → j < length texts → text ≢ get_or texts j d
not_among text [] j d none within same = omega arith
not_among text (other ∷ texts) zero d none within same =
    let differ : bytes_eq text other ≡ false = (or_parts (bytes_eq text other) (list_any (bytes_eq text) texts) none).0 in
    false≢true (sym differ ∙ ap (bytes_eq text) (sym same) ∙ text_same text)
not_among text (other ∷ texts) (suc j) d none within same =
    not_among text texts j d (or_parts (bytes_eq text other) (list_any (bytes_eq text) texts) none).1 (omega arith) same

pairs_differ : (texts : List (List ℕ)) → are_distinct texts ≡ true → AllPairs (λ text other. text ≢ other) texts
unfolding are_distinct
pairs_differ (text ∷ texts) all zero (suc j) d before within same =
    let first : not (list_any (bytes_eq text) texts) ≡ true = (and_parts (not (list_any (bytes_eq text) texts)) (are_distinct texts) all).0 in
    not_among text texts j d (not-true (list_any (bytes_eq text) texts) first) (omega arith) same
pairs_differ (text ∷ texts) all (suc i) (suc j) d before within same =
    pairs_differ texts (and_parts (not (list_any (bytes_eq text) texts)) (are_distinct texts) all).1 i j d (omega arith) (omega arith) same
pairs_differ _ all _ _ d before within same = omega arith

-- the names and paths of the cases' world keep their rules
names_keep : AreNames the_world.names
unfolding is_name are_distinct
names_keep = record {
  each = All-cons (λ name. IsTrue (is_name name)) (codes "pod") (codes "box-1.a" ∷ []) refl
      (All-cons (λ name. IsTrue (is_name name)) (codes "box-1.a") [] refl (All-nil (λ name. IsTrue (is_name name))));
  distinct = pairs_differ the_world.names refl;
}

paths_keep : ArePaths (map (λ row. row.path) the_world.files.rows)
unfolding is_path are_distinct
paths_keep = record {
  each = All-cons (λ path. IsTrue (is_path path)) (codes "/bin/su") (codes "/opt/x" ∷ codes "pod" ∷ []) refl
      (All-cons (λ path. IsTrue (is_path path)) (codes "/opt/x") (codes "pod" ∷ []) refl
      (All-cons (λ path. IsTrue (is_path path)) (codes "pod") [] refl (All-nil (λ path. IsTrue (is_path path)))));
  distinct = pairs_differ (map (λ row. row.path) the_world.files.rows) refl;
}

the_names_keep : KeepsNames the_world
the_names_keep = record { names = names_keep; paths = paths_keep }

pub an_execve_can_be_written : IsWritable the_world (event_of (Exec (Row 2)) Done)
an_execve_can_be_written = record {
  pid = refl;
  arguments = All-cons (IsInRange the_world) (File (Row 2)) [] (lit≤ tt) (All-nil (IsInRange the_world));
  groups = refl;
  filter = tt;
  result = tt;
}

pub a_setns_can_be_written : IsWritable the_world (event_of (SetNs 4294967295) Done)
a_setns_can_be_written = record {
  pid = refl;
  arguments = All-cons (IsInRange the_world) (Space 4294967295) [] (lit≤ tt) (All-nil (IsInRange the_world));
  groups = refl;
  filter = tt;
  result = tt;
}

-- and so it is read again
pub the_execve_is_read_again : script_line the_world (event_text the_world (event_of (Exec (Row 2)) Done)) ≡ Tells (event_of (Exec (Row 2)) Done)
the_execve_is_read_again = event_read_back the_world (event_of (Exec (Row 2)) Done) the_names_keep an_execve_can_be_written
