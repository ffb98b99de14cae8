-- One kept line changed among the others.
use Rattle.std.proofs.Common.{◌≡◌, ℕ, List, length, ap, ◌∙◌}
use Rattle.std.proofs.Math.ListN.{set, length-set}
use Rattle.std.proofs.lemmas.List.Elements.{All-set}
use Rattle.cm_credentials.specs.Kept.{Keeps, KeepsLine}
use Rattle.cm_credentials.specs.declared.kept.KeptLines.{KeptLines}
use Rattle.cm_credentials.specs.declared.kept.KeptLine.{KeptLine}

-- what the lines keep stays, where another line that keeps it stands in one slot
pub Keeps-set : (names : List (List ℕ)) (old new : KeptLines) (slot : ℕ) (line : KeptLine) → Keeps names old
    → new.lines.items ≡ set old.lines.items slot line → new.number ≡ old.number → KeepsLine names line → Keeps names new
Keeps-set names old new slot line keeps is number here = record {
  sixteen = ap length is ∙ simp length-set keeps.sixteen;
  lines = rw is (All-set (KeepsLine names) old.lines.items slot line here keeps.lines);
  number = rw number keeps.number;
}
