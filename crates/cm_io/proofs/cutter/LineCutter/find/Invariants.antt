use Rattle.std.proofs.Common.{◌≡◌, ◌≤◌, ◌+◌, ◌-◌, length, IsTrue}
use Rattle.std.specs.Prelude.{IfSome, Some}
use Rattle.cm_io.specs.Account.{account, ReadsFile}
use Rattle.cm_io.specs.Cutter.{Fits, read_to, is_at_hand, past_kept}
use Rattle.cm_io.specs.CutterSteps.{KeepsMore}
use Rattle.cm_io.proofs.cutter.LineCutter.find.Given as goal

-- More bytes are kept, and nothing failed.
abbrev pub invariant-loop-past : goal.invariant-loop-past
invariant-loop-past g l = record {
  keeps : KeepsMore l.initial.self l.self (length l.self.kept - length l.initial.self.kept);
  ended : l.self.ended ≡ l.initial.self.ended;
  shows : IfSome (past_kept l.initial.self) (λ past. past_kept l.self ≡ Some past);
  kept : l.kept ≡ length l.initial.self.kept;
  few : read_to l.initial.self ≤ l.initial.self.whole + 1;
  fits : Fits (g.H.Shelf.held l.initial.shelf) l.self;
  unread : IsTrue (is_at_hand l.initial.self) → l.shelf ≡ l.initial.shelf;
  file : ReadsFile (account g.H.Shelf l.initial.shelf) (account g.H.Shelf l.shelf) l.initial.self.name
      (length l.self.kept - length l.initial.self.kept) 0 ⊥;
}

abbrev pub decreases-loop-past : goal.decreases-loop-past
decreases-loop-past g l = l.self.whole + 1 - read_to l.self
