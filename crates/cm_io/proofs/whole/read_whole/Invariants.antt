use Rattle.std.proofs.Common.{◌≡◌, ◌+◌, ◌-◌, ◌≤◌, vec_len}
use Rattle.cm_io.specs.Account.{account, ReadsFile}
use Rattle.cm_io.proofs.Front.{IsFront}
use Rattle.cm_io.proofs.whole.read_whole.Given as goal

-- the text is a front of the file, and nothing failed
abbrev pub invariant-loop-text : goal.invariant-loop-text
invariant-loop-text g l = record {
  size : vec_len l.text ≤ l.limit + 1;
  buffer : vec_len l.buffer ≡ 65536;
  front : IsFront (g.H.Shelf.held l.initial.shelf) l.name (vec_len l.text) l.text.items;
  file : ReadsFile (account g.H.Shelf l.initial.shelf) (account g.H.Shelf l.shelf) l.name (vec_len l.text) 0 ⊥;
}

abbrev pub decreases-loop-text : goal.decreases-loop-text
decreases-loop-text g l = l.limit + 1 - vec_len l.text
