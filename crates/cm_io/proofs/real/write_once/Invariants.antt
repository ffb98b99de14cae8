use Rattle.std.specs.Io.KnownBytes.{Keeps}
use Rattle.cm_io.proofs.real.write_once.Given as goal

-- the known bytes of the writer stay
abbrev pub invariant-loop : goal.invariant-loop
invariant-loop g l = Keeps (g.W.Write.contents l.initial.writer) (g.W.Write.contents l.writer)
