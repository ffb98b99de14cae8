use Rattle.std.proofs.Common.{◌≡◌, ap}
use Rattle.cm_io.proofs.Counting.{ReadNoted, read_noted}
use Rattle.cm_io.proofs.memory.MemShelfShelf.read_at.Goals as goal
use Rattle.cm_io.proofs.memory.MemShelfShelf.read_at.Goals.{in-Some, in_default-2, in_default}

-- the name is noted, and then the read is counted
after : (c : goal.After-count-2) → ReadNoted c.args.self.now.files.counts c.count-2.new.self.counts c.args.name.now c.match-text.read
after c =
    let same : c.match-text.self.files ≡ c.note.new.self = elim c.match-text.branch [
      | in-Some w ↦ ap (λ s. s.files) w.self-is
      | in_default-2 w ↦ ap (λ s. s.files) w.self-is
      | in_default w ↦ ap (λ s. s.files) w.self-is
    ] in
    read_noted _ c.note.new.self.counts _ _ _ c.in_ok-note.ensures.counts (rw same at c.count-2.ensures.counts)

pub returns-clause-cause : goal.returns-clause-cause
returns-clause-cause c = (after c).cause

pub returns-clause-reads : goal.returns-clause-reads
returns-clause-reads c = (after c).reads

pub returns-clause-taken : goal.returns-clause-taken
returns-clause-taken c = (after c).taken
