use Rattle.std.proofs.Common.{◌≡◌, Ok, ap}
use Rattle.cm_io.proofs.Counting.{ReadNoted, read_noted}
use Rattle.cm_io.proofs.sure.SureShelfShelf.read_at.Goals as goal
use Rattle.cm_io.proofs.sure.SureShelfShelf.read_at.Goals.{in-Some, in-None}

-- the name is noted, and then the read is counted
after : (c : goal.After-count) → ReadNoted c.args.self.now.files.counts c.count.new.self.counts c.args.name.now (Ok c.match-text.n)
after c =
    let same : c.match-text.self.files ≡ c.note.new.self =
    elim c.match-text.branch [ in-Some w ↦ ap (λ s. s.files) w.self-is | in-None w ↦ ap (λ s. s.files) w.self-is ] in
    read_noted _ c.note.new.self.counts _ _ _ c.in_ok-note.ensures.counts (rw same at c.count.ensures.counts)

pub returns-clause-reads : goal.returns-clause-reads
returns-clause-reads c = (after c).reads

pub returns-clause-taken : goal.returns-clause-taken
returns-clause-taken c = (after c).taken
