use Rattle.std.proofs.Common.{rules}
use Rattle.std.proofs.lemmas.List.{length-map}
use Rattle.cm_io.specs.Counts.{names_of}
use Rattle.cm_io.proofs.Files.{files-if_noted}
use Rattle.cm_io.proofs.held.Held.note.Goals as goal

pub returns-clause-files : goal.returns-clause-files
returns-clause-files c =
    files-if_noted (names_of c.args.self.now.counts) _ c.args.name.now c.args.self.now.texts.items _ (search (rules, length-map)) c.note.ensures.names
