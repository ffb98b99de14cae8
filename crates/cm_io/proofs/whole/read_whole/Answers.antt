use Rattle.std.proofs.Common.{rules, vec_len}
use Rattle.cm_io.proofs.FileReads.{file_then}
use Rattle.cm_io.proofs.Front.{front_more}
use Rattle.cm_io.proofs.whole.read_whole.Goals as goal

pub loop-text-preserved : goal.loop-text-preserved
loop-text-preserved g c =
    let was = c.in_ok-read_more.was in
    record {
      size = search rules;
      buffer = search rules;
      front = front_more (g.H.Shelf.held c.args.shelf.now) c.args.name.now c.loop-text.text.items c.read_more.new.text.items
          c.read_more.new.buffer (vec_len c.loop-text.text) c.in_ok-read_more.field-0 (vec_len c.read_more.new.text)
          c.loop-text.invariant.front (rw c.loop-text.invariant.file.held at c.in_ok-read_more.ensures.read)
          c.in_ok-read_more.ensures.text c.in_ok-read_more.ensures.len;
      file = file_then _ _ _ c.args.name.now _ _ _ _ _ _ (λ never. never) c.loop-text.invariant.file c.read_more.ensures.file
          (search rules) (search rules) (λ failed. cc) (λ never. absurd never);
    }
