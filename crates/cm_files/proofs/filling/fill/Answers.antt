use Rattle.std.proofs.Common.{length, [], ◌∷◌, ◌++◌, ap, sym, ◌∙◌, get_or}
use Rattle.std.proofs.lemmas.List.{map_more}
use Rattle.std.proofs.lemmas.List.Elements.{All-more}
use Rattle.cm_files.specs.Index.{no_row}
use Rattle.cm_files.specs.Table.{seen_on}
use Rattle.cm_files.proofs.Faultless.{fault_more}
use Rattle.cm_files.proofs.filling.fill.Goals as goal
use Rattle.model_cred.specs.Files.{KeepsRow}

pub loop-n-preserved : goal.loop-n-preserved
loop-n-preserved c =
    let rows = c.args.rows.now in
    let n = c.loop-n.n in
    record {
      index = c.in_ok-add_row.ensures.index;
      keys = c.in_ok-add_row.ensures.keys;
      seen = c.in_ok-add_row.ensures.seen ∙ ap (λ l. l ++ seen_on c.args.mounts.now (get_or rows n no_row) ∷ []) c.loop-n.invariant.seen
          ∙ sym (map_more (seen_on c.args.mounts.now) rows n no_row c.loop-n-test.true);
      keeps = All-more KeepsRow rows n no_row c.loop-n-test.true c.loop-n.invariant.keeps c.in_ok-add_row.ensures.keeps;
      fine = fault_more (length c.args.mounts.now) rows n _ c.loop-n-test.true c.in_ok-add_row.ensures.fine c.loop-n.invariant.fine;
    }
