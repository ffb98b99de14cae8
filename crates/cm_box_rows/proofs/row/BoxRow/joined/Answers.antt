use Rattle.cm_box_rows.specs.contracts.row.BoxRow.{the_view}
use Rattle.cm_box_rows.proofs.RowParts.{all_joined}
use Rattle.cm_box_rows.proofs.row.BoxRow.joined.Goals as goal

pub returns : goal.returns
returns c = rw (← c.self.view_is, ← c.other.view_is) (all_joined _ (the_view c.self.inside) (the_view c.other.inside)
    (record {
      uids = c.in_ok-u.ensures;
      effective_uids = c.in_ok-eu.ensures;
      fs_uids = c.in_ok-fu.ensures;
      gids = c.in_ok-g.ensures;
      effective_gids = c.in_ok-eg.ensures;
      fs_gids = c.in_ok-fg.ensures;
      groups = c.in_ok-s.ensures;
      mapped_uids = c.in_ok-mu.ensures;
      mapped_gids = c.in_ok-mg.ensures;
      permitted = c.in_ok-p.ensures;
      inheritable = c.in_ok-i.ensures;
      bounding = c.in_ok-b.ensures;
      no_new_privs = c.in_ok-n.ensures;
      root_counts = c.in_ok-r.ensures;
      lock_clear = c.in_ok-k.ensures;
    }))
