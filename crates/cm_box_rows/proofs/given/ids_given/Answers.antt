use Rattle.std.proofs.Common.{ℕ, length, ap, arith, sym}
use Rattle.std.specs.Prelude.{◌≡◌, Some}
use Rattle.cm_box_rows.proofs.ByFiles.{all_ids, none_without_bit}
use Rattle.cm_box_rows.proofs.Gathered.{gathered_join, gathered_none}
use Rattle.cm_box_rows.proofs.given.ids_given.Goals as goal
use Rattle.cm_box_rows.proofs.given.ids_given.Goals.{then-has_id_bit+in_ok-ids, else-has_id_bit}
use Rattle.cm_box_rows.specs.Programs.{IdGiven}
use Rattle.cm_box_rows.specs.Rows.{RowHolds}
use Rattle.cm_idset.specs.Held.{Held}

pub loop-k-preserved : goal.loop-k-preserved
loop-k-preserved c =
    let row = RowHolds c.args.row.now in
    let Gives = IdGiven c.args.kind c.args.files.now c.args.spaces.now c.args.n.0 row in
    elim c.if-has_id_bit.branch [
      | then-has_id_bit+in_ok-ids w ↦ rw w.ids-is (gathered_join Gives (Held c.loop-k.ids)
          (λ (x : ℕ). w.given_at-id.result ≡ Some x) (Held w.in_ok-ids.ids) c.loop-k.k c.loop-k.invariant
          w.given_at-id.ensures.given w.in_ok-ids.ensures)
      | else-has_id_bit w ↦
          let out = sym (rw c.view_at.ensures at w.if-has_id_bit.ensures) in
          rw w.ids-is (gathered_none Gives (Held c.loop-k.ids) c.loop-k.k c.loop-k.invariant
          (λ x. none_without_bit c.args.kind c.args.files.now c.args.spaces.now c.args.n.0 row c.loop-k.k x out))
    ]

pub returns : goal.returns
returns c =
    all_ids c.args.kind c.args.files.now c.args.spaces.now c.args.n.0 (RowHolds c.args.row.now) (Held c.loop-k.ids)
    c.loop-k.k (omega (arith, ap length c.rows-k-end.ensures.value)) c.loop-k.invariant
