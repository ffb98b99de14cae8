use Rattle.std.proofs.Common.{◌≡◌, ℕ, Some, subst, refl}
use Rattle.std.proofs.lemmas.Bool.{false≢true}
use Rattle.cm_box_rows.proofs.ByFiles.{one_stands}
use Rattle.cm_box_rows.proofs.given.id_lacking.Goals as goal
use Rattle.cm_box_rows.specs.Kinds.{effective}
use Rattle.cm_box_rows.specs.Rows.{RowHolds}
use Rattle.model_rules.specs.FileView.{view}

pub returns-clause-given : goal.returns-clause-given
returns-clause-given c x = (
  λ is.
      let gives = (c.given_at.ensures.given x).0 is in
      let same : x ≡ c.in_ok-id.id =
      one_stands c.args.kind (view c.args.files.now c.args.k) (Some c.in_ok-id.id) (rw c.view_at.ensures at c.in_ok-id.ensures.id) x c.in_ok-id.id refl
      gives.1.2 in (
        gives,
        λ held.
            false≢true (c.if-holds.ensures.1 ((c.effective_ids.ensures c.in_ok-id.id).1
            (subst (λ (y : ℕ). RowHolds c.args.row.now (effective c.args.kind) y) same held))),
      ),
  λ both. (c.given_at.ensures.given x).1 both.0,
)
