use Rattle.std.proofs.Common.{◌≡◌, Err, None, ap, rules}
use Rattle.cm_world.proofs.TableWorld.{filter_refused, world_read}
use Rattle.cm_world.proofs.tables.read_table.Goals as goal
use Rattle.cm_world.specs.Answers.{refusal_of}
use Rattle.model_text.specs.Keys.{shape_checks}
use Rattle.model_text.specs.Refusal.{first_standing}
use Rattle.model_text.specs.SpaceText.{Declared}
use Rattle.model_text.specs.WorldText.{whole_keys}
use Rattle.toml.specs.View.{table_view}

pub returns-in_err-filter : goal.returns-in_err-filter
returns-in_err-filter c =
    let top = table_view c.args.top.now in
    let names = ap (λ (d : Declared). d.names) c.declared.view_is in
    let whole : None ≡ first_standing (shape_checks whole_keys top) = search rules in
    let same : c.from_residual-in_err-filter.result ≡ Err c.in_err-filter.field-0.0 = search rules in
    rw same (
    filter_refused top c.in_ok-declared.declared c.in_ok-mounts.mounts c.in_ok-files.files c.in_ok-procs.procs whole
    (rw c.items_at.ensures at c.in_ok-declared.ensures) (rw (c.items_at-2.ensures, names) at c.in_ok-mounts.ensures)
    (rw c.items_at-3.ensures at c.in_ok-files.ensures) (rw c.items_at-4.ensures at c.in_ok-procs.ensures.answers)
    (refusal_of c.in_err-filter.field-0.0) (rw c.value_at.ensures at c.in_err-filter.ensures))

pub returns : goal.returns
returns c =
    let top = table_view c.args.top.now in
    let names = ap (λ (d : Declared). d.names) c.declared.view_is in
    let whole : None ≡ first_standing (shape_checks whole_keys top) = search rules in
    rw c.world_with.ensures (
    world_read top c.in_ok-declared.declared c.in_ok-mounts.mounts c.in_ok-files.files c.in_ok-procs.procs whole
    (rw c.items_at.ensures at c.in_ok-declared.ensures) (rw (c.items_at-2.ensures, names) at c.in_ok-mounts.ensures)
    (rw c.items_at-3.ensures at c.in_ok-files.ensures) (rw c.items_at-4.ensures at c.in_ok-procs.ensures.answers)
    c.in_ok-filter.filter (rw c.value_at.ensures at c.in_ok-filter.ensures))
