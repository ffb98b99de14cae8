use Rattle.cm_box_rows.proofs.Tests.{no, within_told}
use Rattle.cm_box_rows.proofs.spread.ids_held.Goals as goal

pub returns-then-not-within : goal.returns-then-not-within
returns-then-not-within c = rw (← c.from.view_is, ← c.row.view_is) (no _ (λ held.
    let out = c.within.ensures.no c.if-not-within.true in
    out.2 (held.uids out.0 out.1)))

pub returns-then-not-within-2 : goal.returns-then-not-within-2
returns-then-not-within-2 c = rw (← c.from.view_is, ← c.row.view_is) (no _ (λ held.
    let out = c.within-2.ensures.no c.if-not-within-2.true in
    out.2 (held.effective_uids out.0 out.1)))

pub returns-then-not-within-3 : goal.returns-then-not-within-3
returns-then-not-within-3 c = rw (← c.from.view_is, ← c.row.view_is) (no _ (λ held.
    let out = c.within-3.ensures.no c.if-not-within-3.true in
    out.2 (held.fs_uids out.0 out.1)))

pub returns-then-not-within-4 : goal.returns-then-not-within-4
returns-then-not-within-4 c = rw (← c.from.view_is, ← c.row.view_is) (no _ (λ held.
    let out = c.within-4.ensures.no c.if-not-within-4.true in
    out.2 (held.gids out.0 out.1)))

pub returns-then-not-within-5 : goal.returns-then-not-within-5
returns-then-not-within-5 c = rw (← c.from.view_is, ← c.row.view_is) (no _ (λ held.
    let out = c.within-5.ensures.no c.if-not-within-5.true in
    out.2 (held.effective_gids out.0 out.1)))

pub returns-then-not-within-6 : goal.returns-then-not-within-6
returns-then-not-within-6 c = rw (← c.from.view_is, ← c.row.view_is) (no _ (λ held.
    let out = c.within-6.ensures.no c.if-not-within-6.true in
    out.2 (held.fs_gids out.0 out.1)))

pub returns : goal.returns
returns c = rw (← c.from.view_is, ← c.row.view_is) (
  λ is. record {
    uids = c.within.ensures.yes c.if-not-within.false;
    effective_uids = c.within-2.ensures.yes c.if-not-within-2.false;
    fs_uids = c.within-3.ensures.yes c.if-not-within-3.false;
    gids = c.within-4.ensures.yes c.if-not-within-4.false;
    effective_gids = c.within-5.ensures.yes c.if-not-within-5.false;
    fs_gids = c.within-6.ensures.yes c.if-not-within-6.false;
    groups = c.within-7.ensures.yes is;
  },
  λ held. (within_told c.within-7.result _ _ c.within-7.ensures.yes c.within-7.ensures.no).1 held.groups,
)
