use Rattle.cm_cert.proofs.Orders.{Three, row_kept}
use Rattle.cm_cert.proofs.plain.PlainRow.ordered.Goals as goal
use Rattle.cm_cert.specs.contracts.plain.PlainRow.{the_view}

pub returns : goal.returns
returns c =
    let first : Three = (c.in_ok-u.u, c.in_ok-u.eu, c.in_ok-u.fu) in
    let second : Three = (c.in_ok-g.g, c.in_ok-g.eg, c.in_ok-g.fg) in
    let third : Three = (c.in_ok-s.s, c.in_ok-s.mu, c.in_ok-s.mg) in
    rw (← c.self.view_is)
    (row_kept (the_view c.self.inside) first second third c.in_ok-u.ensures c.in_ok-g.ensures c.in_ok-s.ensures)
