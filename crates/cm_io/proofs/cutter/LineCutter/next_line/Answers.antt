use Rattle.std.proofs.Common.{◌+◌, ◌-◌, refl, rules, arith, drop, length-take}
use Rattle.std.proofs.lemmas.Result.{err_from_is_err_and}
use Rattle.cm_io.proofs.Given.{given_after, is_given, size_found, error_after, error_is}
use Rattle.cm_io.proofs.cutter.LineCutter.next_line.Goals as goal

pub returns-in-Some : goal.returns-in-Some
returns-in-Some g c =
    let finds = rw c.in-Some.is at c.in_ok-found.ensures.found in
    let found = rw c.in-Some.is at c.in_ok-found.ensures.is in
    let tells = rw c.in-Some.is at c.in_ok-found.ensures.ends in
    let given = is_given _ c.args.self.now c.find.new.self _ _ _ _ _ c.self.inside.buffer.items _ _ _ c.in-Some.found _ c.self.view_is (search rules)
    finds c.deref-in-Some.ensures.value refl found in (
      (
        refl,
        λ _. tt,
        given_after _ _ c.args.self.now c.find.new.self _ _ _ _ _ c.self.inside.buffer.items _ _ _ c.in-Some.found _ c.self.view_is (search rules)
            (omega (arith, length-take (c.self.inside.start + c.in-Some.found.len - c.self.inside.start) (drop c.self.inside.start c.deref-in-Some.result.now)))
            c.in_ok-found.ensures.stays.1 finds c.in_ok-found.ensures.fits tells c.in_ok-found.ensures.whole (size_found _ _ _ found) given c.in_ok-found.ensures.keeps,
      ),
      record {
        cut = given;
        stopped = search rules;
        short = omega (
          arith,
          finds.short,
          length-take (c.self.inside.start + c.in-Some.found.len - c.self.inside.start)
              (drop c.self.inside.start c.deref-in-Some.result.now),
        );
        after = tt;
        told = search rules;
        unread = c.in_ok-found.ensures.unread;
        file = search rules;
        breaks = search rules;
        wants = search rules;
        few = search rules;
      },
    )

pub returns-in_err-found : goal.returns-in_err-found
returns-in_err-found g c =
    let p = err_from_is_err_and c.from_residual.result c.from_residual.ensures.1 in
    rw (p.1, p.2) (
      (
        refl,
        λ _. tt,
        error_after _ _ c.args.self.now c.find.new.self _ c.in_err-found.field-0.0 refl c.in_err-found.ensures.stays c.in_err-found.ensures.fits c.in_err-found.ensures.is,
      ),
      record {
        cut = error_is _ c.args.self.now c.find.new.self c.in_err-found.field-0.0 _ refl c.in_err-found.ensures.is;
        stopped = search rules;
        short = tt;
        after = tt;
        told = search rules;
        unread = c.in_err-found.ensures.unread;
        file = search rules;
        breaks = search rules;
        wants = search rules;
        few = search rules;
      },
    )
