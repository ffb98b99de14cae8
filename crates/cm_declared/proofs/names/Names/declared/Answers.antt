use Rattle.std.specs.String.{string_bytes}
use Rattle.cm_declared.proofs.SpaceNames.{number_named_place}
use Rattle.cm_declared.proofs.names.Names.declared.Goals as goal

pub returns-in-None-clause-number : goal.returns-in-None-clause-number
returns-in-None-clause-number c =
    rw (
      ← c.self.view_is,
      number_named_place string_bytes 1 c.self.inside.list.items c.args.name.now,
      ← c.deref.ensures.value,
      ← c.place_of.ensures.first,
      c.in-None.is,
    )
