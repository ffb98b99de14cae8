use Rattle.std.proofs.Common.{rules, tests, ◌∙◌, ◌&&◌, nat_le, string_bytes}
use Rattle.std.proofs.lemmas.Iterator.Search.{any_from_yields_List}
use Rattle.std.proofs.lemmas.Iterator.{YieldsList-from_slice}
use Rattle.std.specs.Str.{bytes_eq}
use Rattle.cm_io.proofs.Broken.{any_broken}
use Rattle.cm_io.proofs.breaks.Breaks.has.Goals as goal

pub returns : goal.returns
returns c =
    any_from_yields_List (λ row. bytes_eq (string_bytes row.name) c.args.name.now && nat_le row.place c.args.at) _ _ _ c.any.ensures.ran
    (YieldsList-from_slice c.args.self.now.rows.items cc) (λ x b q k. search (rules, tests))
    ∙ any_broken c.args.self.now.rows.items c.args.name.now c.args.at
