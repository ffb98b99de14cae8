use Rattle.cm_script.proofs.OwnArguments.{name_shortens}
use Rattle.cm_script.proofs.own.lists.next_kind.Goals as goal

pub returns : goal.returns
returns c = name_shortens c.args.text.now _ c.take_kind.result c.in_ok-after_blank.ensures c.take_kind.ensures
