use Rattle.cm_cli.proofs.DrillText.{drilled_written}
use Rattle.cm_cli.proofs.drilling.put_drilled.Goals as goal

pub returns : goal.returns
returns c =
    drilled_written c.put_word.result c.args.d.now c.args.text.now.items c.put_numbered.new.text.items
    c.put_numbered-2.new.text.items
    c.put_numbered-3.new.text.items c.put_numbered-4.new.text.items c.put_word.new.text.items c.from.result
    c.from-2.result c.from-3.result
    c.from-4.result c.from.ensures c.from-2.ensures c.from-3.ensures c.from-4.ensures c.in_ok-put_numbered.ensures
    c.in_ok-put_numbered-2.ensures
    c.in_ok-put_numbered-3.ensures c.in_ok-put_numbered-4.ensures c.put_word.ensures
