-- The code's rows, bodies and parts of calls as those of the definitions.
use Rattle.cm_strace_text.specs.declared.body.Body.{Body}
use Rattle.cm_strace_text.specs.declared.body.Body.TheVariants as code
use Rattle.cm_strace_text.specs.declared.body.PidLine.{PidLine}
use Rattle.cm_strace_text.specs.declared.body.PidLine.TheVariants as row
use Rattle.model_strace.specs.Body as model

-- the row of the definitions
abbrev pub row_is : PidLine → model.PidLine
row_is row.Blank = model.Blank
row_is row.NoPid = model.NoPid
row_is (row.Of pid body) = model.Of pid body.now

-- the body of the definitions
abbrev pub body_is : Body → model.Body
body_is code.Silent = model.Silent
body_is code.Ends = model.Ends
body_is code.Superseded = model.Superseded
body_is (code.Begun text) = model.Begun text.now
body_is (code.Resumed name rest) = model.Resumed name.now rest.now
body_is (code.Whole text) = model.Whole text.now
