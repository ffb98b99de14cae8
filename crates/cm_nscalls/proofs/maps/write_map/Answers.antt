use Rattle.std.proofs.Common.{◌∙◌, ap, sym}
use Rattle.cm_nscalls.proofs.Written.{written}
use Rattle.cm_nscalls.proofs.maps.write_map.Goals as goal
use Rattle.cm_nscalls.specs.Answers.{res_of, spaces_told}
use Rattle.cm_nscalls.specs.File.{file_of}

pub returns-in-Err-clause-spaces : goal.returns-in-Err-clause-spaces
returns-in-Err-clause-spaces c =
    ap (spaces_told (file_of c.args.w.file) c.args.spaces.now c.args.w.target.0 c.args.list.now) (sym (ap res_of c.in-Err.is) ∙ c.in_ok-map.ensures.res)
    ∙ sym (written (file_of c.args.w.file) c.args.spaces.now c.args.w.at.0 c.args.c.now c.args.w.target.0 c.args.list.now)
