-- Worked cases of lines by which filters are installed.
use Rattle.std.proofs.Common.{◌≡◌, [], ◌∷◌, map, refl, codes}
use Rattle.cm_base.specs.declared.errno.Errno.TheVariants.{EPERM, EACCES, EAGAIN}
use Rattle.cm_base.specs.declared.faults.LineFault.TheVariants as fault
use Rattle.cm_base.specs.declared.res.Res.TheVariants.{Done, Err}
use Rattle.model_cred.specs.Call.{Install}
use Rattle.model_text.proofs.CaseWorld.{the_world}
use Rattle.model_text.proofs.LineCases.{IsEvent, Have, event_of}
use Rattle.model_text.proofs.PrintCases.{print_on_literals}
use Rattle.model_text.specs.Print.{event_text}

-- unshare is excluded by 0x80000, setns by 0x100000, install by 0x4000000
pub install_of_none : IsEvent (codes "100 install = 0") (Install 0) Done
install_of_none = refl

pub install_of_some : IsEvent (codes "100 install unshare setns = 0") (Install 0x180000) Done
install_of_some = refl

-- in any order, and more than once
pub install_as_a_set : IsEvent (codes "100 install setns unshare setns = EACCES") (Install 0x180000) (Err EACCES)
install_as_a_set = refl

pub install_of_itself : IsEvent (codes "100 install install = EPERM") (Install 0x4000000) (Err EPERM)
install_of_itself = refl

pub what_is_excluded_is_the_name_of_a_call : Have (fault.Argument 2)
    (codes "100 install unshare exec = 0" ∷ codes "100 install unshare UNSHARE = 0" ∷ codes "100 install setns - = EPERM" ∷ [])
what_is_excluded_is_the_name_of_a_call = refl

pub exit_is_never_excluded : Have (fault.Argument 1) (codes "100 install exit = 0" ∷ codes "100 install exit setns = EACCES" ∷ [])
exit_is_never_excluded = refl

pub result_of_install : Have fault.Outcome (codes "100 install unshare = 1" ∷ codes "100 install = ENOSYS" ∷ codes "100 install = -1" ∷ [])
result_of_install = refl

pub shape_of_install : Have fault.Shape (codes "100 install" ∷ codes "100 install unshare = 0 0" ∷ codes "100 install exit" ∷ [])
shape_of_install = refl

-- printed in the order of the kinds, each once
pub a_filter_is_printed : map (λ more. event_text the_world (event_of (Install more) Done)) (0 ∷ 0x180000 ∷ 0x5080001 ∷ [])
    ≡ codes "100 install = 0" ∷ codes "100 install unshare setns = 0" ∷ codes "100 install setuid unshare execve install = 0" ∷ []
unfolding print_on_literals
a_filter_is_printed = refl

pub a_refused_install_is_printed : event_text the_world (event_of (Install 0x80000) (Err EAGAIN)) ≡ codes "100 install unshare = EAGAIN"
unfolding print_on_literals
a_refused_install_is_printed = refl
