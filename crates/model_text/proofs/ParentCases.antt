-- Worked cases, by computation, of worlds that declare parents.
use Rattle.std.proofs.Common.{◌≡◌, ℕ, List, [], ◌∷◌, Option, None, Some}
use Rattle.std.specs.Prelude.{codes}
use Rattle.cm_filter.specs.Filters.{no_filter}
use Rattle.model_cred.specs.Credential.{Credential}
use Rattle.model_cred.specs.Process.{Process}
use Rattle.cm_base.specs.declared.faults.WorldFault.TheVariants as fault
use Rattle.model_text.proofs.ProcessCases.{of_row, AreBad, SecondBad, user, root}
use Rattle.model_text.proofs.WorldCases.{world_on_literals, world_with}
use Rattle.model_text.specs.WorldText.{Reads, world_text}

-- a process with that forebear and credential
abbrev pub of_forebear : ℕ → Option ℕ → Credential → Process
of_forebear pid forebear c = record { pid = pid; forebear = forebear; space = 0; cred = c; filter = no_filter }

-- process 100 of root, whose row these texts go on from, and these processes beside it, by ascending pid
abbrev pub ReadsWith : List ℕ → List Process → Type 0
ReadsWith rest processes = world_text (of_row rest) ≡ Reads (world_with (of_forebear 100 None root ∷ processes))

-- ---- parents of earlier rows
pub declared_parents : record {
  a_child_is_declared : ReadsWith (codes "[[process]]\npid = 101\nparent = 100\n")
      (of_forebear 101 (Some 100) root ∷ []);
  -- a parent gives its child nothing else
  a_child_has_its_own_credential : ReadsWith (codes "[[process]]\npid = 101\nuid = 1000\nparent = 100\n")
      (of_forebear 101 (Some 100) user ∷ []);
  a_child_of_a_child : ReadsWith (codes "[[process]]\npid = 102\nparent = 100\n[[process]]\npid = 101\nparent = 102\n")
      (of_forebear 101 (Some 102) root ∷ of_forebear 102 (Some 100) root ∷ []);
  two_children : ReadsWith
      (codes "[[process]]\npid = 102\nparent = 100\n[[process]]\npid = 101\nparent = 100\n[[process]]\npid = 103\n")
      (of_forebear 101 (Some 100) root ∷ of_forebear 102 (Some 100) root ∷ of_forebear 103 None root ∷ []);
  -- earlier is said of rows, and not of pids
  a_child_with_a_lower_pid : world_text (of_row (codes "[[process]]\npid = 1\nparent = 100\n"))
      ≡ Reads (world_with (of_forebear 1 (Some 100) root ∷ of_forebear 100 None root ∷ []));
  largest_pid_of_a_parent : world_text
      (codes "log = \"script\"\nprocess = [{pid = 4194304}, {pid = 100, parent = 4194304}]\n")
      ≡ Reads (world_with (of_forebear 100 (Some 4194304) root ∷ of_forebear 4194304 None root ∷ []));
}
unfolding world_on_literals
declared_parents = search

-- ---- faults
pub faults_of_parents : record {
  -- no process, a later row, the row itself
  parents_of_no_earlier_row : AreBad fault.NoSuchParent
      (codes "parent = 99\n" ∷ codes "parent = 101\n[[process]]\npid = 101\n" ∷ codes "parent = 100\n"
      ∷ codes "parent = 101\n[[process]]\npid = 101\nparent = 100\n" ∷ []);
  parents_of_no_earlier_row_in_the_second : SecondBad fault.NoSuchParent
      (codes "[[process]]\npid = 101\nparent = 101\n"
      ∷ codes "[[process]]\npid = 101\nparent = 102\n[[process]]\npid = 102\nparent = 100\n"
      ∷ codes "[[process]]\npid = 101\nparent = 1\n" ∷ []);
  parents_out_of_range : SecondBad fault.BadNumber
      (codes "[[process]]\npid = 101\nparent = 0\n" ∷ codes "[[process]]\npid = 101\nparent = -100\n"
      ∷ codes "[[process]]\npid = 101\nparent = 4194305\n" ∷ []);
  parents_of_another_type : SecondBad fault.WrongType
      (codes "[[process]]\npid = 101\nparent = \"100\"\n" ∷ codes "[[process]]\npid = 101\nparent = \"init\"\n"
      ∷ codes "[[process]]\npid = 101\nparent = [100]\n" ∷ codes "[[process]]\npid = 101\nparent = 100.0\n"
      ∷ codes "[[process]]\npid = 101\nparent = true\n" ∷ codes "[[process]]\npid = 101\nparent = {}\n" ∷ []);
  -- a pid that stands twice is told before its parent
  one_pid_twice : SecondBad fault.TwiceNamed
      (codes "[[process]]\npid = 100\nparent = 7\n" ∷ codes "[[process]]\npid = 100\nspace = \"a\"\n" ∷ []);
}
unfolding world_on_literals
faults_of_parents = search
