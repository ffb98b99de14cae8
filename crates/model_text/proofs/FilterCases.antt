-- Worked cases, by computation, of the filter that a world's text declares.
use Rattle.std.proofs.Common.{◌≡◌, ℕ, List, [], ◌∷◌, ◌++◌, map}
use Rattle.std.specs.Prelude.{codes}
use Rattle.cm_base.specs.declared.faults.Table.TheVariants as table
use Rattle.cm_base.specs.declared.faults.WorldFault.{WorldFault}
use Rattle.cm_base.specs.declared.faults.WorldFault.TheVariants as fault
use Rattle.model_text.proofs.WorldCases.{world_on_literals, world_with}
use Rattle.model_text.specs.WorldText.{Reads, Bad, world_text}

-- a world with this filter
abbrev pub of_filter : List ℕ → List ℕ
of_filter rest = codes "log = \"script\"\n[filter]\n" ++ rest

-- each of these keys has this fault
abbrev pub AreBad : WorldFault → List (List ℕ) → Type 0
AreBad why keys = map (λ rest. world_text (of_filter rest)) keys ≡ map (λ _. Bad table.Filter 0 why) keys

pub all_filters : record {
  -- setuid is the first of the calls, unshare the 20th, exit the 26th; repeats change nothing
  filters : map (λ rest. world_text (of_filter rest))
      ([] ∷ codes "exclude = []\n" ∷ codes "exclude = [\"setuid\"]\n"
      ∷ codes "exclude = [\"exit\", \"unshare\", \"exit\"]\n" ∷ [])
      ≡ map (λ filter. Reads (record (world_with []) { filter = filter })) (0 ∷ 0 ∷ 1 ∷ 34078720 ∷ []);
  unknown_keys : AreBad fault.UnknownKey (codes "Exclude = []\n" ∷ codes "exclude = 1\nother = 1\n" ∷ []);
  wrong_types : AreBad fault.WrongType
      (codes "exclude = \"setuid\"\n" ∷ codes "exclude = [\"x\", 1]\n" ∷ codes "exclude = {}\n" ∷ []);
  no_such_calls : AreBad fault.NoSuchCall
      (codes "exclude = [\"setuid\", \"x\"]\n" ∷ codes "exclude = [\"SETUID\"]\n" ∷ codes "exclude = [\"\"]\n" ∷ []);
}
unfolding world_on_literals
all_filters = search
