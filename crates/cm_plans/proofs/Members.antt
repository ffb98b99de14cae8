-- What members find, one by one.
use Rattle.std.proofs.Common.{◌≡◌, ℕ, Bool, List, [], ◌∷◌, Option, None, Some, option_map, sym, ap, ◌∙◌}
use Rattle.std.specs.Option.{option_or}
use Rattle.cm_filter.specs.Filters.{permits}
use Rattle.cm_filter.specs.declared.kind.CallKind.{CallKind}
use Rattle.cm_plans.specs.Finds.{FoundAmongIs}
use Rattle.cm_plans.specs.Ready.{IsAbout}
use Rattle.cm_plans.specs.declared.query.Query.{Query}
use Rattle.cm_state.specs.Right.{right_of}
use Rattle.cm_state.specs.declared.right.Right.{Right as CodeRight}
use Rattle.cm_declared.specs.World.{world_of}
use Rattle.cm_declared.specs.declared.world.World.{World as CodeWorld}
use Rattle.model_cred.specs.Process.{State, process_at}
use Rattle.model_cred.specs.Right.{Right}
use Rattle.model_cred.specs.World.{World}
use Rattle.model_plans.specs.Firsts.{WalkFindsTheSame}
use Rattle.model_plans.specs.PlanRun.{Found, holder, first_found}
use Rattle.model_plans.specs.Walk.{found_for, found_among, walked}
use Rattle.model_plans.proofs.Nested.{walk_finds_the_same}

module _ (permitted : CallKind → Bool) (w : World) (s : State) (right : Right) where
  pub among_next : (left rest : List ℕ) (pid : ℕ) (found : Option Found) → left ≡ pid ∷ rest
      → found ≡ found_for permitted w s right pid (process_at s.processes pid)
      → found_among permitted w s right left ≡ option_or found (found_among permitted w s right rest)
  among_next left rest pid found is by =
      ap (found_among permitted w s right) is ∙ ap (λ (o : Option Found). option_or o (found_among permitted w s right rest)) (sym by)

  walked_now : (members : List ℕ) (o : Option ℕ) → holder s members right ≡ o
      → first_found permitted w s members right
      ≡ option_or (option_map (λ pid. record { run = []; holder = pid }) o) (found_among permitted w s right members)
  unfolding walked WalkFindsTheSame
  walked_now members o is =
      walk_finds_the_same permitted w s members right
      ∙ ap (λ (p : Option ℕ). option_or (option_map (λ pid. record { run = []; holder = pid }) p) (found_among permitted w s right members)) is

  pub found_now : (members : List ℕ) (pid : ℕ) → holder s members right ≡ Some pid
      → first_found permitted w s members right ≡ Some (record { run = []; holder = pid })
  found_now members pid is = walked_now members (Some pid) is

  pub found_later : (members : List ℕ) → holder s members right ≡ None
      → first_found permitted w s members right ≡ found_among permitted w s right members
  found_later members is = walked_now members None is

-- what is found is that of the world and the right that the question is about
pub found_about : (q : Query) (w : CodeWorld) (s t : State) (right : CodeRight) (members : List ℕ) (found : Option Found) → IsAbout q w t right
    → FoundAmongIs q s members found → found ≡ found_among (permits w.filter) (world_of w) s (right_of right) members
found_about q w s t right members found about is =
    is
    ∙ ap (λ (world : CodeWorld). found_among (permits world.filter) (world_of world) s (right_of q.right.now) members) about.of_world
    ∙ ap (λ (r : CodeRight). found_among (permits w.filter) (world_of w) s (right_of r) members) about.of_right
