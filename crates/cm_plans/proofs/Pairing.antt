-- Middle choices in parts, and of two files one after the other.
use Rattle.std.proofs.Common.{◌≡◌, ℕ, List, [], ◌∷◌, ◌++◌, Option, None, Some, option_map, map, refl, sym, ap, ◌∙◌}
use Rattle.std.specs.Option.{option_or}
use Rattle.cm_base.specs.declared.res.FileRef.TheVariants.{Row}
use Rattle.model_plans.specs.Move.{Move, Setting, Seat, RunFile}
use Rattle.model_plans.specs.Plan.{Choice, then_raise, run_row, run_two}
use Rattle.model_plans.specs.Walk.{after, after_moves, last_found, middle_found}

or_assoc : (a b c : Option (List Move)) → option_or (option_or a b) c ≡ option_or a (option_or b c)
or_assoc None b c = refl
or_assoc (Some x) b c = refl

map_or : (h : List Move → List Move) (a b : Option (List Move)) → option_map h (option_or a b) ≡ option_or (option_map h a) (option_map h b)
map_or h None b = refl
map_or h (Some x) b = refl

map_map : (h : List Move → List Move) (f : Choice → List Move) (o : Option Choice) → option_map h (option_map f o) ≡ option_map (λ x. h (f x)) o
map_map h f None = refl
map_map h f (Some x) = refl

module _ (q : Setting) (seat : Seat) where
  -- in two parts
  pub middle_append : (first rest : List Choice) → middle_found q seat (first ++ rest) ≡ option_or (middle_found q seat first) (middle_found q seat rest)
  middle_append [] rest = refl
  middle_append (middle ∷ more) rest =
      let one : Option (List Move) = option_map (λ last. then_raise middle ++ then_raise last) (last_found q (after_moves q seat (then_raise middle))) in
      ap (option_or one) (middle_append more rest) ∙ sym (or_assoc one (middle_found q seat more) (middle_found q seat rest))

  pub first_part : (first rest : List Choice) (moves : List Move) → middle_found q seat first ≡ Some moves
      → middle_found q seat (first ++ rest) ≡ Some moves
  first_part first rest moves is = middle_append first rest ∙ ap (λ (o : Option (List Move)). option_or o (middle_found q seat rest)) is

  pub second_part : (first rest : List Choice) → middle_found q seat first ≡ None
      → middle_found q seat (first ++ rest) ≡ middle_found q seat rest
  second_part first rest is = middle_append first rest ∙ ap (λ (o : Option (List Move)). option_or o (middle_found q seat rest)) is

  -- two files are the second one after the first
  pub second_runs : (first : ℕ) (rows : List ℕ) → middle_found q seat (map (run_two first) rows)
      ≡ option_map (λ moves. RunFile (Row first) ∷ moves) (middle_found q (after q seat (RunFile (Row first))) (map run_row rows))
  second_runs first [] = refl
  second_runs first (second ∷ rows) =
      let then : Seat = after q seat (RunFile (Row first)) in
      let more : List Move → List Move = λ moves. RunFile (Row first) ∷ moves in
      let last : Option Choice = last_found q (after_moves q then (then_raise (run_row second))) in
      let one : Option (List Move) = option_map (λ last. then_raise (run_row second) ++ then_raise last) last in
      ap (λ (o : Option (List Move)). option_or o (middle_found q seat (map (run_two first) rows)))
      (sym (map_map more (λ last. then_raise (run_row second) ++ then_raise last) last))
      ∙ ap (option_or (option_map more one)) (second_runs first rows)
      ∙ sym (map_or more one (middle_found q then (map run_row rows)))
