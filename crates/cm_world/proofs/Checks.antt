-- The faults of keys before others, whatever is looked at of the keys.
use Rattle.std.proofs.Common.{◌≡◌, Bool, true, false, List, [], ◌∷◌, ◌++◌, cond, Option, None, Some, Result, Ok, Err}
use Rattle.std.proofs.Common.{refl, sym, ap, subst, ◌∙◌}
use Rattle.std.specs.Prelude.{IfSome}
use Rattle.std.specs.Option.{option_or}
use Rattle.cm_values.specs.Answers.{Gives}
use Rattle.cm_values.specs.declared.error.RowError.{RowError}
use Rattle.model_text.specs.Keys.{Key}
use Rattle.model_text.specs.Refusal.{Cause, first_standing, unless}

one_more : (b : Bool) (cause : Cause) (all first rest : Option Cause) → all ≡ option_or first rest
    → cond b (Some cause) all ≡ option_or (cond b (Some cause) first) rest
one_more true cause all first rest is = refl
one_more false cause all first rest is = is

-- the first that stands of some checks and others: that of these, else that of the others
pub first_of_both : (checks others : List (Cause × Bool))
    → first_standing (checks ++ others) ≡ option_or (first_standing checks) (first_standing others)
first_of_both [] others = refl
first_of_both (check ∷ checks) others =
    one_more check.1 check.0 (first_standing (checks ++ others)) (first_standing checks) (first_standing others) (first_of_both checks others)

-- The keys of a row are those that the code has, and those of the definitions; its own checks come after those of the keys.
module _ {A : Type 0} (checks : List Key → List (Cause × Bool)) (found keys : List Key) (own : List (Cause × Bool)) (value : A)
    (same : found ≡ keys) where
  first_of_keys : first_standing (checks keys ++ own) ≡ option_or (first_standing (checks found)) (first_standing own)
  first_of_keys = first_of_both (checks keys) own ∙ ap (λ ks. option_or (first_standing (checks ks)) (first_standing own)) (sym same)

  -- none of those of the keys stands: its own decide
  pub none_of_keys : (r : Result A RowError) → None ≡ first_standing (checks found) → Gives r (unless (first_standing own) value)
      → Gives r (unless (first_standing (checks keys ++ own)) value)
  none_of_keys r none gives =
      let all : first_standing (checks keys ++ own) ≡ first_standing own
      = first_of_keys ∙ ap (λ o. option_or o (first_standing own)) (sym none) in
      subst (λ (o : Option Cause). Gives r (unless o value)) (sym all) gives

  -- one of those of the keys stands: it is told
  pub one_of_keys : (cause : Cause) → Some cause ≡ first_standing (checks found) → unless (first_standing (checks keys ++ own)) value ≡ Err cause
  one_of_keys cause stands =
      let all : first_standing (checks keys ++ own) ≡ Some cause
      = first_of_keys ∙ ap (λ o. option_or o (first_standing own)) (sym stands) in
      ap (λ o. unless o value) all

  -- the same two of an answer that tells whether one stands
  pub refused_of_keys : (o : Option Cause) → IfSome o (λ cause. unless (first_standing (checks found)) (tt {0}) ≡ Err cause)
      → IfSome o (λ cause. unless (first_standing (checks keys ++ own)) value ≡ Err cause)
  refused_of_keys None is = tt
  refused_of_keys (Some cause) is = one_of_keys cause (stands_of (first_standing (checks found)) cause is)
    where
      stands_of : (o : Option Cause) (cause : Cause) → unless o (tt {0}) ≡ Err cause → Some cause ≡ o
      stands_of None cause is = absurd (cc)
      stands_of (Some first) cause is = let one : first ≡ cause = cc in ap Some (sym one)

  pub passed_of_keys : (r : Result A RowError) → unless (first_standing (checks found)) (tt {0}) ≡ Ok tt → Gives r (unless (first_standing own) value)
      → Gives r (unless (first_standing (checks keys ++ own)) value)
  passed_of_keys r is = none_of_keys r (none_of (first_standing (checks found)) is)
    where
      none_of : (o : Option Cause) → unless o (tt {0}) ≡ Ok tt → None ≡ o
      none_of None is = refl
      none_of (Some first) is = absurd (cc)
