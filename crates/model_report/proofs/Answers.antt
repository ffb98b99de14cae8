-- The answer to a query, whatever is asked for: it asks for a right of a family, or it is refused.
use Rattle.std.proofs.Common.{◌≡◌, ℕ, ◌<◌, ◌≤◌, Bool, true, false, cond, nat_lt, length, List, Option}
use Rattle.std.proofs.Common.{Some, None, refl, sym, ◌∙◌, ap, subst, arith}
use Rattle.std.specs.Prelude.{codes}
use Rattle.std.proofs.lemmas.Bool.{ltb-false, ltb-true, le-ltb, lt-ltb}
use Rattle.cm_base.specs.declared.limited.Limited.TheVariants as limit
use Rattle.cm_base.specs.Limited.{limit_number}
use Rattle.model_box.specs.Meets.{IsOverStanding}
use Rattle.model_cred.specs.Process.{Process, State}
use Rattle.model_cred.specs.Right.{Right, Cap}
use Rattle.model_cred.specs.Space.{Spaces}
use Rattle.model_cred.specs.World.{World}
use Rattle.model_report.specs.Answer.{query_answer, asked_answer, right_answer, task_report, bad_query, unless_large, is_over_standing}
use Rattle.model_report.specs.Causes.{Asks, AsksVerdict, IsBadQuery, IsLarge, no_process, no_right, no_space}
use Rattle.model_report.specs.Judged.{Judged}
use Rattle.model_report.specs.Query.{Query, asked_process, right_token}
use Rattle.model_report.specs.Replay.{Report, limit_hit}
use Rattle.model_report.specs.Task.{Task}
use Rattle.model_run.specs.Family.{family}

-- ---- the right's space
pub stands_or_not : (spaces : Spaces) (right : Right) → is_over_standing spaces right ≡ true → IsOverStanding spaces right
stands_or_not spaces (Cap cap n) is = is
stands_or_not spaces _ is = tt

pub standing_is : (spaces : Spaces) (right : Right) → IsOverStanding spaces right → is_over_standing spaces right ≡ true
standing_is spaces (Cap cap n) is = is
standing_is spaces _ is = refl

pub not_standing : (spaces : Spaces) (right : Right) → is_over_standing spaces right ≡ false → IsOverStanding spaces right → ⊥
not_standing spaces right none is = let both : false ≡ true = sym none ∙ standing_is spaces right is in absurd (cc)

pub is_not : (spaces : Spaces) (right : Right) → (b : Bool) → is_over_standing spaces right ≡ b → (IsOverStanding spaces right → ⊥)
    → is_over_standing spaces right ≡ false
is_not spaces right true is none = absurd (none (stands_or_not spaces right is))
is_not spaces right false is none = is

-- ---- the answer
module _ (q : Query) (w : World) (s : State) where
  module _ (task : Task) (j : Judged) where
    of_asks : (p : Process) (right : Right) → Asks q w s p right → query_answer task j w s q ≡ right_answer task j w s p right
    of_asks p right named =
        ap (λ (o : Option Process). asked_answer task j w s o (right_token w.names q.right)) named.process
        ∙ ap (λ (o : Option Right). asked_answer task j w s (Some p) o) named.asked

    -- the answer about a right whose space stands, or doesn't
    by_space : (p : Process) (right : Right) (b : Bool) → is_over_standing s.spaces right ≡ b
        → right_answer task j w s p right
        ≡ cond b (unless_large (length (family s p.pid)) (task_report task j w s (family s p.pid) right)) (bad_query (codes "space"))
    by_space p right b is =
        ap (λ (c : Bool). cond c (unless_large (length (family s p.pid)) (task_report task j w s (family s p.pid) right)) (bad_query (codes "space"))) is

    by_size : (size : ℕ) (rest : Report) (b : Bool) → nat_lt (limit_number limit.Family) size ≡ b
        → unless_large size rest ≡ cond b (limit_hit limit.Family) rest
    by_size size rest b is = ap (λ (c : Bool). cond c (limit_hit limit.Family) rest) is

    -- where the query stands
    pub of_asked : (p : Process) (right : Right) → AsksVerdict q w s p right
        → query_answer task j w s q ≡ task_report task j w s (family s p.pid) right
    of_asked p right asked =
        of_asks p right asked.asks ∙ by_space p right true (standing_is s.spaces right asked.standing)
        ∙ by_size (length (family s p.pid)) (task_report task j w s (family s p.pid) right) false
        (le-ltb (limit_number limit.Family) (length (family s p.pid)) asked.size)

    pub of_no_space : (p : Process) (right : Right) → Asks q w s p right → is_over_standing s.spaces right ≡ false
        → query_answer task j w s q ≡ bad_query (codes "space")
    of_no_space p right named is = of_asks p right named ∙ by_space p right false is

    pub of_large : (p : Process) (right : Right) → Asks q w s p right → IsOverStanding s.spaces right
        → limit_number limit.Family < length (family s p.pid) → query_answer task j w s q ≡ limit_hit limit.Family
    of_large p right named standing over =
        of_asks p right named ∙ by_space p right true (standing_is s.spaces right standing)
        ∙ by_size (length (family s p.pid)) (task_report task j w s (family s p.pid) right) true
        (lt-ltb (limit_number limit.Family) (length (family s p.pid)) over)

    pub of_no_process : asked_process s q.pid ≡ None → query_answer task j w s q ≡ bad_query (codes "pid")
    of_no_process none = ap (λ (o : Option Process). asked_answer task j w s o (right_token w.names q.right)) none

    pub of_no_right : (p : Process) → asked_process s q.pid ≡ Some p → right_token w.names q.right ≡ None
        → query_answer task j w s q ≡ bad_query (codes "right")
    of_no_right p found none =
        ap (λ (o : Option Process). asked_answer task j w s o (right_token w.names q.right)) found
        ∙ ap (λ (o : Option Right). asked_answer task j w s (Some p) o) none

    -- where it is refused
    pub of_bad : IsBadQuery q w s → (word : List ℕ) × (query_answer task j w s q ≡ bad_query word)
    of_bad (no_process none) = (codes "pid", of_no_process none)
    of_bad (no_right p found none) = (codes "right", of_no_right p found none)
    of_bad (no_space p right named none) =
        (codes "space", of_no_space p right named (is_not s.spaces right (is_over_standing s.spaces right) refl none))

    pub of_larger : IsLarge q w s → query_answer task j w s q ≡ limit_hit limit.Family
    of_larger (p, right, named, standing, over) = of_large p right named standing over

  -- What a query comes to: it stands, or it is refused.
  pub data Comes : Type 0 where
    asks : (p : Process) (right : Right) → AsksVerdict q w s p right → Comes
    bad : IsBadQuery q w s → Comes
    large : IsLarge q w s → Comes

  comes_by_size : (p : Process) (right : Right) → Asks q w s p right → IsOverStanding s.spaces right
      → (b : Bool) → nat_lt (limit_number limit.Family) (length (family s p.pid)) ≡ b → Comes
  comes_by_size p right named standing true is =
      large (p, right, named, standing, ltb-true (limit_number limit.Family) (length (family s p.pid)) is)
  comes_by_size p right named standing false is =
      asks p right (record { asks = named; standing = standing; size = ltb-false (limit_number limit.Family) (length (family s p.pid)) is })

  comes_by_space : (p : Process) (right : Right) → Asks q w s p right → (b : Bool) → is_over_standing s.spaces right ≡ b → Comes
  comes_by_space p right named true is =
      comes_by_size p right named (stands_or_not s.spaces right is) (nat_lt (limit_number limit.Family) (length (family s p.pid))) refl
  comes_by_space p right named false is = bad (no_space p right named (not_standing s.spaces right is))

  comes_by_words : (p : Option Process) (right : Option Right) → asked_process s q.pid ≡ p → right_token w.names q.right ≡ right → Comes
  comes_by_words None right a b = bad (no_process a)
  comes_by_words (Some p) None a b = bad (no_right p a b)
  comes_by_words (Some p) (Some right) a b =
      comes_by_space p right (record { process = a; asked = b }) (is_over_standing s.spaces right) refl

  pub comes : Comes
  comes = comes_by_words (asked_process s q.pid) (right_token w.names q.right) refl refl

  pub one_process : {p p' : Process} {right right' : Right} → Asks q w s p right → Asks q w s p' right' → p ≡ p'
  one_process {p} {p'} one other = let same : Some p ≡ Some p' = sym one.process ∙ other.process in cc

  pub one_right : {p p' : Process} {right right' : Right} → Asks q w s p right → Asks q w s p' right' → right ≡ right'
  one_right {p} {p'} {right} {right'} one other = let same : Some right ≡ Some right' = sym one.asked ∙ other.asked in cc

  -- a query that is refused doesn't stand
  pub bad_asks_none : IsBadQuery q w s → (p : Process) (right : Right) → AsksVerdict q w s p right → ⊥
  bad_asks_none (no_process none) p right asked =
      let two : None ≡ Some p = sym none ∙ asked.asks.process in cc
  bad_asks_none (no_right p' found none) p right asked =
      let two : None ≡ Some right = sym none ∙ asked.asks.asked in cc
  bad_asks_none (no_space p' right' named none) p right asked =
      none (subst (λ (r : Right). IsOverStanding s.spaces r) (one_right asked.asks named) asked.standing)

  pub large_asks_none : IsLarge q w s → (p : Process) (right : Right) → AsksVerdict q w s p right → ⊥
  large_asks_none (p', right', named, standing, over) p right asked =
      let size : length (family s p'.pid) ≤ limit_number limit.Family
      = subst (λ (o : Process). length (family s o.pid) ≤ limit_number limit.Family) (one_process asked.asks named) asked.size in
      absurd (omega (arith, size, over))
