-- Writing the maps of a space and its setgroups word keeps the spaces and the members covered.
use Rattle.std.proofs.Common.{◌≡◌, ℕ, Bool, true, false, [], ◌∷◌, length, refl, sym, ap, ◌∙◌, subst, inl, inr, eqb}
use Rattle.std.specs.Prelude.{◌⊎◌, if◌then◌else◌}
use Rattle.std.proofs.lemmas.Bool.{cases_eq, eqb-true}
use Rattle.model_cred.proofs.Spaces.{length_put}
use Rattle.model_cred.specs.Credential.{Credential}
use Rattle.model_cred.specs.Space.{Space, Spaces, space_of, put_space}
use Rattle.model_box.specs.Row.{Part, Row, Fresh}
use Rattle.model_box.specs.Covers.{RowOf, Stays, MapsIn, MapsAreIn, OwnersIn}
use Rattle.model_box.proofs.Trees.{space_of_newest, space_of_older, row_same}
use Rattle.model_box.proofs.Fits.{TreeFits, AtAnchors, MemberFits}

-- ---- another space in the place of one
-- a choice, by its two sides
pub choose : {A : Type 0} (P : A → Type 0) (b : Bool) (x y : A) → (b ≡ true → P x) → (b ≡ false → P y) → P (if b then x else y)
choose P true x y first second = first refl
choose P false x y first second = second refl

pub put_cases : (t : ℕ) (new : Space) (spaces : Spaces) (n : ℕ)
    → ((n ≡ t) × (space_of (put_space t new spaces) n ≡ new)) ⊎ (space_of (put_space t new spaces) n ≡ space_of spaces n)
put_cases t new [] n = inr refl
put_cases t new (s ∷ older) n =
    choose (λ (after : Spaces). ((n ≡ t) × (space_of after n ≡ new)) ⊎ (space_of after n ≡ space_of (s ∷ older) n))
    (eqb t (length older)) (new ∷ older) (s ∷ put_space t new older) here (there (put_cases t new older n)) where
      here : eqb t (length older) ≡ true → ((n ≡ t) × (space_of (new ∷ older) n ≡ new)) ⊎ (space_of (new ∷ older) n ≡ space_of (s ∷ older) n)
      here at =
          elim (cases_eq n (length older)) [
            | inl same ↦ inl (same ∙ sym (eqb-true t (length older) at), ap (space_of (new ∷ older)) same ∙ space_of_newest new older)
            | inr other ↦ inr (space_of_older new older n other ∙ sym (space_of_older s older n other))
          ]

      below : (n ≡ length (put_space t new older) → ⊥) → (n ≡ length older → ⊥)
          → ((n ≡ t) × (space_of (put_space t new older) n ≡ new)) ⊎ (space_of (put_space t new older) n ≡ space_of older n)
          → ((n ≡ t) × (space_of (s ∷ put_space t new older) n ≡ new)) ⊎ (space_of (s ∷ put_space t new older) n ≡ space_of (s ∷ older) n)
      below put_other other (inl at) = inl (at.0, space_of_older s (put_space t new older) n put_other ∙ at.1)
      below put_other other (inr kept) = inr (space_of_older s (put_space t new older) n put_other ∙ kept ∙ sym (space_of_older s older n other))

      there : ((n ≡ t) × (space_of (put_space t new older) n ≡ new)) ⊎ (space_of (put_space t new older) n ≡ space_of older n)
          → eqb t (length older) ≡ false
          → ((n ≡ t) × (space_of (s ∷ put_space t new older) n ≡ new))
          ⊎ (space_of (s ∷ put_space t new older) n ≡ space_of (s ∷ older) n)
      there rest past =
          elim (cases_eq n (length older)) [
            | inl same ↦
                let put_same : n ≡ length (put_space t new older) = same ∙ sym (length_put t new older) in
                inr ((ap (space_of (s ∷ put_space t new older)) put_same ∙ space_of_newest s (put_space t new older))
                ∙ sym (ap (space_of (s ∷ older)) same ∙ space_of_newest s older))
            | inr other ↦ below (λ e. other (e ∙ length_put t new older)) other rest
          ]

-- A changed space that keeps what stays, and whose maps are in its row, keeps the spaces covered.
module _ (old new : Spaces) (fit : TreeFits old new) (t : ℕ) (s : Space) (stays : Stays (space_of new t) s) where
  -- each space keeps what stays
  put_stays : (n : ℕ) → Stays (space_of new n) (space_of (put_space t s new) n)
  put_stays n =
      elim (put_cases t s new n) [
        | inl at ↦
            subst (λ (x : Space). Stays (space_of new n) x) (sym at.1)
            (subst (λ (k : ℕ). Stays (space_of new k) s) (sym at.0) stays)
        | inr same ↦ subst (λ (x : Space). Stays (space_of new n) x) (sym same)
            (record { parent = refl; owner = refl; uids = λ map is. is; gids = λ map is. is; deny = λ is. is })
      ]

  put_row : (n : ℕ) (row : Row) → RowOf (length old) (put_space t s new) n row → RowOf (length old) new n row
  put_row n row row_n = row_same (put_space t s new) new (λ m. (put_stays m).parent) row_n

  pub put_tree : TreeFits old (put_space t s new)
  put_tree = record {
    before = fit.before;
    earlier = λ n p parent. fit.earlier n p (sym (put_stays n).parent ∙ parent);
    grown = rw (length_put t s new) (fit.grown);
    stay = λ n low. record {
      parent = (put_stays n).parent ∙ (fit.stay n low).parent;
      owner = (put_stays n).owner ∙ (fit.stay n low).owner;
      uids = λ map written. (put_stays n).uids map ((fit.stay n low).uids map written);
      gids = λ map written. (put_stays n).gids map ((fit.stay n low).gids map written);
      deny = λ word. (put_stays n).deny ((fit.stay n low).deny word);
    };
    deny = λ n a row word. (put_stays n).deny (fit.deny n a (put_row n (Fresh a) row) word);
    parents = λ n late here. let up = fit.parents n late (rw (length_put t s new) at here) in (up.0, (put_stays n).parent ∙ up.1, up.2);
  }

  -- No later space comes.
  pub put_anchors : (P : ℕ → Type 0) → AtAnchors old new P → AtAnchors old (put_space t s new) P
  put_anchors P before n a row = before n a (put_row n (Fresh a) row)

  -- by bounds
  module _ (bounds : Row → Part → ℕ → Type 0) where
    pub put_mapped : ((row : Row) → RowOf (length old) new t row → MapsIn s (bounds row)) → MapsAreIn old new bounds
        → MapsAreIn old (put_space t s new) bounds
    put_mapped inside mapped n row row_n =
        elim (put_cases t s new n) [
          | inl at ↦ rw at.1 (inside row (rw at.0 at (put_row n row row_n)))
          | inr same ↦ rw same (mapped n row (put_row n row row_n))
        ]

    pub put_owners : OwnersIn old new bounds → OwnersIn old (put_space t s new) bounds
    put_owners owners n p row late parent row_p = rw ((put_stays n).owner) (owners n p row late (sym (put_stays n).parent ∙ parent) (put_row p row row_p))

    pub put_members : (at : ℕ) (c : Credential) → MemberFits old new bounds at c → MemberFits old (put_space t s new) bounds at c
    put_members at c member = record {
      here = rw (length_put t s new) (member.here);
      held = λ row row_at. member.held row (put_row at row row_at);
      settled = λ a row_at. member.settled a (put_row at (Fresh a) row_at);
      included = member.included;
    }
