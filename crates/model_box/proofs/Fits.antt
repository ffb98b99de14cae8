-- What every step keeps, in parts: of the spaces whatever the bounds, of the spaces by bounds, and of one member. Beside
-- what covering bounds say, the spaces are a tree, a member's space stands, and its sets are within one another.
use Rattle.std.proofs.Common.{◌≡◌, ℕ, suc, ◌<◌, ◌≤◌, Bool, ◌||◌, true, Some, length, arith, ◌∙◌, sym, ap, eqb}
use Rattle.std.specs.Prelude.{IsTrue}
use Rattle.std.specs.List.{list_any}
use Rattle.std.proofs.lemmas.Bool.{lt-ltb}
use Rattle.cm_filter.specs.declared.kind.CallKind.{CallKind}
use Rattle.cm_filter.specs.declared.kind.CallKind.TheVariants as kind
use Rattle.model_cred.specs.Credential.{Credential, Included}
use Rattle.model_cred.specs.Files.{FileTable}
use Rattle.model_cred.specs.Space.{Spaces, space_of, is_at_or_above, chain, stands}
use Rattle.model_box.specs.Row.{Part, Row, Standing, Fresh, HasMembers, CredHas, IsWithin, space_under}
use Rattle.model_box.specs.Covers.{RowOf, Stays, MapsAreIn, ParentsEarlier, OwnersIn}
use Rattle.model_box.specs.Spread.{Brings, CanMake, IsNext}
use Rattle.model_box.specs.Closed.{Closed, ByMaps}
use Rattle.model_box.proofs.Trees.{Earlier, same_chain, at_or_above_low}

-- Of the spaces alone: no bounds are spoken of.
pub record TreeFits (old new : Spaces) : Type 0 where
  pub before : Earlier old
  pub earlier : Earlier new
  pub grown : length old ≤ length new
  pub stay : (n : ℕ) → n < length old → Stays (space_of old n) (space_of new n)
  pub deny : (n a : ℕ) → RowOf (length old) new n (Fresh a) → (space_of old a).deny ≡ true → (space_of new n).deny ≡ true
  pub parents : ParentsEarlier old new

-- It holds of each standing space that is the nearest above a later one.
abbrev pub AtAnchors : Spaces → Spaces → (ℕ → Type 0) → Type 0
AtAnchors old new P = (n a : ℕ) → RowOf (length old) new n (Fresh a) → P a

-- The fresh row of the space holds what the members of its standing row bring.
abbrev pub FilledAt : (Row → Part → ℕ → Type 0) → ℕ → Type 0
FilledAt bounds a = (part : Part) (x : ℕ) → Brings (bounds (Standing a)) part x → bounds (Fresh a) part x

-- So it does where the standing row has members.
abbrev pub FilledIfPeopled : (Row → Part → ℕ → Type 0) → ℕ → Type 0
FilledIfPeopled bounds a = HasMembers (bounds (Standing a)) → FilledAt bounds a

-- The row holds what its own members bring, as newcomers to another of its spaces.
abbrev pub Settles : (Part → ℕ → Type 0) → Type 0
Settles row = (part : Part) (x : ℕ) → Brings row part x → row part x

-- Bounds that share the spaces, one for each cell: `Cell` says which numbers are cells, `permits` what the members of each
-- may call, `common` what some may, `all` holds what any of them holds, and `Made` says of a standing space that some cell
-- can make spaces in it. What follows for them from their being closed, and all that the steps use of it. (One bounds by
-- itself is such a cell.)
pub record ClosedTogether (files : FileTable) (old : Spaces) (Cell : ℕ → Type 0) (permits : ℕ → CallKind → Bool)
    (common : CallKind → Bool) (bounds : ℕ → Row → Part → ℕ → Type 0) (all : Row → Part → ℕ → Type 0) (Made : ℕ → Type 0)
    : Type 0 where
  pub closed : (j : ℕ) → Cell j → Closed (permits j) files old (bounds j)
  pub within : (j : ℕ) → Cell j → IsWithin (bounds j) all
  pub less : (j : ℕ) → Cell j → (k : CallKind) → IsTrue (permits j k) → IsTrue (common k)
  pub maps : (j : ℕ) → Cell j → (row : Row) → IsTrue (stands old (space_under row)) → (part : Part) (x : ℕ)
      → ByMaps common old all row part x → bounds j row part x
  pub makes : (j : ℕ) → Cell j → IsTrue (permits j kind.Unshare || permits j kind.CloneUser) → (a : ℕ) → IsTrue (stands old a)
      → CanMake old (bounds j) a → Made a
  pub filled : (a : ℕ) → IsTrue (stands old a) → Made a → (j : ℕ) → Cell j
      → IsTrue (permits j kind.Unshare || permits j kind.CloneUser || permits j kind.SetNs) → FilledIfPeopled (bounds j) a
  pub peopled : (a : ℕ) → IsTrue (stands old a) → Made a → HasMembers (all (Fresh a))

-- What every step keeps of the spaces by the bounds: each cell's rows hold the maps, the owners of later spaces are in the
-- rows of all, and where a later space stands some cell can have made it.
pub record SpacesFit (old new : Spaces) (Cell : ℕ → Type 0) (bounds : ℕ → Row → Part → ℕ → Type 0)
    (all : Row → Part → ℕ → Type 0) (Made : ℕ → Type 0) : Type 0 where
  pub tree : TreeFits old new
  pub mapped : (j : ℕ) → Cell j → MapsAreIn old new (bounds j)
  pub owners : OwnersIn old new all
  pub made : AtAnchors old new Made

-- a credential is within a row
abbrev pub InRow : (Part → ℕ → Type 0) → Credential → Type 0
InRow row c = (part : Part) (x : ℕ) → CredHas c part x → row part x

-- a member in the space `at` with that credential
pub record MemberFits (old new : Spaces) (bounds : Row → Part → ℕ → Type 0) (at : ℕ) (c : Credential) : Type 0 where
  pub here : at < length new
  pub held : (row : Row) → RowOf (length old) new at row → InRow (bounds row) c
  pub settled : (a : ℕ) → RowOf (length old) new at (Fresh a) → Settles (bounds (Fresh a))
  pub included : Included c

module _ (old new : Spaces) (fit : TreeFits old new) where
  pub chain_stays : (n : ℕ) → n < length old → chain new n ≡ chain old n
  chain_stays n low = same_chain old new fit.before fit.earlier fit.grown (λ m stands. (fit.stay m stands).parent) (suc n) n (omega arith) low

  pub at_or_above_stays : (m n : ℕ) → n < length old → IsTrue (is_at_or_above new m n) → IsTrue (is_at_or_above old m n)
  at_or_above_stays m n low above = ap (list_any (λ k. eqb k m)) (sym (chain_stays n low)) ∙ above

  pub next_stays : (a n m : ℕ) → n < length old → IsTrue (is_at_or_above new m n) → (space_of new m).parent ≡ Some a → IsNext old a n m
  next_stays a n m low above parent =
      let below : m ≤ n = at_or_above_low new fit.earlier m n above in
      (at_or_above_stays m n low above, sym (fit.stay m (omega arith)).parent ∙ parent)

  pub it_stands : (n : ℕ) → n < length old → IsTrue (stands old n)
  it_stands n low = lt-ltb n (length old) low
