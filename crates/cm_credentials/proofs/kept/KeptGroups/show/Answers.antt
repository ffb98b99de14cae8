use Rattle.std.proofs.Common.{◌≡◌, ◌<◌, ◌++◌, ℕ, List, codes, length, sym, ◌∙◌, subst}
use Rattle.std.proofs.lemmas.Slice.Eq.{slice_eq-Decides}
use Rattle.std.proofs.lemmas.Bool.Decides.{Decides-eqb}
use Rattle.model_text.specs.Print.{groups_text}
use Rattle.cm_credentials.proofs.kept.KeptGroups.show.Goals as goal

pub returns-then-eq-clause-text : goal.returns-then-eq-clause-text
returns-then-eq-clause-text c =
    let same : c.as_slice.result.now ≡ c.args.groups.now =
    (slice_eq-Decides Decides-eqb _ _ _ c.eq.ensures).0 c.if-eq.true in
    let shown : c.args.self.now.groups.items ≡ c.args.groups.now = sym c.as_slice.ensures.value ∙ same in
    let Shows : List ℕ → Type 0 = λ groups.
    0 < length groups → c.args.self.now.text.items ≡ codes " groups=" ++ groups_text groups in
    subst Shows shown c.requires.keeps.text c.requires.some
