-- The spaces after a write of a map, told by its result alone.
use Rattle.std.proofs.Common.{◌≡◌, ℕ, ◌&&◌, not, List, [], Option, None, Some, if◌then◌else◌, refl, ap}
use Rattle.std.specs.Prelude.{unwrap_or}
use Rattle.std.proofs.lemmas.Bool.{cond_both}
use Rattle.cm_base.specs.declared.errno.Errno.TheVariants.{EPERM, EINVAL}
use Rattle.cm_nscalls.specs.Answers.{spaces_told}
use Rattle.model_cred.specs.Credential.{Credential}
use Rattle.model_cred.specs.IdMap.{Extent}
use Rattle.model_cred.specs.MapFault.{is_map}
use Rattle.model_cred.specs.Space.{Spaces, put_space, space_of}
use Rattle.model_rules.specs.Maps.{MapFile, Written, list_down, may_map, may_write, parent_map, setfcap_allows}
use Rattle.model_rules.specs.Maps.{with_map, write_done, write_map, write_refused, write_stored}

module _ (file : MapFile) (spaces : Spaces) (at : ℕ) (c : Credential) (target : ℕ) (given : List Extent) where
  -- the write leaves what its result tells
  abbrev Told : Written → Type 0
  Told w = w.spaces ≡ spaces_told file spaces target given w.res

  stored : (o : Option (List Extent)) → o ≡ list_down (parent_map file spaces (space_of spaces target)) given
      → Told (write_stored file spaces at c target given o)
  stored None is = refl
  stored (Some map) is =
      cond_both (setfcap_allows file spaces at c (space_of spaces target) given && may_map file spaces at c (space_of spaces target) map)
      (write_done spaces target (with_map file (space_of spaces target) map)) (write_refused EPERM spaces) Told
      (λ _. ap (λ (o : Option (List Extent)). put_space target (with_map file (space_of spaces target) (unwrap_or o [])) spaces) is) (λ _. refl)

  pub written : Told (write_map file spaces at c target given)
  written =
      cond_both (not (may_write file spaces at c target)) (write_refused EPERM spaces)
      (if not (is_map given) then write_refused EINVAL spaces
      else write_stored file spaces at c target given (list_down (parent_map file spaces (space_of spaces target)) given)) Told (λ _. refl)
      (λ _. cond_both (not (is_map given)) (write_refused EINVAL spaces)
      (write_stored file spaces at c target given (list_down (parent_map file spaces (space_of spaces target)) given)) Told (λ _. refl)
      (λ _. stored (list_down (parent_map file spaces (space_of spaces target)) given) refl))
