-- Worked cases of printed lines, by computation: single texts, credential lines and events.
use Rattle.std.proofs.Common.{◌≡◌, ℕ, [], ◌∷◌, ◌++◌, map, None, refl}
use Rattle.std.specs.Prelude.{⊤, codes}
use Rattle.std.specs.Fmt.{digits}
use Rattle.cm_base.specs.declared.res.Res.TheVariants.{Done, Err}
use Rattle.cm_base.specs.declared.errno.Errno.TheVariants.{EPERM}
use Rattle.cm_filter.specs.Filters.{no_filter}
use Rattle.model_cred.specs.Call.{SetResUid}
use Rattle.model_cred.specs.Credential.{all_four}
use Rattle.model_cred.specs.Process.{Process}
use Rattle.model_text.proofs.CaseWorld.{the_world}
use Rattle.model_text.proofs.Defaults.{default_cred}
use Rattle.model_text.specs.Hex.{hex_set, hex_bits}
use Rattle.model_text.specs.Print.{ids_text, groups_text, place_text, all_ids_text, sets_text, bounds_text}
use Rattle.model_text.specs.Print.{flags_text, credential_line, event_text, event_line}
use Rattle.model_text.specs.SpaceToken.{space_token}
use Rattle.model_text.specs.Token.{id_text}

-- what a proof unfolds to compute printed lines at literals
unfoldable pub print_on_literals : ⊤
unfolding credential_line place_text all_ids_text ids_text sets_text bounds_text flags_text hex_set hex_bits event_line event_text digits
print_on_literals = tt

pub minus_one_is_printed : id_text 4294967295 ≡ codes "-1"
minus_one_is_printed = refl

pub single_texts : record {
  largest_id_is_printed : id_text 4294967294 ≡ codes "4294967294";
  groups_are_joined : groups_text (4 ∷ 20 ∷ 1000 ∷ []) ≡ codes "4,20,1000";
  spaces_by_name_or_number : map (space_token the_world.names) (0 ∷ 1 ∷ 2 ∷ 3 ∷ 12 ∷ [])
      ≡ codes "init" ∷ codes "pod" ∷ codes "box-1.a" ∷ codes "#3" ∷ codes "#12" ∷ [];
}
unfolding print_on_literals
single_texts = search

-- process 100 in the initial space, with these user ids and all else by default
abbrev pub process_100 : ℕ → Process
process_100 uid = record { pid = 100; forebear = None; space = 0; cred = default_cred (all_four uid); filter = no_filter }

pub printed_lines : record {
  credentials_of_root : credential_line [] (process_100 0)
      ≡ (codes "> 100 init uid=0,0,0,0 gid=0,0,0,0 groups=-"
      ++ codes " inh=0000000000000000 prm=000001ffffffffff eff=000001ffffffffff bnd=000001ffffffffff amb=0000000000000000 sec=00 nnp=0");
  credentials_of_a_user : credential_line [] (process_100 1000)
      ≡ (codes "> 100 init uid=1000,1000,1000,1000 gid=0,0,0,0 groups=-"
      ++ codes " inh=0000000000000000 prm=0000000000000000 eff=0000000000000000 bnd=000001ffffffffff amb=0000000000000000 sec=00 nnp=0");
  the_name_of_its_space : credential_line the_world.names (record (process_100 1000) { space = 1 })
      ≡ (codes "> 100 pod uid=1000,1000,1000,1000 gid=0,0,0,0 groups=-"
      ++ codes " inh=0000000000000000 prm=0000000000000000 eff=0000000000000000 bnd=000001ffffffffff amb=0000000000000000 sec=00 nnp=0");
  event_of_a_line : event_line the_world 1 (record { pid = 100; call = SetResUid 1000 1000 1000; res = Done })
      ≡ codes "1: 100 setresuid 1000 1000 1000 = 0";
  event_with_an_error : event_line the_world 12
      (record { pid = 4194304; call = SetResUid 4294967295 0 4294967294; res = Err EPERM })
      ≡ codes "12: 4194304 setresuid -1 0 4294967294 = EPERM";
}
unfolding print_on_literals
printed_lines = search
