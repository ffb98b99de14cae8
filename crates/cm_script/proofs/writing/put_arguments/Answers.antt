use Rattle.std.proofs.Common.{[], ◌∷◌, map, refl, ap}
use Rattle.std.specs.Prelude.{flat_map}
use Rattle.cm_declared.specs.World.{world_of}
use Rattle.cm_filter.specs.Filters.{excluded_kinds}
use Rattle.cm_script.proofs.Putting.{last_put, more_put, call_put, of_two, of_three, of_four}
use Rattle.cm_state.specs.Call.{call_of}
use Rattle.cm_state.specs.declared.call.Call.{Call}
use Rattle.model_text.specs.Arguments.{Id, Number, Cap, Set, Space, Word, File, Kind, arguments_of, triple_of}
use Rattle.cm_script.proofs.writing.put_arguments.Goals as goal

pub returns-in-SetUid : goal.returns-in-SetUid
returns-in-SetUid c =
    let w = world_of c.args.w.now in
    call_put w (call_of c.args.call.now) (Id c.in-SetUid.id ∷ []) _ _ _ (of_four _ _ _ _ _ (Id c.in-SetUid.id ∷ []) c.in-SetUid.is refl refl refl refl)
    (last_put w (Id c.in-SetUid.id) _ _ _ c.put_argument-in-SetUid.ensures)

pub returns-in-BsetDrop : goal.returns-in-BsetDrop
returns-in-BsetDrop c =
    let w = world_of c.args.w.now in
    call_put w (call_of c.args.call.now) (Cap c.in-BsetDrop.cap ∷ []) _ _ _ (of_three _ _ _ _ (Cap c.in-BsetDrop.cap ∷ []) c.in-BsetDrop.is refl refl refl)
    (last_put w (Cap c.in-BsetDrop.cap) _ _ _ c.put_cap.ensures)

pub returns-in-SecureBits : goal.returns-in-SecureBits
returns-in-SecureBits c =
    let w = world_of c.args.w.now in
    call_put w (call_of c.args.call.now) (Number c.in-SecureBits.n ∷ []) _ _ _ (of_three _ _ _ _ (Number c.in-SecureBits.n ∷ []) c.in-SecureBits.is refl refl refl)
    (last_put w (Number c.in-SecureBits.n) _ _ _ c.put_number.ensures)

pub returns-in-SetNs : goal.returns-in-SetNs
returns-in-SetNs c =
    let w = world_of c.args.w.now in
    call_put w (call_of c.args.call.now) (Space c.in-SetNs.space.0 ∷ []) _ _ _ (ap (λ (call : Call). arguments_of (call_of call)) c.in-SetNs.is)
    (last_put w (Space c.in-SetNs.space.0) _ _ _ c.put_spaced.ensures)

pub returns-in-Exec : goal.returns-in-Exec
returns-in-Exec c =
    let w = world_of c.args.w.now in
    call_put w (call_of c.args.call.now) (File c.in-Exec.file ∷ []) _ _ _ (ap (λ (call : Call). arguments_of (call_of call)) c.in-Exec.is)
    (last_put w (File c.in-Exec.file) _ _ _ c.put_path.ensures)

pub returns-in-Install : goal.returns-in-Install
returns-in-Install c =
    let w = world_of c.args.w.now in
    call_put w (call_of c.args.call.now) (map Kind (excluded_kinds c.in-Install.filter)) _ _ _
    (ap (λ (call : Call). arguments_of (call_of call)) c.in-Install.is) c.put_kinds.ensures

pub returns-in_ok-put_argument-in-SetReUid : goal.returns-in_ok-put_argument-in-SetReUid
returns-in_ok-put_argument-in-SetReUid c =
    let w = world_of c.args.w.now in
    call_put w (call_of c.args.call.now) (Id c.in-SetReUid.real ∷ Id c.in-SetReUid.effective ∷ []) _ _ _ (of_two _ _ _ (Id c.in-SetReUid.real ∷ Id c.in-SetReUid.effective ∷ []) c.in-SetReUid.is refl refl)
    (more_put w (Id c.in-SetReUid.real) (Id c.in-SetReUid.effective ∷ []) _ _ _ _ c.in_ok-put_argument-in-SetReUid.ensures (last_put w (Id c.in-SetReUid.effective) _ _ _ c.put_argument-in-SetReUid-2.ensures))

pub returns-in_ok-put_argument-in-SetResUid-2 : goal.returns-in_ok-put_argument-in-SetResUid-2
returns-in_ok-put_argument-in-SetResUid-2 c =
    let w = world_of c.args.w.now in
    call_put w (call_of c.args.call.now) (Id c.in-SetResUid.real ∷ Id c.in-SetResUid.effective ∷ Id c.in-SetResUid.saved ∷ []) _ _ _ (of_two _ _ _ (Id c.in-SetResUid.real ∷ Id c.in-SetResUid.effective ∷ Id c.in-SetResUid.saved ∷ []) c.in-SetResUid.is refl refl)
    (more_put w (Id c.in-SetResUid.real) (Id c.in-SetResUid.effective ∷ Id c.in-SetResUid.saved ∷ []) _ _ _ _ c.in_ok-put_argument-in-SetResUid.ensures (more_put w (Id c.in-SetResUid.effective) (Id c.in-SetResUid.saved ∷ []) _ _ _ _ c.in_ok-put_argument-in-SetResUid-2.ensures (last_put w (Id c.in-SetResUid.saved) _ _ _ c.put_argument-in-SetResUid-2.ensures)))

pub returns-in_ok-put_set-in-CapSet-2 : goal.returns-in_ok-put_set-in-CapSet-2
returns-in_ok-put_set-in-CapSet-2 c =
    let w = world_of c.args.w.now in
    call_put w (call_of c.args.call.now) (Set c.in-CapSet.eff ∷ Set c.in-CapSet.prm ∷ Set c.in-CapSet.inh ∷ []) _ _ _ (ap (λ (call : Call). arguments_of (call_of call)) c.in-CapSet.is)
    (more_put w (Set c.in-CapSet.eff) (Set c.in-CapSet.prm ∷ Set c.in-CapSet.inh ∷ []) _ _ _ _ c.in_ok-put_set-in-CapSet.ensures (more_put w (Set c.in-CapSet.prm) (Set c.in-CapSet.inh ∷ []) _ _ _ _ c.in_ok-put_set-in-CapSet-2.ensures (last_put w (Set c.in-CapSet.inh) _ _ _ c.put_set-in-CapSet-2.ensures)))

pub returns-in_ok-put_spaced-in-WriteSetgroups : goal.returns-in_ok-put_spaced-in-WriteSetgroups
returns-in_ok-put_spaced-in-WriteSetgroups c =
    let w = world_of c.args.w.now in
    call_put w (call_of c.args.call.now) (Space c.in-WriteSetgroups.space.0 ∷ Word c.in-WriteSetgroups.deny ∷ []) _ _ _ (ap (λ (call : Call). arguments_of (call_of call)) c.in-WriteSetgroups.is)
    (more_put w (Space c.in-WriteSetgroups.space.0) (Word c.in-WriteSetgroups.deny ∷ []) _ _ _ _ c.in_ok-put_spaced-in-WriteSetgroups.ensures (last_put w (Word c.in-WriteSetgroups.deny) _ _ _ c.put_word.ensures))

pub returns-in_ok-put_spaced-in-WriteUidMap : goal.returns-in_ok-put_spaced-in-WriteUidMap
returns-in_ok-put_spaced-in-WriteUidMap c =
    let w = world_of c.args.w.now in
    call_put w (call_of c.args.call.now) (Space c.in-WriteUidMap.space.0 ∷ flat_map triple_of c.in-WriteUidMap.list) _ _ _ (of_two _ _ _ (Space c.in-WriteUidMap.space.0 ∷ flat_map triple_of c.in-WriteUidMap.list) c.in-WriteUidMap.is refl refl)
    (more_put w (Space c.in-WriteUidMap.space.0) (flat_map triple_of c.in-WriteUidMap.list) _ _ _ _ c.in_ok-put_spaced-in-WriteUidMap.ensures (rw c.items-in-WriteUidMap.ensures at c.put_extents.ensures))

pub returns-in-SetGroups : goal.returns-in-SetGroups
returns-in-SetGroups c =
    let w = world_of c.args.w.now in
    call_put w (call_of c.args.call.now) (map Id c.in-SetGroups.ids) _ _ _ (ap (λ (call : Call). arguments_of (call_of call)) c.in-SetGroups.is)
    (rw c.items.ensures at c.put_all.ensures)
