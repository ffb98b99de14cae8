-- Declared files: one more without a fault, and the table of all.
use Rattle.std.proofs.Common.{◌≡◌, ℕ, List, [], ◌∷◌, ◌++◌, append_assoc}
use Rattle.std.proofs.Common.{Option, None, Some, Result, Ok, Err, refl, sym, ap, ◌∙◌}
use Rattle.std.specs.Prelude.{IfSome}
use Rattle.std.specs.Option.{option_or}
use Rattle.std.proofs.lemmas.List.{append-nil}
use Rattle.cm_files.specs.Fault.{Diagnoses, first_fault, row_fault}
use Rattle.cm_files.specs.declared.fault.BadFiles.{BadFiles}
use Rattle.cm_files.specs.declared.fault.BadFiles.TheVariants.{NoMemory}
use Rattle.model_rules.proofs.Options.{both_none}
use Rattle.model_cred.specs.Files.{FileRow, FileTable, Mount}
use Rattle.model_text.specs.Refusal.{Refusal, then_read}
use Rattle.cm_world.specs.Tables.{table_with}

-- ---- one file more
-- files without a fault, with one more that has none after them
pub none_more : (mounts : ℕ) (before rows : List FileRow) (row : FileRow) → first_fault mounts before rows ≡ None
    → row_fault mounts (before ++ rows) row ≡ None → first_fault mounts before (rows ++ row ∷ []) ≡ None
none_more mounts before [] row is none =
    let here : row_fault mounts before row ≡ None = ap (λ l. row_fault mounts l row) (sym (append-nil before)) ∙ none in
    ap (λ o. option_or o None) here
none_more mounts before (first ∷ rows) row is none =
    let parts = both_none (row_fault mounts before first) (first_fault mounts (before ++ first ∷ []) rows) is in
    let rest : row_fault mounts ((before ++ first ∷ []) ++ rows) row ≡ None
    = ap (λ l. row_fault mounts l row) (append_assoc before (first ∷ []) rows) ∙ none in
    ap (λ o. option_or o (first_fault mounts (before ++ first ∷ []) (rows ++ row ∷ []))) parts.0
    ∙ none_more mounts (before ++ first ∷ []) rows row parts.1 rest

-- ---- the table
-- an answer that tells of no fault is NoMemory
pub tells_memory : (e : BadFiles) → Diagnoses e None → e ≡ NoMemory
tells_memory NoMemory tells = refl
tells_memory _ tells = absurd (cc)

-- the table of the mounts and of the files that are read
pub table_read : (mounts : List Mount) (files : List FileRow) (r : Result (List FileRow) Refusal) (v : List Mount)
    (w : List FileRow) (made : FileTable)
    → r ≡ Ok files → v ≡ mounts → w ≡ files → made ≡ record { mounts = v; rows = w }
    → then_read r (table_with mounts) ≡ Ok made
table_read mounts files r v w made is same alike all =
    let table : record { mounts = mounts; rows = files } ≡ made = cc in
    ap (λ x. then_read x (table_with mounts)) is ∙ ap (λ (t : FileTable). Ok t) table

-- a refusal stays one, whatever comes next
pub refused_on : {A B : Type 0} (r : Result A Refusal) (next : A → Result B Refusal) (o : Option Refusal)
    → IfSome o (λ refusal. r ≡ Err refusal) → IfSome o (λ refusal. then_read r next ≡ Err refusal)
refused_on r next None is = tt
refused_on r next (Some refusal) is = ap (λ x. then_read x next) is
