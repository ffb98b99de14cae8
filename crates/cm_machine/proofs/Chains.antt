-- The chains of forebears in a world that a text declares: where that of its forebear ends, so does that of a process.
use Rattle.std.proofs.Common.{◌≡◌, ℕ, Option, None, Some, IfSome, refl}
use Rattle.cm_machine.specs.Laws.{ReadChainsEnd}
use Rattle.model_cred.specs.Process.{Process, State, process_at}
use Rattle.model_laws.specs.Families.{ChainEnds, first, next}
use Rattle.model_text.proofs.Parents.{start_from_forebears}

chain_follows : (s : State) (p : Process) (forebear : Option ℕ) → process_at s.processes p.pid ≡ Some p → p.forebear ≡ forebear
    → IfSome forebear (ChainEnds s) → ChainEnds s p.pid
chain_follows s p None found is ends = first p.pid p found is
chain_follows s p (Some forebear) found is ends = next p.pid forebear p found is ends

pub read_chains_end : ReadChainsEnd
unfolding ReadChainsEnd
read_chains_end bytes w reads = start_from_forebears (ChainEnds w.start) bytes w reads (λ p found ends. chain_follows w.start p p.forebear found refl ends)
