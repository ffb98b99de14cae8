use Rattle.std.proofs.Common.{◌≡◌, Some, drop, map}
use Rattle.std.specs.List.{list_any}
use Rattle.model_text.specs.Toml.{is_text}
use Rattle.toml.specs.View.{view}
use Rattle.cm_values.proofs.kinds.is_word.Given as goal

abbrev pub invariant-loop-word : goal.invariant-loop-word
invariant-loop-word l =
    list_any (λ word. is_text word (Some (view l.value))) (map (λ word. word.now) (drop l.word-index l.words))
    ≡ list_any (λ word. is_text word (Some (view l.value))) (map (λ word. word.now) l.words)
