use Rattle.std.proofs.Common.{◌≡◌, ◌<◌, ◌^◌, drop}
use Rattle.model_text.specs.CapText.{hex_after}
use Rattle.cm_tokens.proofs.cap_text.hex_number.Given as goal

abbrev pub invariant-loop-byte : goal.invariant-loop-byte
invariant-loop-byte l = (l.number < 16 ^ l.byte-index) × (hex_after l.number (drop l.byte-index l.text) ≡ hex_after 0 l.text)
