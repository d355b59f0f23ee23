-- The bytes are at no place so far.
use Rattle.std.proofs.Common.{◌≡◌, ◌+◌, drop}
use Rattle.kn_show_settings.specs.Blocks.{place_of}
use Rattle.kn_show_settings.proofs.blocks.place_of.Given as goal

abbrev pub invariant-loop-i : goal.invariant-loop-i
invariant-loop-i l = place_of l.word l.text ≡ l.i + place_of l.word (drop l.i l.text)
