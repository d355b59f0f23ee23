-- The value of a text, by whether it is UTF-8.
use Rattle.std.proofs.Common.{◌≡◌, ℕ, List, Some, None, inl, inr, refl}
use Rattle.std.proofs.lemmas.Bool.{cases_Bool}
use Rattle.std.proofs.lemmas.Str.{is_utf8-from_IsUtf8, IsUtf8-from_is_utf8}
use Rattle.std.specs.Str.{IsUtf8, is_utf8}
use Rattle.serde_json.specs.Data.{Data}
use Rattle.serde_json.specs.Read.{read}
use Rattle.kn_config.specs.Json.{json_of}

pub json_found : (text : List ℕ) (d : Data) → IsUtf8 text → read text ≡ Some d → json_of text ≡ Some d
unfolding json_of
json_found text d utf8 is = rw (is_utf8-from_IsUtf8 text utf8) is

pub json_refused : (text : List ℕ) → (IsUtf8 text → read text ≡ None) → json_of text ≡ None
unfolding json_of
json_refused text refused = elim (cases_Bool (is_utf8 text)) [ inl utf8 ↦ rw utf8 (refused (IsUtf8-from_is_utf8 text utf8)) | inr other ↦ rw other refl ]
