-- From a string that was handed over to why there is no answer.
use Rattle.std.proofs.Common.{◌≡◌, ℕ, List, subst, sym}
use Rattle.std.proofs.lemmas.Str.{IsUtf8-string_bytes}
use Rattle.std.specs.Prelude.{IsUtf8}
use Rattle.std.specs.String.{string_bytes}
use Rattle.std.specs.declared.string.String.{String}
use Rattle.cube_page.specs.Page.{HandsReason, IsHanded}

-- the bytes of a string that were handed over are a reason
pub HandsReason-string : {Z : Type 0} (told : String Z) {text room : List ℕ} {size : ℕ}
    → text ≡ string_bytes told → IsHanded text room size → HandsReason room size
HandsReason-string told {text = text} is_told handed =
    record {
      reason = text;
      is_text = subst IsUtf8 (sym is_told) (IsUtf8-string_bytes told);
      handed = handed;
    }
