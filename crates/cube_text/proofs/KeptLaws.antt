-- Laws of a text of which some is made, and which goes out a few pieces at a time.
use Rattle.std.proofs.Common.{◌≡◌, ◌∙◌, ◌++◌, ℕ, List, length, sym, ap, subst}
use Rattle.std.proofs.Common.{append_assoc, arith, length-append}
use Rattle.std.specs.Prelude.{Ok, Option}
use Rattle.std.specs.Global.{Vec}
use Rattle.std.specs.Io.KnownBytes.{Appends}
use Rattle.std.proofs.KnownBytes.{Appends-trans}
use Rattle.cube_lines.specs.Pieces.{SendsPart, text_of_pieces}
use Rattle.cube_lines.proofs.PieceLaws.{SendsPart-behind, SendsPart-front}
use Rattle.cube_text.specs.Kept.{SendsTexts}

-- of a whole text the front went out, and these texts follow, and then the rest
pub record HasSent (whole rest : List ℕ) (texts : List (Vec ℕ)) (sent : ℕ) (old now : Option (List ℕ)) : Type 0 where
  pub front : List ℕ
  pub all : whole ≡ front ++ (text_of_pieces texts ++ rest)
  pub count : sent ≡ length front
  pub written : Appends old now front

module _ (whole rest : List ℕ) (texts : List (Vec ℕ)) (sent more : ℕ) (old mid new : Option (List ℕ))
    (has : HasSent whole rest texts sent old mid) where
  -- these texts went out too, and others follow
  pub HasSent-more : (after : List ℕ) (next : List (Vec ℕ)) → SendsTexts sent (text_of_pieces texts) (Ok more) mid new
      → rest ≡ text_of_pieces next ++ after → HasSent whole after next more old new
  HasSent-more after next sends follow = record {
    front = has.front ++ text_of_pieces texts;
    all = has.all ∙ ap (λ (t : List ℕ). has.front ++ (text_of_pieces texts ++ t)) follow
        ∙ sym (append_assoc has.front (text_of_pieces texts) (text_of_pieces next ++ after));
    count = omega (arith, has.count, sends.0, length-append has.front (text_of_pieces texts));
    written = Appends-trans old mid new _ _ has.written sends.1;
  }

  -- of these texts a part went out
  pub SendsPart-HasSent : SendsPart sent (text_of_pieces texts) more mid new → SendsPart 0 whole more old new
  SendsPart-HasSent part = subst (λ (t : List ℕ). SendsPart 0 t more old new) (sym has.all)
      (SendsPart-behind 0 sent more has.front (text_of_pieces texts ++ rest) old mid new
      (omega (arith, has.count)) has.written
      (SendsPart-front sent more (text_of_pieces texts) rest mid new part))
