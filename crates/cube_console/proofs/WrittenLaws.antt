-- What a writer of lines of JSON has written, behind more bytes and behind a send.
use Rattle.std.proofs.Common.{◌≡◌, ◌∙◌, ◌++◌, ◌∷◌, [], ℕ, List, append_assoc, ap, refl, sym, subst}
use Rattle.std.specs.Prelude.{Option, Some, Result, Ok, Err, OnOk}
use Rattle.std.specs.Io.KnownBytes.{Appends, Keeps}
use Rattle.std.proofs.lemmas.List.{append-nil}
use Rattle.csv.specs.Reading.{default_config, records}
use Rattle.cube_console.specs.Json.{json_text}
use Rattle.cube_console.specs.JsonLines.{EndsWithRecord, Making, begun, made_text, make_bytes}
use Rattle.cube_console.specs.JsonLinesMade.{Begins, Makes, making_of}
use Rattle.cube_console.specs.JsonWritten.{Wrote}
use Rattle.cube_console.specs.RecordsRead.{IsWhole}
use Rattle.cube_console.specs.declared.views.json_writer.JsonWriter.{JsonWriter}
use Rattle.cube_console.specs.declared.views.lines.JsonLines.{JsonLines}
use Rattle.cube_console.proofs.JsonTextLaws.{made_text-begun}
use Rattle.cube_console.proofs.MakesLaws.{made_text-append, make_bytes-append}

-- no byte has come
pub Wrote-none : {O : Type 0} (contents : O → Option (List ℕ)) (d : ℕ) (start : List ℕ) (w : JsonWriter O)
    → Begins d w.lines → contents w.outlet.inner ≡ Some start → Wrote contents d start [] w
Wrote-none contents d start w begins holds = record {
  dimensions = begins.dimensions;
  whole = begins.whole;
  making = begins.making;
  sent = start;
  holds = holds;
  written = ap (λ (ready : List ℕ). start ++ ready) begins.ready;
}

-- more bytes have come
pub Wrote-more : {O : Type 0} (contents : O → Option (List ℕ)) (d : ℕ) (start text part : List ℕ)
    (old new : JsonWriter O) → Wrote contents d start text old → Makes old.lines new.lines part
    → new.outlet.inner ≡ old.outlet.inner → Wrote contents d start (text ++ part) new
Wrote-more contents d start text part old new wrote makes same =
    let making : making_of old.lines ≡ make_bytes d begun text = wrote.making in
    record {
      dimensions = makes.dimensions ∙ wrote.dimensions;
      whole = makes.whole;
      making = makes.making ∙ ap (λ (e : ℕ). make_bytes e (making_of old.lines) part) wrote.dimensions
          ∙ ap (λ (m : Making). make_bytes d m part) making ∙ sym (make_bytes-append d begun text part);
      sent = wrote.sent;
      holds = ap contents same ∙ wrote.holds;
      written = ap (λ (ready : List ℕ). wrote.sent ++ ready) makes.ready
          ∙ sym (append_assoc wrote.sent old.lines.ready.items
          (made_text old.lines.dimensions (making_of old.lines) part))
          ∙ ap (λ t. t ++ made_text old.lines.dimensions (making_of old.lines) part) wrote.written
          ∙ append_assoc start (made_text d begun text) (made_text old.lines.dimensions (making_of old.lines) part)
          ∙ ap (λ (e : ℕ). start ++ (made_text d begun text ++ made_text e (making_of old.lines) part))
          wrote.dimensions
          ∙ ap (λ (m : Making). start ++ (made_text d begun text ++ made_text d m part)) making
          ∙ ap (λ t. start ++ t) (sym (made_text-append d begun text part));
    }

-- what a writer holds behind what was appended
held : (before after : Option (List ℕ)) (sent bytes : List ℕ) → before ≡ Some sent → Appends before after bytes
    → after ≡ Some (sent ++ bytes)
held before after sent bytes is appends = go after (subst (λ (o : Option (List ℕ)). Appends o after bytes) is appends)
  where
    go : (after : Option (List ℕ)) → Appends (Some sent) after bytes → after ≡ Some (sent ++ bytes)
    go Option.None bad = absurd bad
    go (Some all) same = ap Some same

kept : (before after : Option (List ℕ)) (sent : List ℕ) → before ≡ Some sent → Keeps before after → after ≡ Some sent
kept before after sent is keeps = go after (subst (λ (o : Option (List ℕ)). Keeps o after) is keeps)
  where
    go : (after : Option (List ℕ)) → Keeps (Some sent) after → after ≡ Some sent
    go Option.None bad = absurd bad
    go (Some all) same = ap Some same

-- the lines that were ready are written
pub Wrote-sent : {O : Type 0} (contents : O → Option (List ℕ)) (d : ℕ) (start text : List ℕ) (old new : JsonWriter O)
    → Wrote contents d start text old
    → Appends (contents old.outlet.inner) (contents new.outlet.inner) old.lines.ready.items
    → new.lines.dimensions ≡ old.lines.dimensions → IsWhole new.lines.records
    → making_of new.lines ≡ making_of old.lines → new.lines.ready.items ≡ []
    → Wrote contents d start text new
Wrote-sent contents d start text old new wrote appends dimensions whole making ready = record {
  dimensions = dimensions ∙ wrote.dimensions;
  whole = whole;
  making = making ∙ wrote.making;
  sent = wrote.sent ++ old.lines.ready.items;
  holds = held (contents old.outlet.inner) (contents new.outlet.inner) wrote.sent old.lines.ready.items wrote.holds
      appends;
  written = ap (λ (more : List ℕ). (wrote.sent ++ old.lines.ready.items) ++ more) ready
      ∙ append-nil (wrote.sent ++ old.lines.ready.items) ∙ wrote.written;
}

-- so the writer below holds the lines of the records of the text, once they are written
pub Wrote-all : {O : Type 0} (contents : O → Option (List ℕ)) (d : ℕ) (start text : List ℕ) (w : JsonWriter O) (inner : O)
    → Wrote contents d start text w → w.lines.ready.items ≡ [] → EndsWithRecord d text
    → Keeps (contents w.outlet.inner) (contents inner)
    → contents inner ≡ Some (start ++ json_text d (records default_config text))
Wrote-all contents d start text w inner wrote ready ends keeps =
    kept (contents w.outlet.inner) (contents inner) wrote.sent wrote.holds keeps
    ∙ ap Some (sym (append-nil wrote.sent) ∙ ap (λ (more : List ℕ). wrote.sent ++ more) (sym ready) ∙ wrote.written
    ∙ ap (λ t. start ++ t) (made_text-begun d text ends))

-- what holds whatever a result is
pub OnOk-from : {T E P : Type 0} (r : Result T E) → P → OnOk r P
OnOk-from (Ok x) p = p
OnOk-from (Err e) p = tt
